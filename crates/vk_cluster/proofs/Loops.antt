-- What loops of the code keep.
use Rattle.std.proofs.Common.{◌≡◌, ℕ, zero, suc, ◌+◌, ◌<◌, ◌≤◌, true, false, ◌==◌, List, [], ◌∷◌, ◌++◌, length, take, get_or, Some, refl, sym, ap, subst, ◌∙◌, inl, inr, arith}
use Rattle.std.specs.Prelude.{slice_get, slice_index, sum_by}
use Rattle.std.specs.List.{list_any}
use Rattle.std.proofs.lemmas.Bool.{cases_Bool, cases_eq, eqb-true, or_from}
use Rattle.std.proofs.lemmas.List.{length-append, map_push, take_more}
use Rattle.std.proofs.lemmas.List.Sums.{sum_by-cons}
use Rattle.std.proofs.lemmas.Option.{get_or_from_slice_get, none-some, same_Some, slice_get-get_or, slice_get_within}
use Rattle.vk_types.specs.Types.{ProcessSpec}
use Rattle.vk_base.specs.Pids.{IsPid}
use Rattle.vk_base.specs.Settings.{Settings, has_station, stations_of}
use Rattle.vk_base.proofs.SettingsLemmas.{among_stations}
use Rattle.vk_rules.specs.Each.{Each}
use Rattle.vk_rules.proofs.Lists.{each_append}
use Rattle.vk_host.specs.Standing.{StandsAt}
use Rattle.vk_host.specs.Values.{StationValue}
use Rattle.vk_cluster.specs.Piles.{IsAdding, Pile}
use Rattle.vk_cluster.specs.Standing.{AreHosts}
use Rattle.vk_cluster.proofs.Found.{pushed_last, pushed_other}
use Rattle.vk_cluster.proofs.Stations.{station_bounds}

-- one element more of those that were gone over
pub take_get : {A : Type 0} (xs : List A) (at : ℕ) (x : A) → slice_get xs at ≡ Some x → take (at + 1) xs ≡ take at xs ++ x ∷ []
take_get xs at x found =
    take_more xs at x (slice_get_within xs at x found)
    ∙ ap (λ y. take at xs ++ y ∷ []) (get_or_from_slice_get xs at x x found)

-- so far the frames have no more bytes than all
pub sum_next : (fs : List (List ℕ)) (at : ℕ) (f : List ℕ) → slice_get fs at ≡ Some f →
    sum_by length (take at fs) + length f ≤ sum_by length fs
sum_next [] at f found = absurd (none-some f found)
sum_next (x ∷ xs) zero f found =
    let same : length x ≡ length f = ap length (same_Some x f found) in omega (arith, sum_by-cons length x xs)
sum_next (x ∷ xs) (suc i) f found =
    let rest = sum_next xs i f found in omega (arith, sum_by-cons length x xs, sum_by-cons length x (take i xs))

pub adding_count : (before now : Pile) (fs : List (List ℕ)) → IsAdding before now fs →
    length now.frames ≡ length before.frames + length fs
adding_count before now fs is =
    ap length is.frames ∙ length-append before.frames fs

-- a station that is none of these
none_among : (hs : List ℕ) (h : ℕ) → ((k : ℕ) → k < length hs → slice_index hs k ≡ h → ⊥) → list_any (λ x. x == h) hs ≡ false
none_among [] h none = refl
none_among (x ∷ xs) h none =
    or_from (x == h) (list_any (λ y. y == h) xs)
    (elim (cases_Bool (x == h)) [ inl t ↦ absurd (none 0 (omega arith) (eqb-true x h t)) | inr f ↦ f ])
    (none_among xs h (λ k low. none (suc k) (omega arith)))

pub is_among : (specs : List ProcessSpec) (h n : ℕ) → has_station specs h ≡ true → n ≡ length (stations_of specs) →
    ((k : ℕ) → k < n → slice_index (stations_of specs) k ≡ h → ⊥) → ⊥
is_among specs h n has all none =
    let absent : list_any (λ x. x == h) (stations_of specs) ≡ false = none_among (stations_of specs) h (λ k low. none k (omega arith)) in
    let present : list_any (λ x. x == h) (stations_of specs) ≡ true = among_stations specs h ∙ has in
    cc

-- one station more
pub host_more : (c : Settings) (hosts : List StationValue) (numbers : List ℕ) (n : ℕ) (s : StationValue) → n < length numbers →
    AreHosts c hosts (take n numbers) → s.host ≡ slice_index numbers n → StandsAt c [] s → AreHosts c (hosts ++ s ∷ []) (take (n + 1) numbers)
host_more c hosts numbers n s low before number at = record {
  order =
      map_push (λ (v : StationValue). v.host) hosts s ∙ ap (λ l. l ++ s.host ∷ []) before.order
      ∙ ap (λ h. take n numbers ++ h ∷ []) number ∙ sym (take_more numbers n 0 low);
  at = λ place u there. elim (cases_eq place (length hosts)) [
    | inl same ↦
        let is : s ≡ u = same_Some s u (sym (pushed_last hosts s) ∙ ap (slice_get (hosts ++ s ∷ [])) (sym same) ∙ there) in
        subst (StandsAt c []) is at
    | inr other ↦ before.at place u (sym (pushed_other hosts s place other) ∙ there)
  ];
}

pub no_hosts : (c : Settings) (numbers : List ℕ) → AreHosts c [] (take 0 numbers)
no_hosts c numbers = record { order = refl; at = λ place s there. absurd (none-some s there) }

-- one pid more
pub pid_more : (specs : List ProcessSpec) (n : ℕ) (s : ProcessSpec) → n < length specs → s ≡ get_or specs n s → IsPid s.pid →
    Each (λ (t : ProcessSpec). IsPid t.pid) (take n specs) → Each (λ (t : ProcessSpec). IsPid t.pid) (take (n + 1) specs)
pid_more specs n s low is pid before =
    let P : ProcessSpec → Type 0 = λ t. IsPid t.pid in
    subst (Each P) (sym (take_more specs n s low ∙ ap (λ t. take n specs ++ t ∷ []) (sym is)))
    (each_append P (take n specs) (s ∷ []) before (pid, tt))

-- the number of a station
pub number_bounds : (specs : List ProcessSpec) (n h : ℕ) → n < length (stations_of specs) → h ≡ slice_index (stations_of specs) n →
    (0 < h) × (h < 65535)
number_bounds specs n h low is =
    station_bounds specs n h (slice_get-get_or (stations_of specs) n 0 low ∙ ap Some (sym is))
