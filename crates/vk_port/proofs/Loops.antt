-- One more element of a list, in loops; and the number of a station.
use Rattle.std.proofs.Common.{◌≡◌, ℕ, zero, suc, ◌+◌, ◌<◌, ◌≤◌, true, List, [], ◌∷◌, ◌++◌, length, take, drop, get_or, Some, sym, ap, subst, ◌∙◌, inl, inr, arith}
use Rattle.std.specs.Prelude.{slice_get, sum_by}
use Rattle.std.specs.List.{list_any}
use Rattle.std.proofs.lemmas.Bool.{cases_Bool, eqb-true}
use Rattle.std.proofs.lemmas.List.{take-append-drop, take_more}
use Rattle.std.proofs.lemmas.List.Sums.{sum_by-append, sum_by_push}
use Rattle.std.proofs.lemmas.Option.{get_or_from_slice_get, none-some, same_Some, slice_get_within}
use Rattle.vk_types.specs.Types.{ProcessSpec}
use Rattle.vk_base.specs.Pids.{IsPid}
use Rattle.vk_base.specs.Settings.{has_station, is_on}
use Rattle.vk_base.proofs.BoolLemmas.{or_rest}
use Rattle.vk_rules.specs.Each.{Each}
use Rattle.vk_rules.proofs.Lists.{each_append}
use Rattle.vk_port.specs.Kept.{IsFrameShort}

pub pid_more : (specs : List ProcessSpec) (n : ℕ) (s : ProcessSpec) → n < length specs → s ≡ get_or specs n s → IsPid s.pid →
    Each (λ (t : ProcessSpec). IsPid t.pid) (take n specs) → Each (λ (t : ProcessSpec). IsPid t.pid) (take (n + 1) specs)
pid_more specs n s low is pid before =
    let P : ProcessSpec → Type 0 = λ t. IsPid t.pid in
    subst (Each P) (sym (take_more specs n s low ∙ ap (λ t. take n specs ++ t ∷ []) (sym is)))
    (each_append P (take n specs) (s ∷ []) before (pid, tt))

pub frame_more : (frames : List (List ℕ)) (n : ℕ) (f : List ℕ) → slice_get frames n ≡ Some f → take (n + 1) frames ≡ take n frames ++ f ∷ []
frame_more frames n f there =
    take_more frames n [] (slice_get_within frames n f there)
    ∙ ap (λ x. take n frames ++ x ∷ []) (get_or_from_slice_get frames n f [] there)

pub bytes_more : (frames : List (List ℕ)) (n : ℕ) (f : List ℕ) → slice_get frames n ≡ Some f →
    sum_by length (take (n + 1) frames) ≡ sum_by length (take n frames) + length f
bytes_more frames n f there = ap (sum_by length) (frame_more frames n f there) ∙ sum_by_push length (take n frames) f

pub short_at : (frames : List (List ℕ)) (n : ℕ) (f : List ℕ) → Each IsFrameShort frames → slice_get frames n ≡ Some f → length f ≤ 1152
short_at [] n f all there = absurd (none-some f there)
short_at (g ∷ frames) zero f all there = subst IsFrameShort (same_Some g f there) all.0
short_at (g ∷ frames) (suc n) f all there = short_at frames n f all.1 there

sum_low : (frames rest : List (List ℕ)) → sum_by length frames ≤ sum_by length (frames ++ rest)
sum_low frames rest = omega (arith, sum_by-append length frames rest)

pub bytes_low : (frames : List (List ℕ)) (n : ℕ) → sum_by length (take n frames) ≤ sum_by length frames
bytes_low frames n =
    subst (λ l. sum_by length (take n frames) ≤ sum_by length l) (take-append-drop n frames) (sum_low (take n frames) (drop n frames))

pub ruleset copied = (frame_more, bytes_more, bytes_low, short_at)

pub number_bounds : (specs : List ProcessSpec) (h : ℕ) → has_station specs h ≡ true → (0 < h) × (h < 65535)
number_bounds [] h e = absurd (cc e)
number_bounds (s ∷ ss) h e = elim (cases_Bool (is_on h s)) [
  | inl t ↦
      let same : s.pid.host ≡ h = eqb-true s.pid.host h t in
      (subst (λ n. 0 < n) same s.pid.some_host, subst (λ n. n < 65535) same s.pid.one_host)
  | inr f ↦ number_bounds ss h (or_rest (is_on h s) (list_any (is_on h) ss) e f)
]
