-- The lines of an opening, one after another.
use Rattle.std.proofs.Common.{◌≡◌, ℕ, zero, suc, ◌+◌, ◌<◌, ◌≤◌, ◌==◌, ◌⊎◌, inl, inr, bytes_eq, Result, Ok, Err, IfOk, IfErr, OnOk, true, false, cond, List, [], ◌∷◌, ◌++◌, length, map, drop, take, set, get_or, replicate, Option, Some, None, refl, ap, sym, subst, ◌∙◌, arith, append_assoc}
use Rattle.std.specs.List.{AllByRecursion, flat_map}
use Rattle.std.specs.Option.{option_map_or}
use Rattle.std.proofs.lemmas.Bool.{eq-eqb}
use Rattle.std.proofs.lemmas.List.Concat.{flat_map-append}
use Rattle.std.proofs.lemmas.List.Folds.{flat_map-map, list_any_at}
use Rattle.std.proofs.lemmas.List.{append-nil, drop_all, drop_more, drop-set-lt, length-set, take_all, take_more, take_more_set}
use Rattle.vk_types.specs.Types.{ProcessSpec, Times}
use Rattle.vk_base.specs.Settings.{Settings, has_station, pool_refusal, put_beside, stations_of, times_are_lawful, uniform, with_pool}
use Rattle.vk_base.proofs.SettingsLemmas.{among_stations}
use Rattle.vk_text.specs.Heads.{head_text, line_text, process_text, usual_pool}
use Rattle.vk_text.specs.Lines.{lines_of, words_from}
use Rattle.vk_text.specs.Openings.{HasProcesses, behind_pool, first_pool, is_usual, opening_of, opening_text, plain_opening, pools_from, timed_lines, timed_opening, times_of, times_text}
use Rattle.vk_text.specs.declared.heads.Head.{Head}
use Rattle.vk_text.specs.declared.opening.OpeningRefusal.{OpeningRefusal}
use Rattle.vk_text.specs.declared.opening.OpeningRefusal.TheVariants as refusals
use Rattle.vk_text.proofs.OpeningPools.{AreOtherHosts, IsOtherHost, stations_apart}
use Rattle.vk_text.proofs.OpeningWords.{first_is, pool_lawful, times_line}

abbrev Pools : Type 0
Pools = List ℕ × List (List ℕ)

-- So many stations have their pools; the lines left tell those of the rest, which are the usual ones as yet.
pub record SoFar (hosts : List ℕ) (all : Pools) (pools : List ℕ) (done : ℕ) (left : List (List ℕ)) : Type 0 where
  pub whole : all ≡ (take done pools ++ (pools_from (drop done hosts) left).0, (pools_from (drop done hosts) left).1)
  pub rest : drop done pools ≡ map (λ h. usual_pool) (drop done hosts)
  pub long : length pools ≡ length hosts

all_usual : (hosts : List ℕ) → replicate (length hosts) usual_pool ≡ map (λ h. usual_pool) hosts
all_usual [] = refl
all_usual (h ∷ hs) = ap (λ l. usual_pool ∷ l) (all_usual hs)

as_many : (hosts : List ℕ) → length (replicate (length hosts) usual_pool) ≡ length hosts
as_many [] = refl
as_many (h ∷ hs) = ap suc (as_many hs)

pub none_yet : (hosts pools : List ℕ) (left : List (List ℕ)) → pools ≡ replicate (length hosts) usual_pool →
    SoFar hosts (pools_from hosts left) pools 0 left
none_yet hosts pools left is =
    record { whole = refl; rest = is ∙ all_usual hosts; long = ap length is ∙ as_many hosts }

-- the pool of the next station
module _ (hosts : List ℕ) (all : Pools) (pools : List ℕ) (done : ℕ) (left : List (List ℕ)) (so_far : SoFar hosts all pools done left)
    (host : ℕ) (there : done < length hosts) (is : get_or hosts done 0 ≡ host) where
  next : drop done hosts ≡ host ∷ drop (done + 1) hosts
  next = drop_more hosts done 0 there ∙ ap (λ h. h ∷ drop (done + 1) hosts) is

  pools_next : drop done pools ≡ get_or pools done 0 ∷ drop (done + 1) pools
  pools_next = drop_more pools done 0 (omega (arith, so_far.long))

  rest_next : get_or pools done 0 ∷ drop (done + 1) pools ≡ usual_pool ∷ map (λ h. usual_pool) (drop (done + 1) hosts)
  rest_next = sym pools_next ∙ so_far.rest ∙ ap (map (λ h. usual_pool)) next

  taken : (o : Option (ℕ × List (List ℕ))) → first_pool host left ≡ o → pools_from (drop done hosts) left
      ≡ option_map_or (λ t. behind_pool t.0 (pools_from (drop (done + 1) hosts) t.1)) o
      (behind_pool usual_pool (pools_from (drop (done + 1) hosts) left))
  unfolding pools_from
  taken o first =
      ap (λ hs. pools_from hs left) next
      ∙ ap (λ o. option_map_or (λ t. behind_pool t.0 (pools_from (drop (done + 1) hosts) t.1)) o
      (behind_pool usual_pool (pools_from (drop (done + 1) hosts) left))) first

  pub none_told : first_pool host left ≡ None → SoFar hosts all pools (done + 1) left
  none_told none =
      let first : get_or pools done 0 ≡ usual_pool = let both = rest_next in cc in
      let found : Pools = pools_from (drop (done + 1) hosts) left in record {
        whole = so_far.whole ∙ ap (λ (p : Pools). (take done pools ++ p.0, p.1)) (taken None none)
            ∙ ap (λ (l : List ℕ). (l, found.1))
            (sym (append_assoc (take done pools) (usual_pool ∷ []) found.0)
            ∙ ap (λ n. (take done pools ++ n ∷ []) ++ found.0) (sym first)
            ∙ ap (λ l. l ++ found.0) (sym (take_more pools done 0 (omega (arith, so_far.long)))));
        rest = let both = rest_next in cc;
        long = so_far.long;
      }

  pub one_told : (pool : ℕ) (behind : List (List ℕ)) → first_pool host left ≡ Some (pool, behind) →
      SoFar hosts all (set pools done pool) (done + 1) behind
  one_told pool behind told =
      let found : Pools = pools_from (drop (done + 1) hosts) behind in record {
        whole = so_far.whole ∙ ap (λ (p : Pools). (take done pools ++ p.0, p.1)) (taken (Some (pool, behind)) told)
            ∙ ap (λ (l : List ℕ). (l, found.1))
            (sym (append_assoc (take done pools) (pool ∷ []) found.0)
            ∙ ap (λ l. l ++ found.0) (sym (take_more_set pools done pool (omega (arith, so_far.long)))));
        rest = drop-set-lt (done + 1) pools done pool (omega arith) ∙ (let both = rest_next in cc);
        long = length-set pools done pool ∙ so_far.long;
      }

-- The pool of the station in a place.

apart_at : (h : ℕ) (hs : List ℕ) (i : ℕ) → AllByRecursion (IsOtherHost h) hs → i < length hs → (h == get_or hs i 0) ≡ false
apart_at h [] i apart there = absurd (omega arith)
apart_at h (x ∷ xs) zero apart there = apart.0
apart_at h (x ∷ xs) (suc i) apart there = apart_at h xs i apart.1 (omega arith)

put_at : (hosts pools : List ℕ) (i pool : ℕ) → AreOtherHosts hosts → length pools ≡ length hosts → i < length hosts →
    put_beside hosts pools (get_or hosts i 0) pool ≡ set pools i pool
put_at [] pools i pool apart long there = absurd (omega arith)
put_at (h ∷ hs) [] i pool apart long there = cc
put_at (h ∷ hs) (k ∷ ks) zero pool apart long there =
    ap (λ b. cond b (pool ∷ ks) (k ∷ put_beside hs ks h pool)) (eq-eqb h h refl)
put_at (h ∷ hs) (k ∷ ks) (suc i) pool apart long there =
    ap (λ b. cond b (pool ∷ ks) (k ∷ put_beside hs ks (get_or hs i 0) pool)) (apart_at h hs i apart.0 (omega arith))
    ∙ ap (λ l. k ∷ l) (put_at hs ks i pool apart.1 (omega (arith, long)) (omega arith))

pub put_in : (specs : List ProcessSpec) (pools : List ℕ) (i host pool : ℕ) → length pools ≡ length (stations_of specs) →
    i < length (stations_of specs) → get_or (stations_of specs) i 0 ≡ host →
    put_beside (stations_of specs) pools host pool ≡ set pools i pool
put_in specs pools i host pool long there is =
    ap (λ h. put_beside (stations_of specs) pools h pool) (sym is)
    ∙ put_at (stations_of specs) pools i pool (stations_apart specs) long there

may_have : (c : Settings) (i host : ℕ) (left : List (List ℕ)) (told : ℕ × List (List ℕ)) → i < length (stations_of c.specs) →
    get_or (stations_of c.specs) i 0 ≡ host → first_pool host left ≡ Some told → pool_refusal c host told.0 ≡ None
may_have c i host left told there is first =
    let known : has_station c.specs host ≡ true =
    sym (among_stations c.specs host)
    ∙ list_any_at (λ h. h == host) (stations_of c.specs) i 0 there (eq-eqb (get_or (stations_of c.specs) i 0) host is) in
    rw (known, pool_lawful told.0 (first_is host left told first).1) refl

abbrev with_pools_of : Settings → List ℕ → Settings
with_pools_of c pools = record c { pools = pools }

-- Behind so many stations: at this place of the text, with so many lines of pools taken.
pub record AreRead (old : Settings) (text : List ℕ) (start : ℕ) (c : Settings) (at taken place : ℕ) : Type 0 where
  pub within : at ≤ length text
  pub others : c ≡ record old { pools = c.pools }
  pub so_far : SoFar (stations_of old.specs) (pools_from (stations_of old.specs) (lines_of (drop start text))) c.pools place (lines_of (drop at text))
  pub count : taken + length (lines_of (drop at text)) ≡ length (lines_of (drop start text))
  pub few : taken ≤ place

pub none_read : (old : Settings) (text : List ℕ) (start : ℕ) → old ≡ uniform old.times usual_pool old.specs → start ≤ length text →
    AreRead old text start old start 0 0
none_read old text start is within = record {
  within = within;
  others = refl;
  so_far = none_yet (stations_of old.specs) old.pools (lines_of (drop start text)) (ap (λ (c : Settings). c.pools) is);
  count = omega arith;
  few = omega arith;
}

module _ (old : Settings) (text : List ℕ) (start : ℕ) (c : Settings) (at taken place : ℕ) (are : AreRead old text start c at taken place)
    (there_too : place < length (stations_of old.specs)) (host : ℕ) (is : get_or (stations_of c.specs) place 0 ≡ host) where
  same_specs : c.specs ≡ old.specs
  same_specs = ap (λ (d : Settings). d.specs) are.others

  there : place < length (stations_of c.specs)
  there = subst (λ ss. place < length (stations_of ss)) (sym same_specs) there_too

  is_too : get_or (stations_of old.specs) place 0 ≡ host
  is_too = ap (λ ss. get_or (stations_of ss) place 0) (sym same_specs) ∙ is

  pub lawful_pool : (told : ℕ × List (List ℕ)) → first_pool host (lines_of (drop at text)) ≡ Some told → pool_refusal c host told.0 ≡ None
  lawful_pool told first = may_have c place host (lines_of (drop at text)) told there is first

  pub none_more : first_pool host (lines_of (drop at text)) ≡ None → AreRead old text start c at taken (place + 1)
  none_more none =
      let few = are.few in record {
        within = are.within;
        others = are.others;
        so_far = none_told (stations_of old.specs) _ c.pools place _ are.so_far host there_too is_too none;
        count = are.count;
        few = omega arith;
      }

  pub one_more : (pool next : ℕ) → first_pool host (lines_of (drop at text)) ≡ Some (pool, lines_of (drop next text)) → next ≤ length text →
      AreRead old text start (with_pool c host pool) next (taken + 1) (place + 1)
  one_more pool next told within =
      let few = are.few in
      let before = are.count in
      let line = ap length (first_is host (lines_of (drop at text)) (pool, lines_of (drop next text)) told).0 in
      let put : put_beside (stations_of c.specs) c.pools host pool ≡ set c.pools place pool =
      put_in c.specs c.pools place host pool (are.so_far.long ∙ ap (λ ss. length (stations_of ss)) (sym same_specs)) there is in record {
        within = within;
        others = ap (λ (d : Settings). with_pools_of d (put_beside (stations_of c.specs) c.pools host pool)) are.others;
        so_far = subst (λ ks. SoFar (stations_of old.specs) (pools_from (stations_of old.specs) (lines_of (drop start text))) ks (place + 1)
            (lines_of (drop next text))) (sym put)
            (one_told (stations_of old.specs) _ c.pools place _ are.so_far host there_too is_too pool (lines_of (drop next text)) told);
        count = omega (arith, line, before);
        few = omega arith;
      }

-- as the code writes it
pub same_step : (old : Settings) (text : List ℕ) (start : ℕ) (c d : Settings) (at to taken more place : ℕ) →
    AreRead old text start c at taken place → d ≡ c → to ≡ at → more ≡ taken → AreRead old text start d to more place
same_step old text start c d at to taken more place are same here few =
    subst (λ (x : Settings). AreRead old text start x to more place) (sym same)
    (subst (λ n. AreRead old text start c n more place) (sym here) (subst (λ n. AreRead old text start c at n place) (sym few) are))

pub all_read : (old : Settings) (text : List ℕ) (start : ℕ) (c : Settings) (at taken place : ℕ) → AreRead old text start c at taken place →
    length (stations_of old.specs) ≤ place →
    pools_from (stations_of old.specs) (lines_of (drop start text)) ≡ (c.pools, lines_of (drop at text))
unfolding pools_from
all_read old text start c at taken place are all =
    let none : drop place (stations_of old.specs) ≡ [] =
    drop_all place (stations_of old.specs) all in
    let whole : take place c.pools ≡ c.pools =
    take_all place c.pools (omega (arith, are.so_far.long)) in
    are.so_far.whole
    ∙ ap (λ hs. (take place c.pools ++ (pools_from hs (lines_of (drop at text))).0, (pools_from hs (lines_of (drop at text))).1)) none
    ∙ ap (λ (ks : List ℕ). (ks, lines_of (drop at text))) (append-nil (take place c.pools) ∙ whole)

-- The titles.
module _ (plain timed l : List ℕ) (lines ls : List (List ℕ)) (here : lines ≡ l ∷ ls) where
  pub plain_is : bytes_eq l plain ≡ true → opening_of plain timed lines ≡ Ok (plain_opening ls)
  unfolding opening_of
  plain_is first =
      ap (opening_of plain timed) here
      ∙ ap (λ b. cond b (Ok (plain_opening ls)) (cond (bytes_eq l timed) (timed_opening ls) (Err 1))) first

  pub timed_is : bytes_eq l plain ≡ false → bytes_eq l timed ≡ true → opening_of plain timed lines ≡ timed_opening ls
  unfolding opening_of
  timed_is first second =
      ap (opening_of plain timed) here
      ∙ ap (λ b. cond b (Ok (plain_opening ls)) (cond (bytes_eq l timed) (timed_opening ls) (Err 1))) first
      ∙ ap (λ b. cond b (timed_opening ls) (Err 1)) second

  pub untitled_is : bytes_eq l plain ≡ false → bytes_eq l timed ≡ false → opening_of plain timed lines ≡ Err 1
  unfolding opening_of
  untitled_is first second =
      ap (opening_of plain timed) here
      ∙ ap (λ b. cond b (Ok (plain_opening ls)) (cond (bytes_eq l timed) (timed_opening ls) (Err 1))) first
      ∙ ap (λ b. cond b (timed_opening ls) (Err 1)) second

pub no_line : (plain timed : List ℕ) (lines : List (List ℕ)) → lines ≡ [] → opening_of plain timed lines ≡ Err 1
unfolding opening_of
no_line plain timed lines none = ap (opening_of plain timed) none

module _ (all part : Result (Settings × List (List ℕ)) ℕ) (same : all ≡ part) (text : List ℕ) where
  pub opened : (r : Result Head OpeningRefusal) → IfOk r (λ h. part ≡ Ok (h.config, lines_of (drop h.at text))) →
      IfOk r (λ h. all ≡ Ok (h.config, lines_of (drop h.at text)))
  opened (Ok h) is = same ∙ is
  opened (Err e) is = tt

  pub not_opened : (r : Result Head OpeningRefusal) →
      IfErr r (λ e. ((e ≡ refusals.NoMemory) × HasProcesses part) ⊎ ((e ≡ refusals.Bad 2) × (part ≡ Err 2))) →
      IfErr r (λ e. ((e ≡ refusals.NoMemory) × HasProcesses all) ⊎ ((line : ℕ) × (e ≡ refusals.Bad line) × (all ≡ Err line)))
  not_opened (Ok h) is = tt
  not_opened (Err e) (inl is) = inl (is.0, subst HasProcesses (sym same) is.1)
  not_opened (Err e) (inr is) = inr (2, is.0, same ∙ is.1)

pub times_taken : (line : List ℕ) (o : Option Times) (t : Times) → o ≡ times_of (words_from line 0) → o ≡ Some t →
    times_are_lawful t ≡ true
times_taken line o t is some = (times_line line t (sym is ∙ some)).1

-- What is written.
pub written : {A E : Type 0} (r : Result A E) (new some all : List ℕ) → OnOk r (new ≡ some) → some ≡ all → OnOk r (new ≡ all)
written (Ok a) new some all is same = is ∙ same
written (Err e) new some all is same = tt

pub settings_lines : (into : List ℕ) (t : Times) (specs : List ProcessSpec) (pools : List (List ℕ)) →
    ((into ++ line_text (times_text t)) ++ flat_map (λ s. line_text (process_text s)) specs) ++ flat_map line_text pools
    ≡ into ++ flat_map line_text (times_text t ∷ (map process_text specs ++ pools))
settings_lines into t specs pools =
    let texts : List ℕ = flat_map (λ s. line_text (process_text s)) specs in
    append_assoc (into ++ line_text (times_text t)) texts (flat_map line_text pools)
    ∙ append_assoc into (line_text (times_text t)) (texts ++ flat_map line_text pools)
    ∙ ap (λ l. into ++ (line_text (times_text t) ++ l))
    (ap (λ l. l ++ flat_map line_text pools) (sym (flat_map-map line_text process_text specs))
    ∙ sym (flat_map-append line_text (map process_text specs) pools))

pub plain_written : (plain timed : List ℕ) (c : Settings) → is_usual c ≡ true → head_text plain c.specs ≡ opening_text plain timed c
plain_written plain timed c usual =
    ap (λ l. line_text plain ++ l) (sym (flat_map-map line_text process_text c.specs))
    ∙ ap (λ b. flat_map line_text (cond b (plain ∷ map process_text c.specs) (timed_lines timed c))) (sym usual)
