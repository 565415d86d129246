-- Groups of processes, in which each is found at its place.
use Rattle.std.proofs.Common.{◌≡◌, ℕ, zero, suc, ◌+◌, ◌<◌, Bool, true, false, cond, ◌==◌, List, [], ◌∷◌, ◌++◌, length, get_or, set, replicate, refl, ap, sym, subst, ◌∙◌, arith, Option, Some, None, option_map, unwrap_or, inl, inr}
use Rattle.std.proofs.lemmas.Bool.{cases_Bool, both_ways, cond-true, cond-false, eqb-true, eq-eqb, false_from_ne_true}
use Rattle.std.proofs.lemmas.Iterator.Adapters.{position_from-zero}
use Rattle.std.proofs.lemmas.List.{length-replicate}
use Rattle.std.proofs.lemmas.List.Folds.{find-append}
use Rattle.std.proofs.lemmas.Option.{slice_get-get_or}
use Rattle.std.specs.List.{slice_get, find, position_from}
use Rattle.std.specs.Option.{option_or}
use Rattle.vk_types.specs.Types.{Pid}
use Rattle.vk_base.specs.Pids.{same_pid}
use Rattle.v_laws.proofs.Tables.{same_pid_is}
use Rattle.v_machine.specs.declared.tables.groups.Placed.{Placed}
use Rattle.v_machine.specs.Places.{place_in, found_in, group_of, AreGrouped}
use Rattle.v_machine.proofs.PlaceLemmas.{get-set_same, get-set_other}

-- where one more stands behind the others
abbrev this_or_none : Bool → ℕ → Option ℕ
this_or_none here at = cond here (Some at) None

position-push : {X : Type 0} (test : X → Bool) (from at : ℕ) (xs : List X) (y : X) → at ≡ from + length xs →
    position_from test from (xs ++ y ∷ []) ≡ option_or (position_from test from xs) (this_or_none (test y) at)
position-push test from at [] y is = let e : from ≡ at = omega (arith, is) in ap (λ n. cond (test y) (Some n) None) e
position-push test from at (x ∷ xs) y is =
    let rest = position-push test (from + 1) at xs y (omega (arith, is)) in
    elim (cases_Bool (test x)) [
      | inl t ↦ cond-true (test x) (Some from) _ t
          ∙ sym (ap (λ o. option_or o (this_or_none (test y) at)) (cond-true (test x) (Some from) (position_from test (from + 1) xs) t))
      | inr f ↦ cond-false (test x) (Some from) _ f ∙ rest
          ∙ sym (ap (λ o. option_or o (this_or_none (test y) at)) (cond-false (test x) (Some from) (position_from test (from + 1) xs) f))
    ]

place-push : (pids : List Pid) (pid q : Pid) →
    place_in (pids ++ pid ∷ []) q ≡ option_or (place_in pids q) (this_or_none (same_pid pid q) (length pids))
unfolding place_in
place-push pids pid q =
    let test : Pid → Bool = λ p. same_pid p q in
    position_from-zero test (pids ++ pid ∷ [])
    ∙ position-push test 0 (length pids) pids pid (omega arith)
    ∙ sym (ap (λ o. option_or o (this_or_none (same_pid pid q) (length pids))) (position_from-zero test pids))

found_or : (o : Option Placed) (here : Bool) (p : Placed) →
    option_map (λ (p : Placed). p.at) (option_or o (cond here (Some p) None)) ≡ option_or (option_map (λ (p : Placed). p.at) o)
    (this_or_none here p.at)
found_or (Some x) here p = refl
found_or None true p = refl
found_or None false p = refl

found-push : (group : List Placed) (p : Placed) (q : Pid) →
    found_in (group ++ p ∷ []) q ≡ option_or (found_in group q) (this_or_none (same_pid p.pid q) p.at)
unfolding found_in
found-push group p q =
    ap (option_map (λ (p : Placed). p.at)) (find-append (λ (p : Placed). same_pid p.pid q) group (p ∷ []))
    ∙ found_or (find (λ (p : Placed). same_pid p.pid q) group) (same_pid p.pid q) p

or_none : (o : Option ℕ) (here : Bool) (at : ℕ) → here ≡ false → o ≡ option_or o (this_or_none here at)
or_none None here at f = sym (cond-false here (Some at) None f)
or_none (Some x) here at f = refl

abbrev none_placed : List Placed
none_placed = []

nothing_in : (n at : ℕ) → unwrap_or (slice_get (replicate n none_placed) at) [] ≡ []
nothing_in zero at = refl
nothing_in (suc n) zero = refl
nothing_in (suc n) (suc at) = nothing_in n at

pub count_none : (groups : List (List Placed)) (n : ℕ) → groups ≡ replicate n none_placed → length groups ≡ n
count_none groups n is = ap length is ∙ length-replicate n none_placed

-- where no process was put into a group
pub grouped_none : (n : ℕ) → AreGrouped [] (replicate n [])
unfolding place_in found_in
grouped_none n q = ap (λ group. found_in group q) (nothing_in n (group_of q))

-- one more process, which is put into its group
pub grouped_more : (pids : List Pid) (groups : List (List Placed)) (pid : Pid) (group : List Placed) →
    group ≡ get_or groups (group_of pid) group → group_of pid < length groups → AreGrouped pids groups →
    AreGrouped (pids ++ pid ∷ []) (set groups (group_of pid) (group ++ record { pid = pid; at = length pids } ∷ []))
grouped_more pids groups pid group is low grouped q =
    let placed : Placed = record { pid = pid; at = length pids } in
    let more = group ++ placed ∷ [] in
    elim (cases_Bool (group_of q == group_of pid)) [
      | inl t ↦
          let same : group_of q ≡ group_of pid = eqb-true (group_of q) (group_of pid) t in
          let old : slice_get groups (group_of q) ≡ Some group = ap (slice_get groups) same ∙ slice_get-get_or groups (group_of pid) group low
          ∙ ap Some (sym is) in
          let new : slice_get (set groups (group_of pid) more) (group_of q) ≡ Some more =
          ap (slice_get (set groups (group_of pid) more)) same ∙ get-set_same groups (group_of pid) more low in
          ap (λ o. found_in (unwrap_or o []) q) new
          ∙ found-push group placed q
          ∙ ap (λ o. option_or o (this_or_none (same_pid pid q) (length pids)))
          (sym (ap (λ o. found_in (unwrap_or o []) q) old) ∙ grouped q)
          ∙ sym (place-push pids pid q)
      | inr f ↦
          let apart : same_pid pid q ≡ false = false_from_ne_true (same_pid pid q)
          (λ t. both_ways (group_of q == group_of pid) f
          (eq-eqb (group_of q) (group_of pid) (sym (ap group_of (same_pid_is pid q t))))) in
          ap (λ o. found_in (unwrap_or o []) q) (get-set_other groups (group_of pid) (group_of q) more
          (λ e. both_ways (group_of q == group_of pid) f (eq-eqb (group_of q) (group_of pid) e)))
          ∙ grouped q
          ∙ or_none (place_in pids q) (same_pid pid q) (length pids) apart
          ∙ sym (place-push pids pid q)
    ]

pub grouped_put : (pids : List Pid) (groups : List (List Placed)) (pid : Pid) (group more : List Placed) (place at : ℕ) →
    place ≡ group_of pid → length pids ≡ at → more ≡ group ++ record { pid = pid; at = at } ∷ [] → group ≡ get_or groups place group →
    place < length groups → AreGrouped pids groups →
    AreGrouped (pids ++ pid ∷ []) (set groups place more)
grouped_put pids groups pid group more place at there count pushed is low grouped =
    let P : ℕ → Type 0 = λ n. group ≡ get_or groups n group → n < length groups → AreGrouped (pids ++ pid ∷ []) (set groups n more) in
    let same : more ≡ group ++ record { pid = pid; at = length pids } ∷ [] = pushed
    ∙ ap (λ n. group ++ record { pid = pid; at = n } ∷ []) (sym count) in
    subst P (sym there) (λ is low. subst (λ m. AreGrouped (pids ++ pid ∷ []) (set groups (group_of pid) m)) (sym same)
    (grouped_more pids groups pid group is low grouped)) is low
