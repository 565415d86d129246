-- Registrations, one under each logical id.
use Rattle.std.proofs.Common.{◌≡◌, ℕ, Bool, true, false, cond, not, ◌==◌, ◌&&◌, ◌||◌, List, [], ◌∷◌, ◌++◌, filter, Some, option_map, refl, sym, ap, subst, ◌∙◌}
use Rattle.std.proofs.lemmas.Bool.{and_parts, eqb-true, not-true}
use Rattle.std.proofs.lemmas.Cmp.{nat_eq_equiv, on_equiv}
use Rattle.std.proofs.lemmas.List.Elements.{All-from_recursion, All-weaker, filter_passes}
use Rattle.std.proofs.lemmas.List.Folds.{list_any_none}
use Rattle.std.proofs.lemmas.List.Kept.{AllPairs-filter}
use Rattle.std.proofs.lemmas.Map.Keys.{IsDistinct-from_apart, IsDistinct-head, IsDistinct-push, IsDistinct-tail, apart_from_distinct}
use Rattle.std.specs.List.{IsDistinct, AllByRecursion, find, list_any}
use Rattle.vk_types.specs.Types.{Pid, Registration}
use Rattle.vk_base.specs.Kernel.{found_there, holds_of, is_found_there, is_told, is_told_under, others}
use Rattle.vk_base.specs.Pids.{same_pid}
use Rattle.vk_names.specs.Kept.{same_id}

-- no names, those that pass a test, and one in place of what stands under its id
pub none_apart : IsDistinct same_id []
unfolding IsDistinct
none_apart = tt

pub kept_apart : (test : Registration → Bool) (names : List Registration) → IsDistinct same_id names →
    IsDistinct same_id (filter test names)
kept_apart test names apart = IsDistinct-from_apart same_id (filter test names)
    (AllPairs-filter (λ a b. same_id a b ≡ false) test names (λ i j d. apart_from_distinct same_id names i j d apart))

pub replaced_apart : (before kept after : List Registration) (r : Registration) → after ≡ kept ++ r ∷ [] → kept ≡ others before r.logical →
    IsDistinct same_id before → IsDistinct same_id after
replaced_apart before kept after r pushed is apart =
    let is_other = λ (x : Registration). not (x.logical == r.logical) in
    let no_older : list_any (same_id r) (others before r.logical) ≡ false =
    list_any_none (same_id r) (others before r.logical)
    (All-weaker (λ x. is_other x ≡ true) (λ x. same_id r x ≡ false)
    (λ x other. nat_eq_equiv.symm r.logical x.logical ∙ not-true (x.logical == r.logical) other) (others before r.logical)
    (filter_passes is_other before)) in
    subst (IsDistinct same_id) (sym (pushed ∙ ap (λ xs. xs ++ r ∷ []) is))
    (IsDistinct-push (on_equiv (λ (x : Registration). x.logical) nat_eq_equiv) (others before r.logical) r
    (kept_apart is_other before apart) no_older)

or_none : (b c : Bool) → c ≡ false → (b || c) ≡ b
or_none true c none = refl
or_none false c none = none

-- what is told under an id is the process of the one entry that is found
module _ (logical : ℕ) (pid : Pid) where
  none_told : (r : Registration) (names : List Registration) → is_told_under logical r ≡ true →
      AllByRecursion (λ x. same_id r x ≡ false) names → is_told names logical pid ≡ false
  none_told r names here apart =
      let id : r.logical ≡ logical = eqb-true r.logical logical (and_parts (r.logical == logical) (is_found_there r.scope) here).0 in
      list_any_none (λ (x : Registration). is_told_under logical x && same_pid x.pid pid) names
      (All-weaker (λ x. same_id r x ≡ false) (λ x. (is_told_under logical x && same_pid x.pid pid) ≡ false)
      (λ x other. ap (λ b. b && is_found_there x.scope && same_pid x.pid pid)
      (ap (λ n. x.logical == n) (sym id) ∙ nat_eq_equiv.symm x.logical r.logical ∙ other))
      names (All-from_recursion (λ x. same_id r x ≡ false) names apart))

  told_at : (r : Registration) (names : List Registration) (b : Bool) → (b ≡ true → is_told names logical pid ≡ false) →
      is_told names logical pid ≡ holds_of (λ found. same_pid found pid) (found_there names logical) →
      ((b && same_pid r.pid pid) || is_told names logical pid) ≡ holds_of (λ found. same_pid found pid)
      (option_map (λ (x : Registration). x.pid) (cond b (Some r) (find (is_told_under logical) names)))
  told_at r names true none rest = or_none (same_pid r.pid pid) (is_told names logical pid) (none refl)
  told_at r names false none rest = rest

  pub told_is : (names : List Registration) → IsDistinct same_id names →
      is_told names logical pid ≡ holds_of (λ found. same_pid found pid) (found_there names logical)
  told_is [] apart = refl
  told_is (r ∷ names) apart = told_at r names (is_told_under logical r)
      (λ here. none_told r names here (IsDistinct-head same_id r names apart)) (told_is names (IsDistinct-tail same_id r names apart))
