-- The name that another one replaces: it is the only one under its id, so those before it and those behind it are the others.
use Rattle.std.proofs.Common.{◌≡◌, ℕ, suc, ◌+◌, ◌<◌, ◌≤◌, Bool, true, false, cond, not, ◌==◌, List, [], ◌∷◌, ◌++◌, length, take, drop, nat_lt, nat_le, Option, Some, None, refl, sym, ap, ◌∙◌, arith, inl, inr}
use Rattle.std.proofs.Math.Dec.{leb-suc-suc}
use Rattle.std.proofs.lemmas.Bool.{cases_lt, both_ways, cond-true, eqb-true, lt-ltb}
use Rattle.std.proofs.lemmas.Cmp.{nat_eq_equiv}
use Rattle.std.proofs.lemmas.Grind.{common_steps}
use Rattle.std.proofs.lemmas.List.Quantifiers.{position-Some}
use Rattle.std.proofs.lemmas.Map.Keys.{IsDistinct-head, IsDistinct-tail}
use Rattle.std.proofs.lemmas.Option.{none-some}
use Rattle.std.specs.List.{AllByRecursion, IsDistinct, position, position_or_len}
use Rattle.vk_types.specs.Types.{Registration}
use Rattle.vk_base.specs.Kernel.{others}
use Rattle.vk_names.specs.Kept.{is_under, same_id}

module _ (logical : ℕ) where
  -- behind a name of this id all are others
  kept_at : (x : Registration) (xs : List Registration) (b : Bool) → b ≡ false → others xs logical ≡ xs →
      cond (not b) (x ∷ others xs logical) (others xs logical) ≡ x ∷ xs
  kept_at x xs true other rest = absurd (both_ways true other refl)
  kept_at x xs false other rest = ap (λ ys. x ∷ ys) rest

  kept_behind : (r : Registration) (xs : List Registration) → r.logical ≡ logical → AllByRecursion (λ y. same_id r y ≡ false) xs →
      others xs logical ≡ xs
  kept_behind r [] is apart = refl
  kept_behind r (x ∷ xs) is apart = kept_at x xs (x.logical == logical)
      (nat_eq_equiv.symm x.logical logical ∙ ap (λ n. n == x.logical) (sym is) ∙ apart.0) (kept_behind r xs is apart.1)

  left_at : (x : Registration) (xs : List Registration) (n : ℕ) (b : Bool) → (b ≡ true → others xs logical ≡ xs) →
      others xs logical ≡ take n xs ++ drop (n + 1) xs →
      cond (not b) (x ∷ others xs logical) (others xs logical)
      ≡ take (cond (not b) (1 + n) 0) (x ∷ xs) ++ drop (cond (not b) (1 + n) 0 + 1) (x ∷ xs)
  left_at x xs n true kept rest = kept refl
  left_at x xs n false kept rest =
      let plus : 1 + n ≡ suc n = omega arith in
      let behind : 1 + n + 1 ≡ suc (n + 1) = omega arith in
      ap (λ ys. x ∷ ys) rest
      ∙ ap (λ m. take m (x ∷ xs) ++ drop (suc (n + 1)) (x ∷ xs)) (sym plus)
      ∙ ap (λ m. take (1 + n) (x ∷ xs) ++ drop m (x ∷ xs)) (sym behind)

  left : (xs : List Registration) → IsDistinct same_id xs →
      others xs logical ≡ take (position_or_len (is_under logical) xs) xs ++ drop (position_or_len (is_under logical) xs + 1) xs
  left [] once = refl
  left (x ∷ xs) once = left_at x xs (position_or_len (is_under logical) xs) (x.logical == logical)
      (λ t. kept_behind x xs (eqb-true x.logical logical t) (IsDistinct-head same_id x xs once)) (left xs (IsDistinct-tail same_id x xs once))

  first_is : (xs : List Registration) (i : ℕ) → position (is_under logical) xs ≡ Some i → position_or_len (is_under logical) xs ≡ i
  first_is xs i is = grind (arith, common_steps)

  left_without : (xs : List Registration) (i : ℕ) → position (is_under logical) xs ≡ Some i → IsDistinct same_id xs →
      others xs logical ≡ take i xs ++ drop (i + 1) xs
  left_without xs i is once = left xs once ∙ ap (λ n. take n xs ++ drop (n + 1) xs) (first_is xs i is)

  none_below : (n m : ℕ) → cond (nat_lt n m) (Some n) None ≡ None → m ≤ n
  none_below n m none = elim (cases_lt n m) [
    | inl l ↦ absurd (none-some n (sym none ∙ cond-true (nat_lt n m) (Some n) None (lt-ltb n m l)))
    | inr g ↦ omega (arith, g)
  ]

  left_all : (xs : List Registration) → position (is_under logical) xs ≡ None → IsDistinct same_id xs → others xs logical ≡ xs
  left_all xs none once =
      let n = position_or_len (is_under logical) xs in
      let all : length xs ≤ n = none_below n (length xs) none in
      left xs once ∙ grind (arith, common_steps)

  one_fewer : (xs ys : List Registration) (i : ℕ) → ys ≡ take i xs ++ drop (i + 1) xs → i < length xs → suc (length ys) ≡ length xs
  one_fewer xs ys i is low = grind (arith, common_steps)

  -- of what a search for the older one finds
  pub without_found : (xs : List Registration) (i : ℕ) (older : Option ℕ) → older ≡ position (is_under logical) xs → older ≡ Some i →
      IsDistinct same_id xs → others xs logical ≡ take i xs ++ drop (i + 1) xs
  without_found xs i older found is once = left_without xs i (sym found ∙ is) once

  pub without_none : (xs : List Registration) (older : Option ℕ) → older ≡ position (is_under logical) xs →
      ((i : ℕ) → older ≡ Some i → ⊥) → IsDistinct same_id xs → others xs logical ≡ xs
  without_none xs None found not_there once = left_all xs (sym found) once
  without_none xs (Some i) found not_there once = absurd (not_there i refl)

  one_beside : (xs : List Registration) (i : ℕ) → position (is_under logical) xs ≡ Some i → IsDistinct same_id xs →
      suc (length (others xs logical)) ≡ length xs
  one_beside [] i is once = cc
  one_beside (x ∷ xs) i is once = one_fewer (x ∷ xs) (others (x ∷ xs) logical) i (left_without (x ∷ xs) i is once)
      (position-Some (is_under logical) (x ∷ xs) i x is).0

  pub full_found : (xs : List Registration) (i : ℕ) (older : Option ℕ) → older ≡ position (is_under logical) xs → older ≡ Some i →
      IsDistinct same_id xs → nat_lt 64 (length xs) ≡ nat_le 64 (length (others xs logical))
  full_found xs i older found is once =
      ap (λ n. nat_lt 64 n) (sym (one_beside xs i (sym found ∙ is) once)) ∙ leb-suc-suc 64 (length (others xs logical))

  pub full_none : (xs : List Registration) (older : Option ℕ) → older ≡ position (is_under logical) xs → older ≡ None →
      IsDistinct same_id xs → nat_le 64 (length xs) ≡ nat_le 64 (length (others xs logical))
  full_none xs older found is once = ap (λ (ys : List Registration). nat_le 64 (length ys)) (sym (left_all xs (sym found ∙ is) once))
