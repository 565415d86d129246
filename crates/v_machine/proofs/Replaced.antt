-- The name that another one replaces: it is the only one, and it is none of the others.
use Rattle.std.proofs.Common.{◌≡◌, ℕ, suc, ◌+◌, ◌<◌, ◌≤◌, Bool, true, false, cond, not, ◌==◌, ◌&&◌, ◌||◌, List, [], ◌∷◌, ◌++◌, length, take, drop, filter, nat_lt, nat_le, Option, Some, None, is_some, refl, sym, ap, ◌∙◌, arith, inl, inr}
use Rattle.std.proofs.lemmas.Bool.{cases_lt, both_ways, and_parts, cond-true, eq-eqb, eqb-true, lt-leb, lt-ltb}
use Rattle.std.proofs.lemmas.Grind.{common_steps}
use Rattle.std.proofs.lemmas.List.Folds.{list_any_at}
use Rattle.std.proofs.lemmas.List.Quantifiers.{position-Some}
use Rattle.std.proofs.lemmas.Map.Keys.{IsDistinct-head, IsDistinct-tail}
use Rattle.std.proofs.lemmas.Option.{none-some}
use Rattle.std.specs.List.{AllByRecursion, IsDistinct, list_any, position, position_or_len}
use Rattle.vk_types.specs.Types.{Registration}
use Rattle.v_laws.specs.Sound.{same_logical}
use Rattle.v_machine.specs.Names.{is_other, is_older}
use Rattle.v_machine.specs.Tables.{is_of, names_by}

-- of distinct names, the first and those behind it
head_once : (x : Registration) (xs : List Registration) (b : Bool) → b ≡ true → IsDistinct same_logical (cond b (x ∷ xs) xs) →
    AllByRecursion (λ y. same_logical x y ≡ false) xs
head_once x xs true here once = IsDistinct-head same_logical x xs once
head_once x xs false here once = absurd (both_ways false refl here)

tail_once : (x : Registration) (xs : List Registration) (b : Bool) → IsDistinct same_logical (cond b (x ∷ xs) xs) → IsDistinct same_logical xs
tail_once x xs true once = IsDistinct-tail same_logical x xs once
tail_once x xs false once = once

module _ (host logical : ℕ) where
  -- behind an older name all are kept
  kept_at : (r x : Registration) (xs : List Registration) (b c : Bool) → (c ≡ true → r.logical ≡ x.logical) →
      AllByRecursion (λ y. same_logical r y ≡ false) (cond b (x ∷ filter (is_of host) xs) (filter (is_of host) xs)) →
      (AllByRecursion (λ y. same_logical r y ≡ false) (filter (is_of host) xs) → filter (λ x. not (is_older host logical x)) xs ≡ xs) →
      cond (not (b && c)) (x ∷ filter (λ x. not (is_older host logical x)) xs) (filter (λ x. not (is_older host logical x)) xs) ≡ x ∷ xs
  kept_at r x xs true true same all rest = absurd (both_ways (r.logical == x.logical) all.0 (eq-eqb r.logical x.logical (same refl)))
  kept_at r x xs true false same all rest = ap (λ ys. x ∷ ys) (rest all.1)
  kept_at r x xs false c same all rest = ap (λ ys. x ∷ ys) (rest all)

  kept_behind : (r : Registration) (xs : List Registration) → r.logical ≡ logical →
      AllByRecursion (λ y. same_logical r y ≡ false) (filter (is_of host) xs) → filter (λ x. not (is_older host logical x)) xs ≡ xs
  kept_behind r [] older all = refl
  kept_behind r (x ∷ xs) older all = kept_at r x xs (is_of host x) (x.logical == logical)
      (λ t. older ∙ sym (eqb-true x.logical logical t)) all (kept_behind r xs older)

  -- so the names without the older one are those before it and those behind it
  left_at : (x : Registration) (xs : List Registration) (n : ℕ) (b : Bool) →
      (b ≡ true → filter (λ x. not (is_older host logical x)) xs ≡ xs) →
      filter (λ x. not (is_older host logical x)) xs ≡ take n xs ++ drop (n + 1) xs →
      cond (not b) (x ∷ filter (λ x. not (is_older host logical x)) xs) (filter (λ x. not (is_older host logical x)) xs)
      ≡ take (cond (not b) (1 + n) 0) (x ∷ xs) ++ drop (cond (not b) (1 + n) 0 + 1) (x ∷ xs)
  left_at x xs n true kept rest = kept refl
  left_at x xs n false kept rest =
      let plus : 1 + n ≡ suc n = omega arith in
      let behind : 1 + n + 1 ≡ suc (n + 1) = omega arith in
      ap (λ ys. x ∷ ys) rest
      ∙ ap (λ m. take m (x ∷ xs) ++ drop (suc (n + 1)) (x ∷ xs)) (sym plus)
      ∙ ap (λ m. take (1 + n) (x ∷ xs) ++ drop m (x ∷ xs)) (sym behind)

  left : (xs : List Registration) → IsDistinct same_logical (filter (is_of host) xs) →
      filter (λ x. not (is_older host logical x)) xs
      ≡ take (position_or_len (is_older host logical) xs) xs ++ drop (position_or_len (is_older host logical) xs + 1) xs
  left [] once = refl
  left (x ∷ xs) once = left_at x xs (position_or_len (is_older host logical) xs) (is_older host logical x)
      (λ t. let both = and_parts (is_of host x) (x.logical == logical) t in
      kept_behind x xs (eqb-true x.logical logical both.1) (head_once x (filter (is_of host) xs) (is_of host x) both.0 once))
      (left xs (tail_once x (filter (is_of host) xs) (is_of host x) once))

  first_is : (xs : List Registration) (i : ℕ) → position (is_older host logical) xs ≡ Some i → position_or_len (is_older host logical) xs ≡ i
  first_is xs i is = grind (arith, common_steps)

  left_without : (xs : List Registration) (i : ℕ) → position (is_older host logical) xs ≡ Some i →
      IsDistinct same_logical (names_by xs host) → filter (λ x. not (is_older host logical x)) xs ≡ take i xs ++ drop (i + 1) xs
  unfolding names_by
  left_without xs i is once = left xs once ∙ ap (λ n. take n xs ++ drop (n + 1) xs) (first_is xs i is)

  none_below : (n m : ℕ) → cond (nat_lt n m) (Some n) None ≡ None → m ≤ n
  none_below n m none = elim (cases_lt n m) [
    | inl l ↦ absurd (none-some n (sym none ∙ cond-true (nat_lt n m) (Some n) None (lt-ltb n m l)))
    | inr g ↦ omega (arith, g)
  ]

  left_all : (xs : List Registration) → position (is_older host logical) xs ≡ None →
      IsDistinct same_logical (names_by xs host) → filter (λ x. not (is_older host logical x)) xs ≡ xs
  unfolding names_by
  left_all xs none once =
      let n = position_or_len (is_older host logical) xs in
      let all : length xs ≤ n = none_below n (length xs) none in
      left xs once ∙ grind (arith, common_steps)

  -- the others are fewer than all names, where an older one is among these
  most_at : (x : Registration) (xs : List Registration) (b : Bool) → length (filter (is_other host logical) xs) ≤ length xs →
      length (cond b (x ∷ filter (is_other host logical) xs) (filter (is_other host logical) xs)) ≤ length (x ∷ xs)
  most_at x xs true most = omega (arith, most)
  most_at x xs false most = omega (arith, most)

  most : (xs : List Registration) → length (filter (is_other host logical) xs) ≤ length xs
  most [] = omega arith
  most (x ∷ xs) = most_at x xs (is_other host logical x) (most xs)

  fewer_at : (x : Registration) (xs : List Registration) (b c : Bool) → length (filter (is_other host logical) xs) ≤ length xs →
      (list_any (is_older host logical) xs ≡ true → length (filter (is_other host logical) xs) < length xs) →
      (b && c || list_any (is_older host logical) xs) ≡ true →
      length (cond (b && not c) (x ∷ filter (is_other host logical) xs) (filter (is_other host logical) xs)) < length (x ∷ xs)
  fewer_at x xs true true most rest any = omega (arith, most)
  fewer_at x xs true false most rest any = omega (arith, rest any)
  fewer_at x xs false c most rest any = omega (arith, most)

  fewer : (xs : List Registration) → list_any (is_older host logical) xs ≡ true → length (filter (is_other host logical) xs) < length xs
  fewer [] any = absurd (both_ways false refl any)
  fewer (x ∷ xs) any = fewer_at x xs (is_of host x) (x.logical == logical) (most xs) (fewer xs) any

  few_others : (xs : List Registration) (i : ℕ) → position (is_older host logical) xs ≡ Some i → length xs ≤ 64 →
      nat_le 64 (length (filter (is_other host logical) xs)) ≡ false
  few_others [] i is low = cc
  few_others (x ∷ xs) i is low =
      let there = position-Some (is_older host logical) (x ∷ xs) i x is in
      lt-leb 64 (length (filter (is_other host logical) (x ∷ xs)))
      (omega (arith, low, fewer (x ∷ xs) (list_any_at (is_older host logical) (x ∷ xs) i x there.0 there.1)))

  -- and so of what a search for the older one finds
  pub without_found : (xs : List Registration) (i : ℕ) (older : Option ℕ) → older ≡ position (is_older host logical) xs → older ≡ Some i →
      IsDistinct same_logical (names_by xs host) → take i xs ++ drop (i + 1) xs ≡ filter (λ x. not (is_older host logical x)) xs
  without_found xs i older found is once = sym (left_without xs i (sym found ∙ is) once)

  pub without_none : (xs : List Registration) (older : Option ℕ) → older ≡ position (is_older host logical) xs →
      ((i : ℕ) → older ≡ Some i → ⊥) → IsDistinct same_logical (names_by xs host) →
      xs ≡ filter (λ x. not (is_older host logical x)) xs
  without_none xs None found not_there once = sym (left_all xs (sym found) once)
  without_none xs (Some i) found not_there once = absurd (not_there i refl)

  pub few_beside : (xs : List Registration) (older : Option ℕ) → older ≡ position (is_older host logical) xs → is_some older ≡ true →
      length xs ≤ 64 → nat_le 64 (length (filter (is_other host logical) xs)) ≡ false
  few_beside xs None found some low = absurd (both_ways false refl some)
  few_beside xs (Some i) found some low = few_others xs i (sym found) low
