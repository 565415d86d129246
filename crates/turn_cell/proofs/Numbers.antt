-- n accounts of different numbers below n have all numbers below n.
use Rattle.std.proofs.Common.{◌≡◌, ℕ, suc, ◌<◌, List, [], ◌∷◌, length, refl, sym, ap, subst, arith, Bool, true, false, eqb, eqb-true, ne_eqb, ◌||◌, ◌⊎◌, ⊎_elim, inl, inr, map}
use Rattle.std.specs.List.{IsDistinct, AllByRecursion, list_any}
use Rattle.std.proofs.lemmas.Map.Steps.{length-le_from_distinct_below}
use Rattle.turn_cell.specs.declared.rule.Account.{Account}
use Rattle.turn_cell.specs.Accounts.{AreDifferent, IsNumberOf}

module _ {E : Type 0} where
  abbrev pub numbers : List (Account E) → List ℕ
  numbers accounts = map (λ a. a.number) accounts

  distinct_one : (x : ℕ) (accounts : List (Account E)) → ¬ IsNumberOf x accounts → AllByRecursion (λ y. eqb x y ≡ false) (numbers accounts)
  distinct_one x [] none = tt
  distinct_one x (a ∷ others) none = (ne_eqb x a.number (λ is. none (inl (sym is))), distinct_one x others (λ among. none (inr among)))

  pub distinct : (accounts : List (Account E)) → AreDifferent accounts → IsDistinct eqb (numbers accounts)
  unfolding IsDistinct
  distinct [] d = tt
  distinct (a ∷ others) d = (distinct_one a.number others d.0, distinct others d.1)

  pub all_below : (n : ℕ) (accounts : List (Account E)) → ((k : ℕ) → IsNumberOf k accounts → k < n)
      → AllByRecursion (λ k. k < n) (numbers accounts)
  all_below n [] low = tt
  all_below n (a ∷ others) low = (low a.number (inl refl), all_below n others (λ k among. low k (inr among)))

  among_step : (q : ℕ) (a : Account E) (others : List (Account E)) → (list_any (eqb q) (numbers others) ≡ true → IsNumberOf q others)
      → (b : Bool) → eqb q a.number ≡ b → (b || list_any (eqb q) (numbers others)) ≡ true → IsNumberOf q (a ∷ others)
  among_step q a others rest true is any = inl (sym (eqb-true q a.number is))
  among_step q a others rest false is any = inr (rest any)

  among : (q : ℕ) (accounts : List (Account E)) → list_any (eqb q) (numbers accounts) ≡ true → IsNumberOf q accounts
  among q [] any = absurd (cc any)
  among q (a ∷ others) any = among_step q a others (among q others) (eqb q a.number) refl any

  decides : (q : ℕ) (accounts : List (Account E)) (b : Bool) → list_any (eqb q) (numbers accounts) ≡ b
      → IsNumberOf q accounts ⊎ (list_any (eqb q) (numbers accounts) ≡ false)
  decides q accounts true is = inl (among q accounts is)
  decides q accounts false is = inr is

  apart_step : (q : ℕ) (a : Account E) (others : List (Account E))
      → (list_any (eqb q) (numbers others) ≡ false → AllByRecursion (λ y. eqb q y ≡ false) (numbers others))
      → (b : Bool) → eqb q a.number ≡ b → (b || list_any (eqb q) (numbers others)) ≡ false
      → (eqb q a.number ≡ false) × AllByRecursion (λ y. eqb q y ≡ false) (numbers others)
  apart_step q a others rest true is none = absurd (cc none)
  apart_step q a others rest false is none = (is, rest none)

  none_apart : (q : ℕ) (accounts : List (Account E)) → list_any (eqb q) (numbers accounts) ≡ false
      → AllByRecursion (λ y. eqb q y ≡ false) (numbers accounts)
  none_apart q [] none = tt
  none_apart q (a ∷ others) none = apart_step q a others (none_apart q others) (eqb q a.number) refl none

  one_more : (q : ℕ) (accounts : List (Account E)) → AreDifferent accounts → list_any (eqb q) (numbers accounts) ≡ false
      → IsDistinct eqb (q ∷ numbers accounts)
  unfolding IsDistinct
  one_more q accounts d none = (none_apart q accounts none, distinct accounts d)

  below_one : (q n k : ℕ) (accounts : List (Account E)) → ((k : ℕ) → IsNumberOf k accounts → k < n) → q < n → (b : Bool) → eqb k q ≡ b
      → (b || list_any (eqb k) (numbers accounts)) ≡ true → k < n
  below_one q n k accounts below under true is any = subst (λ (j : ℕ). j < n) (sym (eqb-true k q is)) under
  below_one q n k accounts below under false is any = below k (among k accounts any)

  length_numbers : (accounts : List (Account E)) → length (numbers accounts) ≡ length accounts
  length_numbers [] = refl
  length_numbers (a ∷ others) = ap suc (length_numbers others)

  pub all_numbers : (n : ℕ) (accounts : List (Account E)) → AreDifferent accounts → ((k : ℕ) → IsNumberOf k accounts → k < n)
      → length accounts ≡ n → (q : ℕ) → q < n → IsNumberOf q accounts
  all_numbers n accounts d below count q under = ⊎_elim (λ here. here)
      (λ none.
      let more = one_more q accounts d none in
      let low : (k : ℕ) → list_any (eqb k) (q ∷ numbers accounts) ≡ true → k < n =
      λ k any. below_one q n k accounts below under (eqb k q) refl any in
      let long = length-le_from_distinct_below (q ∷ numbers accounts) n more low in
      let same = length_numbers accounts in
      absurd (omega arith))
      (decides q accounts (list_any (eqb q) (numbers accounts)) refl)
