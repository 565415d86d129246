-- n different numbers below n are all of them, in some order.
use Rattle.std.proofs.Common.{◌≡◌, ℕ, zero, suc, ◌+◌, ◌<◌, List, [], ◌∷◌, ◌++◌, length, get_or, refl, sym, ap, ◌∙◌, subst, arith, Bool, true, false, eqb, eqb-true, eq-eqb, ne_eqb, ◌||◌, map-id}
use Rattle.std.specs.List.{IsDistinct, AllByRecursion, list_any, range_with_len, remove}
use Rattle.std.specs.List.Sorted.{IsPermutation}
use Rattle.std.proofs.lemmas.List.Elements.{All-from_recursion, recursion_from_All}
use Rattle.std.proofs.lemmas.List.FromFn.{map-range_with_len_more}
use Rattle.std.proofs.lemmas.List.Sorted.{All-permutation, IsPermutation-cons, IsPermutation-refl, IsPermutation-remove, IsPermutation-sym, IsPermutation-to_front, IsPermutation-trans, length_permutation}
use Rattle.std.proofs.lemmas.Map.Keys.{IsDistinct-IsPermutation, IsDistinct-head, IsDistinct-tail}
use Rattle.std.proofs.lemmas.Map.Steps.{length-le_from_distinct_below}

flipped : (x y : ℕ) (a b : Bool) → eqb x y ≡ a → eqb y x ≡ b → a ≡ b
flipped x y true true p q = refl
flipped x y false false p q = refl
flipped x y true false p q = sym (eq-eqb y x (sym (eqb-true x y p))) ∙ q
flipped x y false true p q = sym p ∙ eq-eqb x y (sym (eqb-true y x q))

flips : (x y : ℕ) → eqb x y ≡ eqb y x
flips x y = flipped x y (eqb x y) (eqb y x) refl refl

-- where a number stands
abbrev Place : ℕ → List ℕ → Type 0
Place n xs = (i : ℕ) × (i < length xs) × (n ≡ get_or xs i n)

place_by : (n x : ℕ) (xs : List ℕ) → (list_any (eqb n) xs ≡ true → Place n xs) → (b : Bool) → eqb n x ≡ b → b || list_any (eqb n) xs ≡ true
    → Place n (x ∷ xs)
place_by n x xs rest true is any = (0, omega arith, eqb-true n x is)
place_by n x xs rest false is any = let p = rest any in (suc p.0, (let under = p.1 in omega arith), p.2)

place_of : (n : ℕ) (xs : List ℕ) → list_any (eqb n) xs ≡ true → Place n xs
place_of n [] any = absurd (cc any)
place_of n (x ∷ xs) any = place_by n x xs (place_of n xs) (eqb n x) refl any

below_by : (n q x : ℕ) (xs : List ℕ) → x < n → (list_any (eqb q) xs ≡ true → q < n) → (b : Bool) → eqb q x ≡ b
    → b || list_any (eqb q) xs ≡ true → q < n
below_by n q x xs under rest true is any = subst (λ (j : ℕ). j < n) (sym (eqb-true q x is)) under
below_by n q x xs under rest false is any = rest any

below : (n : ℕ) (xs : List ℕ) → AllByRecursion (λ k. k < n) xs → (q : ℕ) → list_any (eqb q) xs ≡ true → q < n
below n [] low q any = absurd (cc any)
below n (x ∷ xs) low q any = below_by n q x xs low.0 (below n xs low.1 q) (eqb q x) refl any

other_by : (n x : ℕ) → x < suc n → eqb n x ≡ false → x < n
other_by n x under differ = grind (arith, ne_eqb)

-- without the greatest
lower : (n : ℕ) (xs : List ℕ) → AllByRecursion (λ k. k < suc n) xs → AllByRecursion (λ y. eqb n y ≡ false) xs → AllByRecursion (λ k. k < n) xs
lower n [] low differ = tt
lower n (x ∷ xs) low differ = (other_by n x low.0 differ.0, lower n xs low.1 differ.1)

apart_by : (q x : ℕ) (xs : List ℕ) → (list_any (eqb q) xs ≡ false → AllByRecursion (λ y. eqb q y ≡ false) xs) → (b : Bool) → eqb q x ≡ b
    → b || list_any (eqb q) xs ≡ false → (eqb q x ≡ false) × AllByRecursion (λ y. eqb q y ≡ false) xs
apart_by q x xs rest true is none = absurd (cc none)
apart_by q x xs rest false is none = (is, rest none)

apart : (q : ℕ) (xs : List ℕ) → list_any (eqb q) xs ≡ false → AllByRecursion (λ y. eqb q y ≡ false) xs
apart q [] none = tt
apart q (x ∷ xs) none = apart_by q x xs (apart q xs) (eqb q x) refl none

there_by : (n : ℕ) (xs : List ℕ) → IsDistinct eqb xs → AllByRecursion (λ k. k < suc n) xs → length xs ≡ suc n → (b : Bool)
    → list_any (eqb n) xs ≡ b → list_any (eqb n) xs ≡ true
there_by n xs once low count true is = is
there_by n xs once low count false is =
    let long = length-le_from_distinct_below xs n once (below n xs (lower n xs low (apart n xs is))) in absurd (omega arith)

range_more : (n : ℕ) → range_with_len 0 (suc n) ≡ range_with_len 0 n ++ n ∷ []
range_more n =
    let more : suc n ≡ n + 1 = omega arith in
    ap (range_with_len 0) more ∙ sym (map-id (range_with_len 0 (n + 1)))
    ∙ (map-range_with_len_more (λ x. x) 0 n n (omega arith) ∙ ap (λ l. l ++ n ∷ []) (map-id (range_with_len 0 n)))

pub all_in_some_order : (n : ℕ) (xs : List ℕ) → IsDistinct eqb xs → AllByRecursion (λ k. k < n) xs → length xs ≡ n
    → IsPermutation xs (range_with_len 0 n)
all_in_some_order zero [] once low count = IsPermutation-refl []
all_in_some_order zero (x ∷ xs) once low count = absurd (omega arith)
all_in_some_order (suc n) xs once low count =
    let place = place_of n xs (there_by n xs once low count (list_any (eqb n) xs) refl) in
    let others : List ℕ = remove xs place.0 in
    let moved = IsPermutation-remove xs place.0 n place.1 place.2 in
    let apart_now = IsDistinct-IsPermutation eqb flips xs (n ∷ others) moved once in
    let low_now = recursion_from_All (λ k. k < suc n) (n ∷ others)
    (All-permutation (λ k. k < suc n) xs (n ∷ others) moved (All-from_recursion (λ k. k < suc n) xs low)) in
    let rest = all_in_some_order n others (IsDistinct-tail eqb n others apart_now)
    (lower n others low_now.1 (IsDistinct-head eqb n others apart_now)) (let same = length_permutation xs (n ∷ others) moved in omega arith) in
    let front = IsPermutation-cons n others (range_with_len 0 n) rest in
    let back = IsPermutation-sym (range_with_len 0 n ++ n ∷ []) (n ∷ range_with_len 0 n) (IsPermutation-to_front (range_with_len 0 n) n) in
    subst (IsPermutation xs) (sym (range_more n))
    (IsPermutation-trans xs (n ∷ others) (range_with_len 0 n ++ n ∷ []) moved
    (IsPermutation-trans (n ∷ others) (n ∷ range_with_len 0 n) (range_with_len 0 n ++ n ∷ []) front back))
