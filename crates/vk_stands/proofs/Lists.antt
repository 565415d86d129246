-- Searches and maps of lists.
use Rattle.std.proofs.Common.{◌≡◌, ◌≢◌, ℕ, zero, suc, ◌<◌, Bool, true, false, cond, List, [], ◌∷◌, length, map, get_or, set, refl, ap, arith, Option, Some, ◌∙◌}
use Rattle.std.specs.List.{find, position}
use Rattle.std.specs.Option.{option_map}
use Rattle.std.proofs.lemmas.List.Quantifiers.{position-Some}

module _ {X : Type 0} (p : X → Bool) where
  find_at : (xs : List X) (i : ℕ) (d : X) → i < length xs → p (get_or xs i d) ≡ true → ((k : ℕ) → k < i → p (get_or xs k d) ≡ false) →
      find p xs ≡ Some (get_or xs i d)
  find_at [] i d lt here before = absurd (omega arith)
  find_at (x ∷ xs) zero d lt here before = ap (λ b. cond b (Some x) (find p xs)) here
  find_at (x ∷ xs) (suc i) d lt here before =
      let first : p x ≡ false = before 0 (omega arith) in
      ap (λ b. cond b (Some x) (find p xs)) first ∙ find_at xs i d (omega arith) here (λ k lt. before (suc k) (omega arith))

  -- what is found stands at the place of the first that passes
  pub find-position : (xs : List X) (i : ℕ) (d : X) → position p xs ≡ Some i → find p xs ≡ Some (get_or xs i d)
  find-position xs i d at = let facts = position-Some p xs i d at in find_at xs i d facts.0 facts.1 facts.2

module _ {A B : Type 0} (p : B → Bool) (q : A → Bool) (f : A → B) (same : (x : A) → p (f x) ≡ q x) where
  found_by : (x : A) (rest : Option B) (others : Option A) (b : Bool) → rest ≡ option_map f others →
      cond b (Some (f x)) rest ≡ option_map f (cond b (Some x) others)
  found_by x rest others true is = refl
  found_by x rest others false is = is

  pub find-mapped : (xs : List A) → find p (map f xs) ≡ option_map f (find q xs)
  find-mapped [] = refl
  find-mapped (x ∷ xs) = ap (λ b. cond b (Some (f x)) (find p (map f xs))) (same x)
      ∙ found_by x (find p (map f xs)) (find q xs) (q x) (find-mapped xs)

module _ {A B : Type 0} (f g : A → B) where
  -- maps that agree on each element
  pub map_agree : (xs : List A) (d : A) → ((i : ℕ) → i < length xs → f (get_or xs i d) ≡ g (get_or xs i d)) → map f xs ≡ map g xs
  map_agree [] d same = refl
  map_agree (x ∷ xs) d same =
      let first : f x ≡ g x = same 0 (omega arith) in
      ap (λ y. y ∷ map f xs) first ∙ ap (λ ys. g x ∷ ys) (map_agree xs d (λ i lt. same (suc i) (omega arith)))

  -- maps that agree on each element but one
  pub map_but : (xs : List A) (p : ℕ) (d : A) (v : B) → p < length xs →
      ((i : ℕ) → i < length xs → i ≢ p → f (get_or xs i d) ≡ g (get_or xs i d)) → f (get_or xs p d) ≡ v → map f xs ≡ set (map g xs) p v
  map_but [] p d v lt same here = absurd (omega arith)
  map_but (x ∷ xs) zero d v lt same here =
      let rest : map f xs ≡ map g xs = map_agree xs d (λ i l. same (suc i) (omega arith) (omega arith)) in
      ap (λ y. y ∷ map f xs) here ∙ ap (λ ys. v ∷ ys) rest
  map_but (x ∷ xs) (suc p) d v lt same here =
      let first : f x ≡ g x = same 0 (omega arith) (omega arith) in
      let rest : map f xs ≡ set (map g xs) p v = map_but xs p d v (omega arith)
      (λ i l ne. same (suc i) (omega arith) (λ e. ne (omega (arith, e)))) here in
      ap (λ y. y ∷ map f xs) first ∙ ap (λ ys. g x ∷ ys) rest
