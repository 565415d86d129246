-- The last element of a list.
use Rattle.std.proofs.Common.{◌≡◌, List, [], ◌∷◌, ◌++◌, refl, ap}

-- A list is empty, or has a last element.
pub data Ends {A : Type 0} (xs : List A) : Type 0 where
  none : xs ≡ [] → Ends xs
  last : (ys : List A) (y : A) → xs ≡ ys ++ y ∷ [] → Ends xs

ends_more : {A : Type 0} (x : A) (xs : List A) → Ends xs → Ends (x ∷ xs)
ends_more x xs (Ends.none is) = Ends.last [] x (ap (λ zs. x ∷ zs) is)
ends_more x xs (Ends.last ys y is) = Ends.last (x ∷ ys) y (ap (λ zs. x ∷ zs) is)

pub ends : {A : Type 0} (xs : List A) → Ends xs
ends [] = Ends.none refl
ends (x ∷ xs) = ends_more x xs (ends xs)
