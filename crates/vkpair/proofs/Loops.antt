-- What a loop over frames keeps.
use Rattle.std.proofs.Common.{◌≡◌, ℕ, ◌+◌, List, [], ◌∷◌, ◌++◌, take, Some, ap, sym, ◌∙◌}
use Rattle.std.specs.Prelude.{slice_get}
use Rattle.std.proofs.lemmas.List.{append_assoc, take_more}
use Rattle.std.proofs.lemmas.Option.{get_or_from_slice_get, slice_get_within}

-- one frame more of those that were gone over
take_get : (xs : List (List ℕ)) (at : ℕ) (x : List ℕ) → slice_get xs at ≡ Some x → take (at + 1) xs ≡ take at xs ++ x ∷ []
take_get xs at x found =
    take_more xs at x (slice_get_within xs at x found)
    ∙ ap (λ (y : List ℕ). take at xs ++ y ∷ []) (get_or_from_slice_get xs at x x found)

-- the wire has one frame more of those that are taken
pub one_more : (before wire xs : List (List ℕ)) (at : ℕ) (x : List ℕ)
    → wire ≡ before ++ take at xs
    → slice_get xs at ≡ Some x
    → wire ++ x ∷ [] ≡ before ++ take (at + 1) xs
one_more before wire xs at x held found =
    ap (λ (ys : List (List ℕ)). ys ++ x ∷ []) held
    ∙ append_assoc before (take at xs) (x ∷ [])
    ∙ ap (λ (ys : List (List ℕ)). before ++ ys) (sym (take_get xs at x found))
