-- What is copied from two lists, one behind the other.
use Rattle.std.proofs.Common.{◌≡◌, ℕ, zero, suc, ◌+◌, List, [], ◌∷◌, ◌++◌, length, take, ap, arith}

-- more than the first list has
pub take_past : {X : Type 0} (xs ys : List X) (more n : ℕ) → n ≡ length xs + more → take n (xs ++ ys) ≡ xs ++ take more ys
take_past [] ys more n e = let same : n ≡ more = omega (arith, e) in ap (λ (k : ℕ). take k ys) same
take_past (x ∷ xs) ys more zero e = absurd (omega (arith, e))
take_past {X} (x ∷ xs) ys more (suc n) e =
    let same : n ≡ length xs + more = omega (arith, e) in ap (λ (l : List X). x ∷ l) (take_past xs ys more n same)
