-- What two appends leave.
use Rattle.std.proofs.Common.{◌≡◌, ℕ, List, ◌++◌, ap, ◌∙◌, append_assoc}

pub appended : (old x y a b mid new : List ℕ) → mid ≡ old ++ x → new ≡ mid ++ y → x ≡ a → y ≡ b → new ≡ old ++ (a ++ b)
appended old x y a b mid new m n p q = n ∙ ap (λ (l : List ℕ). l ++ y) (m ∙ ap (λ (l : List ℕ). old ++ l) p) ∙ append_assoc old a y
    ∙ ap (λ (l : List ℕ). old ++ (a ++ l)) q
