-- One piece of a text is written after another.
use Rattle.std.proofs.Common.{◌≡◌, ℕ, List, ◌++◌, Result, Ok, Err, OnOk, ap, ◌∙◌, append_assoc}

pub two : {T E : Type 0} (r : Result T E) (old mid new a b : List ℕ) → mid ≡ old ++ a → OnOk r (new ≡ mid ++ b) → OnOk r (new ≡ old ++ (a ++ b))
two (Ok x) old mid new a b first last = last ∙ ap (λ (l : List ℕ). l ++ b) first ∙ append_assoc old a b
two (Err e) old mid new a b first last = tt

pub next_piece : (old mid next a b : List ℕ) → mid ≡ old ++ a → next ≡ mid ++ b → next ≡ old ++ (a ++ b)
next_piece old mid next a b first then_ = then_ ∙ ap (λ (l : List ℕ). l ++ b) first ∙ append_assoc old a b
