-- A front that is written over the first bytes of those that count.
use Rattle.std.proofs.Common.{◌≡◌, ◌≤◌, ◌+◌, ◌-◌, ℕ, List, ◌++◌, length, take, drop, sym, ap, ◌∙◌, arith}
use Rattle.std.proofs.Math.Seq.{take-append-add}
use Rattle.std.proofs.lemmas.List.{drop-take, length-append, length-drop, length-take}

pub over : (size len : ℕ) (front bytes : List ℕ) → length front ≡ size → size ≤ len →
    take len (front ++ drop size bytes) ≡ front ++ drop size (take len bytes)
over size len front bytes is low =
    let rest : ℕ = len - size in
    let sum : len ≡ length front + rest = omega arith in
    let all : size + rest ≡ len = omega arith in
    ap (λ n. take n (front ++ drop size bytes)) sum ∙ take-append-add front (drop size bytes) rest
    ∙ ap (λ l. front ++ l) (sym (drop-take size rest bytes) ∙ ap (λ n. drop size (take n bytes)) all)

pub over_size : (size len : ℕ) (front bytes : List ℕ) → length front ≡ size → length bytes ≡ len → size ≤ len →
    length (front ++ drop size bytes) ≡ len
over_size size len front bytes is all low = omega (arith, length-append front (drop size bytes), length-drop size bytes)

pub within : (size len : ℕ) (bytes now : List ℕ) → size ≤ length now → take len bytes ≡ now → size ≤ len
within size len bytes now low is =
    let same : length (take len bytes) ≡ length now = ap length is in
    omega (arith, length-take len bytes)
