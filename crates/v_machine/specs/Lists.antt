-- Internal: no public contract rests on this file. Changes of one element of a list.
use Rattle.std.specs.Prelude.{ℕ, zero, suc, ◌≡◌, ◌<◌, ◌≤◌, List, [], ◌∷◌, slice_get, Some}

-- the element at this place is changed
abbrev pub change_at : {X : Type 0} → ℕ → (X → X) → List X → List X
change_at at f [] = []
change_at zero f (x ∷ xs) = f x ∷ xs
change_at (suc at) f (x ∷ xs) = x ∷ change_at at f xs

-- the element of this number, from 1, is changed
abbrev pub change_numbered : {X : Type 0} → ℕ → (X → X) → List X → List X
change_numbered zero f xs = xs
change_numbered (suc n) f xs = change_at n f xs

-- each element becomes, by what this says of its place, that of the same place
abbrev pub Each : {X : Type 0} → (ℕ → X → X → Type 0) → List X → List X → Type 0
Each {X} Becomes xs ys = (at : ℕ) (x : X) → slice_get xs at ≡ Some x → (y : X) × (slice_get ys at ≡ Some y) × Becomes at x y

-- those below a place become so, and the others stay
abbrev pub Until : {X : Type 0} → ℕ → (ℕ → X → X → Type 0) → ℕ → X → X → Type 0
Until high Becomes at x y = (at < high → Becomes at x y) × (high ≤ at → y ≡ x)
