-- What was entered at a cell: a list of events, each with the number of the seat that entered it.
use Rattle.std.specs.Prelude.{ℕ, ◌==◌, List, [], ◌∷◌, cond}

module _ {E : Type 0} where
  -- the events of one number, in order
  abbrev pub events_of : ℕ → List (ℕ × E) → List E
  events_of n [] = []
  events_of n (x ∷ xs) = cond (x.0 == n) (x.1 ∷ events_of n xs) (events_of n xs)
