-- The entries of a history that only clauses read.
use Rattle.std.specs.Prelude.{ℕ, List, [], ◌∷◌, ◌++◌}
use Rattle.turn_cell.specs.declared.past.Growth.{Growth, Start, Then'}

-- by how the history came about
abbrev pub entries_of : {E : Type 0} → Growth E → List (ℕ × E)
entries_of Start = []
entries_of (Then' shape before caller event) = entries_of before ++ (caller, event.value) ∷ []
