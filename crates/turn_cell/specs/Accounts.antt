-- What a number knows of a history.
use Rattle.std.specs.Prelude.{◌≡◌, ℕ, ◌⊎◌, List, [], ◌∷◌, ◌++◌}
use mathlib.Core.List.{IsPrefix}
use Rattle.turn_cell.specs.declared.rule.Account.{Account}
use Rattle.turn_cell.specs.History.{events_of}

module _ {E : Type 0} where
  -- what was seen begins the history, and the history has just these events of its number
  abbrev pub IsAccountOf : List (ℕ × E) → Account E → Type 0
  IsAccountOf log a = IsPrefix a.seen log × (events_of a.number log ≡ a.mine)

  abbrev pub AreAccountsOf : List (ℕ × E) → List (Account E) → Type 0
  AreAccountsOf log [] = Unit {0}
  AreAccountsOf log (a ∷ others) = IsAccountOf log a × AreAccountsOf log others

  -- the number of one of them
  abbrev pub IsNumberOf : ℕ → List (Account E) → Type 0
  IsNumberOf k [] = ⊥
  IsNumberOf k (a ∷ others) = (a.number ≡ k) ⊎ IsNumberOf k others

  -- no two of them have one number
  abbrev pub AreDifferent : List (Account E) → Type 0
  AreDifferent [] = Unit {0}
  AreDifferent (a ∷ others) = (¬ IsNumberOf a.number others) × AreDifferent others

  -- the history that was seen, or one with one more event of its number
  abbrev pub IsNext : Account E → List (ℕ × E) → Type 0
  IsNext a log = (log ≡ a.seen) ⊎ ((e : E) × (log ≡ a.seen ++ (a.number, e) ∷ []))
