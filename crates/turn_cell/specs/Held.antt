-- What a seat has in its hands: nothing between two calls, the state in a turn.
use Rattle.std.specs.Prelude.{◌≡◌, ℕ, ◌+◌, ◌*◌, ◌<◌, length, true, false, Some, List, [], ◌∷◌}
use mathlib.Core.List.{IsPrefix}
use Rattle.atomic_table.specs.Table.{Me}
use Rattle.atomic_table.specs.Seated.{TableId}
use Rattle.turn_cell.specs.History.{events_of}
use Rattle.turn_cell.specs.Seats.{Sitting}
use Rattle.turn_cell.specs.Standings.{in_turn}
use Rattle.turn_cell.specs.declared.rule.Account.{Account}
use Rattle.turn_cell.specs.declared.rule.Standing.{Standing}

module _ {S E : Type 0} where
  -- a seat at this table, as callers see it
  abbrev pub sitting : TableId → ℕ → Me S (Standing S E) → Sitting S E
  sitting table number m = record {
    table = table;
    origin = m.0.origin;
    number = number;
    seen = m.0.account.seen;
    mine = m.0.account.mine;
    turns = m.0.account.turns;
  }

  abbrev pub account_of : Sitting S E → Account E
  account_of seat = record { number = seat.number; seen = seat.seen; mine = seat.mine; turns = seat.turns }

  -- its own events are all that what it has seen has of its number
  abbrev pub KnowsMine : Me S (Standing S E) → Type 0
  KnowsMine m = events_of m.0.account.number m.0.account.seen ≡ m.0.account.mine

  -- between two calls it has its one number, and neither turn nor state
  abbrev pub IsIdle : ℕ → Me S (Standing S E) → Type 0
  IsIdle number m =
      (m.0.account.number ≡ number) × (m.0.limit ≡ number + 1) × (m.0.holds ≡ false) × (m.0.ended ≡ []) × (m.1 ≡ []) × KnowsMine m

  -- it has a number, and neither turn nor state
  abbrev pub IsWhole : Me S (Standing S E) → Type 0
  IsWhole m = (m.0.account.number < m.0.limit) × (m.0.holds ≡ false) × (m.1 ≡ [])

  -- it has the state, of which this holds
  abbrev pub HasState : Me S (Standing S E) → (S → Type 0) → Type 0
  HasState m P = (x : S) × (m.1 ≡ (0, x) ∷ []) × P x

  -- this holds of the state that it has, if any
  abbrev pub OnState : Me S (Standing S E) → (S → Type 0) → Type 0
  OnState m P = (x : S) → m.1 ≡ (0, x) ∷ [] → P x

  -- it began a turn, and has seen the history so far, which begins with what it had seen
  abbrev pub Began : Me S (Standing S E) → Me S (Standing S E) → Type 0
  Began m n = (n.0 ≡ in_turn m.0 n.0.account.seen) × IsPrefix m.0.account.seen n.0.account.seen

module _ {S E : Type 0} (history : S → List (ℕ × E)) (origin : S → S) where
  -- the seat of a cell that began with `start` has the turn, has seen the history so far, and half the word is its length
  pub record HasTurn (start : S) (m : Me S (Standing S E)) (found : ℕ) : Type 0 where
    pub state : S
    pub has : m.1 ≡ (0, state) ∷ []
    pub same : origin state ≡ start
    pub of_it : m.0.origin ≡ Some start
    pub some_number : m.0.account.number < m.0.limit
    pub holds : m.0.holds ≡ true
    pub alone : m.0.ended ≡ []
    pub seen : m.0.account.seen ≡ history state
    pub mine : events_of m.0.account.number (history state) ≡ m.0.account.mine
    pub word : found ≡ 2 * length (history state)
