-- A cell and a seat of it, as callers see them.
use Rattle.std.specs.Prelude.{◌≡◌, ℕ, Option, Some, List, [], ◌∷◌, ◌++◌, map}
use mathlib.Core.List.{IsPrefix}
use Rattle.atomic_table.specs.Seated.{TableId}
use Rattle.turn_cell.specs.History.{events_of}

-- its table, the state with which its history began, and how many seats were made
pub record Cell (S : Type 0) : Type 0 where
  pub table : TableId
  pub origin : S
  pub seats : ℕ

-- its cell's table and origin, its number, what it has seen of the history, its own events, and how often it had the turn
pub record Sitting (S E : Type 0) : Type 0 where
  pub table : TableId
  pub origin : Option S
  pub number : ℕ
  pub seen : List (ℕ × E)
  pub mine : List E
  pub turns : ℕ

module _ {S E : Type 0} where
  -- a seat that was just made
  abbrev pub fresh : Cell S → ℕ → Sitting S E
  fresh cell number = record { table = cell.table; origin = Some cell.origin; number = number; seen = []; mine = []; turns = 0 }

  -- it is one of the cell
  abbrev pub IsSeatOf : Cell S → Sitting S E → Type 0
  IsSeatOf cell seat = (seat.table ≡ cell.table) × (seat.origin ≡ Some cell.origin)

  abbrev pub IsSameSeat : Sitting S E → Sitting S E → Type 0
  IsSameSeat old new = (new.table ≡ old.table) × (new.origin ≡ old.origin) × (new.number ≡ old.number)

  abbrev pub numbers_of : List (Sitting S E) → List ℕ
  numbers_of seats = map (λ seat. seat.number) seats

  -- its own events are all that what it has seen has of its number
  abbrev pub IsComplete : Sitting S E → Type 0
  IsComplete seat = events_of seat.number seat.seen ≡ seat.mine

  -- A turn in which it entered the event: `before` is the history at that turn, and begins with what it had seen;
  -- it has now seen that and its own entry behind it. `Gives` holds of `before`
  pub record HasEntered (Gives : List (ℕ × E) → Type 0) (old new : Sitting S E) (e : E) : Type 0 where
    pub before : List (ℕ × E)
    pub later : IsPrefix old.seen before
    pub seen : new.seen ≡ before ++ (old.number, e) ∷ []
    pub mine : new.mine ≡ old.mine ++ e ∷ []
    pub gives : Gives before

  -- a turn in which it entered nothing: what it has now seen begins with what it had seen
  abbrev pub HasLooked : Sitting S E → Sitting S E → Type 0
  HasLooked old new = IsPrefix old.seen new.seen × (new.mine ≡ old.mine)
