-- The rule of a cell's table. Its one word is twice the length of the history, and one more while a seat has the turn.
-- Its one slot has the state, and is out with the seat that has the turn.
use Rattle.std.specs.Prelude.{◌≡◌, ◌≢◌, ℕ, ◌+◌, ◌*◌, ◌<◌, ◌≤◌, true, false, Some, List, [], ◌∷◌, length}
use mathlib.Core.Option.{some, none}
use mathlib.Core.List.{IsPrefix}
use lib.ListN.{get_elem?}
use Rattle.atomic_table.specs.Table.{State, Me, Step}
use Rattle.turn_cell.specs.Accounts.{IsNext}
use Rattle.turn_cell.specs.History.{events_of}
use Rattle.turn_cell.specs.Standings.{Owns, Knows, in_turn, after_turn}
use Rattle.turn_cell.specs.declared.rule.Standing.{Standing}

-- who has the turn: nobody, and the slot has this state; or this seat
pub data Turn (S : Type 0) : Type 0 where
  free : S → Turn S
  taken : ℕ → Turn S

abbrev pub bit : {S : Type 0} → Turn S → ℕ
bit (free x) = 0
bit (taken seat) = 1

module _ {S E : Type 0} where
  -- the seat h has the turn, it alone, and has seen the whole history
  pub record IsTaken (log : List (ℕ × E)) (s : State S (Standing S E)) (h : ℕ) : Type 0 where
    pub out : s.homes ≡ none ∷ []
    pub holder : Standing S E
    pub there : get_elem? s.views h ≡ some holder
    pub holds : holder.holds ≡ true
    pub some_number : holder.account.number < holder.limit
    pub seen : holder.account.seen ≡ log
    pub alone : (i : ℕ) (v : Standing S E) → get_elem? s.views i ≡ some v → v.holds ≡ true → i ≡ h

module _ {S E : Type 0} (history : S → List (ℕ × E)) (origin : S → S) where
  -- nobody has the turn, and the state that the slot has is that of the history
  pub record IsFree (start : S) (log : List (ℕ × E)) (s : State S (Standing S E)) (x : S) : Type 0 where
    pub home : s.homes ≡ some x ∷ []
    pub history_is : history x ≡ log
    pub origin_is : origin x ≡ start
    pub nobody : (i : ℕ) (v : Standing S E) → get_elem? s.views i ≡ some v → v.holds ≡ false

  abbrev pub IsPlaced : S → List (ℕ × E) → State S (Standing S E) → Turn S → Type 0
  IsPlaced start log s (free x) = IsFree start log s x
  IsPlaced start log s (taken h) = IsTaken log s h

  -- There is one history. All that seats know is true of it, no number belongs to two seats, and no number but theirs has entered anything
  pub record Kept (start : S) (seats : ℕ) (s : State S (Standing S E)) : Type 0 where
    pub log : List (ℕ × E)
    pub turn : Turn S
    pub word : s.words ≡ (2 * length log + bit turn) ∷ []
    pub placed : IsPlaced start log s turn
    pub each : (i : ℕ) (v : Standing S E) → get_elem? s.views i ≡ some v → Knows start seats log v
    pub apart : (i j k : ℕ) (v w : Standing S E) → get_elem? s.views i ≡ some v → get_elem? s.views j ≡ some w → Owns v k → Owns w k → i ≡ j
    pub known : (k : ℕ) → seats ≤ k → events_of k log ≡ []

  -- The seat took the turn, with a state whose history has half the word as its length. That begins with what the seat had seen,
  -- and has just the seat's own events of its number
  pub record Took (m : Me S (Standing S E)) (found : ℕ) (n : Me S (Standing S E)) : Type 0 where
    pub state : S
    pub has : n.1 ≡ (0, state) ∷ []
    pub seat : n.0 ≡ in_turn m.0 (history state)
    pub same : m.0.origin ≡ Some (origin state)
    pub word : found ≡ 2 * length (history state)
    pub seen : IsPrefix m.0.account.seen (history state)
    pub mine : events_of m.0.account.number (history state) ≡ m.0.account.mine

  -- what a try to take the turn tells: it was taken where the word was the one expected, else nothing changed
  abbrev pub takes_turn : Step S → Me S (Standing S E) → ℕ → Me S (Standing S E) → Type 0
  takes_turn step m found n = (found ≡ step.first → Took m found n) × (found ≢ step.first → n ≡ m)

  -- the seat has the turn and the state, whose history is what it has seen or has one more event of its own
  pub record Returns (m : Me S (Standing S E)) (x : S) : Type 0 where
    pub has : m.1 ≡ (0, x) ∷ []
    pub of_it : m.0.origin ≡ Some (origin x)
    pub some_number : m.0.account.number < m.0.limit
    pub holds : m.0.holds ≡ true
    pub alone : m.0.ended ≡ []
    pub next : IsNext m.0.account (history x)

module _ {S E : Type 0} (history : S → List (ℕ × E)) where
  -- what giving the turn back tells
  abbrev pub gives_turn : Step S → Me S (Standing S E) → ℕ → Me S (Standing S E) → Type 0
  gives_turn step m found n = (x : S) → m.1 ≡ (0, x) ∷ [] → n ≡ (after_turn m.0 (history x), [])

-- the seat of a cell that began with this state has no turn, and may take it
pub record Waits {S E : Type 0} (origin : S) (m : Me S (Standing S E)) : Type 0 where
  pub of_it : m.0.origin ≡ Some origin
  pub some_number : m.0.account.number < m.0.limit
  pub idle : m.0.holds ≡ false
  pub alone : m.0.ended ≡ []
  pub empty : m.1 ≡ []
