-- Internal: no public contract rests on this file. Kernels that have no bytes of spent moves, and what gives such bytes back and forgets
-- exchanges that are over.
use Rattle.std.specs.Prelude.{ℕ, ◌≡◌, ◌≤◌, min, true, [], length, Option, Some, None}
use Rattle.vk_types.specs.Types.{Exchange, Move, Name, Step}
use Rattle.vk_base.specs.declared.step.Step.TheVariants as steps
use Rattle.vk_base.specs.Kernel.{Kernel, name_of, move_of}
use Rattle.v_machine.specs.Moves.{with_exchange}
use Rattle.v_machine.specs.Sends.{given_back}
use Rattle.v_machine.specs.Spent.{is_spent, lean_kernel}

-- the move that was opened last is one of those that were begun, and those that are spent have no bytes
pub record IsLean (e : Exchange) : Type 0 where
  pub within : e.opened ≤ length e.moves
  pub empty : (number : ℕ) (m : Move) → move_of e number ≡ Some m → is_spent e.opened e.done number m ≡ true → m.bytes ≡ []

abbrev pub AreLean : (Name → Option Exchange) → Type 0
AreLean exchanges = (n : Name) (e : Exchange) → exchanges n ≡ Some e → IsLean e

-- two kernels are the same but for such bytes, and for exchanges that are over
abbrev pub IsAlike : Kernel → Kernel → Type 0
IsAlike k l = lean_kernel k ≡ lean_kernel l

-- the number of the move that was opened last, where a step opens another one
abbrev pub opened_in : Option Exchange → ℕ
opened_in None = 0
opened_in (Some e) = e.opened

abbrev pub opened_before : Kernel → Step → ℕ
opened_before k (steps.OpenMove sender number moving) = opened_in (k.exchanges (name_of sender number))
opened_before k s = 0

-- the bytes are given back of the spent moves of this exchange from one number up to another
abbrev pub GivesBackOf : Name → ℕ → ℕ → Kernel → Kernel → Type 0
GivesBackOf name from to k l = (e : Exchange) → k.exchanges name ≡ Some e → l ≡ with_exchange k name (given_back from to e)

-- and that behind a step, before which this one was open: those up to the one that was opened, or the one that was written; behind all
-- others no such byte comes
abbrev pub GivesBack : Step → ℕ → Kernel → Kernel → Type 0
GivesBack (steps.OpenMove sender number moving) before k l = GivesBackOf (name_of sender number) (min before moving) moving k l
GivesBack (steps.Copy sender number moving offset count) before k l = GivesBackOf (name_of sender number) moving moving k l
GivesBack s before k l = AreLean k.exchanges → AreLean l.exchanges
