-- Internal: no public contract rests on this file. What becomes of one Send of a process, which is an exchange of the kernel.
use Rattle.std.specs.Prelude.{ℕ, ◌+◌, ◌==◌, ◌&&◌, ◌||◌, nat_le, nat_lt, List, [], ◌∷◌, ◌++◌, Option, Some, None, if◌then◌else◌}
use Rattle.vk_types.specs.Types.{Exchange, Message, Move, Pid, Stage}
use Rattle.vk_base.specs.declared.kernel.Stage.TheVariants as stages
use Rattle.vk_base.specs.Kernel.{is_posted, is_at_target}
use Rattle.v_machine.specs.declared.tables.remote.Moving.{Moving}
use Rattle.v_machine.specs.Lists.{change_numbered}
use Rattle.v_machine.specs.Spent.{emptied}

abbrev pub at_stage : Stage → Exchange → Exchange
at_stage stage e = record e { stage = stage }

-- handed on to another process, which is shown this message
abbrev pub handed_on : Message → Pid → Exchange → Exchange
handed_on m to e = record e { at = to; shown = m; stage = stages.Queued }

-- a Send to this host is dropped, where it is neither replied to nor dropped
abbrev pub dropped_to : ℕ → Exchange → Exchange
dropped_to host e = if e.target.host == host && (is_posted e.stage || is_at_target e.stage) then record e { stage = stages.Dropped } else e

-- the Send of a number from low on and below another one is dropped so
abbrev pub dropped_between : ℕ → ℕ → ℕ → ℕ → Exchange → Exchange
dropped_between low high host n e = if nat_le low n && nat_lt n high then dropped_to host e else e

-- the Send of a number has come to a queue of the host, and those before it, from the latest on, are dropped
abbrev pub come_at : ℕ → ℕ → ℕ → ℕ → Exchange → Exchange
come_at latest number host n e = if n == number then record e { stage = stages.Queued } else dropped_between latest number host n e

-- its remote moves with one more
abbrev pub begun_moving : Move → Moving → Moving
begun_moving m g = record g { moves = g.moves ++ m ∷ [] }

abbrev pub with_noted : List ℕ → Move → Move
with_noted bytes m = record m { bytes = bytes }

-- the move of this number has these bytes, where some are given
abbrev pub noted_in : ℕ → Option (List ℕ) → List Move → List Move
noted_in number None ms = ms
noted_in number (Some bytes) ms = change_numbered number (with_noted bytes) ms

-- the first where there are moves, else the second
abbrev pub where_moves : List Move → Moving → Moving → Moving
where_moves [] new old = old
where_moves (m ∷ ms) new old = new

-- where there are moves, the one of this number is the open one, with these bytes, where some are given
abbrev pub opened_moving : ℕ → Option (List ℕ) → Moving → Moving
opened_moving number noted g = where_moves g.moves (record { moves = noted_in number noted g.moves; opened = number; done = 0 }) g

-- so many bytes of the open move were written, where there are moves
abbrev pub written_moving : ℕ → Moving → Moving
written_moving done g = where_moves g.moves (record g { done = done }) g

-- these moves, the first of which has this number, without the bytes of those that are spent, where their numbers are from one number on
-- and below another
abbrev pub emptied_between : (opened done from to number : ℕ) → List Move → List Move
emptied_between opened done from to number [] = []
emptied_between opened done from to number (m ∷ ms) =
    (if nat_le from number && nat_lt number to then emptied opened done number m else m)
    ∷ emptied_between opened done from to (number + 1) ms

-- without the bytes of the moves from one number up to another, which is among them, that are spent
abbrev pub emptied_moving : ℕ → ℕ → Moving → Moving
emptied_moving from to g = record g { moves = emptied_between g.opened g.done from (to + 1) 1 g.moves }

abbrev pub moving_of : Exchange → Moving
moving_of e = record { moves = e.moves; opened = e.opened; done = e.done }

-- the exchange whose remote moves are changed so
abbrev pub with_moves : (Moving → Moving) → Exchange → Exchange
with_moves f e = let g = f (moving_of e) in record e { moves = g.moves; opened = g.opened; done = g.done }

abbrev pub with_begun : Move → Exchange → Exchange
with_begun m = with_moves (begun_moving m)

abbrev pub with_opened : ℕ → Option (List ℕ) → Exchange → Exchange
with_opened number noted = with_moves (opened_moving number noted)

abbrev pub with_written : ℕ → Exchange → Exchange
with_written done = with_moves (written_moving done)

abbrev pub given_back : ℕ → ℕ → Exchange → Exchange
given_back from to = with_moves (emptied_moving from to)
