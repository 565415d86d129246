-- What a tick finds of the move that a process waits in.
use Rattle.std.specs.Prelude.{ℕ, ◌≡◌, ◌++◌, Bool, true, List, option_to_list, Option, Some, None, if◌then◌else◌}
use Rattle.vk_types.specs.Types.{Pid, Step, Times}
use Rattle.vk_base.specs.declared.answer.Ending.TheVariants as endings
use Rattle.vk_base.specs.Activities.{state_of}
use Rattle.vk_base.specs.Kernel.{holds_of, is_moving}
use Rattle.vk_packet.specs.Posts.{Posts}
use Rattle.vk_procs.specs.declared.seat.Seat.{Seat}
use Rattle.vk_procs.specs.Seats.{seat_in}
use Rattle.vk_rules.specs.CallOutcomes.{failed, sent_again}
use Rattle.vk_rules.specs.Readings.{Reading}
use Rattle.vk_stands.specs.Fit.{AreFit}
use Rattle.vk_stands.specs.Rules.{posted}
use Rattle.vk_stands.specs.Stands.{Stands}
use Rattle.vk_stands.specs.Tables.{Tables}
use Rattle.vk_timer.specs.declared.work.Due.{Due}
use Rattle.vk_timer.specs.declared.work.Due.TheVariants as dues
use Rattle.vk_timer.specs.declared.work.Work.{Work}
use Rattle.vk_timer.specs.Works.{due_at, work_at}
use Rattle.vk_move.specs.declared.tick.Ticked.{Ticked}
use Rattle.vk_move.specs.declared.tick.Ticked.TheVariants as ticks
use Rattle.vk_move.specs.Fitting.{KeepsFit}
use Rattle.vk_move.specs.Moved.{Moved, still}
use Rattle.vk_move.specs.Mover.{ended, goes_on}

abbrev pub ticked_by : Due → Work → ℕ → Ticked
ticked_by dues.NotDue work from = ticks.Nothing
ticked_by dues.GiveUp work from = ticks.Ends
ticked_by dues.Resend work from = ticks.Again work from

abbrev pub ticked_at : Times → ℕ → Seat → Ticked
ticked_at t now s = ticked_by (due_at t now s.note.work) (work_at t now s.note.work) s.note.offset

abbrev pub ticked_in : Times → ℕ → Option Seat → Ticked
ticked_in t now None = ticks.Nothing
ticked_in t now (Some s) = if is_moving (state_of s.doing) then ticked_at t now s else ticks.Nothing

abbrev pub tick_moved : Times → ℕ → Pid → Ticked → List Seat → Moved
tick_moved t now pid ticks.Nothing seats = still seats
tick_moved t now pid ticks.Ends seats = ended pid endings.TimedOut seats
tick_moved t now pid (ticks.Again work from) seats = goes_on work pid from seats

-- of one process: its seat alone changes
abbrev pub due_moved : Times → ℕ → Pid → List Seat → Moved
due_moved t now pid seats = tick_moved t now pid (ticked_in t now (seat_in seats pid)) seats

-- What a tick does to a process that waits in a move is right: for every reading that the tables stand for, the step by which its work
-- fails then, if it does, and the packets that go out again.
abbrev pub waits_in_move : List Seat → Pid → Bool
waits_in_move seats pid = holds_of (λ (s : Seat). is_moving (state_of s.doing)) (seat_in seats pid)

pub record IsRightDue (now : ℕ) (pid : Pid) (t : Times) (r : Reading) (m : Moved) : Type 0 where
  pub steps : m.steps ≡ option_to_list (failed t now r pid)
  pub packets : m.packets ≡ sent_again t now r pid

abbrev pub IsDueRule : Times → ℕ → Pid → List Seat → Type 0
IsDueRule times now pid seats =
    (host : ℕ) (t : Tables) (r : Reading) → pid.host ≡ host → waits_in_move seats pid ≡ true → AreFit host (record t { seats = seats }) →
    Stands times host (record t { seats = seats }) r → IsRightDue now pid times r (due_moved times now pid seats)

-- What comes of a tick: the processes, steps and packets, which fit as before, and that they are right.
pub record IsDue (times : Times) (now : ℕ) (pid : Pid) (old new : List Seat) (before after : List Step) (sent out : Posts) : Type 0 where
  pub seats : new ≡ (due_moved times now pid old).seats
  pub steps : after ≡ before ++ (due_moved times now pid old).steps
  pub packets : out ≡ posted sent (due_moved times now pid old).packets
  pub fit : KeepsFit old new
  pub right : IsDueRule times now pid old
