-- A tick at which a round goes out again: it may, where the seats fit.
use Rattle.std.proofs.Common.{◌≡◌, ℕ, Bool, true, false, cond, List, length, refl, ap, sym, ◌∙◌}
use Rattle.std.proofs.lemmas.Bool.{and_parts}
use Rattle.vk_types.specs.Types.{Activity, Pid, Times, Waiting}
use Rattle.vk_base.specs.declared.activity.Activity.TheVariants as activities
use Rattle.vk_base.specs.declared.activity.Waiting.TheVariants as waitings
use Rattle.vk_base.specs.Activities.{state_of}
use Rattle.vk_base.specs.Kernel.{holds_of, is_moving}
use Rattle.vk_base.specs.Ranges.{range_of, lies_in}
use Rattle.vk_packet.specs.Rules.{is_place}
use Rattle.vk_procs.specs.declared.seat.ProcNote.{ProcNote}
use Rattle.vk_procs.specs.declared.seat.Seat.{Seat}
use Rattle.vk_procs.specs.Seats.{seat_in}
use Rattle.vk_stands.specs.Fit.{is_move_of, is_remote_move, may_go_on, may_wait}
use Rattle.vk_timer.specs.declared.work.Due.{Due}
use Rattle.vk_timer.specs.declared.work.Due.TheVariants as dues
use Rattle.vk_timer.specs.declared.work.Work.{Work}
use Rattle.vk_timer.specs.Works.{due_at, work_at}
use Rattle.vk_move.specs.declared.tick.Ticked.TheVariants as ticks
use Rattle.vk_move.specs.Due.{ticked_at, ticked_by, ticked_in}
use Rattle.vk_move.specs.Moved.{CanGoOn, HasFitSeats, going}
use Rattle.vk_move.proofs.Going.{found_fits, goes_from, goes_to}

-- a move that is under way goes on from where it is
pub goes_still : (d : Activity) (pid : Pid) (size : ℕ) (note : ProcNote) →
    ((w : Waiting) → d ≡ activities.Blocked w → may_wait pid size w ≡ true) →
    ((w : Waiting) → d ≡ activities.Blocked w → may_go_on note w ≡ true) → is_moving (state_of d) ≡ true →
    going size note.offset note.moving d ≡ true
goes_still activities.Ready pid size note waits moves is = cc
goes_still (activities.Done w o) pid size note waits moves is = cc
goes_still (activities.Blocked (waitings.Send target m)) pid size note waits moves is = cc
goes_still (activities.Blocked waitings.Receive) pid size note waits moves is = cc
goes_still (activities.Blocked (waitings.ReceiveSegment start count)) pid size note waits moves is = cc
goes_still (activities.Blocked (waitings.GetPid logical scope)) pid size note waits moves is = cc
goes_still (activities.Blocked (waitings.MoveTo partner dest src count)) pid size note waits moves is =
    let waited = and_parts (is_remote_move pid partner count) (lies_in (range_of src count) size)
    (waits (waitings.MoveTo partner dest src count) refl) in
    let moved = and_parts (holds_of (is_move_of partner) note.moving) (is_place count note.offset)
    (moves (waitings.MoveTo partner dest src count) refl) in
    goes_to note.moving partner size dest src count note.offset moved.0 moved.1 waited.1
goes_still (activities.Blocked (waitings.MoveFrom partner dest src count)) pid size note waits moves is =
    let moved = and_parts (holds_of (is_move_of partner) note.moving) (is_place count note.offset)
    (moves (waitings.MoveFrom partner dest src count) refl) in
    goes_from note.moving partner size dest src count note.offset moved.0 moved.1

from_by : (d : Due) (w : Work) (offset : ℕ) (work : Work) (from : ℕ) → ticked_by d w offset ≡ ticks.Again work from → offset ≡ from
from_by dues.NotDue w offset work from is = cc
from_by dues.GiveUp w offset work from is = cc
from_by dues.Resend w offset work from is = cc

moving_by : (b : Bool) (t : Times) (now : ℕ) (s : Seat) (work : Work) (from : ℕ) →
    cond b (ticked_at t now s) ticks.Nothing ≡ ticks.Again work from → (b ≡ true) × (s.note.offset ≡ from)
moving_by true t now s work from is =
    (refl, from_by (due_at t now s.note.work) (work_at t now s.note.work) s.note.offset work from is)
moving_by false t now s work from is = cc

pub tick_goes_on : (seats : List Seat) (fit : HasFitSeats seats) (pid : Pid) (t : Times) (now : ℕ) (work : Work) (from : ℕ) →
    ticks.Again work from ≡ ticked_in t now (seat_in seats pid) → CanGoOn seats pid from
tick_goes_on seats fit pid t now work from is s found =
    let f = found_fits seats fit pid s found in
    let x = moving_by (is_moving (state_of s.doing)) t now s work from (ap (ticked_in t now) (sym found) ∙ sym is) in
    ap (λ n. going (length s.memory) n s.note.moving s.doing) (sym x.1)
    ∙ goes_still s.doing s.pid (length s.memory) s.note f.waits f.moves x.0
