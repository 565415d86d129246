-- At the mover's station: what its partner's packets do to a move.
use Rattle.std.specs.Prelude.{ℕ, ◌+◌, ◌%◌, Bool, ◌==◌, ◌&&◌, nat_lt, List, [], ◌∷◌, length, Option, Some, None, if◌then◌else◌}
use Rattle.vk_types.specs.Types.{Activity, Ending, Name, Pid, Times}
use Rattle.vk_base.specs.declared.activity.Activity.TheVariants as activities
use Rattle.vk_base.specs.declared.activity.Outcome.TheVariants as outcomes
use Rattle.vk_base.specs.declared.activity.Waiting.TheVariants as waitings
use Rattle.vk_base.specs.declared.answer.Ending.TheVariants as endings
use Rattle.vk_base.specs.declared.answer.Refusal.TheVariants as refusals
use Rattle.vk_base.specs.declared.limits.TheConstants.{DATA_BYTES}
use Rattle.vk_base.specs.declared.step.Step.TheVariants as steps
use Rattle.vk_base.specs.Firsts.{change_first}
use Rattle.vk_base.specs.Kernel.{holds_of}
use Rattle.vk_base.specs.Steps.{is_in_move}
use Rattle.vk_procs.specs.declared.seat.ProcNote.{ProcNote}
use Rattle.vk_procs.specs.declared.seat.Seat.{Seat}
use Rattle.vk_procs.specs.Seats.{finished, is_seat, process_of, seat_in, written}
use Rattle.vk_rules.specs.PacketOutcomes.{copies_bytes}
use Rattle.vk_timer.specs.declared.work.Work.{Work}
use Rattle.vk_timer.specs.Works.{started}
use Rattle.vk_move.specs.declared.moves.Subject.{Subject}
use Rattle.vk_move.specs.declared.mover.Acked.{Acked}
use Rattle.vk_move.specs.declared.mover.Acked.TheVariants as acks
use Rattle.vk_move.specs.declared.mover.Brought.{Brought}
use Rattle.vk_move.specs.declared.mover.Brought.TheVariants as brought
use Rattle.vk_move.specs.Moved.{Moved, answered, change_note, place_in, received, restarted, round_from, still}

-- the process of this seat waits in this move
abbrev pub is_mover : Name → ℕ → Seat → Bool
is_mover name moving s = is_in_move name moving (process_of s)

-- An acknowledgement: of all bytes; of some more than before, from which the move goes on; or of as many as before.
abbrev pub acked_by : ProcNote → ℕ → ℕ → Acked
acked_by note count got =
    if got == count then acks.Ends
    else if nat_lt note.offset got && nat_lt got count && got % DATA_BYTES == 0 then acks.Restarts
    else if got == note.offset then acks.Answers
    else acks.Nothing

abbrev pub acked_doing : Bool → ProcNote → ℕ → Activity → Acked
acked_doing inside note got (activities.Blocked (waitings.MoveTo partner dest src count)) =
    if inside then acked_by note count got else acks.Nothing
acked_doing inside note got d = acks.Nothing

abbrev pub acked_in : Name → ℕ → ℕ → Option Seat → Acked
acked_in name moving got None = acks.Nothing
acked_in name moving got (Some s) = acked_doing (is_mover name moving s) s.note got s.doing

abbrev pub ended_seats : Pid → Ending → List Seat → List Seat
ended_seats pid endings.Ok seats = change_first (is_seat pid) (finished outcomes.Ok) seats
ended_seats pid endings.Gone seats = change_first (is_seat pid) (finished (outcomes.Refused refusals.Gone)) seats
ended_seats pid endings.TimedOut seats = change_first (is_seat pid) (finished (outcomes.Refused refusals.TimedOut)) seats
ended_seats pid endings.NoProcess seats = seats

-- the move is over for its mover
abbrev pub ended : Pid → Ending → List Seat → Moved
ended pid why seats = record { seats = ended_seats pid why seats; steps = steps.End pid why ∷ []; packets = [] }

abbrev pub goes_on : Work → Pid → ℕ → List Seat → Moved
goes_on work pid from seats = record {
  seats = change_note pid (restarted work from) seats;
  steps = [];
  packets = round_from pid from (seat_in seats pid);
}

abbrev pub ack_moved : Times → ℕ → Pid → ℕ → Acked → List Seat → Moved
ack_moved t now pid got acks.Nothing seats = still seats
ack_moved t now pid got acks.Answers seats = record { seats = change_note pid (answered t now) seats; steps = []; packets = [] }
ack_moved t now pid got acks.Restarts seats = goes_on (started t now) pid got seats
ack_moved t now pid got acks.Ends seats = ended pid endings.Ok seats

abbrev pub ack_taken : Times → ℕ → Subject → ℕ → List Seat → Moved
ack_taken t now m got seats = ack_moved t now m.mover got (acked_in m.name.exchange m.name.number got (seat_in seats m.mover)) seats

-- Bytes that come: the next ones, which may be the last; or the last behind a gap, where the move goes on from the gap if some
-- came since the last round.
abbrev pub brought_by : ProcNote → ℕ → ℕ → ℕ → ℕ → Brought
brought_by note dest total offset end =
    if offset == note.offset then brought.Next dest (end == total)
    else if nat_lt note.offset offset && end == total then (if note.fresh then brought.Restarts note.offset else brought.Answers)
    else brought.Nothing

abbrev pub brought_doing : Bool → ProcNote → ℕ → ℕ → ℕ → Activity → Brought
brought_doing inside note total offset end (activities.Blocked (waitings.MoveFrom partner dest src count)) =
    if inside && count == total then brought_by note dest total offset end else brought.Nothing
brought_doing inside note total offset end d = brought.Nothing

abbrev pub brought_in : Name → ℕ → ℕ → ℕ → ℕ → Option Seat → Brought
brought_in name moving total offset end None = brought.Nothing
brought_in name moving total offset end (Some s) = brought_doing (is_mover name moving s) s.note total offset end s.doing

abbrev pub piece_written : Pid → ℕ → ℕ → List ℕ → List Seat → List Seat
piece_written pid dest offset bytes seats = change_first (is_seat pid) (written (place_in dest offset) bytes) seats

abbrev pub bytes_moved : Times → ℕ → Pid → Name → ℕ → ℕ → List ℕ → Brought → List Seat → Moved
bytes_moved t now pid name moving offset bytes brought.Nothing seats = still seats
bytes_moved t now pid name moving offset bytes brought.Answers seats =
    record { seats = change_note pid (answered t now) seats; steps = []; packets = [] }
bytes_moved t now pid name moving offset bytes (brought.Restarts from) seats = goes_on (started t now) pid from seats
bytes_moved t now pid name moving offset bytes (brought.Next dest last) seats = record {
  seats =
      if last then ended_seats pid endings.Ok (piece_written pid dest offset bytes seats)
      else change_note pid (received t now (offset + length bytes)) (piece_written pid dest offset bytes seats);
  steps = copies_bytes name moving offset bytes ∷ (if last then steps.End pid endings.Ok ∷ [] else []);
  packets = [];
}

abbrev pub bytes_taken : Times → ℕ → Subject → (total offset : ℕ) (bytes : List ℕ) → List Seat → Moved
bytes_taken t now m total offset bytes seats =
    bytes_moved t now m.mover m.name.exchange m.name.number offset bytes
    (brought_in m.name.exchange m.name.number total offset (offset + length bytes) (seat_in seats m.mover)) seats

-- The partner no longer waits.
abbrev pub gone_taken : Subject → List Seat → Moved
gone_taken m seats =
    if holds_of (is_mover m.name.exchange m.name.number) (seat_in seats m.mover) then ended m.mover endings.Gone seats
    else still seats
