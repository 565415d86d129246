-- The rules of moves between stations keep whose processes a station has, in their order.
use Rattle.std.proofs.Common.{◌≡◌, ◌==◌, ℕ, ◌+◌, Bool, true, false, cond, List, length, Option, Some, None, refl, ◌∙◌}
use Rattle.std.specs.List.{position}
use Rattle.vk_types.specs.Types.{Call, Ending, MoveName, Name, Pid, Times, Waiting}
use Rattle.vk_base.specs.declared.activity.Activity.TheVariants as activities
use Rattle.vk_base.specs.declared.activity.Outcome.TheVariants as outcomes
use Rattle.vk_base.specs.declared.activity.Waiting.TheVariants as waitings
use Rattle.vk_base.specs.declared.answer.Ending.TheVariants as endings
use Rattle.vk_base.specs.declared.answer.Refusal.TheVariants as refusals
use Rattle.vk_base.specs.declared.call.Call.TheVariants as calls
use Rattle.vk_base.specs.declared.kernel.Direction.TheVariants as directions
use Rattle.vk_base.specs.Firsts.{change_first}
use Rattle.vk_base.specs.Kernel.{holds_of, name_of}
use Rattle.vk_base.specs.Packets.{Packet, MoveData, MoveAck, MoveRequest, MoveBytes, MoveNegative}
use Rattle.vk_pool.specs.declared.alien.Alien.{Alien}
use Rattle.vk_pool.specs.Aliens.{is_alien_from}
use Rattle.vk_procs.specs.declared.seat.ProcNote.{ProcNote}
use Rattle.vk_procs.specs.declared.seat.Seat.{Seat}
use Rattle.vk_procs.specs.Seats.{doing_now, finished, is_seat, pids, seat_in, written}
use Rattle.vk_procs.proofs.PidsStay.{pids_changed, pids_if}
use Rattle.vk_move.specs.declared.begun.Verdict.{Verdict}
use Rattle.vk_move.specs.declared.begun.Verdict.TheVariants as verdicts
use Rattle.vk_move.specs.declared.mover.Acked.{Acked}
use Rattle.vk_move.specs.declared.mover.Acked.TheVariants as acks
use Rattle.vk_move.specs.declared.mover.Brought.{Brought}
use Rattle.vk_move.specs.declared.mover.Brought.TheVariants as brought
use Rattle.vk_move.specs.declared.sender.Demand.{Demand}
use Rattle.vk_move.specs.declared.sender.Demand.TheVariants as demands
use Rattle.vk_move.specs.Begun.{begun_by, begun_note, begun_seats, move_begun, next_name, verdict_in}
use Rattle.vk_timer.specs.Works.{started}
use Rattle.vk_move.specs.Moved.{Moved, answered, change_note, place_in, progressed, received, renoted, restarted, still}
use Rattle.vk_move.specs.Mover.{ack_moved, acked_in, brought_in, bytes_moved, ended, ended_seats, is_mover, piece_written}
use Rattle.vk_move.specs.Sender.{bytes_wanted, data_moved, data_wanted, done_after, request_moved, sender_by, written_if_next}
use Rattle.vk_move.specs.Taken.{packet_taken}

pids_noted : (pid : Pid) (f : ProcNote → ProcNote) (seats : List Seat) → pids (change_note pid f seats) ≡ pids seats
pids_noted pid f seats = pids_changed (renoted f) (λ s. refl) (is_seat pid) seats

pids_ended : (pid : Pid) (why : Ending) (seats : List Seat) → pids (ended_seats pid why seats) ≡ pids seats
pids_ended pid endings.Ok seats = pids_changed (finished outcomes.Ok) (λ s. refl) (is_seat pid) seats
pids_ended pid endings.Gone seats = pids_changed (finished (outcomes.Refused refusals.Gone)) (λ s. refl) (is_seat pid) seats
pids_ended pid endings.TimedOut seats = pids_changed (finished (outcomes.Refused refusals.TimedOut)) (λ s. refl) (is_seat pid) seats
pids_ended pid endings.NoProcess seats = refl

-- At the mover's station.
pids_acked : (t : Times) (now : ℕ) (pid : Pid) (got : ℕ) (a : Acked) (seats : List Seat) →
    pids (ack_moved t now pid got a seats).seats ≡ pids seats
pids_acked t now pid got acks.Nothing seats = refl
pids_acked t now pid got acks.Answers seats = pids_noted pid (answered t now) seats
pids_acked t now pid got acks.Restarts seats = pids_noted pid (restarted (started t now) got) seats
pids_acked t now pid got acks.Ends seats = pids_ended pid endings.Ok seats

pids_written : (pid : Pid) (dest offset : ℕ) (bytes : List ℕ) (seats : List Seat) →
    pids (piece_written pid dest offset bytes seats) ≡ pids seats
pids_written pid dest offset bytes seats = pids_changed (written (place_in dest offset) bytes) (λ s. refl) (is_seat pid) seats

pids_brought : (t : Times) (now : ℕ) (pid : Pid) (name : Name) (moving offset : ℕ) (bytes : List ℕ) (b : Brought) (seats : List Seat) →
    pids (bytes_moved t now pid name moving offset bytes b seats).seats ≡ pids seats
pids_brought t now pid name moving offset bytes brought.Nothing seats = refl
pids_brought t now pid name moving offset bytes brought.Answers seats = pids_noted pid (answered t now) seats
pids_brought t now pid name moving offset bytes (brought.Restarts from) seats = pids_noted pid (restarted (started t now) from) seats
pids_brought t now pid name moving offset bytes (brought.Next dest last) seats =
    let next : List Seat = piece_written pid dest offset bytes seats in
    pids_if last (ended_seats pid endings.Ok next) (change_note pid (received t now (offset + length bytes)) next) seats
    (pids_ended pid endings.Ok next ∙ pids_written pid dest offset bytes seats)
    (pids_noted pid (received t now (offset + length bytes)) next ∙ pids_written pid dest offset bytes seats)

pids_either : (b : Bool) (m n : Moved) (seats : List Seat) → pids m.seats ≡ pids seats → pids n.seats ≡ pids seats →
    pids (cond b m n).seats ≡ pids seats
pids_either true m n seats one other = one
pids_either false m n seats one other = other

-- At the sender's station.
pids_data : (name : Name) (mover : Pid) (moving dest total offset : ℕ) (bytes : List ℕ) (p : Demand) (seats : List Seat) →
    pids (data_moved name mover moving dest total offset bytes p seats).seats ≡ pids seats
pids_data name mover moving dest total offset bytes demands.Nothing seats = refl
pids_data name mover moving dest total offset bytes demands.Gone seats = refl
pids_data name mover moving dest total offset bytes (demands.Wanted opens before) seats =
    let next : List Seat = change_first (is_seat name.sender) (written (place_in dest offset) bytes) seats in
    pids_noted name.sender (progressed moving (done_after offset before bytes))
    (written_if_next (offset == before) name.sender dest offset bytes seats)
    ∙ pids_if (offset == before) next seats seats
    (pids_changed (written (place_in dest offset) bytes) (λ s. refl) (is_seat name.sender) seats) refl

pids_request : (name : Name) (mover : Pid) (moving src total offset : ℕ) (p : Demand) (seats : List Seat) →
    pids (request_moved name mover moving src total offset p seats).seats ≡ pids seats
pids_request name mover moving src total offset demands.Nothing seats = refl
pids_request name mover moving src total offset demands.Gone seats = refl
pids_request name mover moving src total offset (demands.Wanted opens before) seats =
    pids_noted name.sender (progressed moving before) seats

-- A packet, at either end.
pub pids_packet : (t : Times) (now : ℕ) (p : Packet) (seats : List Seat) → pids (packet_taken t now p seats).seats ≡ pids seats
pids_packet t now (MoveData from to number moving dest total offset bytes) seats =
    pids_data (name_of to number) from moving dest total offset bytes
    (data_wanted moving dest total (sender_by to from number (seat_in seats to))) seats
pids_packet t now (MoveAck from to number moving got) seats =
    pids_acked t now to got (acked_in (name_of from number) moving got (seat_in seats to)) seats
pids_packet t now (MoveRequest from to number moving src total offset) seats =
    pids_request (name_of to number) from moving src total offset
    (bytes_wanted moving src total (sender_by to from number (seat_in seats to))) seats
pids_packet t now (MoveBytes from to number moving total offset bytes) seats =
    pids_brought t now to (name_of from number) moving offset bytes
    (brought_in (name_of from number) moving total offset (offset + length bytes) (seat_in seats to)) seats
pids_packet t now (MoveNegative from to number moving) seats =
    pids_either (holds_of (is_mover (name_of from number) moving) (seat_in seats to)) (ended to endings.Gone seats) (still seats) seats
    (pids_ended to endings.Gone seats) refl
pids_packet t now p seats = refl

-- A move that is begun.
pids_begun_as : (t : Times) (now : ℕ) (pid : Pid) (w : Waiting) (m : Option MoveName) (seats : List Seat) →
    pids (begun_seats t now pid w m seats) ≡ pids seats
pids_begun_as t now pid w None seats = refl
pids_begun_as t now pid w (Some m) seats =
    pids_noted pid (begun_note t now m) (change_first (is_seat pid) (doing_now (activities.Blocked w)) seats)
    ∙ pids_changed (doing_now (activities.Blocked w)) (λ s. refl) (is_seat pid) seats

pids_begun_by : (t : Times) (now : ℕ) (pid : Pid) (w : Waiting) (slot : Option ℕ) (partner : Pid) (v : Verdict) (seats : List Seat)
    (slots : List (Option Alien)) → pids (begun_by t now pid w slot partner v seats slots).seats ≡ pids seats
pids_begun_by t now pid w slot partner (verdicts.Refused why) seats slots = refl
pids_begun_by t now pid w slot partner verdicts.Made seats slots = refl
pids_begun_by t now pid w slot partner verdicts.Begins seats slots = pids_begun_as t now pid w (next_name slots partner slot) seats

pub pids_begun : (t : Times) (now : ℕ) (pid : Pid) (call : Call) (seats : List Seat) (slots : List (Option Alien)) →
    pids (move_begun t now pid call seats slots).seats ≡ pids seats
pids_begun t now pid (calls.MoveTo partner dest src count) seats slots =
    pids_begun_by t now pid (waitings.MoveTo partner dest src count) (position (is_alien_from partner) slots) partner
    (verdict_in seats slots pid partner directions.To dest src count) seats slots
pids_begun t now pid (calls.MoveFrom partner dest src count) seats slots =
    pids_begun_by t now pid (waitings.MoveFrom partner dest src count) (position (is_alien_from partner) slots) partner
    (verdict_in seats slots pid partner directions.From dest src count) seats slots
pids_begun t now pid call seats slots = refl
