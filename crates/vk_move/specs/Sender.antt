-- At the station of the sender whose memory is moved: what its mover's packets do.
use Rattle.std.specs.Prelude.{ℕ, ◌≤◌, ◌+◌, Bool, ◌==◌, ◌&&◌, not, nat_le, nat_lt, List, [], ◌∷◌, ◌++◌, length, Option, Some, None, if◌then◌else◌}
use Rattle.vk_types.specs.Types.{Activity, Message, Name, Pid, Step}
use Rattle.vk_base.specs.declared.activity.Activity.TheVariants as activities
use Rattle.vk_base.specs.declared.activity.Waiting.TheVariants as waitings
use Rattle.vk_base.specs.declared.step.Step.TheVariants as steps
use Rattle.vk_base.specs.Firsts.{change_first}
use Rattle.vk_base.specs.Messages.{grants_read, grants_write, segment_of}
use Rattle.vk_base.specs.Packets.{Packet, MoveAck, MoveNegative}
use Rattle.vk_base.specs.Pids.{same_host}
use Rattle.vk_base.specs.Ranges.{range_of, lies_within}
use Rattle.vk_procs.specs.declared.seat.ProcNote.{ProcNote}
use Rattle.vk_procs.specs.declared.seat.Seat.{Seat}
use Rattle.vk_procs.specs.Seats.{is_seat, seat_in, written}
use Rattle.vk_rules.specs.PacketOutcomes.{copies_bytes}
use Rattle.vk_rules.specs.Rounds.{list_if}
use Rattle.vk_rules.specs.Works.{is_last}
use Rattle.vk_move.specs.declared.moves.Subject.{Subject}
use Rattle.vk_move.specs.declared.sender.Demand.{Demand}
use Rattle.vk_move.specs.declared.sender.Demand.TheVariants as demands
use Rattle.vk_move.specs.declared.sender.Sender.{Sender}
use Rattle.vk_move.specs.declared.sender.Sender.TheVariants as senders
use Rattle.vk_move.specs.Moved.{Moved, asked_packets, change_note, place_in, progressed, still}

-- What is known of the process of which a mover names the Send of this number: it waits in it, to a process of the mover's station, or
-- made it, or not.
abbrev pub made_by : ℕ → ProcNote → Sender
made_by number note = if nat_le number note.sends then senders.Gone else senders.Unknown

abbrev pub sender_doing : Pid → Pid → ℕ → ProcNote → Activity → Sender
sender_doing pid mover number note (activities.Blocked (waitings.Send to m)) =
    if same_host to mover && not (same_host pid mover) && note.sends == number then senders.Waits m note.opened note.done
    else made_by number note
sender_doing pid mover number note d = made_by number note

abbrev pub sender_by : Pid → Pid → ℕ → Option Seat → Sender
sender_by pid mover number None = senders.Unknown
sender_by pid mover number (Some s) = sender_doing pid mover number s.note s.doing

abbrev pub sender_of : Subject → List Seat → Sender
sender_of m seats = sender_by m.name.exchange.sender m.mover m.name.exchange.number (seat_in seats m.name.exchange.sender)

-- What is done with a packet of its mover: nothing; it is told that the sender waits no longer; or the packet is of the open move, or of
-- one that is opened by it, of which so many bytes are done.
abbrev pub may_write : Message → ℕ → ℕ → Bool
may_write m start count = grants_write m && lies_within (range_of start count) (segment_of m)

abbrev pub may_read : Message → ℕ → ℕ → Bool
may_read m start count = grants_read m && lies_within (range_of start count) (segment_of m)

abbrev pub wanted : Bool → ℕ → ℕ → ℕ → Demand
wanted granted opened done moving =
    if granted && nat_le opened moving then demands.Wanted (nat_lt opened moving)
    (if nat_lt opened moving then 0 else done) else demands.Nothing

abbrev pub data_wanted : ℕ → ℕ → ℕ → Sender → Demand
data_wanted moving dest total senders.Unknown = demands.Nothing
data_wanted moving dest total senders.Gone = demands.Gone
data_wanted moving dest total (senders.Waits m opened done) = wanted (may_write m dest total) opened done moving

abbrev pub bytes_wanted : ℕ → ℕ → ℕ → Sender → Demand
bytes_wanted moving src total senders.Unknown = demands.Nothing
bytes_wanted moving src total senders.Gone = demands.Gone
bytes_wanted moving src total (senders.Waits m opened done) = wanted (may_read m src total) opened done moving

abbrev pub gone : Name → Pid → ℕ → List Seat → Moved
gone name mover moving seats = record { seats = seats; steps = []; packets = MoveNegative name.sender mover name.number moving ∷ [] }

abbrev pub opening : Name → ℕ → Bool → List Step
opening name moving opens = list_if opens (steps.OpenMove name.sender name.number moving ∷ [])

-- bytes of data, of which the next ones are written
abbrev pub done_after : ℕ → ℕ → List ℕ → ℕ
done_after offset before bytes = if offset == before then offset + length bytes else before

abbrev pub written_if_next : Bool → Pid → ℕ → ℕ → List ℕ → List Seat → List Seat
written_if_next next pid dest offset bytes seats =
    if next then change_first (is_seat pid) (written (place_in dest offset) bytes) seats else seats

abbrev pub data_moved : Name → Pid → ℕ → ℕ → ℕ → ℕ → List ℕ → Demand → List Seat → Moved
data_moved name mover moving dest total offset bytes demands.Nothing seats = still seats
data_moved name mover moving dest total offset bytes demands.Gone seats = gone name mover moving seats
data_moved name mover moving dest total offset bytes (demands.Wanted opens before) seats = record {
  seats = change_note name.sender (progressed moving (done_after offset before bytes))
      (written_if_next (offset == before) name.sender dest offset bytes seats);
  steps = opening name moving opens ++ list_if (offset == before) (copies_bytes name moving offset bytes ∷ []);
  packets =
      list_if (is_last total offset bytes) (MoveAck name.sender mover name.number moving (done_after offset before bytes) ∷ []);
}

abbrev pub data_taken : Subject → (dest total offset : ℕ) (bytes : List ℕ) → List Seat → Moved
data_taken m dest total offset bytes seats =
    data_moved m.name.exchange m.mover m.name.number dest total offset bytes
    (data_wanted m.name.number dest total (sender_of m seats)) seats

-- a request, which is answered with all bytes from an offset on
abbrev pub bytes_of : Name → Pid → ℕ → ℕ → ℕ → ℕ → Option Seat → List Packet
bytes_of name mover moving src total offset None = []
bytes_of name mover moving src total offset (Some s) = asked_packets name mover moving src total offset s.memory

abbrev pub request_moved : Name → Pid → ℕ → ℕ → ℕ → ℕ → Demand → List Seat → Moved
request_moved name mover moving src total offset demands.Nothing seats = still seats
request_moved name mover moving src total offset demands.Gone seats = gone name mover moving seats
request_moved name mover moving src total offset (demands.Wanted opens before) seats = record {
  seats = change_note name.sender (progressed moving before) seats;
  steps = opening name moving opens;
  packets = bytes_of name mover moving src total offset (seat_in seats name.sender);
}

abbrev pub request_taken : Subject → (src total offset : ℕ) → List Seat → Moved
request_taken m src total offset seats =
    request_moved m.name.exchange m.mover m.name.number src total offset
    (bytes_wanted m.name.number src total (sender_of m seats)) seats

-- the range lies in the memory of the process, if there is one
abbrev pub IsSourceReadable : ℕ → ℕ → Option Seat → Type 0
IsSourceReadable src total None = Unit {0}
IsSourceReadable src total (Some s) = src + total ≤ length s.memory
