-- What a rule of moves does, by the tables: the seats then, the steps and the packets.
use Rattle.std.specs.Prelude.{ℕ, ◌≡◌, ◌+◌, List, [], ◌∷◌, map, length, slice_get, nat_le, Bool, true, false, ◌&&◌, Option, Some, None, if◌then◌else◌}
use Rattle.vk_types.specs.Types.{Activity, MoveName, Name, Pid, Step, Times}
use Rattle.vk_base.specs.declared.activity.Activity.TheVariants as activities
use Rattle.vk_base.specs.declared.activity.Waiting.TheVariants as waitings
use Rattle.vk_base.specs.Firsts.{change_first}
use Rattle.vk_base.specs.Kernel.{name_of}
use Rattle.vk_base.specs.Packets.{Packet}
use Rattle.vk_base.specs.Ranges.{range_of, lies_in}
use Rattle.vk_procs.specs.declared.seat.ProcNote.{ProcNote}
use Rattle.vk_procs.specs.declared.seat.Seat.{Seat}
use Rattle.vk_packet.specs.Rules.{is_number, is_place}
use Rattle.vk_procs.specs.Seats.{is_seat, seat_in}
use Rattle.vk_rules.specs.PacketOutcomes.{bytes_packet}
use Rattle.vk_rules.specs.Rounds.{data_packets, offsets, request_packet}
use Rattle.vk_stands.specs.Fit.{IsFitSeat}
use Rattle.vk_timer.specs.declared.work.Work.{Work}
use Rattle.vk_timer.specs.Works as works
use Rattle.vk_move.specs.declared.moves.Subject.{Subject}

pub record Moved : Type 0 where
  pub seats : List Seat
  pub steps : List Step
  pub packets : List Packet

abbrev pub still : List Seat → Moved
still seats = record { seats = seats; steps = []; packets = [] }

-- the move of this number in the Send of this number, which the mover makes
abbrev pub subject_by : (mover sender : Pid) (number moving : ℕ) → Subject
subject_by mover sender number moving = record { name = record { exchange = name_of sender number; number = moving }; mover = mover }

-- the packets of the bytes that a request asks for
abbrev pub asked_packets : Name → (mover : Pid) (moving src total from : ℕ) (memory : List ℕ) → List Packet
asked_packets name mover moving src total from memory = map (bytes_packet name mover moving src total memory) (offsets from total)

-- the round of a process that waits in a move, from this offset on
abbrev pub round_by : Pid → List ℕ → ℕ → Option MoveName → Activity → List Packet
round_by pid memory from (Some m) (activities.Blocked (waitings.MoveTo partner dest src count)) =
    data_packets pid partner memory dest src count from m
round_by pid memory from (Some m) (activities.Blocked (waitings.MoveFrom partner dest src count)) =
    request_packet pid partner src count from m ∷ []
round_by pid memory from m d = []

abbrev pub round_from : Pid → ℕ → Option Seat → List Packet
round_from pid from None = []
round_from pid from (Some s) = round_by pid s.memory from s.note.moving s.doing

-- Changes of what a process notes.
abbrev pub renoted : (ProcNote → ProcNote) → Seat → Seat
renoted f s = record s { note = f s.note }

abbrev pub change_note : Pid → (ProcNote → ProcNote) → List Seat → List Seat
change_note pid f seats = change_first (is_seat pid) (renoted f) seats

-- its work was answered
abbrev pub answered : Times → ℕ → ProcNote → ProcNote
answered t now n = record n { work = works.answered t now }

-- a round of its move goes out from this offset on, and its work is this one then
abbrev pub restarted : Work → ℕ → ProcNote → ProcNote
restarted work offset n = record n { work = work; offset = offset; fresh = false }

-- so many bytes of its move were received
abbrev pub received : Times → ℕ → ℕ → ProcNote → ProcNote
received t now offset n = record n { work = works.answered t now; offset = offset; fresh = true }

-- so many bytes of this move, which is open, are done
abbrev pub progressed : ℕ → ℕ → ProcNote → ProcNote
progressed moving done n = record n { opened = moving; done = done }

-- the place so far behind another, and whether the process has so much memory
abbrev pub place_in : ℕ → ℕ → ℕ
place_in start offset = start + offset

abbrev pub place_behind : Option Seat → ℕ → ℕ → Option ℕ
place_behind None start offset = None
place_behind (Some s) start offset = if nat_le (start + offset) (length s.memory) then Some (start + offset) else None

-- A round may go out from an offset on: its packets are lawful, and their bytes lie in the memory.
abbrev pub going : ℕ → ℕ → Option MoveName → Activity → Bool
going size from (Some m) (activities.Blocked (waitings.MoveTo partner dest src count)) =
    is_number m.exchange.number && is_number m.number && is_place count from && lies_in (range_of src count) size
going size from (Some m) (activities.Blocked (waitings.MoveFrom partner dest src count)) =
    is_number m.exchange.number && is_number m.number && is_place count from
going size from m d = true

abbrev pub CanGoOn : List Seat → Pid → ℕ → Type 0
CanGoOn seats pid from = (s : Seat) → seat_in seats pid ≡ Some s → going (length s.memory) from s.note.moving s.doing ≡ true

-- what the rules need of a station's processes
abbrev pub HasFitSeats : List Seat → Type 0
HasFitSeats seats = (host : ℕ) × ((i : ℕ) (s : Seat) → slice_get seats i ≡ Some s → IsFitSeat host s)
