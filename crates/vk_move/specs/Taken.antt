-- What a packet of a move does, by the tables, of whichever end it is.
use Rattle.std.specs.Prelude.{ℕ, List}
use Rattle.vk_types.specs.Types.{Times}
use Rattle.vk_base.specs.Packets.{Packet, MoveData, MoveAck, MoveRequest, MoveBytes, MoveNegative}
use Rattle.vk_procs.specs.declared.seat.Seat.{Seat}
use Rattle.vk_move.specs.Moved.{Moved, subject_by, still}
use Rattle.vk_move.specs.Mover.{ack_taken, bytes_taken, gone_taken}
use Rattle.vk_move.specs.Sender.{data_taken, request_taken}

-- of the packets to a mover
abbrev pub mover_taken : Times → ℕ → Packet → List Seat → Moved
mover_taken t now (MoveAck from to number moving received) seats = ack_taken t now (subject_by to from number moving) received seats
mover_taken t now (MoveBytes from to number moving total offset bytes) seats =
    bytes_taken t now (subject_by to from number moving) total offset bytes seats
mover_taken t now (MoveNegative from to number moving) seats = gone_taken (subject_by to from number moving) seats
mover_taken t now p seats = still seats

abbrev pub packet_taken : Times → ℕ → Packet → List Seat → Moved
packet_taken t now (MoveData from to number moving dest total offset bytes) seats =
    data_taken (subject_by from to number moving) dest total offset bytes seats
packet_taken t now (MoveRequest from to number moving src total offset) seats =
    request_taken (subject_by from to number moving) src total offset seats
packet_taken t now p seats = mover_taken t now p seats
