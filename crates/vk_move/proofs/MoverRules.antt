-- The packets to a mover, by the tables and by the rules.
use Rattle.std.proofs.Common.{ℕ, List}
use Rattle.vk_types.specs.Types.{Times}
use Rattle.vk_base.specs.Packets.{Packet, Send, Reply, Pending, Negative, MoveData, MoveAck, MoveRequest, MoveBytes, MoveNegative, AskPid, TellPid}
use Rattle.vk_procs.specs.declared.seat.Seat.{Seat}
use Rattle.vk_move.specs.Right.{IsMoverRule}
use Rattle.vk_move.proofs.AckEnds.{ack_rule}
use Rattle.vk_move.proofs.BytesEnds.{bytes_rule}
use Rattle.vk_move.proofs.Gone.{gone_rule}

pub mover_rule : (times : Times) (now : ℕ) (p : Packet) (seats : List Seat) → IsMoverRule times now p seats
mover_rule times now (MoveAck from to number moving got) seats = ack_rule times now from to number moving got seats
mover_rule times now (MoveBytes from to number moving total offset bytes) seats =
    bytes_rule times now from to number moving total offset bytes seats
mover_rule times now (MoveNegative from to number moving) seats = gone_rule times now from to number moving seats
mover_rule times now (Send from to number message part) seats = tt
mover_rule times now (Reply from to number message dest bytes) seats = tt
mover_rule times now (Pending from to number) seats = tt
mover_rule times now (Negative from to number) seats = tt
mover_rule times now (MoveData from to number moving dest total offset bytes) seats = tt
mover_rule times now (MoveRequest from to number moving src total offset) seats = tt
mover_rule times now (AskPid asker lookup logical) seats = tt
mover_rule times now (TellPid found asker lookup) seats = tt
