-- The packets of a mover at the station of its partner, by the tables and by the rules.
use Rattle.std.proofs.Common.{ℕ, List}
use Rattle.vk_types.specs.Types.{Times}
use Rattle.vk_base.specs.Packets.{Packet, Send, Reply, Pending, Negative, MoveData, MoveAck, MoveRequest, MoveBytes, MoveNegative, AskPid, TellPid}
use Rattle.vk_procs.specs.declared.seat.Seat.{Seat}
use Rattle.vk_move.specs.Right.{IsSenderRule}
use Rattle.vk_move.proofs.Data.{data_rule}
use Rattle.vk_move.proofs.Requests.{request_rule}

pub sender_rule : (times : Times) (now : ℕ) (p : Packet) (seats : List Seat) → IsSenderRule times now p seats
sender_rule times now (MoveData from to number moving dest total offset bytes) seats =
    data_rule times now from to number moving dest total offset bytes seats
sender_rule times now (MoveRequest from to number moving src total offset) seats =
    request_rule times now from to number moving src total offset seats
sender_rule times now (Send from to number message part) seats = tt
sender_rule times now (Reply from to number message dest bytes) seats = tt
sender_rule times now (Pending from to number) seats = tt
sender_rule times now (Negative from to number) seats = tt
sender_rule times now (MoveAck from to number moving got) seats = tt
sender_rule times now (MoveBytes from to number moving total offset bytes) seats = tt
sender_rule times now (MoveNegative from to number moving) seats = tt
sender_rule times now (AskPid asker lookup logical) seats = tt
sender_rule times now (TellPid found asker lookup) seats = tt
