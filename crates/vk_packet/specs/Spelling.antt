-- How a packet is spelled: its kind in one byte, then its fields in order, with nothing between them. A part, or bytes, come last.
use Rattle.std.specs.Prelude.{ℕ, List, ◌∷◌, ◌++◌, length}
use Rattle.byteorder.specs.Endian.{big_bytes}
use Rattle.vk_types.specs.Types.{Pid}
use Rattle.vk_base.specs.Packets.{Packet, Send, Reply, Pending, Negative, MoveData, MoveAck, MoveRequest, MoveBytes, MoveNegative, AskPid, TellPid}
use Rattle.vk_wire.specs.Fields.{pid_bytes}

-- what every packet of an exchange begins with, and every packet of a move
unfoldable pub exchange_bytes : (from to : Pid) (number : ℕ) → List ℕ
exchange_bytes from to number = pid_bytes from ++ pid_bytes to ++ big_bytes 8 number

unfoldable pub move_bytes : (from to : Pid) (number moving : ℕ) → List ℕ
move_bytes from to number moving = exchange_bytes from to number ++ big_bytes 8 moving

abbrev pub packet_bytes : Packet → List ℕ
packet_bytes (Send from to number message part) = 1 ∷ exchange_bytes from to number ++ message.0 ++ part
packet_bytes (Reply from to number message dest bytes) = 2
    ∷ exchange_bytes from to number ++ message.0 ++ big_bytes 4 dest ++ big_bytes 2 (length bytes) ++ bytes
packet_bytes (Pending from to number) = 3 ∷ exchange_bytes from to number
packet_bytes (Negative from to number) = 4 ∷ exchange_bytes from to number
packet_bytes (MoveData from to number moving dest total offset bytes) = 5
    ∷ move_bytes from to number moving ++ big_bytes 4 dest ++ big_bytes 4 total ++ big_bytes 4 offset ++ bytes
packet_bytes (MoveAck from to number moving received) = 6 ∷ move_bytes from to number moving ++ big_bytes 4 received
packet_bytes (MoveRequest from to number moving src total offset) = 7
    ∷ move_bytes from to number moving ++ big_bytes 4 src ++ big_bytes 4 total ++ big_bytes 4 offset
packet_bytes (MoveBytes from to number moving total offset bytes) = 8
    ∷ move_bytes from to number moving ++ big_bytes 4 total ++ big_bytes 4 offset ++ bytes
packet_bytes (MoveNegative from to number moving) = 9 ∷ move_bytes from to number moving
packet_bytes (AskPid asker lookup logical) = 10 ∷ pid_bytes asker ++ big_bytes 8 lookup ++ big_bytes 4 logical
packet_bytes (TellPid found asker lookup) = 11 ∷ pid_bytes found ++ pid_bytes asker ++ big_bytes 8 lookup
