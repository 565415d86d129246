-- What contracts see of the packets of code, whose parts are lent.
use Rattle.std.specs.Prelude.{Bool, true, false}
use Rattle.vk_base.specs.Packets as packets
use Rattle.vk_base.specs.Packets.{Packet}
use Rattle.vk_packet.specs.declared.packet.PacketView.{PacketView}
use Rattle.vk_packet.specs.declared.packet.PacketView.TheVariants as views

abbrev pub value_of : PacketView → Packet
value_of (views.Send from number to message part) = packets.Send from to number message part.now
value_of (views.Reply from number to message dest bytes) = packets.Reply from to number message dest bytes.now
value_of (views.Pending from number to) = packets.Pending from to number
value_of (views.Negative from number to) = packets.Negative from to number
value_of (views.MoveData from number to moving dest total offset bytes) = packets.MoveData from to number moving dest total offset bytes.now
value_of (views.MoveAck from number to moving received) = packets.MoveAck from to number moving received
value_of (views.MoveRequest from number to moving src total offset) = packets.MoveRequest from to number moving src total offset
value_of (views.MoveBytes from number to moving total offset bytes) = packets.MoveBytes from to number moving total offset bytes.now
value_of (views.MoveNegative from number to moving) = packets.MoveNegative from to number moving
value_of (views.AskPid asker lookup logical) = packets.AskPid asker lookup logical
value_of (views.TellPid found lookup asker) = packets.TellPid found asker lookup

-- it is of bytes of a remote move
abbrev pub is_of_bytes : Packet → Bool
is_of_bytes (packets.MoveData from to number moving dest total offset bytes) = true
is_of_bytes (packets.MoveAck from to number moving received) = true
is_of_bytes (packets.MoveRequest from to number moving src total offset) = true
is_of_bytes (packets.MoveBytes from to number moving total offset bytes) = true
is_of_bytes _ = false
