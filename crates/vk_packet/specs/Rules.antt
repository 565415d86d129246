-- What a packet keeps to.
use Rattle.std.specs.Prelude.{ℕ, ◌-◌, ◌%◌, ◌^◌, ◌<◌, ◌==◌, ◌&&◌, nat_lt, nat_le, min, Bool, true, List, [], ◌∷◌, length, if◌then◌else◌}
use Rattle.std.specs.List.{list_all}
use Rattle.vk_types.specs.Types.{Message}
use Rattle.vk_base.specs.Messages.{IsMessage, grants_read, segment_of}
use Rattle.vk_base.specs.Packets.{Packet, Send, Reply, Pending, Negative, MoveData, MoveAck, MoveRequest, MoveBytes, MoveNegative, AskPid, TellPid}
use Rattle.vk_base.specs.Pids.{IsPid}
use Rattle.vk_base.specs.declared.limits.TheConstants.{DATA_BYTES, MOVE_BYTES, SEGMENT_BYTES}
use Rattle.vk_wire.specs.Fields.{IsBytes}

-- the numbers of Sends, moves and lookups that a packet bears
abbrev pub numbers_of : Packet → List ℕ
numbers_of (Send from to number message part) = number ∷ []
numbers_of (Reply from to number message dest bytes) = number ∷ []
numbers_of (Pending from to number) = number ∷ []
numbers_of (Negative from to number) = number ∷ []
numbers_of (MoveData from to number moving dest total offset bytes) = number ∷ moving ∷ []
numbers_of (MoveAck from to number moving received) = number ∷ moving ∷ []
numbers_of (MoveRequest from to number moving src total offset) = number ∷ moving ∷ []
numbers_of (MoveBytes from to number moving total offset bytes) = number ∷ moving ∷ []
numbers_of (MoveNegative from to number moving) = number ∷ moving ∷ []
numbers_of (AskPid asker lookup logical) = lookup ∷ []
numbers_of (TellPid found asker lookup) = lookup ∷ []

-- each is 1 to 2^63 - 1
abbrev pub is_number : ℕ → Bool
is_number n = nat_lt 0 n && nat_lt n (2 ^ 63)

-- a move has 1 to 65,536 bytes, and a packet's offset in it is a multiple of 1,024 below that
abbrev pub is_place : (total offset : ℕ) → Bool
is_place total offset = nat_lt 0 total && nat_le total MOVE_BYTES && (offset % DATA_BYTES == 0) && nat_lt offset total

-- how many bytes a Send with this message brings of the segment: at most 512, and none where it lets nothing be read
abbrev pub part_len : Message → ℕ
part_len m = if grants_read m then min (segment_of m).len SEGMENT_BYTES else 0

-- how many bytes of a move of `total` bytes a packet has from `offset` on: at most 1,024
abbrev pub piece_len : (total offset : ℕ) → ℕ
piece_len total offset = min (total - offset) DATA_BYTES

-- a part and bytes have their length, and what is said of a move can be
abbrev pub fits : Packet → Bool
fits (Send from to number message part) = length part == part_len message
fits (Reply from to number message dest bytes) = nat_le (length bytes) SEGMENT_BYTES
fits (Pending from to number) = true
fits (Negative from to number) = true
fits (MoveData from to number moving dest total offset bytes) = is_place total offset && (length bytes == piece_len total offset)
fits (MoveAck from to number moving received) = nat_le received MOVE_BYTES
fits (MoveRequest from to number moving src total offset) = is_place total offset
fits (MoveBytes from to number moving total offset bytes) = is_place total offset && (length bytes == piece_len total offset)
fits (MoveNegative from to number moving) = true
fits (AskPid asker lookup logical) = true
fits (TellPid found asker lookup) = true

abbrev pub is_lawful : Packet → Bool
is_lawful p = list_all is_number (numbers_of p) && fits p

-- a packet that code can hold: pids and messages are such, what the rules do not bound has 32 bits, and bytes are bytes
abbrev pub IsPacket : Packet → Type 0
IsPacket (Send from to number message part) = IsPid from × IsPid to × IsMessage message × IsBytes part
IsPacket (Reply from to number message dest bytes) = IsPid from × IsPid to × IsMessage message × (dest < 2 ^ 32) × IsBytes bytes
IsPacket (Pending from to number) = IsPid from × IsPid to
IsPacket (Negative from to number) = IsPid from × IsPid to
IsPacket (MoveData from to number moving dest total offset bytes) = IsPid from × IsPid to × (dest < 2 ^ 32) × IsBytes bytes
IsPacket (MoveAck from to number moving received) = IsPid from × IsPid to
IsPacket (MoveRequest from to number moving src total offset) = IsPid from × IsPid to × (src < 2 ^ 32)
IsPacket (MoveBytes from to number moving total offset bytes) = IsPid from × IsPid to × IsBytes bytes
IsPacket (MoveNegative from to number moving) = IsPid from × IsPid to
IsPacket (AskPid asker lookup logical) = IsPid asker × (logical < 2 ^ 32)
IsPacket (TellPid found asker lookup) = IsPid found × IsPid asker
