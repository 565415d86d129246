-- Bytes and packets are two spellings of one thing.
use Rattle.std.specs.Prelude.{◌≡◌, ℕ, true, List, Some}
use Rattle.vk_base.specs.Packets.{Packet}
use Rattle.vk_packet.specs.Reading.{packet_of}
use Rattle.vk_packet.specs.Rules.{IsPacket, is_lawful}
use Rattle.vk_packet.specs.Spelling.{packet_bytes}
use Rattle.vk_wire.specs.Fields.{IsBytes}

-- what is read is spelled so, by a packet that keeps to the rules
abbrev pub NothingElseIsRead : Type 0
NothingElseIsRead = (bytes : List ℕ) (p : Packet) → IsBytes bytes → packet_of bytes ≡ Some p → (bytes ≡ packet_bytes p) ×
    (is_lawful p ≡ true) × IsPacket p

-- what is spelled so is read again
abbrev pub WrittenIsRead : Type 0
WrittenIsRead = (p : Packet) → IsPacket p → is_lawful p ≡ true → packet_of (packet_bytes p) ≡ Some p
