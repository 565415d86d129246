-- A line of a frame gives it back, but for the bytes at its packet's end.
use Rattle.std.specs.Prelude.{◌≡◌, ℕ, true, List, [], Some}
use Rattle.vk_base.specs.Packets.{Packet, Send, Reply, MoveData, MoveBytes}
use Rattle.vk_frame.specs.declared.header.Header.{Header}
use Rattle.vk_frame.specs.Rules as headers
use Rattle.vk_packet.specs.Rules.{IsPacket, is_lawful}
use Rattle.vk_text.specs.Lines.{words_from}
use Rattle.vk_frame_text.specs.Frames.{frame_text}
use Rattle.vk_frame_text.specs.Reading.{frame_of}

-- the bytes at a packet's end
abbrev pub last_bytes : Packet → List ℕ
last_bytes (Send from to number message part) = part
last_bytes (Reply from to number message dest bytes) = bytes
last_bytes (MoveData from to number moving dest total offset bytes) = bytes
last_bytes (MoveBytes from to number moving total offset bytes) = bytes
last_bytes p = []

-- with the station that the frame is for, which a report tells, and the bytes at its packet's end, its line is read as the frame
abbrev pub FrameLinesAreTheirFrames : Type 0
FrameLinesAreTheirFrames = (h : Header) (p : Packet) →
    headers.is_lawful h ≡ true → IsPacket p → is_lawful p ≡ true →
    frame_of h.destination (last_bytes p) (words_from (frame_text h p) 0) ≡ Some (h, p)
