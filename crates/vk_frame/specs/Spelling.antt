-- How a frame is spelled: a header of 32 bytes, and one packet behind it to the frame's end.
use Rattle.std.specs.Prelude.{ℕ, List, ◌++◌}
use Rattle.byteorder.specs.Endian.{big_bytes}
use Rattle.vk_frame.specs.declared.header.Header.{Header}

-- the bytes 56 and 4b, with which each frame starts
abbrev pub mark : ℕ
mark = 0x564b

unfoldable pub header_bytes : Header → List ℕ
header_bytes h =
    big_bytes 2 mark ++ big_bytes 2 h.source ++ big_bytes 2 h.destination ++ big_bytes 8 h.stamp
    ++ big_bytes 8 h.number ++ big_bytes 8 h.event ++ big_bytes 2 h.output

abbrev pub frame_bytes : Header → List ℕ → List ℕ
frame_bytes h packet = header_bytes h ++ packet
