-- The line of a frame: where it was emitted, its stamp, its Lamport number, and its packet without the bytes at its end.
use Rattle.std.specs.Prelude.{ℕ, List, [], ◌∷◌, ◌++◌, length, decimal, codes}
use Rattle.vk_base.specs.Packets.{Packet, Send, Reply, Pending, Negative, MoveData, MoveAck, MoveRequest, MoveBytes, MoveNegative, AskPid, TellPid}
use Rattle.vk_frame.specs.declared.header.Header.{Header}
use Rattle.vk_report.specs.Report.{event_place}
use Rattle.vk_text.specs.Heads.{line_text}
use Rattle.vk_text.specs.Spelling.{joined, message_text, pid_text}

-- the words of a packet: its kind, then its fields in the order of its bytes; of the bytes at the end of a Reply their count is a field
unfoldable pub packet_words : Packet → List (List ℕ)
packet_words (Send from to number message part) = codes "send" ∷ pid_text from ∷ pid_text to ∷ decimal number ∷ message_text message ∷ []
packet_words (Reply from to number message dest bytes) =
    codes "reply" ∷ pid_text from ∷ pid_text to ∷ decimal number ∷ message_text message ∷ decimal dest ∷ decimal (length bytes) ∷ []
packet_words (Pending from to number) = codes "pending" ∷ pid_text from ∷ pid_text to ∷ decimal number ∷ []
packet_words (Negative from to number) = codes "negative" ∷ pid_text from ∷ pid_text to ∷ decimal number ∷ []
packet_words (MoveData from to number moving dest total offset bytes) =
    codes "movedata" ∷ pid_text from ∷ pid_text to ∷ decimal number ∷ decimal moving ∷ decimal dest ∷ decimal total ∷ decimal offset ∷ []
packet_words (MoveAck from to number moving received) =
    codes "moveack" ∷ pid_text from ∷ pid_text to ∷ decimal number ∷ decimal moving ∷ decimal received ∷ []
packet_words (MoveRequest from to number moving src total offset) =
    codes "moverequest" ∷ pid_text from ∷ pid_text to ∷ decimal number ∷ decimal moving ∷ decimal src ∷ decimal total ∷ decimal offset ∷ []
packet_words (MoveBytes from to number moving total offset bytes) =
    codes "movebytes" ∷ pid_text from ∷ pid_text to ∷ decimal number ∷ decimal moving ∷ decimal total ∷ decimal offset ∷ []
packet_words (MoveNegative from to number moving) =
    codes "movenegative" ∷ pid_text from ∷ pid_text to ∷ decimal number ∷ decimal moving ∷ []
packet_words (AskPid asker lookup logical) = codes "askpid" ∷ pid_text asker ∷ decimal lookup ∷ decimal logical ∷ []
packet_words (TellPid found asker lookup) = codes "tellpid" ∷ pid_text found ∷ pid_text asker ∷ decimal lookup ∷ []

-- `H:E.O`: the station, its event, and which of that event's outputs the frame is
abbrev pub place_text : Header → List ℕ
place_text h = event_place h.source h.event ++ codes "." ++ decimal h.output

-- the words of a frame's line
abbrev pub frame_words : Header → Packet → List (List ℕ)
frame_words h p = place_text h ∷ decimal h.stamp ∷ decimal h.number ∷ packet_words p

-- `H:E.O STAMP LAMPORT KIND FIELD...`
unfoldable pub frame_text : Header → Packet → List ℕ
frame_text h p = joined (frame_words h p)

abbrev pub frame_line : Header → Packet → List ℕ
frame_line h p = line_text (frame_text h p)

-- the line before that of the first frame
abbrev pub title_line : List ℕ
title_line = codes "vkernel frames 1\n"
