-- What is written of a history: its report, or its trace.
use Rattle.std.specs.Prelude.{ℕ, ◌≡◌, ◌==◌, List, [], ◌∷◌, ◌++◌, flat_map, decimal, codes, if◌then◌else◌}
use Rattle.vk_base.specs.declared.limits.TheConstants.{EVERY_STATION}
use Rattle.vk_types.specs.Types.{EventAnswer, ProcessSpec, Step}
use Rattle.vk_base.specs.Packets.{Packet, Send, Reply, Pending, Negative, MoveData, MoveAck, MoveRequest, MoveBytes, MoveNegative, AskPid, TellPid}
use Rattle.vk_base.specs.declared.event.EventAnswer.TheVariants as answers
use Rattle.vk_text.specs.Heads.{head_text}
use Rattle.v_trace.specs.Texts.{answer_text, step_text}
use Rattle.vk_report.specs.declared.entry.Counts.{Counts}
use Rattle.vk_report.specs.declared.entry.Form.{Form}
use Rattle.vk_report.specs.declared.entry.Form.TheVariants as forms
use Rattle.vk_report.specs.declared.entry.EventPlace.{EventPlace}
use Rattle.vk_report.specs.declared.frame.Emitted.{Emitted}
use Rattle.vk_report.specs.declared.frame.PacketKind.{PacketKind}
use Rattle.vk_report.specs.declared.frame.PacketKind.TheVariants as kinds

-- Events.

-- what an event is answered
abbrev pub answer_text_of : EventAnswer → List ℕ
answer_text_of answers.Begun = codes "begun"
answer_text_of (answers.Answered answer) = answer_text answer
answer_text_of (answers.Ticked now) = codes "now" ++ 32 ∷ decimal now
answer_text_of answers.Taken = codes "taken"
answer_text_of answers.Old = codes "old"
answer_text_of answers.Bad = codes "bad"

-- `H:E`: the station, and its own number of the event
abbrev pub event_place : ℕ → ℕ → List ℕ
event_place host own = decimal host ++ codes ":" ++ decimal own

-- `N H:E `: the history's number of the event comes first
abbrev pub place_text : EventPlace → List ℕ
place_text p = decimal p.number ++ codes " " ++ event_place p.host p.own ++ codes " "

-- `N H:E ANSWER`
abbrev pub answer_line : EventPlace → EventAnswer → List ℕ
answer_line p answer = place_text p ++ answer_text_of answer ++ codes "\n"

-- `N H`
abbrev pub number_and_host : ℕ → ℕ → List ℕ
number_and_host number host = decimal number ++ 32 ∷ decimal host

-- `N H:- missing`
abbrev pub missing_line : ℕ → ℕ → List ℕ
missing_line number host = number_and_host number host ++ codes ":- missing\n"

-- a step behind a word, which a trace has not
abbrev pub step_line : List ℕ → Step → List ℕ
step_line word s = word ++ step_text s ++ codes "\n"

abbrev pub step_lines : List ℕ → List Step → List ℕ
step_lines word steps = flat_map (step_line word) steps

-- the first step, where there is one, is spelled as this line
abbrev pub BeginsAs : List ℕ → List Step → Type 0
BeginsAs line [] = Unit {0}
BeginsAs line (s ∷ steps) = step_text s ≡ line

abbrev pub report_entry : EventPlace → EventAnswer → List Step → List ℕ
report_entry p answer steps = answer_line p answer ++ step_lines (codes "step ") steps

-- the lines of an event
abbrev pub entry_lines : Form → EventPlace → EventAnswer → List Step → List ℕ
entry_lines forms.Report p answer steps = report_entry p answer steps
entry_lines forms.Trace p answer steps = step_lines [] steps

-- those of a delivery whose frame was never emitted, which is no event of the station
abbrev pub missing_lines : Form → ℕ → ℕ → List ℕ
missing_lines forms.Report number host = missing_line number host
missing_lines forms.Trace number host = []

-- Frames.

-- what kind of packet it is
abbrev pub kind_of : Packet → PacketKind
kind_of (Send from to number message part) = kinds.Send
kind_of (Reply from to number message dest bytes) = kinds.Reply
kind_of (Pending from to number) = kinds.Pending
kind_of (Negative from to number) = kinds.Negative
kind_of (MoveData from to number moving dest total offset bytes) = kinds.MoveData
kind_of (MoveAck from to number moving received) = kinds.MoveAck
kind_of (MoveRequest from to number moving src total offset) = kinds.MoveRequest
kind_of (MoveBytes from to number moving total offset bytes) = kinds.MoveBytes
kind_of (MoveNegative from to number moving) = kinds.MoveNegative
kind_of (AskPid asker lookup logical) = kinds.AskPid
kind_of (TellPid found asker lookup) = kinds.TellPid

abbrev pub kind_text : PacketKind → List ℕ
kind_text kinds.Send = codes "send"
kind_text kinds.Reply = codes "reply"
kind_text kinds.Pending = codes "pending"
kind_text kinds.Negative = codes "negative"
kind_text kinds.MoveData = codes "movedata"
kind_text kinds.MoveAck = codes "moveack"
kind_text kinds.MoveRequest = codes "moverequest"
kind_text kinds.MoveBytes = codes "movebytes"
kind_text kinds.MoveNegative = codes "movenegative"
kind_text kinds.AskPid = codes "askpid"
kind_text kinds.TellPid = codes "tellpid"

-- a station, or all
abbrev pub destination_text : ℕ → List ℕ
destination_text host = if host == EVERY_STATION then codes "all" else decimal host

-- `frame H:E.O`: the event, and which of its outputs the frame is
abbrev pub frame_place : ℕ → ℕ → ℕ → List ℕ
frame_place host own output = codes "frame " ++ event_place host own ++ codes "." ++ decimal output

-- `frame H:E.O DEST KIND LENGTH`
abbrev pub frame_line : ℕ → ℕ → ℕ → Emitted → List ℕ
frame_line host own output f =
    frame_place host own output ++ 32 ∷ destination_text f.destination ++ 32 ∷ kind_text f.kind ++ 32 ∷ decimal f.length ++ codes "\n"

-- the lines of a frame
abbrev pub frame_lines : Form → ℕ → ℕ → ℕ → Emitted → List ℕ
frame_lines forms.Report host own output f = frame_line host own output f
frame_lines forms.Trace host own output f = []

-- Before the first entry and behind the last.

-- `end EVENTS STEPS FRAMES`
abbrev pub end_line : Counts → List ℕ
end_line c = codes "end" ++ 32 ∷ decimal c.events ++ 32 ∷ decimal c.steps ++ 32 ∷ decimal c.frames ++ codes "\n"

abbrev pub end_lines : Form → Counts → List ℕ
end_lines forms.Report c = end_line c
end_lines forms.Trace c = []

-- the first line of a report; the title and the processes of a trace
abbrev pub opening_lines : Form → List ProcessSpec → List ℕ
opening_lines forms.Report specs = codes "vkernel report 1\n"
opening_lines forms.Trace specs = head_text (codes "vkernel trace 1") specs
