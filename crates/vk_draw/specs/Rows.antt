-- What is drawn of a history.
use Rattle.std.specs.Prelude.{ℕ, ◌+◌, List, [], ◌∷◌, map, Option, Some, None}
use Rattle.vk_types.specs.Types.{Answer, Call, EventAnswer, Pid, Step}
use Rattle.vk_base.specs.declared.answer.Answer.TheVariants as answers
use Rattle.vk_base.specs.declared.call.Call.TheVariants as calls
use Rattle.vk_base.specs.declared.event.EventAnswer.TheVariants as event_answers
use Rattle.vk_base.specs.declared.step.Step.TheVariants as steps
use Rattle.vk_base.specs.Settings.{Settings}
use Rattle.vk_schedule.specs.declared.event.Event.{Event}
use Rattle.vk_schedule.specs.declared.event.Event.TheVariants as events
use Rattle.vk_schedule.specs.declared.schedule.Schedule.{Schedule}
use Rattle.vk_rules.specs.Frames.{Frame}
use Rattle.vk_rules.specs.Histories.{Happened, At, Missing, Logs, happened, logs_after, no_entries}
use Rattle.vk_picture.specs.declared.picture.Act.{Act}
use Rattle.vk_picture.specs.declared.picture.Act.TheVariants as acts
use Rattle.vk_picture.specs.declared.picture.CallKind.{CallKind}
use Rattle.vk_picture.specs.declared.picture.CallKind.TheVariants as kinds
use Rattle.vk_picture.specs.declared.picture.FrameMark.{FrameMark}
use Rattle.vk_picture.specs.declared.picture.Picture.{Picture}
use Rattle.vk_picture.specs.declared.picture.EventRow.{EventRow}
use Rattle.vk_picture.specs.declared.picture.Said.{Said}
use Rattle.vk_picture.specs.declared.picture.Said.TheVariants as said
use Rattle.vk_picture.specs.declared.picture.StepKind.TheVariants as marks
use Rattle.vk_picture.specs.declared.picture.StepMark.{StepMark}
use Rattle.vk_picture.specs.Places.{columns_of}
use Rattle.vk_report.specs.Report.{kind_of}

abbrev pub call_kind : Call → CallKind
call_kind (calls.Send target message) = kinds.Send
call_kind calls.Receive = kinds.Receive
call_kind (calls.ReceiveSegment start count) = kinds.ReceiveSegment
call_kind (calls.Reply message to) = kinds.Reply
call_kind (calls.ReplySegment message to dest src count) = kinds.ReplySegment
call_kind (calls.Forward message from to) = kinds.Forward from
call_kind (calls.MoveTo partner dest src count) = kinds.MoveTo
call_kind (calls.MoveFrom partner dest src count) = kinds.MoveFrom
call_kind (calls.SetPid logical pid scope) = kinds.SetPid
call_kind (calls.GetPid logical scope) = kinds.GetPid
call_kind (calls.Load start count) = kinds.Load
call_kind (calls.Store start bytes) = kinds.Store
call_kind calls.Exit = kinds.Exit

-- the process that a call names; of a Forward, the one that gets the message
abbrev pub partner_of : Call → Option Pid
partner_of (calls.Send target message) = Some target
partner_of (calls.Reply message to) = Some to
partner_of (calls.ReplySegment message to dest src count) = Some to
partner_of (calls.Forward message from to) = Some to
partner_of (calls.MoveTo partner dest src count) = Some partner
partner_of (calls.MoveFrom partner dest src count) = Some partner
partner_of (calls.SetPid logical pid scope) = Some pid
partner_of call = None

abbrev pub act_of : Event → Act
act_of (events.Call pid call) = acts.Call pid (call_kind call) (partner_of call)
act_of (events.Collect pid) = acts.Collect pid
act_of (events.Tick host) = acts.Tick host
act_of (events.Deliver to from event output) = acts.Deliver to from event output

abbrev pub said_by : Answer → Said
said_by (answers.Refused why) = said.Refused why
said_by answer = said.Ok

abbrev pub said_of : EventAnswer → Said
said_of event_answers.Begun = said.Begun
said_of (event_answers.Answered answer) = said_by answer
said_of (event_answers.Ticked now) = said.Now now
said_of event_answers.Taken = said.Taken
said_of event_answers.Old = said.Old
said_of event_answers.Bad = said.Bad

-- a step, and the process that it concerns
abbrev pub step_mark : Step → StepMark
step_mark (steps.Call pid call) = record { kind = marks.Call; pid = pid }
step_mark (steps.Arrive sender number) = record { kind = marks.Arrive; pid = sender }
step_mark (steps.Take pid) = record { kind = marks.Take; pid = pid }
step_mark (steps.Finish pid) = record { kind = marks.Finish; pid = pid }
step_mark (steps.Fail pid why) = record { kind = marks.Fail; pid = pid }
step_mark (steps.OpenMove sender number moving) = record { kind = marks.OpenMove; pid = sender }
step_mark (steps.Copy sender number moving offset count) = record { kind = marks.Copy; pid = sender }
step_mark (steps.End pid why) = record { kind = marks.End; pid = pid }
step_mark (steps.Hear asker number pid) = record { kind = marks.Hear; pid = asker }
step_mark (steps.Found asker pid) = record { kind = marks.Found; pid = asker }
step_mark (steps.Lost asker) = record { kind = marks.Lost; pid = asker }
step_mark (steps.Collect pid) = record { kind = marks.Collect; pid = pid }

abbrev pub frame_mark : Frame → FrameMark
frame_mark f = record { kind = kind_of f.packet; output = f.header.output }

-- an event of this number in the schedule, and what happened at it
abbrev pub picture_row : ℕ → Event → Happened → EventRow
picture_row number e (At host own entry) = record {
  number = number;
  host = host;
  own = own;
  act = act_of e;
  said = said_of entry.answer;
  steps = map step_mark entry.steps;
  frames = map frame_mark entry.frames;
}
picture_row number e (Missing host) =
    record { number = number; host = host; own = 0; act = act_of e; said = said.Missing; steps = []; frames = [] }

-- the rows of events behind so many others, which left these entries
unfoldable pub rows_from : Settings → Logs → ℕ → List Event → List EventRow
rows_from c logs before [] = []
rows_from c logs before (e ∷ es) =
    picture_row (before + 1) e (happened c logs e) ∷ rows_from c (logs_after logs (happened c logs e)) (before + 1) es

abbrev pub rows_of : Settings → List Event → List EventRow
rows_of c es = rows_from c no_entries 0 es

-- what is drawn of the history of a schedule
abbrev pub picture_of : Schedule → Picture
picture_of s = record { columns = columns_of 0 0 s.config.specs; rows = rows_of s.config s.events }
