-- Words of the labels.
use Rattle.std.specs.Prelude.{ℕ, List, [], ◌∷◌, ◌++◌, codes, decimal, Option, Some, None}
use Rattle.vk_types.specs.Types.{Pid}
use Rattle.vk_text.specs.Spelling.{pid_text}
use Rattle.v_trace.specs.Texts.{refusal_text}
use Rattle.vk_report.specs.declared.frame.PacketKind.{PacketKind}
use Rattle.vk_report.specs.Report.{kind_text}
use Rattle.vk_picture.specs.declared.picture.CallKind.{CallKind}
use Rattle.vk_picture.specs.declared.picture.CallKind.TheVariants as calls
use Rattle.vk_picture.specs.declared.picture.StepKind.{StepKind}
use Rattle.vk_picture.specs.declared.picture.StepKind.TheVariants as steps
use Rattle.vk_picture.specs.declared.picture.StepMark.{StepMark}
use Rattle.vk_picture.specs.declared.picture.Said.{Said}
use Rattle.vk_picture.specs.declared.picture.Said.TheVariants as said
use Rattle.vk_picture.specs.declared.picture.Act.{Act}
use Rattle.vk_picture.specs.declared.picture.Act.TheVariants as acts

abbrev pub call_word : CallKind → List ℕ
call_word calls.Send = codes "send"
call_word calls.Receive = codes "receive"
call_word calls.ReceiveSegment = codes "receivesegment"
call_word calls.Reply = codes "reply"
call_word calls.ReplySegment = codes "replysegment"
call_word (calls.Forward from) = codes "forward"
call_word calls.MoveTo = codes "moveto"
call_word calls.MoveFrom = codes "movefrom"
call_word calls.SetPid = codes "setpid"
call_word calls.GetPid = codes "getpid"
call_word calls.Load = codes "load"
call_word calls.Store = codes "store"
call_word calls.Exit = codes "exit"

abbrev pub step_word : StepKind → List ℕ
step_word steps.Call = codes "call"
step_word steps.Arrive = codes "arrive"
step_word steps.Take = codes "take"
step_word steps.Finish = codes "finish"
step_word steps.Fail = codes "fail"
step_word steps.OpenMove = codes "open"
step_word steps.Copy = codes "copy"
step_word steps.End = codes "end"
step_word steps.Hear = codes "hear"
step_word steps.Found = codes "found"
step_word steps.Lost = codes "lost"
step_word steps.Collect = codes "collect"

-- the answer, where it is worth a word: a call that is begun shows a bar, and a frame that is taken its arrow
abbrev pub said_text : Said → List ℕ
said_text said.Begun = []
said_text said.Ok = codes "ok"
said_text (said.Refused why) = refusal_text why
said_text (said.Now tick) = decimal tick
said_text said.Taken = []
said_text said.Old = codes "old"
said_text said.Bad = codes "bad"
said_text said.Missing = codes "missing"

-- the process that a call names, where it names one
abbrev pub partner_text : Option Pid → List ℕ
partner_text None = []
partner_text (Some p) = 32 ∷ pid_text p

-- whose message a call hands on, where it hands one on
abbrev pub handed_from : CallKind → Option Pid
handed_from (calls.Forward from) = Some from
handed_from kind = None

-- what is brought, where it is known
abbrev pub brought_text : Option PacketKind → List ℕ
brought_text None = []
brought_text (Some kind) = kind_text kind

-- the words before the answer
abbrev pub act_text : Option PacketKind → Act → List ℕ
act_text brought (acts.Call pid kind partner) = call_word kind ++ partner_text (handed_from kind) ++ partner_text partner
act_text brought (acts.Collect pid) = []
act_text brought (acts.Tick host) = []
act_text brought (acts.Deliver to from event output) = brought_text brought

abbrev pub label_text : Option PacketKind → Act → Said → List ℕ
label_text brought act answer = act_text brought act ++ 32 ∷ said_text answer

abbrev pub step_words : StepMark → List ℕ
step_words s = step_word s.kind ++ 32 ∷ pid_text s.pid

unfoldable pub step_text : StepMark → List ℕ
step_text s = codes "<tspan dx=\"12\">" ++ step_words s ++ codes "</tspan>"
