-- What a process does, from event to event.
use Rattle.std.specs.Prelude.{ℕ, Bool, false, ◌==◌, ◌&&◌, List, [], ◌∷◌, codes, Option, Some, None, if◌then◌else◌}
use Rattle.vk_types.specs.Types.{Pid}
use Rattle.vk_base.specs.Pids.{same_pid}
use Rattle.vk_base.specs.Settings.{or_else}
use Rattle.vk_picture.specs.declared.lanes.Activity.{Activity}
use Rattle.vk_picture.specs.declared.lanes.Activity.TheVariants as activities
use Rattle.vk_picture.specs.declared.picture.Act.{Act}
use Rattle.vk_picture.specs.declared.picture.Act.TheVariants as acts
use Rattle.vk_picture.specs.declared.picture.CallKind.{CallKind}
use Rattle.vk_picture.specs.declared.picture.CallKind.TheVariants as calls
use Rattle.vk_picture.specs.declared.picture.EventRow.{EventRow}
use Rattle.vk_picture.specs.declared.picture.Said.{Said}
use Rattle.vk_picture.specs.declared.picture.Said.TheVariants as said
use Rattle.vk_picture.specs.declared.picture.StepKind.{StepKind}
use Rattle.vk_picture.specs.declared.picture.StepKind.TheVariants as steps
use Rattle.vk_picture.specs.declared.picture.StepMark.{StepMark}

-- a Send waits for the process that has its message
abbrev pub waiting : CallKind → Option Pid → Activity
waiting calls.Send (Some target) = activities.Sending target
waiting kind partner = activities.Waiting

-- a process waits in a Send to this one of its own station, which exits
abbrev pub is_bereft : Pid → Activity → Pid → Bool
is_bereft p (activities.Sending target) gone = same_pid target gone && p.host == gone.host
is_bereft p a gone = false

-- what the exit of a process makes of another, or of itself
abbrev pub after_exit : Pid → Activity → Pid → Option Activity
after_exit p a gone = if same_pid p gone then Some activities.Dead else if is_bereft p a gone then Some activities.Done else None

-- what a Forward makes of a sender of the forwarder's station: its message is at another process
abbrev pub after_forward : Pid → Pid → Pid → Option Pid → Option Activity
after_forward p pid from (Some to) = if same_pid p from && p.host == pid.host then Some (activities.Sending to) else None
after_forward p pid from None = None

-- what a call makes of a process: its own that is begun, an exit, or a Forward
abbrev pub after_call : Pid → Activity → Pid → CallKind → Option Pid → Said → Option Activity
after_call p a pid kind partner said.Begun = if same_pid p pid then Some (waiting kind partner) else None
after_call p a pid calls.Exit partner said.Ok = after_exit p a pid
after_call p a pid (calls.Forward from) partner said.Ok = after_forward p pid from partner
after_call p a pid kind partner answer = None

abbrev pub after_act : Pid → Activity → Act → Said → Option Activity
after_act p a (acts.Call pid kind partner) answer = after_call p a pid kind partner answer
after_act p a act answer = None

-- a step that ends the call of its process, and one that collects the answer
abbrev pub after_kind : StepKind → Option Activity
after_kind steps.Take = Some activities.Done
after_kind steps.Finish = Some activities.Done
after_kind steps.Fail = Some activities.Done
after_kind steps.End = Some activities.Done
after_kind steps.Found = Some activities.Done
after_kind steps.Lost = Some activities.Done
after_kind steps.Collect = Some activities.Ready
after_kind kind = None

abbrev pub after_step : Pid → StepMark → Option Activity
after_step p s = if same_pid p s.pid then after_kind s.kind else None

-- the first of the steps that concerns what the process does
abbrev pub after_steps : Pid → List StepMark → Option Activity
after_steps p [] = None
after_steps p (s ∷ ss) = or_else (after_step p s) (after_steps p ss)

-- what an event makes of a process: its steps tell it, else its answer
abbrev pub turn_of : Pid → Activity → EventRow → Option Activity
turn_of p a r = or_else (after_steps p r.steps) (after_act p a r.act r.said)

abbrev pub activity_word : Activity → List ℕ
activity_word activities.Ready = codes "ready"
activity_word (activities.Sending target) = codes "blocked"
activity_word activities.Waiting = codes "blocked"
activity_word activities.Done = codes "done"
activity_word activities.Dead = codes "dead"
