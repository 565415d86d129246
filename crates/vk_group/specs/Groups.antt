-- A coordinator: what it knows of its group, and what it does.
use Rattle.std.specs.Prelude.{ℕ, Bool, true, false, ◌-◌, ◌==◌, ◌&&◌, ◌||◌, ◌<◌, not, List, [], ◌∷◌, length, map, drop, slice_get, Option, Some, None, if◌then◌else◌}
use Rattle.std.specs.List.{list_any, list_all, position}
use Rattle.std.specs.Option.{is_some}
use Rattle.vk_types.specs.Types.{Answer, Call, Message, Pid}
use Rattle.vk_base.specs.declared.answer.Answer.TheVariants as answers
use Rattle.vk_base.specs.declared.call.Call.TheVariants as calls
use Rattle.vk_base.specs.declared.limits.TheConstants.{MESSAGE_BYTES, SEGMENT_BYTES}
use Rattle.vk_base.specs.Messages.{grants_read, grants_write}
use Rattle.vk_base.specs.Options.{◌>>=◌}
use Rattle.vk_base.specs.Pids.{same_pid}
use Rattle.vk_group.specs.declared.code.Code.{Code}
use Rattle.vk_group.specs.declared.code.Code.TheVariants as codes
use Rattle.vk_group.specs.declared.group.Group.{Group}
use Rattle.vk_group.specs.declared.notes.Note.{Note}
use Rattle.vk_event.specs.declared.pair.HelperPair.{HelperPair}
use Rattle.vk_event.specs.declared.pair.TheConstants.{GROUP_MEMBERS}
use Rattle.vk_group.specs.declared.request.Request.{Request}
use Rattle.vk_group.specs.declared.request.Request.TheVariants as requests
use Rattle.vk_group.specs.declared.stage.OpenSend.{OpenSend}
use Rattle.vk_group.specs.declared.stage.HelperJob.{HelperJob}
use Rattle.vk_group.specs.declared.stage.Stage.{Stage}
use Rattle.vk_group.specs.declared.stage.Stage.TheVariants as stages
use Rattle.vk_group.specs.declared.stage.Wait.{Wait}
use Rattle.vk_group.specs.Members.{given, has_job, holds_job, has_replied, has_reported, is_due, is_helper, is_ready, made_ready, new_member, reported, restarted, told, was_told}
use Rattle.vk_group.specs.Messages.{message_in, reply_of, request_in}
use Rattle.vk_group.specs.Notes.{noted}

-- all members reported on the current group Send; there is one, and not all did
abbrev pub all_reported : Group → Bool
all_reported g = list_all has_reported g.members

abbrev pub is_busy : Group → Bool
is_busy g = is_some g.asked && not (all_reported g)

-- all replies to clients were made, and no helper has a job
abbrev pub is_ending : Group → Bool
is_ending g = g.left == 0 && not (list_any has_job g.members)

-- who made the current group Send
abbrev pub is_client : Option OpenSend → Pid → Bool
is_client None from = false
is_client (Some a) from = same_pid a.client from

-- the number of the member that has this helper
abbrev pub number_of : Group → Pid → Option ℕ
number_of g helper = position (is_helper helper) g.members

-- What is done between two requests: jobs are given; then a client that waits is settled; and at the end helpers are told.

-- the first ready helper that has not got the job
abbrev pub job_due : Group → Option HelperJob
job_due g = do
  a ← g.asked
  number ← position is_due g.members
  m ← slice_get g.members number
  dest ← m.ready
  Some (record { member = number; helper = m.pair.helper; dest = dest; message = a.message })

-- the first ready helper
abbrev pub helper_due : Group → Option Stage
helper_due g = do
  number ← position is_ready g.members
  m ← slice_get g.members number
  Some (stages.Tell number m.pair.helper)

-- a client waits: the earliest reply goes to it; else it is told that there is none, once all members reported or the end has come
abbrev pub settled : Group → Wait → Option Note → Stage
settled g w (Some n) = stages.StoreReply w n
settled g w None =
    if all_reported g then stages.EndWait w.client (if list_any has_replied g.members then codes.NoMore else codes.Nobody)
    else if is_ending g then stages.EndWait w.client codes.Bad
    else stages.Receive

-- at the end: a helper is told, and once all were, nothing is left to do
abbrev pub told_next : Group → Option Stage → Stage
told_next g (Some s) = s
told_next g None = if list_all was_told g.members then stages.Exit else stages.Receive

abbrev pub by_waiting : Group → Option Wait → Stage
by_waiting g (Some w) = settled g w (slice_get g.notes 0)
by_waiting g None = if is_ending g then told_next g (helper_due g) else stages.Receive

abbrev pub by_job : Group → Option HelperJob → Stage
by_job g (Some j) = stages.StoreJob j
by_job g None = by_waiting g g.waiting

abbrev pub next_stage : Group → Stage
next_stage g = if is_ending g then by_waiting g g.waiting else by_job g (job_due g)

abbrev pub rest : Group → Group
rest g = record g { stage = next_stage g }

-- What is done with a request.

abbrev pub ended : Group → Group
ended g = record g { stage = stages.Ended }

abbrev pub refused : Group → Pid → Code → Bool → Group
refused g to code counts = record g { stage = stages.Refuse to code counts }

-- the replies that count are those to clients: who asks for a group Send or a reply, and whoever is no helper
abbrev pub refused_as : Group → Pid → Option ℕ → Group
refused_as g to number = refused g to codes.Bad (not (is_some number))

-- a helper is ready
abbrev pub ready_from : Group → Pid → ℕ → Option ℕ → Group
ready_from g from dest None = refused_as g from None
ready_from g from dest (Some number) = rest (record g { members = made_ready number dest g.members })

-- a report, which only a helper makes that has a job
abbrev pub result_from : Group → Pid → Bool → Option ℕ → Group
result_from g from replied None = refused_as g from None
result_from g from replied (Some number) =
    if holds_job (slice_get g.members number) then record g { stage = stages.LoadResult number from replied }
    else refused_as g from (Some number)

abbrev pub taken : Group → Pid → Request → Group
taken g from (requests.GroupSend dest) =
    if is_ending g then refused g from codes.Bad true else record g { stage = stages.LoadSend from dest }
taken g from (requests.GetReply dest) =
    if is_ending g || not (is_client g.asked from) then refused g from codes.Bad true
    else rest (record g { waiting = Some (record { client = from; dest = dest }) })
taken g from (requests.Ready dest) = ready_from g from dest (number_of g from)
taken g from (requests.Result replied) = result_from g from replied (number_of g from)
taken g from requests.Bad = refused_as g from (number_of g from)

abbrev pub heard : Group → Answer → Group
heard g (answers.ReceivedSegment from m count) = taken g from (request_in m count)
heard g _ = ended g

-- The message of a group Send was loaded. It is refused where it grants access, or a member has not reported on the last one; else a
-- new group Send begins.
abbrev pub verdict : Group → Message → Option Code
verdict g m = if grants_read m || grants_write m then Some codes.Bad else if is_busy g then Some codes.Busy else None

abbrev pub begun : Group → Pid → ℕ → Message → Group
begun g client dest m = rest (record g {
  members = restarted g.members;
  asked = Some (record { client = client; message = m });
  notes = [];
  waiting = Some (record { client = client; dest = dest });
})

abbrev pub begun_by : Group → Pid → ℕ → Message → Option Code → Group
begun_by g client dest m None = begun g client dest m
begun_by g client dest m (Some code) = refused g client code true

abbrev pub loaded_send : Group → Pid → ℕ → Option Message → Group
loaded_send g client dest None = ended g
loaded_send g client dest (Some m) = begun_by g client dest m (verdict g m)

-- what a member replied was loaded
abbrev pub loaded_result : Group → ℕ → Pid → Bool → Option Message → Group
loaded_result g number helper replied None = ended g
loaded_result g number helper replied (Some m) = record g {
  members = reported number replied g.members;
  notes = noted replied (record { member = number; message = m }) g.notes;
  stage = stages.Thank helper;
}

-- What comes of the answer to its last call.

-- how many replies to clients are left, after one that counts or does not
abbrev pub left_after : Bool → ℕ → ℕ
left_after true left = left - 1
left_after false left = left

-- a reply to a client ends its wait, whatever it is answered
abbrev pub wait_over : Group → Group
wait_over g = record g { waiting = None; left = g.left - 1 }

-- a reply of a member is handed over exactly where that is answered so
abbrev pub notes_after : Answer → List Note → List Note
notes_after answers.Ok notes = drop 1 notes
notes_after _ notes = notes

abbrev pub answered_at : Stage → Group → Answer → Group
answered_at stages.Receive g a = heard g a
answered_at (stages.LoadSend client dest) g a = loaded_send g client dest (message_in a)
answered_at (stages.LoadResult number helper replied) g a = loaded_result g number helper replied (message_in a)
answered_at (stages.Refuse to code counts) g a = rest (record g { left = left_after counts g.left })
answered_at (stages.Thank helper) g a = rest g
answered_at (stages.StoreJob j) g a = record g { stage = stages.GiveJob j }
answered_at (stages.GiveJob j) g a = rest (record g { members = given j.member g.members })
answered_at (stages.StoreReply w n) g a = record g { stage = stages.HandOver w n }
answered_at (stages.HandOver w n) g a = rest (wait_over (record g { notes = notes_after a g.notes }))
answered_at (stages.EndWait client code) g a = rest (wait_over g)
answered_at (stages.Tell number helper) g a = rest (record g { members = told number g.members })
answered_at stages.Exit g a = ended g
answered_at stages.Ended g a = ended g

abbrev pub answered : Group → Answer → Group
answered g a = answered_at g.stage g a

-- what it calls
abbrev pub stage_call : Stage → Option Call
stage_call stages.Receive = Some (calls.ReceiveSegment 0 SEGMENT_BYTES)
stage_call (stages.LoadSend client dest) = Some (calls.Load 0 MESSAGE_BYTES)
stage_call (stages.LoadResult number helper replied) = Some (calls.Load 0 MESSAGE_BYTES)
stage_call (stages.Refuse to code counts) = Some (calls.Reply (reply_of code 0) to)
stage_call (stages.Thank helper) = Some (calls.Reply (reply_of codes.Done 0) helper)
stage_call (stages.StoreJob j) = Some (calls.Store 0 j.message.0)
stage_call (stages.GiveJob j) = Some (calls.ReplySegment (reply_of codes.Done 0) j.helper j.dest 0 MESSAGE_BYTES)
stage_call (stages.StoreReply w n) = Some (calls.Store 0 n.message.0)
stage_call (stages.HandOver w n) = Some (calls.ReplySegment (reply_of codes.Done n.member) w.client w.dest 0 MESSAGE_BYTES)
stage_call (stages.EndWait client code) = Some (calls.Reply (reply_of code 0) client)
stage_call (stages.Tell number helper) = Some (calls.Reply (reply_of codes.End 0) helper)
stage_call stages.Exit = Some calls.Exit
stage_call stages.Ended = None

-- after all these answers, one after the other
abbrev pub answered_all : Group → List Answer → Group
answered_all g [] = g
answered_all g (a ∷ rest) = answered_all (answered g a) rest

-- before its first call
abbrev pub new_group : List HelperPair → ℕ → Group
new_group pairs requests = rest (record {
  members = map new_member pairs;
  asked = None;
  notes = [];
  waiting = None;
  left = requests;
  stage = stages.Receive;
})

-- the coordinator of these pairs after these answers, and what it calls then; it makes so many replies to clients
abbrev pub group_after : List HelperPair → ℕ → List Answer → Group
group_after pairs requests answers = answered_all (new_group pairs requests) answers

abbrev pub coordinator_call : List HelperPair → ℕ → List Answer → Option Call
coordinator_call pairs requests answers = stage_call (group_after pairs requests answers).stage

-- there is room for one reply more where one is loaded
abbrev pub HasRoomAt : Stage → ℕ → Type 0
HasRoomAt (stages.LoadResult number helper replied) notes = notes < GROUP_MEMBERS
HasRoomAt _ notes = Unit {0}

abbrev pub HasRoomForNote : Group → Type 0
HasRoomForNote g = HasRoomAt g.stage (length g.notes)
