-- What a coordinator and its helpers do for the members of a group, in the runs of the one-machine kernel.
use Rattle.std.specs.Prelude.{ℕ, ◌≡◌, ◌+◌, ◌<◌, true, List, length, slice_get, Some}
use Rattle.vk_types.specs.Types.{Answer, Call, Message, Name, Pid, Process, ProcessSpec, Step}
use Rattle.vk_base.specs.declared.call.Call.TheVariants as calls
use Rattle.vk_base.specs.declared.limits.TheConstants.{MESSAGE_BYTES}
use Rattle.vk_base.specs.declared.step.Step.TheVariants as steps
use Rattle.vk_base.specs.Messages.{segment_of}
use Rattle.vk_base.specs.Ranges.{range_of, bytes_in}
use Rattle.vk_base.specs.Kernel.{initial_kernel, name_of}
use Rattle.vk_base.specs.Steps.{Run, run}
use Rattle.v_laws.specs.Places.{HasOwnReply, IsForwardedBetween, brought_at, process_at, seen_at, taken_at}
use Rattle.v_laws.specs.Reached.{saw}
use Rattle.vk_group.specs.declared.helping.Helping.TheVariants as helpings
use Rattle.vk_group.specs.declared.code.Code.TheVariants as codes
use Rattle.vk_event.specs.declared.pair.HelperPair.{HelperPair}
use Rattle.vk_group.specs.declared.notes.Note.{Note}
use Rattle.vk_group.specs.declared.stage.OpenSend.{OpenSend}
use Rattle.vk_group.specs.Accounts.{Began, Deed, Heard, Report, account_after, deed_of}
use Rattle.vk_group.specs.Deeds.{IsGiven}
use Rattle.vk_group.specs.Groups.{coordinator_call, group_after}
use Rattle.vk_group.specs.Helpers.{helped_all, helper_call}
use Rattle.vk_group.specs.Messages.{reply_of, result_message}
use Rattle.v_pages.specs.Followed.{FollowsTask, answers_before}

-- The process r follows the task of a coordinator of these pairs, and the helper of each follows that of a helper.
pub record IsGroup (specs : List ProcessSpec) (ss : List Step) (r : Pid) (pairs : List HelperPair) (replies : ℕ) : Type 0 where
  pub coordinator : FollowsTask (coordinator_call pairs replies) specs ss r
  pub helpers : (number : ℕ) (pair : HelperPair) → slice_get pairs number ≡ Some pair →
      FollowsTask (helper_call r pair.member) specs ss pair.helper

-- At place i the coordinator r calls, and what it is answered brings this deed about.
pub record IsDoneAt (specs : List ProcessSpec) (ss : List Step) (r : Pid) (pairs : List HelperPair) (replies i : ℕ) (d : Deed) :
    Type 0 where
  pub call : Call
  pub answer : Answer
  pub is : slice_get ss i ≡ Some (steps.Call r call)
  pub seen : seen_at specs ss i ≡ saw r call answer
  pub deed : deed_of (group_after pairs replies (answers_before specs ss r i)) answer ≡ Some d

-- Between these two places the coordinator r begins no group Send: the one that is current at the later place is that of the earlier one.
abbrev pub IsSameSend : List ProcessSpec → List Step → Pid → List HelperPair → ℕ → ℕ → ℕ → Type 0
IsSameSend specs ss r pairs replies i j =
    (l : ℕ) (asked : OpenSend) → i < l → l < j → IsDoneAt specs ss r pairs replies l (Began asked) → ⊥

-- The group Send that is the current one of the coordinator r at place i. Its message is what stood in a segment of its client when that
-- called for a Send, and r took the Send of the client that was its next one there. Behind the Take r began the group Send, and from there
-- to place i it began no other.
pub record IsCurrentAt (specs : List ProcessSpec) (ss : List Step) (r : Pid) (pairs : List HelperPair) (replies i : ℕ) (asked : OpenSend) :
    Type 0 where
  -- the client asks
  pub ask : ℕ
  pub to : Pid
  pub asks : Message
  pub called : slice_get ss ask ≡ Some (steps.Call asked.client (calls.Send to asks))
  pub caller : Process
  pub at : process_at specs ss ask asked.client ≡ Some caller
  pub message : asked.message.0 ≡ bytes_in (segment_of asks) caller.memory
  -- r takes what it asks
  pub take : ℕ
  pub behind : ask < take
  pub receives : slice_get ss take ≡ Some (steps.Take r)
  pub takes : taken_at specs ss take ≡ Some (name_of asked.client (caller.sends + 1))
  -- r begins it
  pub begun : ℕ
  pub later : take < begun
  pub began : IsDoneAt specs ss r pairs replies begun (Began asked)
  -- and no other since
  pub earlier : begun < i
  pub same : IsSameSend specs ss r pairs replies begun i

-- Before place i the coordinator r gave the helper h this message as a job: its call then brings h the message of the group Send that
-- was the current one, which r had taken and begun before.
pub record IsJobGiven (specs : List ProcessSpec) (ss : List Step) (r : Pid) (pairs : List HelperPair) (replies : ℕ) (h : Pid) (i : ℕ)
    (job : Message) : Type 0 where
  pub place : ℕ
  pub earlier : place < i
  pub number : ℕ
  pub given : IsGiven pairs replies (answers_before specs ss r place) number
  pub helper : given.pair.helper ≡ h
  pub message : given.asked.message ≡ job
  pub current : IsCurrentAt specs ss r pairs replies place given.asked
  pub dest : ℕ
  pub called : slice_get ss place ≡ Some (steps.Call r (calls.ReplySegment (reply_of codes.Done 0) h dest 0 MESSAGE_BYTES))

-- At this place `from` holds the message n and hands it on to `to`, which is not refused.
pub record IsHandedOn (specs : List ProcessSpec) (ss : List Step) (i : ℕ) (n : Name) (from to : Pid) : Type 0 where
  pub shown : Message
  pub is : slice_get ss i ≡ Some (steps.Call from (calls.Forward shown n.sender to))
  pub brings : brought_at specs ss i ≡ Some n

-- To whom the message n has come before a place, where it was sent to `target` at place `send`: to `target`, or to a process to which one
-- handed it on, at an earlier place, to which it had come before that.
pub data HasComeTo (specs : List ProcessSpec) (ss : List Step) (n : Name) (send : ℕ) (target : Pid) : ℕ → Pid → Type 0 where
  sent : (i : ℕ) → send < i → HasComeTo specs ss n send target i target
  handed : (i place : ℕ) (from to : Pid) → place < i → HasComeTo specs ss n send target place from →
      IsHandedOn specs ss place n from to → HasComeTo specs ss n send target i to

-- The helper h, whose process is p before place i, sent its job to its member, and no Send since. After that a process took that message
-- and replied to it: the member, or one to which the message came from the member by Forwards, each behind the Send and before that Take.
-- Between any two Takes of the message there is a Forward of it. The reply is what stands at the beginning of the memory of p, where it
-- has the 32 bytes that every message has which code can hold.
pub record IsRepliedBy (specs : List ProcessSpec) (ss : List Step) (h member : Pid) (i : ℕ) (p : Process) : Type 0 where
  pub job : Message
  pub send : ℕ
  pub caller : Process
  pub at : process_at specs ss send h ≡ Some caller
  pub called : slice_get ss send ≡ Some (steps.Call h (calls.Send member job))
  pub sending : helped_all helpings.Ready (answers_before specs ss h send) ≡ helpings.Send job
  pub finish : ℕ
  pub ended : finish < i
  pub own : HasOwnReply specs ss finish h
  pub target : own.target ≡ member
  pub message : own.finish.message ≡ job
  pub number : own.number ≡ caller.sends + 1
  pub last : p.sends ≡ own.number
  pub behind : send < own.take_place
  pub by : HasComeTo specs ss (name_of h own.number) send member own.take_place own.holder
  pub once : (j l : ℕ) → taken_at specs ss j ≡ Some (name_of h own.number) → taken_at specs ss l ≡ Some (name_of h own.number) → j < l →
      IsForwardedBetween specs ss j l (name_of h own.number)
  pub bytes : length own.reply.0 ≡ MESSAGE_BYTES → bytes_in (range_of 0 MESSAGE_BYTES) p.memory ≡ own.reply.0

-- What the coordinator r has at place i as the reply of a member: before, it took a Send of that member's helper, which is the helper's
-- result. When the helper called for it, these bytes stood at the beginning of its memory; they are what its last Send before was replied,
-- which was to the member, and the message of that Send was a job which r gave it before. From where the group Send began for which r gave
-- that job, r begins no other up to place i: it is the one that is current there.
pub record IsMemberReply (specs : List ProcessSpec) (ss : List Step) (r : Pid) (pairs : List HelperPair) (replies i : ℕ) (n : Note) :
    Type 0 where
  pub pair : HelperPair
  pub its : slice_get pairs n.member ≡ Some pair
  -- r takes the result
  pub take : ℕ
  pub earlier : take < i
  pub name : Name
  pub sender : name.sender ≡ pair.helper
  pub receives : slice_get ss take ≡ Some (steps.Take r)
  pub takes : taken_at specs ss take ≡ Some name
  -- the helper sent it
  pub tell : ℕ
  pub first : tell < take
  pub called : slice_get ss tell ≡ Some (steps.Call pair.helper (calls.Send r (result_message true)))
  pub caller : Process
  pub at : process_at specs ss tell pair.helper ≡ Some caller
  pub number : name.number ≡ caller.sends + 1
  pub bytes : n.message.0 ≡ bytes_in (range_of 0 MESSAGE_BYTES) caller.memory
  -- after its member replied
  pub replied : IsRepliedBy specs ss pair.helper pair.member tell caller
  pub given : IsJobGiven specs ss r pairs replies pair.helper replied.send replied.job
  -- it is still the same group Send
  pub same : IsSameSend specs ss r pairs replies given.current.begun i

-- In each run in which r and its helpers follow their tasks, each reply that r hears of is a member's.
abbrev pub RepliesAreMembers : Type 0
RepliesAreMembers = (specs : List ProcessSpec) (ss : List Step) (whole : Run) (r : Pid) (pairs : List HelperPair) (replies i : ℕ)
    (heard : Report) (m : Message) → run (initial_kernel specs) ss ≡ Some whole → IsGroup specs ss r pairs replies →
    IsDoneAt specs ss r pairs replies i (Heard heard) → heard.reply ≡ Some m →
    IsMemberReply specs ss r pairs replies i (record { member = heard.member; message = m })

-- Each reply that r handed over for its current group Send is a member's, which r heard of before, and the group Send for which r gave that
-- member's helper the job is the current one: from where it began r begins no other.
abbrev pub HandedOverAreMembers : Type 0
HandedOverAreMembers = (specs : List ProcessSpec) (ss : List Step) (whole : Run) (r : Pid) (pairs : List HelperPair) (replies i l : ℕ)
    (n : Note) → run (initial_kernel specs) ss ≡ Some whole → IsGroup specs ss r pairs replies →
    slice_get (account_after pairs replies (answers_before specs ss r i)).handed_over l ≡ Some n →
    (j : ℕ) × (j < i) × (m : IsMemberReply specs ss r pairs replies j n) × IsSameSend specs ss r pairs replies m.given.current.begun i
