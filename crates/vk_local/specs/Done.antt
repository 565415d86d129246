-- What each rule leaves by the tables, whatever these stand for: its answer, the tables, and the steps and packets behind those before.
use Rattle.std.specs.Prelude.{ℕ, ◌≡◌, List, [], ◌∷◌, ◌++◌, Option, Some}
use Rattle.vk_types.specs.Types.{Direction, Message, Outcome, Pid, Step, Waiting}
use Rattle.vk_base.specs.declared.activity.Outcome.TheVariants as outcomes
use Rattle.vk_base.specs.declared.call.Call.TheVariants as calls
use Rattle.vk_base.specs.declared.step.Step.TheVariants as steps
use Rattle.vk_packet.specs.Posts.{Posts}
use Rattle.vk_procs.specs.declared.seat.Seat.{Seat}
use Rattle.vk_local.specs.declared.access.Segment.{Segment}
use Rattle.vk_local.specs.Access.{access_refusal, not_awaiting}
use Rattle.vk_local.specs.Calls.{after_forward, after_move, after_receive, after_reply, after_reply_segment, after_send, begun_by, done_by, forward_refusal, forward_steps, move_access, move_call, receive_refusal, receive_steps, reply_access, reply_segment_steps, reply_steps, send_refusal, send_steps}
use Rattle.vk_local.specs.Exits.{exited, negatives}
use Rattle.vk_stands.specs.Rules.{posted}
use Rattle.vk_stands.specs.Tables.{Tables}

-- A call that changes processes alone.
pub record LeavesSeats (due : Option Outcome) (left : List Seat) (made : List Step) (answer : Option Outcome) (new : List Seat)
    (before after : List Step) : Type 0 where
  pub outcome : answer ≡ due
  pub seats : new ≡ left
  pub steps : after ≡ before ++ made

abbrev pub IsReply : Pid → Pid → Message → Option Outcome → (old new : List Seat) → (before after : List Step) → Type 0
IsReply pid to m answer old new before after =
    LeavesSeats (done_by (not_awaiting old pid to)) (after_reply old pid to m) (reply_steps old pid to m) answer new before after

abbrev pub IsReplySegment : Pid → Pid → Message → Segment → Option Outcome → (old new : List Seat) → (before after : List Step) → Type 0
IsReplySegment pid to m s answer old new before after =
    LeavesSeats (done_by (access_refusal old pid to (reply_access s))) (after_reply_segment old pid to m s)
    (reply_segment_steps old pid to m s) answer new before after

abbrev pub IsMove : Direction → Pid → Pid → Segment → Option Outcome → (old new : List Seat) → (before after : List Step) → Type 0
IsMove way pid partner s answer old new before after =
    LeavesSeats (done_by (access_refusal old pid partner (move_access way s))) (after_move way old pid partner s)
    (steps.Call pid (move_call way partner s) ∷ []) answer new before after

-- A call that changes processes, queues and aliens.
pub record LeavesTables (due : Option Outcome) (left : Tables) (made : List Step) (answer : Option Outcome) (new : Tables)
    (before after : List Step) : Type 0 where
  pub outcome : answer ≡ due
  pub seats : new.seats ≡ left.seats
  pub lists : new.lists ≡ left.lists
  pub slots : new.slots ≡ left.slots
  pub steps : after ≡ before ++ made

abbrev pub IsSendDone : Pid → Pid → Message → Option Outcome → (old new : Tables) → (before after : List Step) → Type 0
IsSendDone pid target m answer old new before after =
    LeavesTables (begun_by (send_refusal old.seats pid target m)) (after_send old pid target m) (send_steps old pid target m)
    answer new before after

abbrev pub IsReceive : Pid → Waiting → Option Outcome → (old new : Tables) → (before after : List Step) → Type 0
IsReceive pid w answer old new before after =
    LeavesTables (begun_by (receive_refusal old.seats pid w)) (after_receive old pid w) (receive_steps old pid w) answer new before after

abbrev pub IsForward : Pid → Pid → Message → Pid → Option Outcome → (old new : Tables) → (before after : List Step) → Type 0
IsForward pid from m to answer old new before after =
    LeavesTables (done_by (forward_refusal old.seats pid from to)) (after_forward old pid from m to) (forward_steps old pid from m to)
    answer new before after

-- An exit also forgets names, and tells other stations.
pub record IsExit (pid : Pid) (now : ℕ) (answer : Option Outcome) (old new : Tables) (before after : List Step) (sent out : Posts) : Type 0
  where
    pub outcome : answer ≡ Some outcomes.Ok
    pub seats : new.seats ≡ (exited old pid now).seats
    pub lists : new.lists ≡ (exited old pid now).lists
    pub slots : new.slots ≡ (exited old pid now).slots
    pub names : new.names ≡ (exited old pid now).names
    pub steps : after ≡ before ++ steps.Call pid calls.Exit ∷ []
    pub packets : out ≡ posted sent (negatives pid old.slots)
