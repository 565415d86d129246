-- Where a Send to a process of the same station ends as without a process.
use Rattle.std.specs.Prelude.{◌≡◌, ℕ, true, false, ◌&&◌, not, List, length, Some}
use Rattle.vk_types.specs.Types.{Exchange, Message, Pid, Process}
use Rattle.vk_base.specs.declared.answer.Answer.TheVariants as answers
use Rattle.vk_base.specs.declared.answer.Refusal.TheVariants as refusals
use Rattle.vk_base.specs.declared.call.Call.TheVariants as calls
use Rattle.vk_base.specs.declared.event.EventAnswer.TheVariants as events_answered
use Rattle.vk_base.specs.Kernel.{name_of, is_at_target, is_live, is_ready}
use Rattle.vk_base.specs.Messages.{segment_of}
use Rattle.vk_base.specs.Pids.{same_host}
use Rattle.vk_base.specs.Ranges.{lies_in}
use Rattle.vk_base.specs.Settings.{Settings}
use Rattle.vk_rules.specs.CallOutcomes.{is_ok}
use Rattle.vk_rules.specs.Entries.{Input, Called}
use Rattle.vk_rules.specs.Readings.{Reading}
use Rattle.vk_rules.specs.Right.{answer_to}
use Rattle.v_due.specs.Failures.{IsBlocked, EndsRefused, reading_behind}
use Rattle.v_due.specs.Turns.{next_entry}

-- A process that is alive and ready calls for a Send, whose segment lies in its memory.
pub record MaySend (r : Reading) (s : Pid) (m : Message) : Type 0 where
  pub process : Process
  pub is : r.view.procs s ≡ Some process
  pub alive : process.alive ≡ true
  pub ready : is_ready process.state ≡ true
  pub segment : lies_in (segment_of m) (length process.memory) ≡ true

-- Its call is refused as without a process where the target is one of its station and not alive, and only there.
abbrev pub DeadTargetsAreRefused : Type 0
DeadTargetsAreRefused = (c : Settings) (host : ℕ) (r : Reading) (s target : Pid) (m : Message) → MaySend r s m →
    (same_host s target && not (is_live (r.view.procs target))) ≡ true →
    answer_to c host r (Called s (calls.Send target m)) ≡ events_answered.Answered (answers.Refused refusals.NoProcess)

abbrev pub OtherSendsBegin : Type 0
OtherSendsBegin = (c : Settings) (host : ℕ) (r : Reading) (s target : Pid) (m : Message) → MaySend r s m →
    (same_host s target && not (is_live (r.view.procs target))) ≡ false →
    answer_to c host r (Called s (calls.Send target m)) ≡ events_answered.Begun

-- A process is blocked in a Send to one of its station.
pub record WaitsNear (c : Settings) (host : ℕ) (is : List Input) (s target : Pid) (m : Message) : Type 0 where
  pub waits : IsBlocked c host is s (calls.Send target m)
  pub near : same_host s target ≡ true

-- The process that has its message exits next: the target, or who had it by a Forward last.
pub record HolderExits (c : Settings) (host : ℕ) (is : List Input) (i : Input) (s : Pid) : Type 0 where
  pub process : Process
  pub there : (reading_behind c host is).view.procs s ≡ Some process
  pub exchange : Exchange
  pub sent : (reading_behind c host is).view.exchanges (name_of s process.sends) ≡ Some exchange
  pub waits : is_at_target exchange.stage ≡ true
  pub exits : i ≡ Called exchange.at calls.Exit
  pub answered : is_ok (next_entry c host is i).answer ≡ true

-- The Send ends as without a process by that alone; and by that it does.
abbrev pub NearSendsFailByExits : Type 0
NearSendsFailByExits = (c : Settings) (host : ℕ) (is : List Input) (i : Input) (s target : Pid) (m : Message) →
    WaitsNear c host is s target m →
    EndsRefused c host is i s (calls.Send target m) refusals.NoProcess → HolderExits c host is i s

abbrev pub ExitsEndNearSends : Type 0
ExitsEndNearSends = (c : Settings) (host : ℕ) (is : List Input) (i : Input) (s target : Pid) (m : Message) →
    WaitsNear c host is s target m →
    HolderExits c host is i s → EndsRefused c host is i s (calls.Send target m) refusals.NoProcess
