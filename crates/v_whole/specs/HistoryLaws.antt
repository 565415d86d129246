-- The laws of the one-machine kernel, said of the steps of every history.
use Rattle.std.specs.Prelude.{◌≡◌, ◌<◌, ℕ, false, List, Some, IsSome, All, slice_get}
use Rattle.vk_types.specs.Types.{Exchange, Message, Name, Pid, Process, ProcessSpec, Step}
use Rattle.vk_base.specs.declared.answer.Ending.TheVariants as endings
use Rattle.vk_base.specs.declared.call.Call.TheVariants as calls
use Rattle.vk_base.specs.declared.kernel.State.TheVariants as states
use Rattle.vk_base.specs.declared.step.Step.TheVariants as steps
use Rattle.vk_base.specs.Kernel.{Kernel, name_of, is_live}
use Rattle.vk_base.specs.Settings.{Settings}
use Rattle.vk_schedule.specs.declared.event.Event.{Event}
use Rattle.v_laws.specs.Moves.{HasMoved}
use Rattle.v_laws.specs.Places.{HasOwnReply, IsForwardedBetween, before, taken_at}
use Rattle.v_whole.specs.Delays.{FailsRightly}
use Rattle.vk_rules.specs.Histories.{logs_from, Logs, Happened, At, Missing, no_entries, happened, history_of}
use Rattle.vk_rules.specs.Observed.{all_steps}
use Rattle.vk_rules.specs.Readings.{reading}
use Rattle.v_whole.specs.Schedules.{AreDistinct, AreOfProcesses}

-- the steps of the history of these events, in order
abbrev pub steps_of : Settings → List Event → List Step
steps_of c es = all_steps (history_of c es)

-- each process stands once in the configuration, and who calls is one of them
pub record IsSchedule (c : Settings) (es : List Event) : Type 0 where
  pub distinct : AreDistinct c.specs
  pub callers : AreOfProcesses c.specs es

-- each Take takes a message, and between two that take the same the process that holds it hands it on
abbrev pub TakesOne : Type 0
TakesOne = (c : Settings) (es : List Event) (i : ℕ) (pid : Pid) → IsSchedule c es → slice_get (steps_of c es) i ≡ Some (steps.Take pid) →
    IsSome (taken_at c.specs (steps_of c es) i)

abbrev pub TakenOnce : Type 0
TakenOnce = (c : Settings) (es : List Event) (i j : ℕ) (n : Name) → taken_at c.specs (steps_of c es) i ≡ Some n →
    taken_at c.specs (steps_of c es) j ≡ Some n → i < j → IsForwardedBetween c.specs (steps_of c es) i j n

-- what a sender finishes with is the reply to its own Send
abbrev pub RepliesOwn : Type 0
RepliesOwn = (c : Settings) (es : List Event) (i : ℕ) (s : Pid) → IsSchedule c es → slice_get (steps_of c es) i ≡ Some (steps.Finish s) →
    HasOwnReply c.specs (steps_of c es) i s

-- a remote move that ends ok has copied exactly its bytes
abbrev pub MovesWhole : Type 0
MovesWhole = (c : Settings) (es : List Event) (i : ℕ) (r : Pid) → IsSchedule c es →
    slice_get (steps_of c es) i ≡ Some (steps.End r endings.Ok) → HasMoved c.specs (steps_of c es) i r

-- at this place s waits in a Send whose message is at a process that is not alive: its target, or the last to which it was forwarded
pub record HasDeadTarget (specs : List ProcessSpec) (ss : List Step) (i : ℕ) (s : Pid) : Type 0 where
  pub kernel : Kernel
  pub at : before specs ss i ≡ Some kernel
  pub process : Process
  pub is : kernel.procs s ≡ Some process
  pub target : Pid
  pub message : Message
  pub waits : process.state ≡ states.Blocked (calls.Send target message)
  pub exchange : Exchange
  pub has : kernel.exchanges (name_of s process.sends) ≡ Some exchange
  pub of : exchange.target ≡ target
  pub dead : is_live (kernel.procs exchange.at) ≡ false

-- a Send fails as without a process only where the process that has its message is not alive in the one-machine kernel after the
-- steps so far
abbrev pub DeadTargets : Type 0
DeadTargets = (c : Settings) (es : List Event) (i : ℕ) (s : Pid) → IsSchedule c es →
    slice_get (steps_of c es) i ≡ Some (steps.Fail s endings.NoProcess) → HasDeadTarget c.specs (steps_of c es) i s

-- A Send fails as timed out only at a due tick of its own station that finds it unanswered, and as without a process only by a
-- Negative, in each entry of a history, after the entries that its station had before.
abbrev pub FailsInTurn : Settings → Logs → Happened → Type 0
FailsInTurn c logs (At host event e) = All (FailsRightly c.times (reading c host (logs host)) e.input) e.steps
FailsInTurn c logs (Missing host) = Unit {0}

abbrev pub SendsFailInTurn : Type 0
SendsFailInTurn = (c : Settings) (es : List Event) (event : Event) →
    FailsInTurn c (logs_from c no_entries es) (happened c (logs_from c no_entries es) event)
