-- What holds of the view of a station in a storm, and of what stations send in it.
use Rattle.std.specs.Prelude.{◌≡◌, ℕ, true, false, ◌==◌, [], Some, None}
use Rattle.vk_types.specs.Types.{Answer, Call, Exchange, Name, Pid, Process, State}
use Rattle.vk_base.specs.declared.answer.Answer.TheVariants as answers
use Rattle.vk_base.specs.declared.call.Call.TheVariants as calls
use Rattle.vk_base.specs.declared.kernel.State.TheVariants as states
use Rattle.vk_base.specs.Kernel.{Kernel}
use Rattle.vk_base.specs.Messages.{IsMessage}
use Rattle.vk_base.specs.Packets.{Packet, Send, Reply, Pending, Negative}
use Rattle.vk_base.specs.Settings.{has_process}
use Rattle.vk_drive.specs.Tasks.{specs}
use Rattle.vk_rules.specs.Observed.{is_not_yet}

-- one of the four processes
abbrev pub IsOurs : Pid → Type 0
IsOurs pid = has_process specs pid ≡ true

-- The calls that programs of pages make.
abbrev pub IsPlain : Call → Type 0
IsPlain (calls.Send target m) = IsOurs target × IsMessage m
IsPlain (calls.ReceiveSegment start count) = Unit {0}
IsPlain (calls.Reply m to) = Unit {0}
IsPlain (calls.ReplySegment m to dest src count) = Unit {0}
IsPlain (calls.Load start count) = Unit {0}
IsPlain (calls.Store start bytes) = Unit {0}
IsPlain c = ⊥

-- those of them in which a process waits, and what it is answered then
abbrev pub IsWaited : Call → Type 0
IsWaited (calls.Send target m) = IsOurs target × IsMessage m
IsWaited (calls.ReceiveSegment start count) = Unit {0}
IsWaited c = ⊥

abbrev pub IsReceived : Answer → Type 0
IsReceived (answers.ReceivedSegment from m count) = IsOurs from × IsMessage m
IsReceived a = ⊥

abbrev pub IsFor : Call → Answer → Type 0
IsFor (calls.ReceiveSegment start count) a = IsReceived a
IsFor c a = is_not_yet a ≡ false

abbrev pub IsPlainState : State → Type 0
IsPlainState states.Ready = Unit {0}
IsPlainState (states.Blocked c) = IsWaited c
IsPlainState (states.Done c a) = IsWaited c × IsFor c a

pub record IsPlainExchange (n : Name) (e : Exchange) : Type 0 where
  pub sender : IsOurs n.sender
  pub target : IsOurs e.target
  pub shown : IsMessage e.shown
  pub none : e.moves ≡ []

-- `host` is the station
pub record IsPlainView (host : ℕ) (k : Kernel) : Type 0 where
  pub states : (pid : Pid) (p : Process) → k.procs pid ≡ Some p → IsPlainState p.state
  pub alive : (pid : Pid) (p : Process) → (pid.host == host) ≡ true → k.procs pid ≡ Some p → p.alive ≡ true
  pub exchanges : (n : Name) (e : Exchange) → k.exchanges n ≡ Some e → IsPlainExchange n e
  pub lookups : (asker : Pid) (number : ℕ) → k.lookups asker number ≡ None

-- The packets of Sends and their replies, between these processes.
abbrev pub IsPlainPacket : Packet → Type 0
IsPlainPacket (Send from to number message part) = IsOurs from × IsOurs to × IsMessage message
IsPlainPacket (Reply from to number message dest bytes) = IsOurs to
IsPlainPacket (Pending from to number) = IsOurs to
IsPlainPacket (Negative from to number) = IsOurs to
IsPlainPacket p = ⊥
