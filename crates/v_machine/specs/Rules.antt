-- Internal: no public contract rests on this file. What the steps of a store answer.
use Rattle.std.specs.Prelude.{ℕ, ◌≡◌, ◌≤◌, ◌<◌, ◌+◌, List, [], ◌∷◌, ◌++◌, length, position, slice_index_or, if◌then◌else◌, Bool, true, false, Option, Some, None, IsSome, Result, Ok, Err}
use Rattle.std.specs.List.{list_any}
use Rattle.vk_types.specs.Types.{Call, Exchange, Message, Name, Observation, Pid, Process, Step}
use Rattle.vk_base.specs.declared.answer.Answer.TheVariants as answers
use Rattle.vk_base.specs.declared.call.Call.TheVariants as calls
use Rattle.vk_base.specs.Calls.{Effect, called, first_that_holds, forwarded, tests_of}
use Rattle.vk_base.specs.Kernel.{Kernel, holds_of, name_of, same_name, is_ready, is_queued, is_posted, is_taken, put_process, put_exchange}
use Rattle.vk_base.specs.Messages.{segment_of}
use Rattle.vk_base.specs.Pids.{same_host}
use Rattle.vk_base.specs.Ranges.{lies_in}
use Rattle.vk_base.specs.declared.step.Step.TheVariants as steps
use Rattle.vk_base.specs.Steps.{taken}
use Rattle.v_machine.specs.declared.tables.latest.Latest.{Latest}
use Rattle.v_machine.specs.declared.tables.Store.{Store}
use Rattle.v_machine.specs.declared.refusal.ApplyRefusal.{ApplyRefusal}
use Rattle.v_machine.specs.declared.refusal.ApplyRefusal.TheVariants as refused
use Rattle.v_machine.specs.declared.calls.response.Response.{Response}
use Rattle.v_machine.specs.declared.calls.response.Response.TheVariants as responses
use Rattle.v_machine.specs.Apply.{noted_by_call}
use Rattle.v_machine.specs.Kept.{IsIndexed, kernel_in, tables_in}
use Rattle.v_machine.specs.Latest.{is_for}
use Rattle.v_machine.specs.Places.{place_in}
use Rattle.v_machine.specs.Spent.{has_ended}

-- the store stands for the same tables
pub record Stays (old new : Store) : Type 0 where
  pub tables : (noted : ℕ) → tables_in new noted ≡ tables_in old noted
  pub indexed : IsIndexed new

-- the step has this effect, and this is seen of it
pub record Goes (o : Option Effect) (seen : Option Observation) (new : Store) : Type 0 where
  pub effect : o ≡ Some (record { after = kernel_in new; seen = seen })
  pub indexed : IsIndexed new

-- a step of which nothing is seen, and which takes no memory
abbrev pub GoesOrNot : Option Effect → Store → Store → Option (Unit {0}) → Type 0
GoesOrNot o old new (Some u) = Goes o None new
GoesOrNot o old new None = (o ≡ None) × Stays old new

-- a step that notes so many bytes, where there is room for so many
abbrev pub Answers : Option Effect → ℕ → ℕ → Store → Store → Result (Option Observation) ApplyRefusal → Type 0
Answers o noted room old new (Ok seen) = Goes o seen new × (noted ≤ room)
Answers o noted room old new (Err refused.NotAllowed) = (o ≡ None) × Stays old new
Answers o noted room old new (Err refused.Limit) = IsSome o × (room < noted) × Stays old new
Answers o noted room old new (Err refused.NoMemory) = IsSome o × (noted ≤ room) × Stays old new

-- what is seen of a call
abbrev pub seen_by : Pid → Call → Response → Option Observation
seen_by pid c responses.Begun = None
seen_by pid c responses.Ok = Some (record { pid = pid; call = c; answer = answers.Ok })
seen_by pid c (responses.Found q) = Some (record { pid = pid; call = c; answer = answers.Found q })
seen_by pid c (responses.Refused why) = Some (record { pid = pid; call = c; answer = answers.Refused why })

abbrev pub seen_result : Pid → Call → Result Response ApplyRefusal → Result (Option Observation) ApplyRefusal
seen_result pid c (Ok v) = Ok (seen_by pid c v)
seen_result pid c (Err why) = Err why

-- what becomes of a call of a process that is alive and ready
abbrev pub judged : Kernel → Pid → Process → Call → Option Effect
judged k pid p c = called k pid p c (first_that_holds (tests_of k pid p c))

-- such a call, which notes nothing
abbrev pub Judges : Pid → Call → Store → Store → Result Response ApplyRefusal → Type 0
Judges pid c old new r = (p : Process) → (kernel_in old).procs pid ≡ Some p → is_ready p.state ≡ true →
    Answers (judged (kernel_in old) pid p c) 0 0 old new (seen_result pid c r)

-- there is room for the bytes that a receive asks for
abbrev pub HasRoom : Call → List ℕ → Type 0
HasRoom (calls.ReceiveSegment start count) memory = start + count ≤ length memory
HasRoom c memory = Unit {0}

-- the process of the first place takes the message of a name, in this receive, where the message is there
abbrev pub Delivers : ℕ → ℕ → Name → Call → Store → Store → Option (Unit {0}) → Type 0
Delivers at from name c old new (Some u) =
    (pid : Pid) (p : Process) (e : Exchange) → place_in old.places pid ≡ Some at → place_in old.places name.sender ≡ Some from →
    (kernel_in old).procs pid ≡ Some p → (kernel_in old).exchanges name ≡ Some e → HasRoom c p.memory →
    is_queued e.stage ≡ true → IsIndexed old →
    (kernel_in new ≡ taken (kernel_in old) pid (record { process = p; call = c; name = name; exchange = e })) × IsIndexed new
Delivers at from name c old new None = (place_in old.places name.sender ≡ Some from → (kernel_in old).exchanges name ≡ None) × (new ≡ old)

-- the granted segment lies in the memory of the process
abbrev pub Fits : Store → Pid → Message → Type 0
Fits s pid m = (p : Process) → (kernel_in s).procs pid ≡ Some p → lies_in (segment_of m) (length p.memory) ≡ true

-- the kernel with one more Send of a process, which goes on as before
abbrev pub posted : Kernel → Pid → Process → Exchange → Kernel
posted k pid p x = record k {
  procs = put_process k.procs pid (record p { sends = p.sends + 1 });
  exchanges = put_exchange k.exchanges (name_of pid (p.sends + 1)) x;
  arrived = if same_host pid x.target then k.arrived ++ name_of pid (p.sends + 1) ∷ [] else k.arrived;
}

-- of the numbers of this process the host's has this place
abbrev pub HasRoomFor : Store → (at host place : ℕ) → Type 0
HasRoomFor s at host place = (ls : List Latest) → ls ≡ slice_index_or s.latest.items at ls → position (is_for host) ls ≡ Some place

-- this name is not among those that are kept for the queue of this place
abbrev pub HasWay : Store → (to : ℕ) → Name → Type 0
HasWay s to name = (ns : List Name) → ns ≡ slice_index_or s.queues.items to ns → list_any (same_name name) ns ≡ false

-- a process has taken the message of this exchange, and it is not replied to
pub record IsTaken (k : Kernel) (name : Name) : Type 0 where
  pub exchange : Exchange
  pub is : k.exchanges name ≡ Some exchange
  pub taken : is_taken exchange.stage ≡ true

-- the message of this exchange is handed on to a process, which is shown this one
abbrev pub HandsOn : Name → Message → Pid → Store → Store → Type 0
HandsOn name m to old new = (e : Exchange) → (kernel_in old).exchanges name ≡ Some e →
    (kernel_in new ≡ forwarded (kernel_in old) name e m to) × IsIndexed new

-- the store has one more Send of a process that was ready
abbrev pub Posts : Pid → Exchange → Store → Store → Type 0
Posts pid x old new = (p : Process) → (kernel_in old).procs pid ≡ Some p → is_ready p.state ≡ true →
    (kernel_in new ≡ posted (kernel_in old) pid p x) × IsIndexed new

-- the exchange of this name is posted to this target
pub record IsPostedTo (k : Kernel) (name : Name) (target : Pid) : Type 0 where
  pub exchange : Exchange
  pub is : k.exchanges name ≡ Some exchange
  pub same_target : exchange.target ≡ target
  pub posted : is_posted exchange.stage ≡ true

-- the target of an exchange that is posted
abbrev pub posted_to : Option Exchange → Option Pid
posted_to None = None
posted_to (Some e) = if is_posted e.stage then Some e.target else None

-- a step of which nothing is seen
abbrev pub quiet : Result (Unit {0}) ApplyRefusal → Result (Option Observation) ApplyRefusal
quiet (Ok u) = Ok None
quiet (Err why) = Err why

-- such a call, where there is room for so many bytes
abbrev pub Accepts : Pid → Call → (room : ℕ) → Store → Store → Result Response ApplyRefusal → Type 0
Accepts pid c room old new r =
    (p : Process) → (kernel_in old).procs pid ≡ Some p → is_ready p.state ≡ true →
    Answers (judged (kernel_in old) pid p c) (noted_by_call c (judged (kernel_in old) pid p c)) room old new (seen_result pid c r)

-- only the bytes of a step that is done are counted
abbrev pub Counts : (noted before after : ℕ) → {T : Type 0} → Result T ApplyRefusal → Type 0
Counts noted before after (Ok x) = after ≡ before + noted
Counts noted before after (Err why) = after ≡ before

-- a step that takes no memory is done or not allowed
abbrev pub done_or_not : Option (Unit {0}) → Result (Unit {0}) ApplyRefusal
done_or_not (Some u) = Ok u
done_or_not None = Err refused.NotAllowed

abbrev pub is_load : Call → Bool
is_load (calls.Load start count) = true
is_load c = false

-- a step that no process sees
abbrev pub is_quiet : Step → Bool
is_quiet (steps.Call pid c) = false
is_quiet (steps.Collect pid) = false
is_quiet s = true

-- a call that concerns the granted segment of another process
abbrev pub is_access : Call → Bool
is_access (calls.ReplySegment m to dest src count) = true
is_access (calls.MoveTo partner dest src count) = true
is_access (calls.MoveFrom partner dest src count) = true
is_access c = false

-- the Send of this number, of the process of this place, has not ended
abbrev pub IsLive : Store → (at number : ℕ) → Type 0
IsLive s at number = (pid : Pid) × (place_in s.places pid ≡ Some at)
    × (holds_of has_ended ((kernel_in s).exchanges (name_of pid number)) ≡ false)
