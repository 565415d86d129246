-- Internal: no public contract rests on this file. Moves: what their calls, their steps and the changes that these make answer.
use Rattle.std.specs.Prelude.{ℕ, ◌≡◌, ◌≤◌, ◌<◌, ◌+◌, List, length, true, Option, Some, None, Result, Ok, Err, if◌then◌else◌}
use Rattle.vk_types.specs.Types.{Call, Direction, Exchange, Move, MoveName, Name, Pid, Process, Range}
use Rattle.vk_base.specs.declared.call.Call.TheVariants as calls
use Rattle.vk_base.specs.declared.kernel.Direction.TheVariants as directions
use Rattle.vk_base.specs.declared.kernel.State.TheVariants as states
use Rattle.vk_base.specs.Calls.{move_begun}
use Rattle.vk_base.specs.Kernel.{◌>>=◌, Kernel, name_of, is_ready, move_of, put_process, put_exchange, with_memory}
use Rattle.vk_base.specs.Ranges.{range_of, lies_in, bytes_in, with_bytes}
use Rattle.vk_base.specs.Steps.{open_step, written_process}
use Rattle.v_machine.specs.declared.tables.Store.{Store}
use Rattle.v_machine.specs.declared.refusal.ApplyRefusal.{ApplyRefusal}
use Rattle.v_machine.specs.declared.refusal.ApplyRefusal.TheVariants as refused
use Rattle.v_machine.specs.declared.calls.response.Response.{Response}
use Rattle.v_machine.specs.declared.calls.response.Response.TheVariants as responses
use Rattle.v_machine.specs.Apply.{is_begun, noted_at_opening}
use Rattle.v_machine.specs.Kept.{IsIndexed, IsAt, kernel_in}
use Rattle.v_machine.specs.Places.{place_in}
use Rattle.v_machine.specs.Rules.{Answers, Stays, judged, seen_result, quiet}

-- this exchange is another one
abbrev pub with_exchange : Kernel → Name → Exchange → Kernel
with_exchange k name e = record k { exchanges = put_exchange k.exchanges name e }

-- the process, which is p, waits in this call for the end of this move
abbrev pub with_moving : Kernel → Pid → Process → Call → MoveName → Kernel
with_moving k pid p c m = record k { procs = put_process k.procs pid (record p { state = states.Blocked c; moving = Some m }) }

-- the exchange of this number, whose sender has this place, is changed so
abbrev pub Puts : (Exchange → Exchange) → (at number : ℕ) → Store → Store → Type 0
Puts f at number old new =
    (pid : Pid) (e : Exchange) → place_in old.places pid ≡ Some at → (kernel_in old).exchanges (name_of pid number) ≡ Some e →
    (kernel_in new ≡ with_exchange (kernel_in old) (name_of pid number) (f e)) × (IsIndexed old → IsIndexed new)

-- a call of a process that is alive and ready, which notes so many bytes where it is begun
abbrev pub JudgesBegun : Pid → Call → (count room : ℕ) → Store → Store → Result Response ApplyRefusal → Type 0
JudgesBegun pid c count room old new r =
    (p : Process) → (kernel_in old).procs pid ≡ Some p → is_ready p.state ≡ true →
    Answers (judged (kernel_in old) pid p c) (if is_begun (judged (kernel_in old) pid p c) then count else 0)
    room old new (seen_result pid c r)

abbrev pub noted_for : Store → Name → ℕ → ℕ
noted_for s name moving = noted_at_opening ((kernel_in s).exchanges name >>= λ e. move_of e moving)

-- the move of this number is opened
abbrev pub Opens : Name → (moving room : ℕ) → Store → Store → Result (Unit {0}) ApplyRefusal → Type 0
Opens name moving room old new r = Answers (open_step (kernel_in old) name moving) (noted_for old name moving) room old new (quiet r)

-- the bytes of the sender that are noted for the move, or why they are not
abbrev pub Notes : Process → Move → (room : ℕ) → Result (Option (List ℕ)) ApplyRefusal → Type 0
Notes p m room (Ok None) = m.direction ≡ directions.To
Notes p m room (Ok (Some bytes)) = (m.direction ≡ directions.From) × (m.count ≤ room) × (bytes ≡ bytes_in (range_of m.src m.count) p.memory)
Notes p m room (Err refused.NotAllowed) = ⊥
Notes p m room (Err refused.Limit) = room < noted_at_opening (Some m)
Notes p m room (Err refused.NoMemory) = noted_at_opening (Some m) ≤ room

-- the process whose memory the bytes of a move go to
abbrev pub into_of : Pid → Direction → Pid → Pid
into_of sender directions.To mover = sender
into_of sender directions.From mover = mover

-- the bytes of the move go into the memory of the process of this place, which is there for them
pub record IsWritten (s : Store) (name : Name) (moving : ℕ) (m : Move) (at : ℕ) : Type 0 where
  pub process : Process
  pub is : written_process (kernel_in s) name moving m.mover m.direction ≡ Some (into_of name.sender m.direction m.mover, process)
  pub here : IsAt s (into_of name.sender m.direction m.mover) at
  pub there : (kernel_in s).procs (into_of name.sender m.direction m.mover) ≡ Some process

-- bytes of the memory of the first process are written into that of the second
abbrev pub Copies : (from to : ℕ) → Range → (dest : ℕ) → Store → Store → Type 0
Copies from to source dest old new =
    (one two : Pid) (p q : Process) → place_in old.places one ≡ Some from → place_in old.places two ≡ Some to →
    (kernel_in old).procs one ≡ Some p → (kernel_in old).procs two ≡ Some q → lies_in source (length p.memory) ≡ true →
    dest + source.len ≤ length q.memory →
    kernel_in new ≡ with_memory (kernel_in old) two q (with_bytes q.memory dest (bytes_in source p.memory))

-- the call in which the mover waits for a move of this partner's segment
abbrev pub move_call : Direction → (partner : Pid) → (dest src count : ℕ) → Call
move_call directions.To partner dest src count = calls.MoveTo partner dest src count
move_call directions.From partner dest src count = calls.MoveFrom partner dest src count

abbrev pub call_moving : (partner : Pid) → Move → Call
call_moving partner m = move_call m.direction partner m.dest m.src m.count

-- the move is begun, and its mover waits in this call
abbrev pub Begins : Pid → Call → Pid → (number : ℕ) → Move → Store → Store → Type 0
Begins pid c partner number m old new =
    (p : Process) (e : Exchange) → (kernel_in old).procs pid ≡ Some p → (kernel_in old).exchanges (name_of partner number) ≡ Some e →
    (kernel_in new ≡ move_begun (kernel_in old) pid p c (name_of partner number) e m) × IsIndexed new

-- a move that notes so many bytes is begun, or why it is not
abbrev pub BeginsOrNot : Pid → Call → Pid → (number noted room : ℕ) → Move → Store → Store → Result Response ApplyRefusal → Type 0
BeginsOrNot pid c partner number noted room m old new (Ok v) = (v ≡ responses.Begun) × (noted ≤ room) ×
    Begins pid c partner number m old new
BeginsOrNot pid c partner number noted room m old new (Err refused.NotAllowed) = ⊥
BeginsOrNot pid c partner number noted room m old new (Err refused.Limit) = (room < noted) × Stays old new
BeginsOrNot pid c partner number noted room m old new (Err refused.NoMemory) = (noted ≤ room) × Stays old new
