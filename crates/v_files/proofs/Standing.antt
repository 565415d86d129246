-- How a file server stands: the request that it serves, and, where that is for a load, what it has gathered and moved.
use Rattle.std.proofs.Common.{◌≡◌, ℕ, ◌+◌, ◌*◌, ◌<◌, ◌==◌, true, false, List, [], ◌∷◌, ◌++◌, length, Some}
use Rattle.vk_types.specs.Types.{Answer, Call, Message, Pid, Process, State}
use Rattle.vk_base.specs.declared.answer.Answer.TheVariants as answers
use Rattle.vk_base.specs.declared.call.Call.TheVariants as calls
use Rattle.vk_base.specs.declared.kernel.State.TheVariants as states
use Rattle.vk_base.specs.Kernel.{Kernel}
use Rattle.vk_base.specs.Messages.{segment_of}
use Rattle.vk_base.specs.Ranges.{range_of, bytes_in}
use Rattle.vk_files.specs.Disks.{block_at}
use Rattle.vk_files.specs.Messages.{code_of, file_of}
use Rattle.vk_files.specs.Servers.{Server, blocks_after, stage_after, work_of}
use Rattle.vk_files.specs.Tasks.{server_after}
use Rattle.vk_files.specs.Volumes.{file_at, files_of}
use Rattle.vk_files.specs.declared.disk.Telling.{Telling}
use Rattle.vk_files.specs.declared.entry.Entry.{Entry}
use Rattle.vk_files.specs.declared.entry.File.{File}
use Rattle.vk_files.specs.declared.limits.TheConstants.{BLOCK_BYTES}
use Rattle.vk_files.specs.declared.serving.FileServing.{FileServing}
use Rattle.vk_files.specs.declared.serving.FileServing.TheVariants as stages
use Rattle.vk_files.specs.declared.serving.Turn.{Turn}
use Rattle.v_pages.specs.Requests.{Request}
use Rattle.v_files.specs.Volumes.{blocks_from, file_bytes}
use Rattle.v_files.proofs.Disks.{IsFileOn}
use Rattle.v_files.proofs.Moved.{IsMoved, IsMoving}

-- the last request that it took is of this process
pub record IsServing (all : List Request) (from : Pid) : Type 0 where
  pub earlier : List Request
  pub request : Request
  pub last : all ≡ earlier ++ request ∷ []
  pub sender : request.name.sender ≡ from

-- and asks for no load
pub record IsOther (all : List Request) (from : Pid) : Type 0 where
  pub serving : IsServing all from
  pub other : (code_of serving.request.message == 6) ≡ false

-- or it asks to load this file to this place
pub record IsForLoad (count : ℕ) (files : List Entry) (all : List Request) (from : Pid) (f : File) (dest : ℕ) : Type 0 where
  pub serving : IsServing all from
  pub asked : file_at files (file_of serving.request.message) ≡ Some f
  pub place : (segment_of serving.request.message).start ≡ dest
  pub there : IsFileOn count f

-- the first blocks of the file stand in its memory, and these bytes are those of the next one
pub record IsGathering (count : ℕ) (files : List Entry) (blocks : List (List ℕ)) (all : List Request) (p : Process) (from : Pid) (f : File)
    (at dest : ℕ) (bytes : List ℕ) : Type 0 where
  pub load : IsForLoad count files all from f dest
  pub within : at < f.blocks
  pub alive : p.alive ≡ true
  pub front : bytes_in (range_of 0 (BLOCK_BYTES * at)) p.memory ≡ blocks_from blocks f.start at
  pub next : bytes ≡ block_at blocks (f.start + at)

-- the file stands in its memory
pub record HasGathered (count : ℕ) (files : List Entry) (blocks : List (List ℕ)) (all : List Request) (p : Process) (from : Pid) (f : File)
    (dest : ℕ) : Type 0 where
  pub load : IsForLoad count files all from f dest
  pub front : bytes_in (range_of 0 f.length) p.memory ≡ file_bytes blocks f

-- the file that a message asks for was moved to its sender
pub record HasLoaded (files : List Entry) (blocks : List (List ℕ)) (k : Kernel) (r from : Pid) (number long : ℕ) (m : Message) :
    Type 0 where
  pub file : File
  pub asked : file_at files (file_of m) ≡ Some file
  pub number_is : number ≡ file.number
  pub long_is : long ≡ file.length
  pub size : length (file_bytes blocks file) ≡ file.length
  pub moved : IsMoved k r from (segment_of m).start (file_bytes blocks file)

-- it replies to a load with code 0 only then
pub record IsAnswering (files : List Entry) (blocks : List (List ℕ)) (all : List Request) (k : Kernel) (r from : Pid)
    (code number long : ℕ) : Type 0 where
  pub serving : IsServing all from
  pub loaded : (code_of serving.request.message == 6) ≡ true → code ≡ 0 →
      HasLoaded files blocks k r from number long serving.request.message

-- before its next call
abbrev pub Standing : ℕ → List Entry → Pid → List (List ℕ) → List Request → Kernel → Process → FileServing → Type 0
Standing count files r blocks all k p stages.Receive = Unit {0}
Standing count files r blocks all k p (stages.Load from f page) = IsOther all from
Standing count files r blocks all k p (stages.Store from f page dest bytes) = IsOther all from
Standing count files r blocks all k p (stages.ReplyPage from f page dest) = IsOther all from
Standing count files r blocks all k p (stages.Gather from f at dest bytes) = IsGathering count files blocks all p from f at dest bytes
Standing count files r blocks all k p (stages.Move from f dest) = HasGathered count files blocks all p from f dest
Standing count files r blocks all k p (stages.Reply from code number long) = IsAnswering files blocks all k r from code number long
Standing count files r blocks all k p stages.Exit = Unit {0}
Standing count files r blocks all k p stages.Ended = Unit {0}

-- while it waits in a call: for a request, or for a move of the file
pub record IsServerInMove (count : ℕ) (files : List Entry) (r : Pid) (blocks : List (List ℕ)) (all : List Request) (k : Kernel) (p : Process)
    (c : Call) (from : Pid) (f : File) (dest : ℕ) : Type 0 where
  pub call : c ≡ calls.MoveTo from dest 0 f.length
  pub load : IsForLoad count files all from f dest
  pub size : length (file_bytes blocks f) ≡ f.length
  pub moving : IsMoving k r from p dest (file_bytes blocks f)

abbrev pub Waits : ℕ → List Entry → Pid → List (List ℕ) → List Request → Kernel → Process → Call → FileServing → Type 0
Waits count files r blocks all k p c stages.Receive = c ≡ calls.ReceiveSegment 0 BLOCK_BYTES
Waits count files r blocks all k p c (stages.Move from f dest) = IsServerInMove count files r blocks all k p c from f dest
Waits count files r blocks all k p c _ = ⊥

-- and when it has an answer to collect
pub record HasReceived (all : List Request) (a : Answer) : Type 0 where
  pub earlier : List Request
  pub request : Request
  pub last : all ≡ earlier ++ request ∷ []
  pub count : ℕ
  pub answer : a ≡ answers.ReceivedSegment request.name.sender request.message count

pub record IsOverMove (count : ℕ) (files : List Entry) (r : Pid) (blocks : List (List ℕ)) (all : List Request) (k : Kernel) (a : Answer)
    (from : Pid) (f : File) (dest : ℕ) : Type 0 where
  pub load : IsForLoad count files all from f dest
  pub size : length (file_bytes blocks f) ≡ f.length
  pub moved : a ≡ answers.Ok → IsMoved k r from dest (file_bytes blocks f)

abbrev pub HasAnswer : ℕ → List Entry → Pid → List (List ℕ) → List Request → Kernel → Answer → FileServing → Type 0
HasAnswer count files r blocks all k a stages.Receive = HasReceived all a
HasAnswer count files r blocks all k a (stages.Move from f dest) = IsOverMove count files r blocks all k a from f dest
HasAnswer count files r blocks all k a _ = ⊥

-- in each state of its process, where it has made so many calls and got so many answers
abbrev pub Doing : ℕ → List Entry → Pid → Server → (made given : ℕ) → List Request → Kernel → Process → State → Type 0
Doing count files r s made given all k p states.Ready = (made ≡ given) × Standing count files r s.blocks all k p s.stage
Doing count files r s made given all k p (states.Blocked c) = (made ≡ given + 1) × Waits count files r s.blocks all k p c s.stage
Doing count files r s made given all k p (states.Done c a) = (made ≡ given + 1) × HasAnswer count files r s.blocks all k a s.stage

abbrev pub ServerAt : List (List ℕ) → ℕ → (List Answer → Telling) → Pid → ℕ → List Answer → List Request → Kernel → Process → Type 0
ServerAt blocks requests telling r made given all k p =
    Doing (length blocks) (files_of blocks) r (server_after blocks requests telling given) made (length given) all k p p.state

-- after a turn, by what the disk told
abbrev pub After : ℕ → List Entry → Pid → Telling → List (List ℕ) → List Request → Kernel → Process → Turn → Type 0
After count files r t blocks all k p turn =
    Standing count files r (blocks_after (work_of turn) t blocks) all k p (stage_after turn t blocks)
