-- The file server: one step of it, from its state, the last answer, and what the disk tells at that moment.
use Rattle.std.specs.Prelude.{ℕ, ◌+◌, ◌*◌, Bool, false, ◌==◌, ◌&&◌, min, nat_lt, nat_le, List, length, Option, Some, None, if◌then◌else◌}
use Rattle.vk_types.specs.Types.{Answer, Call, Message, Pid}
use Rattle.vk_base.specs.Messages.{grants_of}
use Rattle.vk_base.specs.declared.answer.Answer.TheVariants as answers
use Rattle.vk_base.specs.declared.call.Call.TheVariants as calls
use Rattle.vk_files.specs.Disks.{fetched, written}
use Rattle.vk_files.specs.Messages.{code_of, file_of, name_of, page_of, reply_of}
use Rattle.vk_files.specs.Volumes.{file_at, file_named}
use Rattle.vk_files.specs.declared.disk.Telling.{Telling}
use Rattle.vk_files.specs.declared.disk.Telling.TheVariants.{Done, Lost, Landed}
use Rattle.vk_files.specs.declared.entry.Entry.{Entry}
use Rattle.vk_files.specs.declared.entry.File.{File}
use Rattle.vk_files.specs.declared.limits.TheConstants.{BLOCK_BYTES}
use Rattle.vk_files.specs.declared.serving.FileServing.{FileServing}
use Rattle.vk_files.specs.declared.serving.FileServing.TheVariants as stages
use Rattle.vk_files.specs.declared.serving.Turn.{Turn}
use Rattle.vk_files.specs.declared.serving.Turn.TheVariants as turns

-- the blocks of its disk, how many replies it has made, and what it does
pub record Server : Type 0 where
  pub blocks : List (List ℕ)
  pub replies : ℕ
  pub stage : FileServing

-- a reply that the request was not done, for this reason
abbrev pub refused : Pid → ℕ → Turn
refused from code = turns.Goes (stages.Reply from code 0 0)

-- what it does with a request to open a file
abbrev pub opened : Pid → Option File → Turn
opened from None = refused from 1
opened from (Some f) = turns.Goes (stages.Reply from 0 f.number f.length)

-- to read a page of it
abbrev pub asked_to_read : Pid → Message → Option File → Turn
asked_to_read from m None = refused from 1
asked_to_read from m (Some f) =
    if nat_le f.blocks (page_of m) then refused from 1
    else if (grants_of m).write && nat_le BLOCK_BYTES (grants_of m).range.len
    then turns.FetchPage from f (page_of m) (grants_of m).range.start
    else refused from 2

-- to write one
abbrev pub asked_to_write : Pid → Message → Option File → Turn
asked_to_write from m None = refused from 1
asked_to_write from m (Some f) =
    if nat_le f.blocks (page_of m) then refused from 1
    else if (grants_of m).read && (grants_of m).range.len == BLOCK_BYTES then turns.Goes (stages.Load from f (page_of m))
    else refused from 2

-- the next block of a file that is loaded, or, where it has all, the move
abbrev pub gathered : Pid → File → ℕ → ℕ → Turn
gathered from f at dest = if nat_lt at f.blocks then turns.FetchPart from f at dest else turns.Goes (stages.Move from f dest)

-- to load it
abbrev pub asked_to_load : Pid → Message → Option File → Turn
asked_to_load from m None = refused from 1
asked_to_load from m (Some f) =
    if (grants_of m).write && nat_le f.length (grants_of m).range.len then gathered from f 0 (grants_of m).range.start
    else refused from 2

-- with any request, where these are the entries of the directory
abbrev pub taken : List Entry → Pid → Message → Turn
taken files from m =
    if code_of m == 3 then opened from (file_named files (name_of m))
    else if code_of m == 4 then asked_to_read from m (file_at files (file_of m))
    else if code_of m == 5 then asked_to_write from m (file_at files (file_of m))
    else if code_of m == 6 then asked_to_load from m (file_at files (file_of m))
    else refused from 2

-- what it does once it has received
abbrev pub received : List Entry → Answer → Turn
received files (answers.ReceivedSegment from message count) = taken files from message
received files _ = turns.Goes stages.Ended

-- once it has loaded: nothing more unless as many bytes came as it asked for
abbrev pub page_in : Answer → Option (List ℕ)
page_in (answers.Loaded bytes) = if length bytes == BLOCK_BYTES then Some bytes else None
page_in _ = None

abbrev pub loaded : Pid → File → ℕ → Option (List ℕ) → Turn
loaded from f page None = turns.Goes stages.Ended
loaded from f page (Some bytes) = turns.WritePage from f page bytes

-- after the move
abbrev pub moved : Pid → File → Answer → Turn
moved from f answers.Ok = turns.Goes (stages.Reply from 0 f.number f.length)
moved from f _ = refused from 4

-- behind so many replies, of which there are to be so many
abbrev pub between : ℕ → ℕ → FileServing
between requests replies = if replies == requests then stages.Exit else stages.Receive

-- one reply more, of at most so many
abbrev pub one_more : ℕ → ℕ → ℕ
one_more requests replies = min (replies + 1) requests

-- after a page was read, whatever the reply was answered, the page behind it is fetched ahead, if there is one
abbrev pub went_on : File → ℕ → FileServing → Turn
went_on f page next = if nat_lt (page + 1) f.blocks then turns.GoesAhead f (page + 1) next else turns.Goes next

-- what it does after its last call was answered so
abbrev pub turn_at : List Entry → ℕ → ℕ → FileServing → Answer → Turn
turn_at files requests replies stages.Receive a = received files a
turn_at files requests replies (stages.Load from f page) a = loaded from f page (page_in a)
turn_at files requests replies (stages.Store from f page dest bytes) a = turns.Goes (stages.ReplyPage from f page dest)
turn_at files requests replies (stages.ReplyPage from f page dest) a = went_on f page (between requests (one_more requests replies))
turn_at files requests replies (stages.Gather from f at dest bytes) a = gathered from f (at + 1) dest
turn_at files requests replies (stages.Move from f dest) a = moved from f a
turn_at files requests replies (stages.Reply from code file number) a = turns.Goes (between requests (one_more requests replies))
turn_at files requests replies stages.Exit a = turns.Goes stages.Ended
turn_at files requests replies stages.Ended a = turns.Goes stages.Ended

-- each reply counts, whatever it was answered
abbrev pub replies_after : ℕ → FileServing → ℕ → ℕ
replies_after requests (stages.ReplyPage from f page dest) replies = one_more requests replies
replies_after requests (stages.Reply from code file number) replies = one_more requests replies
replies_after requests _ replies = replies

-- what is asked of a disk: to fetch a block that is to be served, to write one, or to fetch one ahead
pub data DiskWork : Type 0 where
  Rests : DiskWork
  Fetches : (block : ℕ) → DiskWork
  Writes : (block : ℕ) (bytes : List ℕ) → DiskWork
  FetchesAhead : (block : ℕ) → DiskWork

abbrev pub work_of : Turn → DiskWork
work_of (turns.Goes next) = Rests
work_of (turns.GoesAhead f page next) = FetchesAhead (f.start + page)
work_of (turns.FetchPage from f page dest) = Fetches (f.start + page)
work_of (turns.FetchPart from f at dest) = Fetches (f.start + at)
work_of (turns.WritePage from f page bytes) = Writes (f.start + page) bytes

-- the blocks then, by what the disk told
abbrev pub blocks_after : DiskWork → Telling → List (List ℕ) → List (List ℕ)
blocks_after (Writes block bytes) t blocks = written t blocks block bytes
blocks_after Rests t blocks = blocks
blocks_after (Fetches block) t blocks = blocks
blocks_after (FetchesAhead block) t blocks = blocks

-- a page that was fetched
abbrev pub stored : Pid → File → ℕ → ℕ → Option (List ℕ) → FileServing
stored from f page dest None = stages.Reply from 3 0 0
stored from f page dest (Some bytes) = stages.Store from f page dest bytes

-- a block of a file that is loaded
abbrev pub put_there : Pid → File → ℕ → ℕ → Option (List ℕ) → FileServing
put_there from f at dest None = stages.Reply from 3 0 0
put_there from f at dest (Some bytes) = stages.Gather from f at dest bytes

-- a page that was written, or not
abbrev pub answered_write : Pid → File → ℕ → Telling → FileServing
answered_write from f page Done = stages.Reply from 0 f.number page
answered_write from f page Lost = stages.Reply from 3 0 0
answered_write from f page Landed = stages.Reply from 3 0 0

-- what it does after a turn, by what the disk told and the blocks that were there
abbrev pub stage_after : Turn → Telling → List (List ℕ) → FileServing
stage_after (turns.Goes next) t blocks = next
stage_after (turns.GoesAhead f page next) t blocks = next
stage_after (turns.FetchPage from f page dest) t blocks = stored from f page dest (fetched t blocks (f.start + page))
stage_after (turns.FetchPart from f at dest) t blocks = put_there from f at dest (fetched t blocks (f.start + at))
stage_after (turns.WritePage from f page bytes) t blocks = answered_write from f page t

-- one step: after its last call was answered so, where the disk tells this
abbrev pub answered : List Entry → ℕ → Server → Telling → Answer → Server
answered files requests s t a =
    let turn = turn_at files requests s.replies s.stage a in
    record {
      blocks = blocks_after (work_of turn) t s.blocks;
      replies = replies_after requests s.stage s.replies;
      stage = stage_after turn t s.blocks;
    }

-- a reply that the disk failed
abbrev pub is_failure : FileServing → Bool
is_failure (stages.Reply from code file number) = code == 3
is_failure stages.Receive = false
is_failure (stages.Load from f page) = false
is_failure (stages.Store from f page dest bytes) = false
is_failure (stages.ReplyPage from f page dest) = false
is_failure (stages.Gather from f at dest bytes) = false
is_failure (stages.Move from f dest) = false
is_failure stages.Exit = false
is_failure stages.Ended = false

-- what it calls
abbrev pub stage_call : FileServing → Option Call
stage_call stages.Receive = Some (calls.ReceiveSegment 0 BLOCK_BYTES)
stage_call (stages.Load from f page) = Some (calls.Load 0 BLOCK_BYTES)
stage_call (stages.Store from f page dest bytes) = Some (calls.Store 0 bytes)
stage_call (stages.ReplyPage from f page dest) = Some (calls.ReplySegment (reply_of 0 f.number page) from dest 0 BLOCK_BYTES)
stage_call (stages.Gather from f at dest bytes) = Some (calls.Store (BLOCK_BYTES * at) bytes)
stage_call (stages.Move from f dest) = Some (calls.MoveTo from dest 0 f.length)
stage_call (stages.Reply from code file number) = Some (calls.Reply (reply_of code file number) from)
stage_call stages.Exit = Some calls.Exit
stage_call stages.Ended = None

-- before its first call
abbrev pub new_server : List (List ℕ) → ℕ → Server
new_server blocks requests = record { blocks = blocks; replies = 0; stage = between requests 0 }
