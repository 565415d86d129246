-- What the readers of a pipe get, in the runs of the one-machine kernel.
use Rattle.std.specs.Prelude.{ℕ, suc, ◌≡◌, ◌+◌, ◌<◌, ◌≤◌, List, [], ◌++◌, length, slice_get, Some}
use Rattle.vk_types.specs.Types.{Message, Pid, Process, ProcessSpec, Step}
use Rattle.vk_base.specs.declared.answer.Answer.TheVariants as answers
use Rattle.vk_base.specs.declared.call.Call.TheVariants as calls
use Rattle.vk_base.specs.declared.limits.TheConstants.{SEGMENT_BYTES}
use Rattle.vk_base.specs.declared.step.Step.TheVariants as steps
use Rattle.vk_base.specs.Kernel.{initial_kernel, name_of}
use Rattle.vk_base.specs.Messages.{segment_of}
use Rattle.vk_base.specs.Ranges.{range_of, bytes_in}
use Rattle.vk_base.specs.Steps.{Run, run}
use Rattle.vk_pipe.specs.Kept.{pipe_after}
use Rattle.vk_pipe.specs.Pipes.{pipe_call}
use Rattle.vk_pipe.specs.Requests.{code_of, reply_of}
use Rattle.vk_pipe.specs.Told.{bytes_had, bytes_put}
use Rattle.v_laws.specs.Places.{IsReplyAt, process_at, seen_at}
use Rattle.v_laws.specs.Reached.{saw}
use Rattle.v_pages.specs.Followed.{FollowsTask, answers_before}
use Rattle.v_pages.specs.Requests.{Request, request_at}
use Rattle.v_pages.specs.Served.{RepliesToLast}
use Rattle.v_pipe.specs.Waits.{NoneWaits}

-- Of the pipe server r, which makes so many replies: the bytes that it has put into its pipe before a place, and those that it has
-- handed out, which are those of its replies to reads that were answered ok.
abbrev pub put_before : ℕ → List ProcessSpec → List Step → Pid → ℕ → List ℕ
put_before requests specs ss r i = bytes_put requests (answers_before specs ss r i)

abbrev pub had_before : ℕ → List ProcessSpec → List Step → Pid → ℕ → List ℕ
had_before requests specs ss r i = bytes_had requests (answers_before specs ss r i)

-- The bytes that a reply at place j gives are the next ones that are handed out: whatever is handed out later comes behind them, and
-- what was put into the pipe has them at the same place.
pub record IsPiece (requests : ℕ) (specs : List ProcessSpec) (ss : List Step) (j : ℕ) (r : Pid) (bytes : List ℕ) : Type 0 where
  pub next : had_before requests specs ss r (suc j) ≡ had_before requests specs ss r j ++ bytes
  pub order : (l : ℕ) → j < l →
      length (had_before requests specs ss r j) + length bytes ≤ length (had_before requests specs ss r l)
  pub put : (l : ℕ) → j < l →
      bytes_in (range_of (length (had_before requests specs ss r j)) (length bytes)) (put_before requests specs ss r l) ≡ bytes

-- A read that is done has bytes from the beginning of the segment that its message names on: at least one, no more than one reply brings
-- and no more than that segment has room for; and the reply says how many.
pub record IsReadDone (asked reply : Message) (dest : ℕ) (bytes : List ℕ) : Type 0 where
  pub place : dest ≡ (segment_of asked).start
  pub some : 0 < length bytes
  pub most : length bytes ≤ SEGMENT_BYTES
  pub within : length bytes ≤ (segment_of asked).len
  pub count : reply ≡ reply_of 0 (length bytes)

-- By the message that was shown, a reply of code 0 to a read is one of a read that is done, and only a read gets bytes.
pub record IsOwnReply (asked reply : Message) (dest : ℕ) (bytes : List ℕ) : Type 0 where
  pub read : code_of asked ≡ 8 → code_of reply ≡ 0 → IsReadDone asked reply dest bytes
  pub other : (code_of asked ≡ 8 → ⊥) → bytes ≡ []

-- The last Send of s was taken by the server r at one place, and at no other, and the reply that r gave at the later place j is
-- collected at the later place i. The bytes that the reply gave are a piece of what was handed out, and stand in the memory of s where
-- it put them. It is the reply to what s asked for where nothing of s waited when r took the Send: a sender that gave up an earlier
-- Send may have left a request that waits, and the reply to that one is then the reply to the Send.
pub record IsHandedOut (requests : ℕ) (specs : List ProcessSpec) (ss : List Step) (i j : ℕ) (s r : Pid) (reply : Message) :
    Type 0 where
  pub sender : Process
  pub now : process_at specs ss i s ≡ Some sender
  -- r takes the Send
  pub place : ℕ
  pub request : Request
  pub takes : request_at specs ss r place ≡ Some request
  pub name : request.name ≡ name_of s sender.sends
  pub once : (l : ℕ) (q : Request) → request_at specs ss r l ≡ Some q → q.name ≡ request.name → l ≡ place
  -- r replies to it
  pub behind : place < j
  pub dest : ℕ
  pub bytes : List ℕ
  pub replies : IsReplyAt specs ss j s r sender.sends reply dest bytes
  pub piece : IsPiece requests specs ss j r bytes
  pub count : (bytes ≡ [] → ⊥) → reply ≡ reply_of 0 (length bytes)
  pub own : NoneWaits s (pipe_after requests (answers_before specs ss r place)) → IsOwnReply request.message reply dest bytes
  -- s collects the reply
  pub collected : j < i
  pub memory : bytes_in (range_of dest (length bytes)) sender.memory ≡ bytes

-- Who sent to r itself, and collects a reply, has it of r.
abbrev pub SendersAreAnswered : Type 0
SendersAreAnswered = (specs : List ProcessSpec) (ss : List Step) (whole : Run) (r : Pid) (requests i : ℕ) (s : Pid)
    (message reply : Message) →
    run (initial_kernel specs) ss ≡ Some whole → FollowsTask (pipe_call requests) specs ss r →
    slice_get ss i ≡ Some (steps.Collect s) → seen_at specs ss i ≡ saw s (calls.Send r message) (answers.Replied reply) →
    (j : ℕ) × RepliesToLast specs ss i j s r

-- In each run in which r follows the task of a pipe server, each sender that collects a reply gets its piece so where r replied to its
-- Send, to whomever of r's station it was sent.
abbrev pub ReadsArePieces : Type 0
ReadsArePieces = (specs : List ProcessSpec) (ss : List Step) (whole : Run) (r : Pid) (requests i j : ℕ) (s target : Pid)
    (message reply : Message) →
    run (initial_kernel specs) ss ≡ Some whole → FollowsTask (pipe_call requests) specs ss r →
    slice_get ss i ≡ Some (steps.Collect s) → seen_at specs ss i ≡ saw s (calls.Send target message) (answers.Replied reply) →
    RepliesToLast specs ss i j s r → IsHandedOut requests specs ss i j s r reply
