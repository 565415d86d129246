-- What the writers of a pipe get, in the runs of the one-machine kernel.
use Rattle.std.specs.Prelude.{ℕ, ◌≡◌, ◌+◌, ◌<◌, List, [], ◌∷◌, ◌++◌, length, slice_get, Some}
use Rattle.vk_types.specs.Types.{Call, Message, Pid, Process, ProcessSpec, Step}
use Rattle.vk_base.specs.declared.answer.Answer.TheVariants as answers
use Rattle.vk_base.specs.declared.call.Call.TheVariants as calls
use Rattle.vk_base.specs.declared.step.Step.TheVariants as steps
use Rattle.vk_base.specs.Calls.{first_part}
use Rattle.vk_base.specs.Kernel.{initial_kernel}
use Rattle.vk_base.specs.Steps.{Run, run}
use Rattle.vk_pipe.specs.declared.waiting.Write.{Write}
use Rattle.vk_pipe.specs.Kept.{pipe_after}
use Rattle.vk_pipe.specs.Pipes.{pipe_call}
use Rattle.vk_pipe.specs.Requests.{code_of, reply_of}
use Rattle.vk_pipe.specs.Told.{writes_put}
use Rattle.v_laws.specs.Places.{process_at, seen_at}
use Rattle.v_laws.specs.Reached.{saw}
use Rattle.v_pages.specs.Followed.{FollowsTask, answers_before, call_at}
use Rattle.v_pages.specs.Served.{RepliesToLast}
use Rattle.v_pipe.specs.Read.{IsHandedOut}
use Rattle.v_pipe.specs.Waits.{NoneWaits}

-- the writes that r has put into the pipe before a place
abbrev pub writes_before : ℕ → List ProcessSpec → List Step → Pid → ℕ → List Write
writes_before requests specs ss r i = writes_put requests (answers_before specs ss r i)

-- A write of s that is done with the reply at place j: these bytes are the last that were put into the pipe, and the reply says how
-- many they are. All that was put in before an earlier call of r stands before them, so of two writes that are done each has bytes of
-- its own.
pub record IsWriteDone (requests : ℕ) (specs : List ProcessSpec) (ss : List Step) (j : ℕ) (s r : Pid) (reply : Message)
    (bytes : List ℕ) : Type 0 where
  pub earlier : List Write
  pub put : writes_before requests specs ss r j ≡ earlier ++ record { from = s; bytes = bytes } ∷ []
  pub count : reply ≡ reply_of 0 (length bytes)
  pub order : (l : ℕ) (c : Call) → l < j → call_at ss r l ≡ Some c →
      (more : List Write) × (earlier ≡ writes_before requests specs ss r l ++ more)

-- What came of the Send, and where it was called for, by s, to r or to another process of its station that handed it on. By the message
-- that r was shown, a reply of code 0 to a write is one of a write that is done, where nothing of s waited when r took the Send; and
-- its bytes are the first part of the memory of s at the call, which came with the Send.
pub record IsSentWriteDone (requests : ℕ) (specs : List ProcessSpec) (ss : List Step) (i j : ℕ) (s r : Pid) (reply : Message) : Type 0 where
  pub handed : IsHandedOut requests specs ss i j s r reply
  -- s calls for the Send
  pub sent : ℕ
  pub first : sent < handed.place
  pub target : Pid
  pub message : Message
  pub called : slice_get ss sent ≡ Some (steps.Call s (calls.Send target message))
  pub own : target ≡ r → message ≡ handed.request.message
  pub caller : Process
  pub then : process_at specs ss sent s ≡ Some caller
  pub last : handed.sender.sends ≡ caller.sends + 1
  -- the write is done
  pub kept : code_of handed.request.message ≡ 7 → code_of reply ≡ 0 →
      NoneWaits s (pipe_after requests (answers_before specs ss r handed.place)) →
      IsWriteDone requests specs ss j s r reply (first_part message caller.memory)

-- In each run in which r follows the task of a pipe server, each sender that collects a reply of r has its write kept so.
abbrev pub WritesAreKept : Type 0
WritesAreKept = (specs : List ProcessSpec) (ss : List Step) (whole : Run) (r : Pid) (requests i j : ℕ) (s target : Pid)
    (message reply : Message) →
    run (initial_kernel specs) ss ≡ Some whole → FollowsTask (pipe_call requests) specs ss r →
    slice_get ss i ≡ Some (steps.Collect s) → seen_at specs ss i ≡ saw s (calls.Send target message) (answers.Replied reply) →
    RepliesToLast specs ss i j s r → IsSentWriteDone requests specs ss i j s r reply
