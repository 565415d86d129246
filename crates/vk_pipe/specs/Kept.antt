-- That a pipe keeps its bytes: none is lost, doubled or out of order, whatever the server is answered.
use Rattle.std.specs.Prelude.{ℕ, ◌≡◌, ◌+◌, ◌<◌, ◌≤◌, ◌⊎◌, true, List, [], ◌∷◌, ◌++◌, length, map, slice_get, Some}
use Rattle.vk_types.specs.Types.{Answer, Call, Message, Pid}
use Rattle.vk_base.specs.declared.answer.Answer.TheVariants as answers
use Rattle.vk_base.specs.declared.call.Call.TheVariants as calls
use Rattle.vk_base.specs.declared.limits.TheConstants.{SEGMENT_BYTES}
use Rattle.vk_pipe.specs.declared.limits.TheConstants.{PIPE_BYTES, WAITING_REQUESTS}
use Rattle.vk_pipe.specs.declared.waiting.Read.{Read}
use Rattle.vk_pipe.specs.declared.waiting.Write.{Write}
use Rattle.vk_pipe.specs.Pipes.{Pipe, pipe_call, server_after, waiting}
use Rattle.vk_pipe.specs.Requests.{code_of, is_close, reply_of}
use Rattle.vk_pipe.specs.Told.{bytes_had, bytes_put, read_replies, reads_served, reads_taken, writes_put, writes_taken, written_calls}

-- the reply to a write whose bytes are in the pipe
abbrev pub reply_to_write : Write → Call
reply_to_write w = calls.Reply (reply_of 0 (length w.bytes)) w.from

abbrev pub pipe_after : ℕ → List Answer → Pipe
pipe_after requests given = (server_after requests given).pipe

-- this reply is the one to the write that was put in last
pub record TellsWrite (requests : ℕ) (given : List Answer) (reply : Call) : Type 0 where
  pub earlier : List Write
  pub write : Write
  pub put : writes_put requests given ≡ earlier ++ write ∷ []
  pub is : reply ≡ reply_to_write write

-- it is the one to a close that was taken last
pub record TellsClose (given : List Answer) (reply : Call) : Type 0 where
  pub earlier : List Answer
  pub from : Pid
  pub asked : Message
  pub count : ℕ
  pub taken : given ≡ earlier ++ answers.ReceivedSegment from asked count ∷ []
  pub closes : is_close asked ≡ true
  pub is : reply ≡ calls.Reply (reply_of 0 0) from

-- nothing more will come out of it
pub record IsAtEnd (p : Pipe) : Type 0 where
  pub closed : p.closed ≡ true
  pub no_bytes : p.bytes ≡ []
  pub no_writes : p.writes ≡ []

-- nothing can be settled: the first write that waits does not fit, and a read waits only at an empty pipe that is not at its end
pub record NothingSettles (p : Pipe) : Type 0 where
  pub no_room : (w : Write) → slice_get p.writes 0 ≡ Some w → PIPE_BYTES < length p.bytes + length w.bytes
  pub no_bytes : (r : Read) → slice_get p.reads 0 ≡ Some r → p.bytes ≡ []
  pub no_end : (r : Read) → slice_get p.reads 0 ≡ Some r → IsAtEnd p → ⊥

-- it is within its limits
pub record IsWithinLimits (p : Pipe) : Type 0 where
  pub bytes : length p.bytes ≤ PIPE_BYTES
  pub requests : waiting p ≤ WAITING_REQUESTS

-- Behind these answers, of a server of so many requests:
pub record KeepsItsBytes (requests : ℕ) (given : List Answer) : Type 0 where
  -- the bytes that were put in are those that reads have, and then those in the pipe
  pub kept : bytes_put requests given ≡ bytes_had requests given ++ (pipe_after requests given).bytes
  -- the writes that were taken are those that were put in, and then those that wait; so it is with reads
  pub writes : writes_taken requests given ≡ writes_put requests given ++ (pipe_after requests given).writes
  pub reads : reads_taken requests given ≡ reads_served requests given ++ (pipe_after requests given).reads
  -- each write that was put in is told so, once and in this order, and no other is; each read that was served is replied to so
  pub written : written_calls requests given ≡ map reply_to_write (writes_put requests given)
  pub served : read_replies requests given ≡ map (λ (r : Read). r.from) (reads_served requests given)
  -- a reply without bytes and of code 0 is the one to the write that was put in last, or to a close that was taken last
  pub done : (m : Message) (to : Pid) → pipe_call requests given ≡ Some (calls.Reply m to) → code_of m ≡ 0 →
      TellsWrite requests given (calls.Reply m to) ⊎ TellsClose given (calls.Reply m to)
  -- the end is told where the pipe is at its end and reads have all that was put in, and that it is full where sixteen requests wait
  pub ended : (m : Message) (to : Pid) → pipe_call requests given ≡ Some (calls.Reply m to) → code_of m ≡ 6 →
      IsAtEnd (pipe_after requests given) × (bytes_put requests given ≡ bytes_had requests given)
  pub full : (m : Message) (to : Pid) →
      pipe_call requests given ≡ Some (calls.Reply m to) → code_of m ≡ 5 → waiting (pipe_after requests given) ≡ WAITING_REQUESTS
  -- it waits for a request only where nothing can be settled
  pub rests : pipe_call requests given ≡ Some (calls.ReceiveSegment 0 SEGMENT_BYTES) → NothingSettles (pipe_after requests given)
  pub within : IsWithinLimits (pipe_after requests given)

abbrev pub PipesKeepTheirBytes : Type 0
PipesKeepTheirBytes = (requests : ℕ) (given : List Answer) → KeepsItsBytes requests given
