-- The pipe server.
use Rattle.std.specs.Prelude.{ℕ, ◌+◌, ◌-◌, ◌==◌, ◌&&◌, Bool, true, false, not, nat_le, min, List, [], ◌∷◌, ◌++◌, length, take, drop, slice_get, Option, Some, None, if◌then◌else◌}
use Rattle.vk_types.specs.Types.{Answer, Call, Message, Pid}
use Rattle.vk_base.specs.declared.answer.Answer.TheVariants as answers
use Rattle.vk_base.specs.declared.call.Call.TheVariants as calls
use Rattle.vk_base.specs.declared.limits.TheConstants.{SEGMENT_BYTES}
use Rattle.vk_pipe.specs.declared.limits.TheConstants.{PIPE_BYTES, WAITING_REQUESTS}
use Rattle.vk_pipe.specs.declared.news.News.{News}
use Rattle.vk_pipe.specs.declared.news.News.TheVariants as brings
use Rattle.vk_pipe.specs.declared.serving.PipeServing.{PipeServing}
use Rattle.vk_pipe.specs.declared.serving.PipeServing.TheVariants as stages
use Rattle.vk_pipe.specs.declared.serving.Verdict.TheVariants as verdicts
use Rattle.vk_pipe.specs.declared.waiting.Read.{Read}
use Rattle.vk_pipe.specs.declared.waiting.Write.{Write}
use Rattle.vk_pipe.specs.Requests.{is_close, is_request, is_write, message_for, read_of, reply_of}

-- the bytes in the pipe, the writes and the reads that wait, in the order in which they were taken, whether it is closed, and how many
-- replies are left to be made
pub record Pipe : Type 0 where
  pub bytes : List ℕ
  pub writes : List Write
  pub reads : List Read
  pub closed : Bool
  pub left : ℕ

-- a pipe, and what is done with it: the call that waits for its answer
pub record Server : Type 0 where
  pub pipe : Pipe
  pub stage : PipeServing

abbrev pub at : Pipe → PipeServing → Server
at p stage = record { pipe = p; stage = stage }

-- how many requests wait
abbrev pub waiting : Pipe → ℕ
waiting p = length p.writes + length p.reads

-- so many of its bytes a read gets
abbrev pub piece_len : Pipe → Read → ℕ
piece_len p r = min SEGMENT_BYTES (min r.len (length p.bytes))

abbrev pub piece_of : Pipe → Read → List ℕ
piece_of p r = take (piece_len p r) p.bytes

-- What an answer brings.

-- a request that was taken, with so many bytes
abbrev pub judged : Pipe → Pid → Message → ℕ → News
judged p from m count =
    if not (is_request m) then brings.Due (stages.Reply from verdicts.Bad)
    else if is_close m then brings.Close from
    else if is_write m && p.closed then brings.Due (stages.Reply from verdicts.Shut)
    else if waiting p == WAITING_REQUESTS then brings.Due (stages.Reply from verdicts.Full)
    else if is_write m then brings.Due (stages.Load from count)
    else brings.ReadWaits (read_of from m)

abbrev pub received : Pipe → Answer → News
received p (answers.ReceivedSegment from message count) = judged p from message count
received p _ = brings.Due stages.Ended

-- a write of so many bytes, once they were loaded
abbrev pub loaded : Pid → ℕ → Answer → News
loaded from count (answers.Loaded bytes) =
    if length bytes == count then brings.WriteWaits (record { from = from; bytes = bytes }) else brings.Due stages.Ended
loaded from count _ = brings.Due stages.Ended

-- a read that was replied to with its bytes has them exactly where the reply was answered Ok
abbrev pub delivered : Read → Answer → News
delivered r answers.Ok = brings.Delivered r
delivered r _ = brings.Replied

abbrev pub news_of : Pipe → PipeServing → Answer → News
news_of p stages.Receive a = received p a
news_of p (stages.Load from count) a = loaded from count a
news_of p (stages.Store r) a = brings.Due (stages.ReplyBytes r)
news_of p (stages.ReplyBytes r) a = delivered r a
news_of p (stages.Reply to verdict) a = brings.Replied
news_of p stages.Exit a = brings.Due stages.Ended
news_of p stages.Ended a = brings.Due stages.Ended

-- the pipe behind it
abbrev pub with_news : Pipe → News → Pipe
with_news p (brings.Due stage) = p
with_news p (brings.Close from) = record p { closed = true }
with_news p (brings.WriteWaits w) = record p { writes = p.writes ++ w ∷ [] }
with_news p (brings.ReadWaits r) = record p { reads = p.reads ++ r ∷ [] }
with_news p (brings.Delivered r) = record p { bytes = drop (piece_len p r) p.bytes; left = p.left - 1 }
with_news p brings.Replied = record p { left = p.left - 1 }

-- What is settled.

-- a call is due; the first write goes in; the first read is served, or is at the end
pub data Rule : Type 0 where
  Calls : (stage : PipeServing) → Rule
  Puts : (w : Write) → Rule
  Serves : (r : Read) → Rule
  Ends : (r : Read) → Rule

-- the first write, where its bytes fit behind so many
abbrev pub fitting : ℕ → Option Write → Option Write
fitting held None = None
fitting held (Some w) = if nat_le (held + length w.bytes) PIPE_BYTES then Some w else None

abbrev pub is_empty : Pipe → Bool
is_empty p = length p.bytes == 0

-- of the first read
abbrev pub read_rule : Pipe → Option Read → Rule
read_rule p None = Calls stages.Receive
read_rule p (Some r) =
    if not (is_empty p) then Serves r
    else if p.closed && length p.writes == 0 then Ends r
    else Calls stages.Receive

-- of a write that fits, and else of the first read
abbrev pub write_rule : Pipe → Option Write → Rule
write_rule p (Some w) = Puts w
write_rule p None = read_rule p (slice_get p.reads 0)

-- the first that can be done, where replies are left
abbrev pub settled : Pipe → Rule
settled p = if p.left == 0 then Calls stages.Exit else write_rule p (fitting (length p.bytes) (slice_get p.writes 0))

abbrev pub rule_for : Pipe → News → Rule
rule_for p (brings.Due stage) = Calls stage
rule_for p (brings.Close from) = Calls (stages.Reply from verdicts.Closed)
rule_for p _ = settled p

abbrev pub by_rule : Pipe → Rule → Server
by_rule p (Calls stage) = at p stage
by_rule p (Puts w) =
    at (record p { bytes = p.bytes ++ w.bytes; writes = drop 1 p.writes }) (stages.Reply w.from (verdicts.Written (length w.bytes)))
by_rule p (Serves r) = at (record p { reads = drop 1 p.reads }) (stages.Store r)
by_rule p (Ends r) = at (record p { reads = drop 1 p.reads }) (stages.Reply r.from verdicts.End)

-- The server.

-- after its last call was answered so
abbrev pub after_news : Pipe → News → Server
after_news p n = let q = with_news p n in by_rule q (rule_for q n)

abbrev pub answered : Server → Answer → Server
answered s a = after_news s.pipe (news_of s.pipe s.stage a)

-- after all these answers, one after the other
abbrev pub answered_all : Server → List Answer → Server
answered_all s [] = s
answered_all s (a ∷ rest) = answered_all (answered s a) rest

-- an empty pipe, at which so many replies are made
abbrev pub empty_pipe : ℕ → Pipe
empty_pipe requests = record { bytes = []; writes = []; reads = []; closed = false; left = requests }

abbrev pub new_server : ℕ → Server
new_server requests = by_rule (empty_pipe requests) (settled (empty_pipe requests))

abbrev pub server_after : ℕ → List Answer → Server
server_after requests given = answered_all (new_server requests) given

-- what it calls
abbrev pub stage_call : Pipe → PipeServing → Option Call
stage_call p stages.Receive = Some (calls.ReceiveSegment 0 SEGMENT_BYTES)
stage_call p (stages.Load from count) = Some (calls.Load 0 count)
stage_call p (stages.Store r) = Some (calls.Store 0 (piece_of p r))
stage_call p (stages.ReplyBytes r) =
    Some (calls.ReplySegment (reply_of 0 (piece_len p r)) r.from r.start 0 (piece_len p r))
stage_call p (stages.Reply to verdict) = Some (calls.Reply (message_for verdict) to)
stage_call p stages.Exit = Some calls.Exit
stage_call p stages.Ended = None

-- what a server of so many requests calls after these answers
abbrev pub pipe_call : ℕ → List Answer → Option Call
pipe_call requests given = let s = server_after requests given in stage_call s.pipe s.stage
