-- What a pipe server has taken, put into the pipe and handed out, and which replies it made, behind some answers.
use Rattle.std.specs.Prelude.{ℕ, List, [], ◌∷◌, ◌++◌}
use Rattle.std.specs.List.{flat_map}
use Rattle.vk_types.specs.Types.{Answer, Call, Pid}
use Rattle.vk_base.specs.declared.call.Call.TheVariants as calls
use Rattle.vk_pipe.specs.declared.news.News.{News}
use Rattle.vk_pipe.specs.declared.news.News.TheVariants as brings
use Rattle.vk_pipe.specs.declared.serving.PipeServing.{PipeServing}
use Rattle.vk_pipe.specs.declared.serving.PipeServing.TheVariants as stages
use Rattle.vk_pipe.specs.declared.serving.Verdict.TheVariants as verdicts
use Rattle.vk_pipe.specs.declared.waiting.Read.{Read}
use Rattle.vk_pipe.specs.declared.waiting.Write.{Write}
use Rattle.vk_pipe.specs.Pipes.{Ends, Pipe, Puts, Rule, Serves, Server, answered, new_server, news_of, piece_of, rule_for, server_after, with_news}
use Rattle.vk_pipe.specs.Requests.{reply_of}

-- Of one answer.

-- the write that waits from then on
abbrev pub write_in : News → List Write
write_in (brings.WriteWaits w) = w ∷ []
write_in n = []

-- the read that does
abbrev pub read_in : News → List Read
read_in (brings.ReadWaits r) = r ∷ []
read_in n = []

-- a read, and the bytes that it has
pub record Piece : Type 0 where
  pub read : Read
  pub bytes : List ℕ

-- what a read has, which leaves the pipe
abbrev pub piece_in : Pipe → News → List Piece
piece_in p (brings.Delivered r) = record { read = r; bytes = piece_of p r } ∷ []
piece_in p n = []

-- the write that goes into the pipe
abbrev pub put_by : Rule → List Write
put_by (Puts w) = w ∷ []
put_by rule = []

-- the read that waits no more
abbrev pub served_by : Rule → List Read
served_by (Serves r) = r ∷ []
served_by (Ends r) = r ∷ []
served_by rule = []

abbrev pub news_at : Server → Answer → News
news_at s a = news_of s.pipe s.stage a

abbrev pub rule_at : Server → Answer → Rule
rule_at s a = let n = news_at s a in rule_for (with_news s.pipe n) n

-- Of one call.

-- the reply to a write whose bytes are in the pipe
abbrev pub written_call : PipeServing → List Call
written_call (stages.Reply to (verdicts.Written count)) = calls.Reply (reply_of 0 count) to ∷ []
written_call stage = []

-- whose read it replies to, with bytes or with the end
abbrev pub read_reply : PipeServing → List Pid
read_reply (stages.ReplyBytes r) = r.from ∷ []
read_reply (stages.Reply to verdicts.End) = to ∷ []
read_reply stage = []

-- whose read was served last and has no answered reply
abbrev pub read_due : PipeServing → List Pid
read_due (stages.Store r) = r.from ∷ []
read_due stage = read_reply stage

-- Of all answers so far.

-- what each of them tells, one after the other, of a server that stands so before the first
abbrev pub along : {X : Type 0} → (Server → Answer → List X) → Server → List Answer → List X
along tells s [] = []
along tells s (a ∷ rest) = tells s a ++ along tells (answered s a) rest

-- of a server of so many requests
abbrev pub told : {X : Type 0} → (Server → Answer → List X) → ℕ → List Answer → List X
told tells requests given = along tells (new_server requests) given

-- the writes that were taken, and those that were put in
abbrev pub writes_taken : ℕ → List Answer → List Write
writes_taken requests given = told (λ s a. write_in (news_at s a)) requests given

abbrev pub writes_put : ℕ → List Answer → List Write
writes_put requests given = told (λ s a. put_by (rule_at s a)) requests given

-- the reads that were taken, and those that were served
abbrev pub reads_taken : ℕ → List Answer → List Read
reads_taken requests given = told (λ s a. read_in (news_at s a)) requests given

abbrev pub reads_served : ℕ → List Answer → List Read
reads_served requests given = told (λ s a. served_by (rule_at s a)) requests given

-- what reads have
abbrev pub pieces : ℕ → List Answer → List Piece
pieces requests given = told (λ s a. piece_in s.pipe (news_at s a)) requests given

-- the bytes that were put in, and those that reads have
abbrev pub bytes_put : ℕ → List Answer → List ℕ
bytes_put requests given = flat_map (λ (w : Write). w.bytes) (writes_put requests given)

abbrev pub bytes_had : ℕ → List Answer → List ℕ
bytes_had requests given = flat_map (λ (x : Piece). x.bytes) (pieces requests given)

-- the replies to writes whose bytes are in the pipe: those that were answered, and the one that it makes now
abbrev pub written_calls : ℕ → List Answer → List Call
written_calls requests given =
    told (λ s a. written_call s.stage) requests given ++ written_call (server_after requests given).stage

-- the processes whose reads were replied to, and the one whose read is
abbrev pub read_replies : ℕ → List Answer → List Pid
read_replies requests given = told (λ s a. read_reply s.stage) requests given ++ read_due (server_after requests given).stage
