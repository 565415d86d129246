-- The server's task.
use Rattle.std.specs.Prelude.{◌≡◌, ℕ, ◌+◌, ◌==◌, min, List, [], ◌∷◌, Option, Some, None, if◌then◌else◌}
use Rattle.vk_types.specs.Types.{Answer, Call}
use Rattle.vk_base.specs.declared.answer.Answer.TheVariants as answers
use Rattle.vk_base.specs.declared.call.Call.TheVariants as calls
use Rattle.vk_values.specs.declared.entry.Entry.{Entry}
use Rattle.vk_values.specs.declared.stage.Stage.{Stage}
use Rattle.vk_values.specs.declared.stage.Stage.TheVariants as stages
use Rattle.vk_values.specs.Requests.{kept_after, replied_to}

-- what it keeps, how many replies it has made, and what it does
pub record Server : Type 0 where
  pub entries : List Entry
  pub replies : ℕ
  pub stage : Stage

abbrev pub seen : List Entry → ℕ → Stage → Server
seen entries replies stage = record { entries = entries; replies = replies; stage = stage }

-- behind so many replies, of which there are to be so many
abbrev pub between : ℕ → ℕ → Stage
between requests replies = if replies == requests then stages.Exit else stages.Receive

-- once it has received
abbrev pub received : Server → Answer → Server
received s (answers.Received from message) =
    record s { entries = kept_after s.entries message; stage = stages.Reply from (replied_to s.entries message) }
received s _ = record s { stage = stages.Ended }

-- after a reply, whatever it was answered
abbrev pub replied : ℕ → Server → Server
replied requests s = record s { replies = min (s.replies + 1) requests; stage = between requests (min (s.replies + 1) requests) }

-- after its last call was answered so
abbrev pub answered_at : Stage → ℕ → Server → Answer → Server
answered_at stages.Receive requests s a = received s a
answered_at (stages.Reply to message) requests s a = replied requests s
answered_at stages.Exit requests s a = record s { stage = stages.Ended }
answered_at stages.Ended requests s a = s

abbrev pub answered : ℕ → Server → Answer → Server
answered requests s a = answered_at s.stage requests s a

-- what it calls
abbrev pub stage_call : Stage → Option Call
stage_call stages.Receive = Some calls.Receive
stage_call (stages.Reply to message) = Some (calls.Reply message to)
stage_call stages.Exit = Some calls.Exit
stage_call stages.Ended = None

-- after all these answers, one after the other
abbrev pub answered_all : ℕ → Server → List Answer → Server
answered_all requests s [] = s
answered_all requests s (a ∷ rest) = answered_all requests (answered requests s a) rest

-- before its first call
abbrev pub new_server : ℕ → Server
new_server requests = seen [] 0 (between requests 0)

-- what a server that makes so many replies calls after these answers
abbrev pub server_call : ℕ → List Answer → Option Call
server_call requests given = stage_call (answered_all requests (new_server requests) given).stage

-- after these answers the server keeps this, has made so many replies of so many, and does this
abbrev pub IsServerAfter : List Entry → ℕ → ℕ → Stage → List Answer → Type 0
IsServerAfter entries requests replies stage given = answered_all requests (new_server requests) given ≡ seen entries replies stage
