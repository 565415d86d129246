-- The page server.
use Rattle.std.specs.Prelude.{◌≡◌, ℕ, ◌+◌, ◌==◌, ◌&&◌, ◌||◌, not, nat_lt, nat_le, min, List, [], ◌∷◌, length, slice_get, Option, Some, None, option_map, if◌then◌else◌}
use Rattle.vk_types.specs.Types.{Answer, Call, Message, Pid}
use Rattle.vk_base.specs.Messages.{grants_of}
use Rattle.vk_base.specs.declared.answer.Answer.TheVariants as answers
use Rattle.vk_base.specs.declared.call.Call.TheVariants as calls
use Rattle.vk_event.specs.declared.task.TheConstants.{PAGE_BYTES}
use Rattle.vk_pages.specs.Messages.{code_of, page_of, reply_of}
use Rattle.vk_pages.specs.Pages.{with_page, zero_pages}
use Rattle.vk_pages.specs.declared.serving.PageServing.{PageServing}
use Rattle.vk_pages.specs.declared.serving.PageServing.TheVariants as stages

-- its pages, how many replies it has made, and what it does
pub record Server : Type 0 where
  pub pages : List (List ℕ)
  pub replies : ℕ
  pub stage : PageServing

-- a server with these pages and replies, which does this
abbrev pub seen : List (List ℕ) → ℕ → PageServing → Server
seen pages replies stage = record { pages = pages; replies = replies; stage = stage }

-- what it does with a request, of which so many pages there are
abbrev pub taken : ℕ → Pid → Message → PageServing
taken pages from m =
    if not (code_of m == 1 || code_of m == 2) then stages.Reply from (page_of m) 2
    else if not (nat_lt (page_of m) pages) then stages.Reply from (page_of m) 1
    else if code_of m == 1 then
    if (grants_of m).write && nat_le PAGE_BYTES (grants_of m).range.len then stages.Store from (page_of m) (grants_of m).range.start
    else stages.Reply from (page_of m) 2
    else if (grants_of m).read && (grants_of m).range.len == PAGE_BYTES then stages.Load from (page_of m)
    else stages.Reply from (page_of m) 2

-- behind so many replies, of which there are to be so many
abbrev pub between : ℕ → ℕ → PageServing
between requests replies = if replies == requests then stages.Exit else stages.Receive

-- what it does once it has received
abbrev pub received : ℕ → Answer → PageServing
received pages (answers.ReceivedSegment from message count) = taken pages from message
received pages _ = stages.Ended

-- the page that was loaded, where it is one
abbrev pub page_in : Answer → Option (List ℕ)
page_in (answers.Loaded bytes) = if length bytes == PAGE_BYTES then Some bytes else None
page_in _ = None

-- after the bytes for a page were loaded
abbrev pub loaded : Server → Pid → ℕ → Option (List ℕ) → Server
loaded s from page None = record s { stage = stages.Ended }
loaded s from page (Some bytes) = record s { pages = with_page s.pages page bytes; stage = stages.Reply from page 0 }

-- one reply more, of at most so many
abbrev pub one_more : ℕ → ℕ → ℕ
one_more requests replies = min (replies + 1) requests

-- after a reply, whatever it was answered
abbrev pub replied : ℕ → Server → Server
replied requests s = record s { replies = one_more requests s.replies; stage = between requests (one_more requests s.replies) }

-- after its last call was answered so
abbrev pub answered_at : PageServing → ℕ → Server → Answer → Server
answered_at stages.Receive requests s a = record s { stage = received (length s.pages) a }
answered_at (stages.Load from page) requests s a = loaded s from page (page_in a)
answered_at (stages.Store from page dest) requests s a = record s { stage = stages.ReplyPage from page dest }
answered_at (stages.ReplyPage from page dest) requests s a = replied requests s
answered_at (stages.Reply from page code) requests s a = replied requests s
answered_at stages.Exit requests s a = record s { stage = stages.Ended }
answered_at stages.Ended requests s a = s

abbrev pub answered : ℕ → Server → Answer → Server
answered requests s a = answered_at s.stage requests s a

-- what it calls; a page that is to be read is there
abbrev pub stage_call : List (List ℕ) → PageServing → Option Call
stage_call pages stages.Receive = Some (calls.ReceiveSegment 0 PAGE_BYTES)
stage_call pages (stages.Load from page) = Some (calls.Load 0 PAGE_BYTES)
stage_call pages (stages.Store from page dest) = option_map (λ bytes. calls.Store 0 bytes) (slice_get pages page)
stage_call pages (stages.ReplyPage from page dest) = Some (calls.ReplySegment (reply_of 0 page) from dest 0 PAGE_BYTES)
stage_call pages (stages.Reply from page code) = Some (calls.Reply (reply_of code page) from)
stage_call pages stages.Exit = Some calls.Exit
stage_call pages stages.Ended = None

-- after all these answers, one after the other
abbrev pub answered_all : ℕ → Server → List Answer → Server
answered_all requests s [] = s
answered_all requests s (a ∷ rest) = answered_all requests (answered requests s a) rest

-- before its first call
abbrev pub new_server : ℕ → ℕ → Server
new_server pages requests = seen (zero_pages pages) 0 (between requests 0)

-- what a server of so many pages and requests calls after these answers
abbrev pub server_call : ℕ → ℕ → List Answer → Option Call
server_call pages requests given =
    let s = answered_all requests (new_server pages requests) given in stage_call s.pages s.stage

-- after these answers the server has these pages, of which there are so many, has made so many replies, and does this
pub record IsServerAfter (held : List (List ℕ)) (count requests replies : ℕ) (stage : PageServing) (given : List Answer) : Type 0 where
  pub state : answered_all requests (new_server count requests) given ≡ seen held replies stage
  pub size : length held ≡ count
