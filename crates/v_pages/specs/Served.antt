-- What the clients of a page server get, in the runs of the one-machine kernel.
use Rattle.std.specs.Prelude.{ℕ, ◌≡◌, ◌+◌, ◌<◌, true, false, List, [], slice_get, Some}
use Rattle.vk_types.specs.Types.{Message, Pid, Process, ProcessSpec, Step}
use Rattle.vk_base.specs.declared.answer.Answer.TheVariants as answers
use Rattle.vk_base.specs.declared.call.Call.TheVariants as calls
use Rattle.vk_base.specs.declared.step.Step.TheVariants as steps
use Rattle.vk_base.specs.Kernel.{initial_kernel, name_of}
use Rattle.vk_base.specs.Messages.{segment_of}
use Rattle.vk_base.specs.Ranges.{range_of, bytes_in}
use Rattle.vk_base.specs.Steps.{Run, run}
use Rattle.vk_event.specs.declared.task.TheConstants.{PAGE_BYTES}
use Rattle.vk_pages.specs.Messages.{page_of}
use Rattle.vk_pages.specs.Servers.{server_call}
use Rattle.v_laws.specs.Places.{IsReplyAt, process_at, seen_at, taken_at}
use Rattle.v_laws.specs.Reached.{saw}
use Rattle.v_pages.specs.Followed.{FollowsTask}
use Rattle.v_pages.specs.PageMap.{is_lawful_read, map_after, memory_after, reply_for}
use Rattle.v_pages.specs.Requests.{Request, request_at, requests_before}

-- At place j the process r replies to the last Send that s called for before place i, and is answered ok.
pub record RepliesToLast (specs : List ProcessSpec) (ss : List Step) (i j : ℕ) (s r : Pid) : Type 0 where
  pub sender : Process
  pub now : process_at specs ss i s ≡ Some sender
  pub message : Message
  pub dest : ℕ
  pub bytes : List ℕ
  pub replies : IsReplyAt specs ss j s r sender.sends message dest bytes

-- The last Send of s was taken by the server r at one place, and at no other, and the reply that r gave at the later place j is
-- collected at the later place i. By the message that r was shown, the reply is that of the map which the requests make that r took
-- before: where a page is read, its bytes stand where the segment of that message starts, and else the reply has no bytes.
pub record IsServed (specs : List ProcessSpec) (ss : List Step) (i j : ℕ) (s r : Pid) (pages : ℕ) (reply : Message) : Type 0 where
  pub sender : Process
  pub now : process_at specs ss i s ≡ Some sender
  -- r takes the Send
  pub place : ℕ
  pub request : Request
  pub takes : request_at specs ss r place ≡ Some request
  pub name : request.name ≡ name_of s sender.sends
  pub once : (l : ℕ) (q : Request) → request_at specs ss r l ≡ Some q → q.name ≡ request.name → l ≡ place
  -- r replies to it
  pub behind : place < j
  pub dest : ℕ
  pub bytes : List ℕ
  pub replies : IsReplyAt specs ss j s r sender.sends reply dest bytes
  pub replied : reply ≡ reply_for pages request.message
  pub none : is_lawful_read pages request.message ≡ false → bytes ≡ []
  -- s collects the reply
  pub collected : j < i
  pub page : is_lawful_read pages request.message ≡ true →
      bytes_in (range_of (segment_of request.message).start PAGE_BYTES) sender.memory ≡
      map_after pages (requests_before specs ss r place) (page_of request.message)

-- Where s sent to r itself, no process but r takes the Send, and what r is shown is what s sent. Then the memory of s is as it was
-- when s called for the Send, but for the bytes of a page that is read.
pub record IsServedAlone (specs : List ProcessSpec) (ss : List Step) (i : ℕ) (s r : Pid) (pages : ℕ) (message reply : Message) :
    Type 0 where
  pub reply_place : ℕ
  pub served : IsServed specs ss i reply_place s r pages reply
  pub asked : served.request.message ≡ message
  pub alone : (l : ℕ) → taken_at specs ss l ≡ Some served.request.name → l ≡ served.place
  -- s calls for the Send
  pub sent : ℕ
  pub called : slice_get ss sent ≡ Some (steps.Call s (calls.Send r message))
  pub first : sent < served.place
  pub caller : Process
  pub then : process_at specs ss sent s ≡ Some caller
  pub last : served.sender.sends ≡ caller.sends + 1
  pub memory : served.sender.memory ≡
      memory_after pages (map_after pages (requests_before specs ss r served.place)) message caller.memory

-- In each run in which r follows the task of a page server, each sender that collects a reply is served so where r replied to its
-- Send, to whomever of r's station it was sent.
abbrev pub RequestsAreServed : Type 0
RequestsAreServed = (specs : List ProcessSpec) (ss : List Step) (whole : Run) (r : Pid) (pages requests i j : ℕ) (s target : Pid)
    (message reply : Message) →
    run (initial_kernel specs) ss ≡ Some whole → FollowsTask (server_call pages requests) specs ss r →
    slice_get ss i ≡ Some (steps.Collect s) → seen_at specs ss i ≡ saw s (calls.Send target message) (answers.Replied reply) →
    RepliesToLast specs ss i j s r → IsServed specs ss i j s r pages reply

-- Who sent to r, and collects a reply, was served by r alone.
abbrev pub SendersAreServed : Type 0
SendersAreServed = (specs : List ProcessSpec) (ss : List Step) (whole : Run) (r : Pid) (pages requests i : ℕ) (s : Pid)
    (message reply : Message) →
    run (initial_kernel specs) ss ≡ Some whole → FollowsTask (server_call pages requests) specs ss r →
    slice_get ss i ≡ Some (steps.Collect s) → seen_at specs ss i ≡ saw s (calls.Send r message) (answers.Replied reply) →
    IsServedAlone specs ss i s r pages message reply
