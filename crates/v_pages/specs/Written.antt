-- Where the bytes of a lawful write come from.
use Rattle.std.specs.Prelude.{ℕ, ◌≡◌, ◌+◌, ◌<◌, true, List, slice_get, Some}
use Rattle.vk_types.specs.Types.{Message, Pid, Process, ProcessSpec, Step}
use Rattle.vk_base.specs.declared.call.Call.TheVariants as calls
use Rattle.vk_base.specs.declared.step.Step.TheVariants as steps
use Rattle.vk_base.specs.Messages.{grants_read, segment_of}
use Rattle.vk_base.specs.Pids.{same_host}
use Rattle.vk_base.specs.Ranges.{bytes_in}
use Rattle.vk_event.specs.declared.task.TheConstants.{PAGE_BYTES}
use Rattle.vk_pages.specs.Servers.{server_call}
use Rattle.v_laws.specs.Places.{process_at}
use Rattle.v_pages.specs.Followed.{FollowsTask}
use Rattle.v_pages.specs.PageMap.{is_lawful_write}
use Rattle.v_pages.specs.Requests.{Request, request_at}

-- At an earlier place the sender of the request called for this Send, to r, or to another process of its station which handed it on.
-- What was sent to r was shown to it as it was sent. Where the message that was sent lets be read as many bytes as a page has, the
-- bytes of the request are those that then stood in the segment which it grants.
pub record IsSentBefore (specs : List ProcessSpec) (ss : List Step) (i : ℕ) (r : Pid) (q : Request) : Type 0 where
  pub place : ℕ
  pub earlier : place < i
  pub target : Pid
  pub near : same_host target r ≡ true
  pub message : Message
  pub is : slice_get ss place ≡ Some (steps.Call q.name.sender (calls.Send target message))
  pub own : target ≡ r → message ≡ q.message
  pub caller : Process
  pub at : process_at specs ss place q.name.sender ≡ Some caller
  pub number : q.name.number ≡ caller.sends + 1
  pub bytes : grants_read message ≡ true → (segment_of message).len ≡ PAGE_BYTES → q.bytes ≡ bytes_in (segment_of message) caller.memory

-- Each lawful write that is taken has the bytes of its sender as they were at the Send.
abbrev pub WritesAreSent : Type 0
WritesAreSent = (specs : List ProcessSpec) (ss : List Step) (r : Pid) (pages requests i : ℕ) (q : Request) →
    FollowsTask (server_call pages requests) specs ss r → request_at specs ss r i ≡ Some q → is_lawful_write pages q.message ≡ true →
    IsSentBefore specs ss i r q
