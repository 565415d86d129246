-- The requests that a page server takes.
use Rattle.std.specs.Prelude.{ℕ, List, slice_get, Option, Some, None}
use Rattle.vk_types.specs.Types.{Message, Name, Pid, ProcessSpec, Step}
use Rattle.vk_base.specs.declared.step.Step.TheVariants as steps
use Rattle.vk_base.specs.Kernel.{◌>>=◌, Kernel}
use Rattle.vk_base.specs.Pids.{same_pid}
use Rattle.vk_base.specs.Ranges.{range_of, bytes_in}
use Rattle.vk_base.specs.Steps.{Taking, only_if, taking}
use Rattle.vk_event.specs.declared.task.TheConstants.{PAGE_BYTES}
use Rattle.v_laws.specs.Places.{before, process_after}
use Rattle.v_pages.specs.Followed.{up_to}

-- A request that was taken: of which Send, the message that the server was shown, which is the one that was sent unless another
-- process handed it on, and the bytes of a page that stand from address 0 on in the server's memory after the Take.
pub record Request : Type 0 where
  pub name : Name
  pub message : Message
  pub bytes : List ℕ

-- what a process takes by a step
abbrev pub taking_by : Pid → Kernel → Step → Option Taking
taking_by r k (steps.Take q) = only_if (same_pid q r) (taking k q)
taking_by r k s = None

-- the request that it takes at a place
abbrev pub request_at : List ProcessSpec → List Step → Pid → ℕ → Option Request
request_at specs ss r i = do
  k ← before specs ss i
  s ← slice_get ss i
  t ← taking_by r k s
  p ← process_after specs ss i r
  Some (record { name = t.name; message = t.exchange.shown; bytes = bytes_in (range_of 0 PAGE_BYTES) p.memory })

-- those that it took before a place, in the order in which it took them
abbrev pub requests_before : List ProcessSpec → List Step → Pid → ℕ → List Request
requests_before specs ss r i = up_to (request_at specs ss r) i
