-- The same, said of the history of a schedule.
use Rattle.std.specs.Prelude.{ℕ, ◌≡◌, ◌≤◌, List, slice_get, Some}
use Rattle.vk_types.specs.Types.{Answer, Message, Pid}
use Rattle.vk_base.specs.declared.answer.Answer.TheVariants as answers
use Rattle.vk_base.specs.declared.call.Call.TheVariants as calls
use Rattle.vk_base.specs.declared.step.Step.TheVariants as steps
use Rattle.vk_base.specs.Settings.{Settings}
use Rattle.vk_schedule.specs.declared.event.Event.{Event}
use Rattle.vk_files.specs.Tasks.{file_call}
use Rattle.vk_files.specs.declared.disk.Telling.{Telling}
use Rattle.vk_files.specs.declared.limits.TheConstants.{FILE_BYTES}
use Rattle.v_laws.specs.Places.{seen_at}
use Rattle.v_laws.specs.Reached.{saw}
use Rattle.v_laws.specs.Sizes.{size_in}
use Rattle.v_whole.specs.HistoryLaws.{IsSchedule, steps_of}
use Rattle.v_pages.specs.Scheduled.{FollowsIn}
use Rattle.v_pages.specs.Served.{RepliesToLast}
use Rattle.v_files.specs.Loaded.{IsFileLoaded, IsLoadedAlone}
use Rattle.v_files.specs.Volumes.{IsVolume}

-- the process has memory for the longest file, and follows the task of a file server in the history of these events
pub record IsFileServerIn (c : Settings) (es : List Event) (r : Pid) (blocks : List (List ℕ)) (requests : ℕ)
    (telling : List Answer → Telling) : Type 0 where
  pub room : FILE_BYTES ≤ size_in c.specs r
  pub volume : IsVolume blocks
  pub follows : FollowsIn (file_call blocks requests telling) c es r

-- In each history in which r is a file server, each sender that collects a reply of r is served so, in the steps of that history.
abbrev pub LoadsAreWholeIn : Type 0
LoadsAreWholeIn = (c : Settings) (es : List Event) (r : Pid) (blocks : List (List ℕ)) (requests : ℕ) (telling : List Answer → Telling)
    (i j : ℕ) (s target : Pid) (message reply : Message) → IsSchedule c es → IsFileServerIn c es r blocks requests telling →
    slice_get (steps_of c es) i ≡ Some (steps.Collect s) →
    seen_at c.specs (steps_of c es) i ≡ saw s (calls.Send target message) (answers.Replied reply) →
    RepliesToLast c.specs (steps_of c es) i j s r → IsFileLoaded c.specs (steps_of c es) i j s r blocks requests telling reply

-- and who sent to r, and collects a reply, was served by r alone
abbrev pub SendersAreLoadedIn : Type 0
SendersAreLoadedIn = (c : Settings) (es : List Event) (r : Pid) (blocks : List (List ℕ)) (requests : ℕ) (telling : List Answer → Telling)
    (i : ℕ) (s : Pid) (message reply : Message) → IsSchedule c es → IsFileServerIn c es r blocks requests telling →
    slice_get (steps_of c es) i ≡ Some (steps.Collect s) →
    seen_at c.specs (steps_of c es) i ≡ saw s (calls.Send r message) (answers.Replied reply) →
    IsLoadedAlone c.specs (steps_of c es) i s r blocks requests telling message reply
