-- The same of the history of a schedule.
use Rattle.std.proofs.Common.{◌≡◌, ℕ, List, slice_get, Some}
use Rattle.vk_types.specs.Types.{Answer, Message, Pid}
use Rattle.vk_base.specs.declared.answer.Answer.TheVariants as answers
use Rattle.vk_base.specs.declared.call.Call.TheVariants as calls
use Rattle.vk_base.specs.declared.step.Step.TheVariants as steps
use Rattle.vk_base.specs.Settings.{Settings}
use Rattle.vk_schedule.specs.declared.event.Event.{Event}
use Rattle.vk_files.specs.Tasks.{file_call}
use Rattle.vk_files.specs.declared.disk.Telling.{Telling}
use Rattle.v_laws.specs.Places.{seen_at}
use Rattle.v_laws.specs.Reached.{saw}
use Rattle.v_whole.specs.HistoryLaws.{IsSchedule, steps_of}
use Rattle.v_whole.proofs.Histories.{schedules_run}
use Rattle.v_pages.specs.Served.{RepliesToLast}
use Rattle.v_pages.proofs.Events.{follows_on}
use Rattle.v_files.specs.Loaded.{IsFileServer, IsFileLoaded, IsLoadedAlone}
use Rattle.v_files.specs.Scheduled.{IsFileServerIn}
use Rattle.v_files.proofs.Loads.{loads_whole, senders_loaded}

server_on : (c : Settings) (es : List Event) (r : Pid) (blocks : List (List ℕ)) (requests : ℕ) (telling : List Answer → Telling) →
    IsSchedule c es → IsFileServerIn c es r blocks requests telling → IsFileServer c.specs (steps_of c es) r blocks requests telling
server_on c es r blocks requests telling schedule fs = record {
  room = fs.room;
  volume = fs.volume;
  follows = follows_on (file_call blocks requests telling) c es r schedule fs.follows;
}

pub loads_whole_in : (c : Settings) (es : List Event) (r : Pid) (blocks : List (List ℕ)) (requests : ℕ) (telling : List Answer → Telling)
    (i j : ℕ) (s target : Pid) (message reply : Message) → IsSchedule c es → IsFileServerIn c es r blocks requests telling →
    slice_get (steps_of c es) i ≡ Some (steps.Collect s) →
    seen_at c.specs (steps_of c es) i ≡ saw s (calls.Send target message) (answers.Replied reply) →
    RepliesToLast c.specs (steps_of c es) i j s r → IsFileLoaded c.specs (steps_of c es) i j s r blocks requests telling reply
loads_whole_in c es r blocks requests telling i j s target message reply schedule fs =
    loads_whole c.specs (steps_of c es) _ r blocks requests telling i j s target message reply
    (schedules_run c es schedule.distinct schedule.callers).run (server_on c es r blocks requests telling schedule fs)

pub senders_loaded_in : (c : Settings) (es : List Event) (r : Pid) (blocks : List (List ℕ)) (requests : ℕ)
    (telling : List Answer → Telling) (i : ℕ) (s : Pid) (message reply : Message) → IsSchedule c es →
    IsFileServerIn c es r blocks requests telling → slice_get (steps_of c es) i ≡ Some (steps.Collect s) →
    seen_at c.specs (steps_of c es) i ≡ saw s (calls.Send r message) (answers.Replied reply) →
    IsLoadedAlone c.specs (steps_of c es) i s r blocks requests telling message reply
senders_loaded_in c es r blocks requests telling i s message reply schedule fs =
    senders_loaded c.specs (steps_of c es) _ r blocks requests telling i s message reply
    (schedules_run c es schedule.distinct schedule.callers).run (server_on c es r blocks requests telling schedule fs)
