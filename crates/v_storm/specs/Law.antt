-- The laws of storms.
use Rattle.std.specs.Prelude.{◌≡◌, ℕ, ◌<◌, ◌≤◌, true, List, take, Some, if◌then◌else◌}
use Rattle.vk_types.specs.Types.{Call, EventAnswer}
use Rattle.vk_base.specs.declared.limits.TheConstants.{EVENTS}
use Rattle.vk_base.specs.Settings.{has_station}
use Rattle.vk_drive.specs.Storms.{delivery_of, process_event, storm_after, storm_schedule_of}
use Rattle.vk_drive.specs.Tasks.{settings, specs, task_at}
use Rattle.vk_drive.specs.Told.{all_emitted, answered_to, is_waiting, told}
use Rattle.vk_event.specs.declared.task.Task.{Task}
use Rattle.vk_frame.specs.declared.header.Header.{Header}
use Rattle.vk_pages.specs.Programs.{task_call}
use Rattle.vk_rules.specs.Each.{Each}
use Rattle.vk_rules.specs.Histories.{history_of}
use Rattle.vk_schedule.specs.declared.event.Event.TheVariants as events
use Rattle.vk_schedule.specs.Lawful.{IsLawful}

-- the schedule of each storm is lawful
abbrev pub StormsAreLawful : Type 0
StormsAreLawful = (n : ℕ) → n ≤ EVENTS → IsLawful (storm_schedule_of n)

-- and so are its first events, however many: also those up to one before which the frames hold too many bytes
abbrev pub FrontsAreLawful : Type 0
FrontsAreLawful = (n count : ℕ) → n ≤ EVENTS → IsLawful (record { config = settings; events = take count (storm_schedule_of n).events })

-- the process has a next call, and makes it unless its last one is to be collected
pub record GoesOn (t : Task) (heard : List EventAnswer) : Type 0 where
  pub call : Call
  pub is : task_call t (told heard) ≡ Some call
  pub event : process_event t heard ≡ (if is_waiting heard then events.Collect t.pid else events.Call t.pid call)

-- behind no events of a storm is the program of one of the four processes at its end
abbrev pub ProgramsGoOn : Type 0
ProgramsGoOn = (seed count place : ℕ) → count ≤ EVENTS → place < 4 →
    GoesOn (task_at place) (answered_to (task_at place).pid (history_of settings (storm_after seed count).events))

-- the frame is of a station of the storm and for one, so that its delivery is one
pub record IsForStation (h : Header) : Type 0 where
  pub to : has_station specs h.destination ≡ true
  pub from : has_station specs h.source ≡ true
  pub comes : delivery_of h ≡ events.Deliver h.destination h.source h.event h.output

-- each frame that is emitted in a storm is so
abbrev pub FramesAreForStations : Type 0
FramesAreForStations =
    (seed count : ℕ) → count ≤ EVENTS → Each IsForStation (all_emitted (history_of settings (storm_after seed count).events))
