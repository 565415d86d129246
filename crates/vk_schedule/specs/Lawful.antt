-- Lawful schedules: those that a text spells.
use Rattle.std.specs.Prelude.{◌≡◌, ℕ, ◌<◌, ◌^◌, ◌≤◌, ◌&&◌, Bool, true, List, length}
use Rattle.std.specs.List.{list_all, AllByRecursion}
use Rattle.vk_types.specs.Types.{ProcessSpec}
use Rattle.vk_base.specs.declared.limits.TheConstants.{EVENTS, EVERY_STATION}
use Rattle.vk_base.specs.Pids.{IsPid}
use Rattle.vk_base.specs.Settings.{has_process, has_station}
use Rattle.vk_text.specs.Laws.{IsOrdinal, IsReadable}
use Rattle.vk_text.specs.Openings.{IsTellable}
use Rattle.vk_schedule.specs.declared.event.Event.{Event}
use Rattle.vk_schedule.specs.declared.event.Event.TheVariants as events
use Rattle.vk_schedule.specs.declared.schedule.Schedule.{Schedule}

-- the calling process, the ticked station, or both stations of a delivery are in the configuration
abbrev pub has_actors : List ProcessSpec → Event → Bool
has_actors specs (events.Call pid call) = has_process specs pid
has_actors specs (events.Collect pid) = has_process specs pid
has_actors specs (events.Tick host) = has_station specs host
has_actors specs (events.Deliver to from event output) = has_station specs to && has_station specs from

abbrev pub IsStation : ℕ → Type 0
IsStation host = (0 < host) × (host < EVERY_STATION)

-- the number of a frame of an event
abbrev pub IsOutputNumber : ℕ → Type 0
IsOutputNumber output = (0 < output) × (output < 2 ^ 16)

-- each field of the event is in its range
abbrev pub IsReadableEvent : Event → Type 0
IsReadableEvent (events.Call pid call) = IsPid pid × IsReadable call
IsReadableEvent (events.Collect pid) = IsPid pid
IsReadableEvent (events.Tick host) = IsStation host
IsReadableEvent (events.Deliver to from event output) = IsStation to × IsStation from × IsOrdinal event × IsOutputNumber output

-- the configuration is one that a text can tell; each event is of its processes and stations; there are not too many
pub record IsLawful (s : Schedule) : Type 0 where
  pub told : IsTellable s.config
  pub ranges : AllByRecursion IsReadableEvent s.events
  pub events : list_all (has_actors s.config.specs) s.events ≡ true
  pub few : length s.events ≤ EVENTS
