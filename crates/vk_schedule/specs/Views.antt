-- What an event in few bytes stands for.
use Rattle.vk_types.specs.Types.{Call}
use Rattle.vk_schedule.specs.declared.event.Event.{Event}
use Rattle.vk_schedule.specs.declared.event.Event.TheVariants as events
use Rattle.vk_schedule.specs.declared.view.EventKind.{EventKind}
use Rattle.vk_schedule.specs.declared.view.EventKind.TheVariants as kinds

-- the event of this kind, with this call where one is made
abbrev pub event_by : EventKind → Call → Event
event_by (kinds.Call pid) call = events.Call pid call
event_by (kinds.Collect pid) call = events.Collect pid
event_by (kinds.Tick host) call = events.Tick host
event_by (kinds.Deliver to from event output) call = events.Deliver to from event output
