-- What a log of events stands for.
use Rattle.std.specs.Prelude.{ℕ, ◌+◌, ◌≤◌, List, length, slice_range}
use Rattle.vk_types.specs.Types.{StationEvent}
use Rattle.vk_base.specs.declared.event.StationEvent.TheVariants as events
use Rattle.vk_base.specs.declared.limits.TheConstants.{DATA_BYTES, FRAME_BYTES}
use Rattle.vk_brief.specs.Brief.{call_with}
use Rattle.vk_log.specs.declared.entry.Entry.{Entry}
use Rattle.vk_log.specs.declared.entry.Entry.TheVariants as entries
use Rattle.vk_log.specs.declared.entry.Part.{Part}
use Rattle.vk_log.specs.declared.view.StationEventView.{StationEventView}
use Rattle.vk_log.specs.declared.view.StationEventView.TheVariants as views

-- what is seen of a log: its events, and for how many more there is room, whatever they are
pub record EventList : Type 0 where
  pub items : List StationEvent
  pub spare : ℕ

-- the event that a view shows
abbrev pub event_of : StationEventView → StationEvent
event_of (views.Call pid call) = events.Call pid call
event_of (views.Collect pid) = events.Collect pid
event_of views.Tick = events.Tick
event_of (views.Deliver frame) = events.Deliver frame.now

-- it is no frame of more bytes than a frame may have
abbrev pub IsShort : StationEventView → Type 0
IsShort (views.Deliver frame) = length frame.now ≤ FRAME_BYTES
IsShort e = Unit {0}

-- the bytes that stand there
abbrev pub part_in : List ℕ → Part → List ℕ
part_in bytes p = slice_range bytes p.from (p.from + p.count)

-- the event of an entry, whose bytes stand among these
abbrev pub event_in : List ℕ → Entry → StationEvent
event_in bytes (entries.Call pid part call) = events.Call pid (call_with (part_in bytes part) call)
event_in bytes (entries.Collect pid) = events.Collect pid
event_in bytes entries.Tick = events.Tick
event_in bytes (entries.Deliver part) = events.Deliver (part_in bytes part)

-- the bytes of an entry stand among so many, and are no more than its event may have
abbrev pub IsWithin : ℕ → Entry → Type 0
IsWithin size (entries.Call pid part call) = (part.from + part.count ≤ size) × (part.count ≤ DATA_BYTES)
IsWithin size (entries.Deliver part) = (part.from + part.count ≤ size) × (part.count ≤ FRAME_BYTES)
IsWithin size e = Unit {0}
