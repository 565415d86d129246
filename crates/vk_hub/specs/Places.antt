-- Internal. Places for frames and requests, each as the event that it is.
use Rattle.std.specs.Prelude.{ℕ, []}
use Rattle.vk_base.specs.declared.event.StationEvent.{StationEvent}
use Rattle.vk_base.specs.declared.event.StationEvent.TheVariants as events
use Rattle.vk_hub.specs.declared.event.HubEvent.{HubEvent}
use Rattle.vk_hub.specs.declared.event.HubEvent.TheVariants as hub_events
use Rattle.vk_hub.specs.Links.{Frame}

-- the frame that an event brings to a station, and that which one posts
abbrev pub frame_brought : StationEvent → Frame
frame_brought (events.Deliver frame) = frame
frame_brought e = []

abbrev pub frame_posted : HubEvent → Frame
frame_posted (hub_events.Post frame) = frame
frame_posted e = []

-- the station that an event asks for
abbrev pub host_asking : HubEvent → ℕ
host_asking (hub_events.Fetch host) = host
host_asking e = 0
