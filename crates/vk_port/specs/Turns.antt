-- Internal. What the steps of a port do to its two seats.
use Rattle.std.specs.Prelude.{ℕ, ◌≡◌, ◌<◌, ◌⊎◌, Bool, true, false, List, ◌++◌, length, map, take}
use Rattle.vk_base.specs.declared.limits.TheConstants.{ROUND_PACKETS, TICK_PACKETS}
use mathlib.Core.List.{IsPrefix}
use Rattle.vk_types.specs.Types.{Answer, EventAnswer, StationEvent}
use Rattle.turn_cell.specs.Rooms.{is_full as is_room_full}
use Rattle.turn_cell.specs.Seats.{IsSameSeat, Sitting}
use Rattle.turn_cell.specs.declared.replay.Room.{Room}
use Rattle.vk_base.specs.declared.event.EventAnswer.TheVariants as answers
use Rattle.vk_base.specs.declared.event.StationEvent.TheVariants as events
use Rattle.vk_hub.specs.declared.event.Fetched.{Fetched}
use Rattle.vk_hub.specs.declared.event.HubEvent.{HubEvent}
use Rattle.vk_hub.specs.declared.event.HubEvent.TheVariants as hub_events
use Rattle.vk_hub.specs.Hubs.{HubLog, is_at_limit}
use Rattle.vk_hub.specs.Links.{Frame}
use Rattle.vk_port.specs.Ports.{FetchesAt, IsSamePort, PortValue, berth_of, fetched_at, stand_of}

-- these frames were posted, in order
pub record HasPosted (old new : Sitting HubLog HubEvent) (frames : List Frame) : Type 0 where
  pub same : IsSameSeat old new
  pub seen : IsPrefix old.seen new.seen
  pub mine : new.mine ≡ old.mine ++ map hub_events.Post frames

-- so many of them were posted, the first ones, and the next was refused
pub record HasStoppedPosting (old new : Sitting HubLog HubEvent) (frames : List Frame) (why : Room) : Type 0 where
  pub count : ℕ
  pub few : count < length frames
  pub posted : HasPosted old new (take count frames)
  pub frame : Frame
  pub refused : is_at_limit new.seen (hub_events.Post frame) ≡ is_room_full why

-- It fetched, and got this; the seat at the station stays as it was.
pub record HasFetchedFrame (old new : PortValue) (f : Fetched) : Type 0 where
  pub same : IsSamePort old new
  pub heard : List (ℕ × HubEvent)
  pub at : FetchesAt (berth_of old) (stand_of old) heard f
  pub stand : stand_of new ≡ fetched_at (berth_of old) (stand_of old) heard

abbrev pub is_collect : StationEvent → Bool
is_collect (events.Collect pid) = true
is_collect e = false

-- for how many frames a port has room: for those of a tick, or of any other event
abbrev pub room_of : Bool → ℕ
room_of true = TICK_PACKETS
room_of false = ROUND_PACKETS

-- the answer to a call that was made, and to a collect that was ready
abbrev pub IsCallAnswer : EventAnswer → Type 0
IsCallAnswer given = (given ≡ answers.Begun) ⊎ ((a : Answer) × (given ≡ answers.Answered a))

abbrev pub HoldsAnswer : EventAnswer → Type 0
HoldsAnswer given = (a : Answer) × (given ≡ answers.Answered a)

abbrev pub HoldsTick : EventAnswer → Type 0
HoldsTick given = (now : ℕ) × (given ≡ answers.Ticked now)
