-- What the link of a node does: by its port it delivers the datagrams that come, and by one more seat of the hub, its carrier, it fetches
-- frames for all stations: for its own there are none, but it hears so that the hub has ended.
use Rattle.std.specs.Prelude.{ℕ, ◌≡◌, ◌≢◌, ◌+◌, ◌==◌, ◌&&◌, ◌||◌, not, Bool, List, [], ◌∷◌, ◌++◌, flat_map}
use Rattle.vk_base.specs.declared.limits.TheConstants.{LAST_NUMBER}
use mathlib.Core.List.{IsPrefix}
use Rattle.vk_types.specs.Types.{StationEvent}
use Rattle.turn_cell.specs.History.{events_of}
use Rattle.vk_base.specs.declared.event.StationEvent.TheVariants as events
use Rattle.vk_base.specs.Kernel.{holds_of}
use Rattle.vk_frame.specs.declared.header.Header.{Header}
use Rattle.vk_hub.specs.declared.event.Fetched.{Fetched}
use Rattle.vk_hub.specs.declared.event.Fetched.TheVariants as fetched
use Rattle.vk_hub.specs.declared.event.HubEvent.{HubEvent}
use Rattle.vk_hub.specs.declared.event.HubEvent.TheVariants as hub_events
use Rattle.vk_hub.specs.Hubs.{HubLog, fetched_from, traffic_of}
use Rattle.vk_hub.specs.Links.{Frame, header_of}
use Rattle.vk_port.specs.Ports.{Action, Enters, Delivers, Drops, Hears}
use Rattle.vk_rules.specs.Frames.{every_station}

-- A datagram is delivered at this station if a header opens it that is for the station or for all, and that bears a Lamport number below
-- the last. All others are dropped.
abbrev pub is_welcome : ℕ → Header → Bool
is_welcome host h = (h.destination == host || h.destination == every_station) && not (h.number == LAST_NUMBER)

abbrev pub is_kept : ℕ → Frame → Bool
is_kept host frame = holds_of (is_welcome host) (header_of frame)

-- the frame that an event delivers, and those of all events, in order
abbrev pub frame_in : StationEvent → List Frame
frame_in (events.Deliver frame) = frame ∷ []
frame_in e = []

abbrev pub delivered_in : List StationEvent → List Frame
delivered_in es = flat_map frame_in es

-- The port enters deliveries of its own accord and nothing else, and fetches nothing. These are the frames, in order.
abbrev pub IsDelivery : StationEvent → Type 0
IsDelivery (events.Deliver frame) = Unit {0}
IsDelivery e = ⊥

abbrev pub OnlyBrings : List Action → Type 0
OnlyBrings [] = Unit {0}
OnlyBrings (Enters before e posted ∷ acts) = IsDelivery e × OnlyBrings acts
OnlyBrings (Delivers heard frame before posted ∷ acts) = ⊥
OnlyBrings (Drops heard frame ∷ acts) = ⊥
OnlyBrings (Hears heard ∷ acts) = ⊥

abbrev pub brought_by : List Action → List Frame
brought_by [] = []
brought_by (Enters before e posted ∷ acts) = frame_in e ++ brought_by acts
brought_by (Delivers heard frame before posted ∷ acts) = brought_by acts
brought_by (Drops heard frame ∷ acts) = brought_by acts
brought_by (Hears heard ∷ acts) = brought_by acts

-- One fetch of the carrier that was entered: for which station, behind which history of the hub, and what it was answered.
pub record Errand : Type 0 where
  pub host : ℕ
  pub before : List (ℕ × HubEvent)
  pub answer : Fetched

-- where a seat of the hub stands: what it has seen, and its own events
pub record HubStand : Type 0 where
  pub heard : List (ℕ × HubEvent)
  pub sent : List HubEvent

abbrev pub nothing_heard : HubStand
nothing_heard = record { heard = []; sent = [] }

-- `number` is the carrier's, `o` the hub's origin
module _ (number : ℕ) (o : HubLog) where
  -- It fetches behind this history, which begins with what the seat has seen, and in which the seat's own events are just those so far.
  -- This is the answer: a frame, or that the hub has ended.
  pub record IsErrand (s : HubStand) (e : Errand) : Type 0 where
    pub later : IsPrefix s.heard e.before
    pub mine : events_of number e.before ≡ s.sent
    pub answered : fetched_from o.programs (traffic_of o e.before) e.host ≡ e.answer
    pub some : e.answer ≢ fetched.Nothing

  abbrev pub after_errand : HubStand → Errand → HubStand
  after_errand s e =
      record { heard = e.before ++ (number, hub_events.Fetch e.host) ∷ []; sent = s.sent ++ hub_events.Fetch e.host ∷ [] }

  -- each of these errands is right behind those before it, and the seat has entered nothing else
  abbrev pub AreErrands : HubStand → List Errand → HubStand → Type 0
  AreErrands s [] t = IsPrefix s.heard t.heard × (t.sent ≡ s.sent)
  AreErrands s (e ∷ es) t = IsErrand s e × AreErrands (after_errand s e) es t

-- how many of them were answered that the hub has ended
abbrev pub is_stop : Fetched → ℕ
is_stop fetched.Stopped = 1
is_stop f = 0

abbrev pub stop_count : List Errand → ℕ
stop_count [] = 0
stop_count (e ∷ es) = is_stop e.answer + stop_count es
