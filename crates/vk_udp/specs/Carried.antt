-- What one turn of carrying frames does with the port, the seat at the hub and the link.
use Rattle.std.specs.Prelude.{ℕ, ◌≡◌, ◌≤◌, ◌⊎◌, Bool, true, false, Option, Some, None, List, [], ◌∷◌, ◌++◌, cond, filter, Result, Ok, Err, option_map}
use mathlib.Core.List.{IsPrefix}
use Rattle.vk_types.specs.Types.{EventAnswer}
use Rattle.turn_cell.specs.Seats.{IsSameSeat, Sitting}
use Rattle.turn_cell.specs.declared.replay.Room.{Room}
use Rattle.vk_base.specs.Settings.{Settings, has_station}
use Rattle.vk_hub.specs.declared.event.HubEvent.{HubEvent}
use Rattle.vk_hub.specs.declared.event.HubEvent.TheVariants as hub_events
use Rattle.vk_hub.specs.Hubs.{HubLog, has_halt, others}
use Rattle.vk_hub.specs.Links.{Frame}
use Rattle.vk_io.specs.Causes.{Rose}
use Rattle.vk_base.specs.declared.event.StationEvent.TheVariants as events
use Rattle.vk_port.specs.Ports.{Action, Does, HasMade, IsCutEvent, IsRefused, PortValue}
use Rattle.vk_port.specs.Stations.{is_used_up}
use Rattle.v_node.specs.Links.{OnlyBrings, brought_by, is_kept, stop_count}
use Rattle.v_node.specs.Seats.{hub_stand_of}
use Rattle.vk_udp.specs.Asked.{HasAsked, errands_in, rounds_of, sent_for}
use Rattle.vk_udp.specs.Wires.{Datagram, IsMore}
use Rattle.vk_udp.specs.declared.carrier.Heard.{Heard}
use Rattle.vk_udp.specs.declared.carrier.Heard.TheVariants as heard
use Rattle.vk_udp.specs.declared.carrier.Sent.{Sent}
use Rattle.vk_udp.specs.declared.carrier.Stop.{Stop}
use Rattle.vk_udp.specs.declared.carrier.Stop.TheVariants as stops
use Rattle.vk_event.specs.declared.port.StationPort.{StationPort}

-- the Room that a call met, if it met one
abbrev pub room_in : {T : Type 0} → Result T Room → Option Room
room_in (Ok x) = None
room_in (Err why) = Some why

-- how often a round of fetches heard that the hub had ended
abbrev pub stops_in : Result Sent Room → ℕ
stops_in (Ok sent) = cond sent.ended 1 0
stops_in (Err why) = 0

-- The link handed out these datagrams, and of them the port delivered those that are kept, in order: all, where no Room was met.
pub record HasBrought (host : ℕ) (old new : PortValue) (before now : Option (List Frame)) (met : Option Room) : Type 0 where
  pub acts : List Action
  pub got : List Frame
  pub does : Does old new acts
  pub brings : OnlyBrings acts
  pub brought : IsPrefix (brought_by acts) (filter (is_kept host) got)
  pub whole : met ≡ None → brought_by acts ≡ filter (is_kept host) got
  pub told : now ≡ option_map (λ all. all ++ got) before

-- the history of its station is used up, or that of the hub is at its limit
abbrev pub IsPortFull : PortValue → PortValue → Type 0
IsPortFull old new = (is_used_up old.station.origin new.seat.seen ≡ true) ⊎ (200000 ≤ others new.hub_seat.seen)

-- One datagram: it is dropped, or delivered, or its delivery met a Room.
abbrev pub IsBrought : ℕ → PortValue → PortValue → Frame → Result Heard Room → Type 0
IsBrought host old new frame (Ok heard.Datagram) =
    ((is_kept host frame ≡ false) × (new ≡ old))
    ⊎ ((is_kept host frame ≡ true) × (a : EventAnswer) × HasMade old new [] (events.Deliver frame) a)
IsBrought host old new frame (Ok heard.Nothing) = ⊥
IsBrought host old new frame (Ok heard.Failed) = ⊥
IsBrought host old new frame (Err why) =
    (is_kept host frame ≡ true) × IsRefused old new why [] (IsCutEvent old.station.origin (events.Deliver frame))

-- the count of faults rose where a receive failed, and else is as it was
abbrev pub TellsHeard : ℕ → ℕ → Result Heard Room → Type 0
TellsHeard before now (Ok heard.Failed) = Rose before now
TellsHeard before now (Ok heard.Nothing) = now ≡ before
TellsHeard before now (Ok heard.Datagram) = now ≡ before
TellsHeard before now (Err why) = now ≡ before

-- the port is one of a station of this configuration
abbrev pub IsStationPort : Settings → StationPort → Type 0
IsStationPort c p = has_station c.specs p.host ≡ true

-- The seat asked for the stations of these ports, one behind the other, and just so often heard that the hub had ended. What the link was
-- given to send are the frames that it was answered, in order, each for its station's port.
pub record HasFetchedFor (o : HubLog) (ports : List StationPort) (old new : Sitting HubLog HubEvent) (before now : Option (List Datagram))
    (stops : ℕ) : Type 0 where
  pub same : IsSameSeat old new
  pub asked : HasAsked old.number o (hub_stand_of old) ports (hub_stand_of new)
  pub stopped : stop_count (errands_in asked.asks) ≡ stops
  pub told : IsMore before now (sent_for asked.asks)

-- where the hub refuses the fetch, nothing was asked
abbrev pub asked_by : StationPort → Result Sent Room → List StationPort
asked_by there (Ok sent) = there ∷ []
asked_by there (Err why) = []

-- A round asks for the stations of all these ports, and leaves off only where it heard that the hub had ended, or met a Room.
pub record HasGoneRound (o : HubLog) (ports : List StationPort) (old new : Sitting HubLog HubEvent) (before now : Option (List Datagram))
    (result : Result Sent Room) : Type 0 where
  pub asked : List StationPort
  pub front : IsPrefix asked ports
  pub whole : stops_in result ≡ 0 → room_in result ≡ None → asked ≡ ports
  pub fetched : HasFetchedFor o asked old new before now (stops_in result)

-- rounds one behind the other, each for all ports, in which it did not hear that the hub had ended
abbrev pub AreRounds : HubLog → List StationPort → Sitting HubLog HubEvent → Sitting HubLog HubEvent → Option (List Datagram)
    → Option (List Datagram) → Type 0
AreRounds o ports old new before now = (rounds : ℕ) × HasFetchedFor o (rounds_of rounds ports) old new before now 0

-- Rounds one behind the other, and a last one that may have left off.
pub record HasGoneAround (o : HubLog) (ports : List StationPort) (old new : Sitting HubLog HubEvent) (before now : Option (List Datagram))
    (stops : ℕ) : Type 0 where
  pub rounds : ℕ
  pub last : List StationPort
  pub front : IsPrefix last ports
  pub fetched : HasFetchedFor o (rounds_of rounds ports ++ last) old new before now stops

-- the hub's history is at its limit
abbrev pub IsHubFull : Sitting HubLog HubEvent → Type 0
IsHubFull seat = 200000 ≤ others seat.seen

abbrev pub met_by : Stop → Option Room
met_by stops.Ended = None
met_by stops.Failed = None
met_by (stops.Met why) = Some why

-- how often it heard that the hub had ended
abbrev pub stops_of : Stop → ℕ
stops_of stops.Ended = 1
stops_of stops.Failed = 0
stops_of (stops.Met why) = 0

abbrev pub is_failed : Stop → Bool
is_failed stops.Ended = false
is_failed stops.Failed = true
is_failed (stops.Met why) = false

abbrev pub TellsStop : ℕ → ℕ → Stop → Type 0
TellsStop before now stops.Ended = now ≡ before
TellsStop before now stops.Failed = Rose before now
TellsStop before now (stops.Met why) = now ≡ before

-- The seat halted the hub unless the hub had ended: it has seen a halt.
abbrev pub HasHaltedBy : Sitting HubLog HubEvent → Sitting HubLog HubEvent → Stop → Type 0
HasHaltedBy old new stops.Ended = new ≡ old
HasHaltedBy old new stop =
    IsSameSeat old new × IsPrefix old.seen new.seen × ((new.mine ≡ old.mine) ⊎ (new.mine ≡ old.mine ++ hub_events.Halt ∷ []))
    × (has_halt new.seen ≡ true)
