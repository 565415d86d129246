-- What a port does with its two seats.
use Rattle.std.specs.Prelude.{ℕ, ◌≡◌, ◌≤◌, ◌<◌, ◌+◌, ◌⊎◌, Bool, true, false, List, [], ◌∷◌, ◌++◌, length, map, take}
use mathlib.Core.List.{IsPrefix}
use Rattle.vk_types.specs.Types.{CallOutcome, EventAnswer, Pid, StationEvent}
use Rattle.turn_cell.specs.History.{events_of}
use Rattle.turn_cell.specs.Rooms.{is_full as is_room_full}
use Rattle.turn_cell.specs.Seats.{Cell, IsSameSeat, Sitting}
use Rattle.turn_cell.specs.declared.replay.Room.{Room}
use Rattle.vk_base.specs.declared.answer.CallOutcome.TheVariants as outcomes
use Rattle.vk_base.specs.declared.event.EventAnswer.TheVariants as answers
use Rattle.vk_base.specs.declared.event.StationEvent.TheVariants as events
use Rattle.vk_hub.specs.declared.event.Arrival.{Arrival}
use Rattle.vk_hub.specs.declared.event.Arrival.TheVariants as arrivals
use Rattle.vk_hub.specs.declared.event.Fetched.{Fetched}
use Rattle.vk_hub.specs.declared.event.Fetched.TheVariants as fetched
use Rattle.vk_hub.specs.declared.event.HubEvent.{HubEvent}
use Rattle.vk_hub.specs.declared.event.HubEvent.TheVariants as hub_events
use Rattle.vk_hub.specs.Hubs.{HubLog, fetched_from, is_at_limit, is_ready as is_ready_at_hub, traffic_of}
use Rattle.vk_hub.specs.Links.{Frame}
use Rattle.vk_rules.specs.Each.{Each}
use Rattle.vk_port.specs.declared.port.Collected.{Collected}
use Rattle.vk_port.specs.declared.port.Collected.TheVariants as collected
use Rattle.vk_port.specs.declared.port.Pumped.{Pumped}
use Rattle.vk_port.specs.declared.port.Pumped.TheVariants as pumped
use Rattle.vk_port.specs.Stations.{StationHistory, entry_at, frames_at, is_full, is_own, is_ready}

-- A port, as callers see it: its station's number, that station's cell and the hub, its seats at them, and whether it may tick.
pub record PortValue : Type 0 where
  pub host : ℕ
  pub station : Cell StationHistory
  pub hub : Cell HubLog
  pub seat : Sitting StationHistory StationEvent
  pub hub_seat : Sitting HubLog HubEvent
  pub ticks : Bool

-- What of a port never changes: its station's number, what the histories of station and hub began with, and its seats' numbers.
pub record Berth : Type 0 where
  pub host : ℕ
  pub station : StationHistory
  pub hub : HubLog
  pub number : ℕ
  pub hub_number : ℕ

abbrev pub berth_of : PortValue → Berth
berth_of p = record {
  host = p.host;
  station = p.station.origin;
  hub = p.hub.origin;
  number = p.seat.number;
  hub_number = p.hub_seat.number;
}

-- One of the things that a port does, one after the other. `before` and `heard` are the histories of station and hub before the port's own
-- entry there; `posted` says how many of the event's frames it posted behind that, the first ones, in order.
pub data Action : Type 0 where
  -- it enters an event of its own accord
  Enters : (before : List (ℕ × StationEvent)) (e : StationEvent) (posted : ℕ) → Action
  -- it fetches a frame, and delivers it
  Delivers : (heard : List (ℕ × HubEvent)) (frame : Frame) (before : List (ℕ × StationEvent)) (posted : ℕ) → Action
  -- it fetches a frame, and the station refuses it
  Drops : (heard : List (ℕ × HubEvent)) (frame : Frame) → Action
  -- it fetches, and hears that the hub has ended
  Hears : (heard : List (ℕ × HubEvent)) → Action

-- where its two seats stand: what each has seen, and its own events, at the station and at the hub
pub record Stand : Type 0 where
  pub seen : List (ℕ × StationEvent)
  pub mine : List StationEvent
  pub heard : List (ℕ × HubEvent)
  pub sent : List HubEvent

abbrev pub stand_of : PortValue → Stand
stand_of p = record { seen = p.seat.seen; mine = p.seat.mine; heard = p.hub_seat.seen; sent = p.hub_seat.mine }

-- the posts of the first frames of an event
abbrev pub posts : StationHistory → List (ℕ × StationEvent) → StationEvent → ℕ → List HubEvent
posts o before e posted = map hub_events.Post (take posted (frames_at o before e))

module _ (b : Berth) where
  -- It enters the event behind this history, which begins with what the station's seat has seen, and in which that seat's own events are
  -- just those so far. The event is one of the station, was ready, and there was room; of its frames so many are posted.
  pub record EntersAt (s : Stand) (before : List (ℕ × StationEvent)) (e : StationEvent) (posted : ℕ) : Type 0 where
    pub later : IsPrefix s.seen before
    pub mine : events_of b.number before ≡ s.mine
    pub own : is_own b.station e ≡ true
    pub ready : is_ready b.station before e ≡ true
    pub room : is_full b.station before e ≡ false
    pub posted_few : posted ≤ length (frames_at b.station before e)

  -- It fetches behind this history, which begins with what the hub's seat has seen, and in which that seat's own events are just those so
  -- far. There was room, and this is what the fetch is answered.
  pub record FetchesAt (s : Stand) (heard : List (ℕ × HubEvent)) (f : Fetched) : Type 0 where
    pub later : IsPrefix s.heard heard
    pub mine : events_of b.hub_number heard ≡ s.sent
    pub room : is_at_limit heard (hub_events.Fetch b.host) ≡ false
    pub answered : fetched_from b.hub.programs (traffic_of b.hub heard) b.host ≡ f

  -- where its seats stand after an action, at least
  abbrev pub entered_at : Stand → List (ℕ × StationEvent) → StationEvent → ℕ → Stand
  entered_at s before e posted = record {
    seen = before ++ (b.number, e) ∷ [];
    mine = s.mine ++ e ∷ [];
    heard = s.heard;
    sent = s.sent ++ posts b.station before e posted;
  }

  abbrev pub fetched_at : Stand → List (ℕ × HubEvent) → Stand
  fetched_at s heard = record s {
    heard = heard ++ (b.hub_number, hub_events.Fetch b.host) ∷ [];
    sent = s.sent ++ hub_events.Fetch b.host ∷ [];
  }

  -- the action is right where its seats stand, and leads here
  abbrev pub IsRightAction : Stand → Action → Type 0
  IsRightAction s (Enters before e posted) = EntersAt s before e posted
  IsRightAction s (Delivers heard frame before posted) =
      FetchesAt s heard (fetched.Frame frame) × EntersAt (fetched_at s heard) before (events.Deliver frame) posted
  IsRightAction s (Drops heard frame) = FetchesAt s heard (fetched.Frame frame)
  IsRightAction s (Hears heard) = FetchesAt s heard fetched.Stopped

  abbrev pub after : Stand → Action → Stand
  after s (Enters before e posted) = entered_at s before e posted
  after s (Delivers heard frame before posted) = entered_at (fetched_at s heard) before (events.Deliver frame) posted
  after s (Drops heard frame) = fetched_at s heard
  after s (Hears heard) = fetched_at s heard

  -- THE PORT'S LOG. Each of these actions is right after those before it, and its seats have done nothing else.
  abbrev pub IsLog : Stand → List Action → Stand → Type 0
  IsLog s [] t = IsPrefix s.seen t.seen × IsPrefix s.heard t.heard × (t.mine ≡ s.mine) × (t.sent ≡ s.sent)
  IsLog s (a ∷ acts) t = IsRightAction s a × IsLog (after s a) acts t

-- a port stays what it is but for what its seats have seen and entered
pub record IsSamePort (old new : PortValue) : Type 0 where
  pub host : new.host ≡ old.host
  pub station : new.station ≡ old.station
  pub hub : new.hub ≡ old.hub
  pub ticks : new.ticks ≡ old.ticks
  pub seat : IsSameSeat old.seat new.seat
  pub hub_seat : IsSameSeat old.hub_seat new.hub_seat

-- between the first and the second it did this
pub record Does (old new : PortValue) (acts : List Action) : Type 0 where
  pub same : IsSamePort old new
  pub log : IsLog (berth_of old) (stand_of old) acts (stand_of new)

-- it delivered a frame that it fetched, and posted all frames of that
abbrev pub IsPumping : StationHistory → Action → Type 0
IsPumping o (Delivers heard frame before posted) = posted ≡ length (frames_at o before (events.Deliver frame))
IsPumping o a = ⊥

-- it entered this event of its own accord and posted all its frames; this is its answer
pub record HasMade (old new : PortValue) (first : List Action) (e : StationEvent) (given : EventAnswer) : Type 0 where
  pub before : List (ℕ × StationEvent)
  pub does : Does old new (first ++ Enters before e (length (frames_at old.station.origin before e)) ∷ [])
  pub seen : new.seat.seen ≡ before ++ (old.seat.number, e) ∷ []
  pub answer : given ≡ (entry_at old.station.origin before e).answer

-- it delivered a frame that it fetched and posted all frames of that; this is its answer
pub record HasDelivered (old new : PortValue) (given : EventAnswer) : Type 0 where
  pub heard : List (ℕ × HubEvent)
  pub frame : Frame
  pub before : List (ℕ × StationEvent)
  pub does : Does old new
      (Delivers heard frame before (length (frames_at old.station.origin before (events.Deliver frame))) ∷ [])
  pub seen : new.seat.seen ≡ before ++ (old.seat.number, events.Deliver frame) ∷ []
  pub answer : given ≡ (entry_at old.station.origin before (events.Deliver frame)).answer

-- it heard that the hub has ended
pub record HasHeard (old new : PortValue) (first : List Action) : Type 0 where
  pub heard : List (ℕ × HubEvent)
  pub does : Does old new (first ++ Hears heard ∷ [])

-- What met a Room: an event at the station, or one at the hub. It was ready after the history which the seat has then seen, and that
-- history has no room for it exactly where the Room is Full.
pub data Met : Type 0 where
  AtStation : StationEvent → Met
  AtHub : HubEvent → Met

abbrev pub IsMet : PortValue → Room → Met → Type 0
IsMet p why (AtStation e) =
    (is_ready p.station.origin p.seat.seen e ≡ true) × (is_full p.station.origin p.seat.seen e ≡ is_room_full why)
IsMet p why (AtHub e) =
    (is_ready_at_hub p.hub.origin.programs (traffic_of p.hub.origin p.hub_seat.seen) e ≡ true)
    × (is_at_limit p.hub_seat.seen e ≡ is_room_full why)

-- What it did last on the way to an event of its own accord, when it met this: nothing where the event was refused, else it entered the
-- event and posted some of its frames, but not all.
abbrev pub IsCutEvent : StationHistory → StationEvent → List Action → Met → Type 0
IsCutEvent o e [] m = m ≡ AtStation e
IsCutEvent o e (Enters before x posted ∷ []) (AtHub (hub_events.Post frame)) = (x ≡ e) × (posted < length (frames_at o before e))
IsCutEvent o e acts m = ⊥

-- What it did last on the way to a frame's delivery, when it met this: nothing where the fetch was refused; else it fetched a frame that
-- the station refused, or delivered it and posted some of the event's frames, but not all.
abbrev pub IsCutPump : StationHistory → ℕ → List Action → Met → Type 0
IsCutPump o host [] m = m ≡ AtHub (hub_events.Fetch host)
IsCutPump o host (Drops heard frame ∷ []) m = m ≡ AtStation (events.Deliver frame)
IsCutPump o host (Delivers heard frame before posted ∷ []) (AtHub (hub_events.Post f)) =
    posted < length (frames_at o before (events.Deliver frame))
IsCutPump o host acts m = ⊥

-- It was refused: it did these actions, then `last`, and met this Room. `IsCut` says what it may have done last.
pub record IsRefused (old new : PortValue) (why : Room) (first : List Action) (IsCut : List Action → Met → Type 0) : Type 0 where
  pub last : List Action
  pub met : Met
  pub does : Does old new (first ++ last)
  pub cut : IsCut last met
  pub is_met : IsMet new why met

-- the answer to a call, as the station gave it
abbrev pub answer_as : CallOutcome → EventAnswer
answer_as outcomes.Begun = answers.Begun
answer_as (outcomes.Now answer) = answers.Answered answer

-- what a wait for an answer did: it delivered frames that it fetched, and then collected, or heard that the hub has ended
abbrev pub HasWaited : PortValue → PortValue → Pid → Collected → Type 0
HasWaited old new pid (collected.Answered answer) =
    (first : List Action) × Each (IsPumping old.station.origin) first × HasMade old new first (events.Collect pid) (answers.Answered answer)
HasWaited old new pid collected.Stopped = (first : List Action) × Each (IsPumping old.station.origin) first × HasHeard old new first

-- such a wait that was refused: at the collect, or at a frame's delivery
abbrev pub IsWaitRefused : PortValue → PortValue → Pid → Room → Type 0
IsWaitRefused old new pid why =
    (first : List Action) × Each (IsPumping old.station.origin) first
    × IsRefused old new why first (λ last met. IsCutEvent old.station.origin (events.Collect pid) last met
    ⊎ IsCutPump old.station.origin old.host last met)

-- What a pump did. Where it entered nothing, it had the hub's turn once, and no frame waited then.
abbrev pub HasPumped : PortValue → PortValue → Pumped → Type 0
HasPumped old new (pumped.Delivered answer) = HasDelivered old new answer
HasPumped old new pumped.Nothing =
    Does old new [] × (fetched_from old.hub.origin.programs (traffic_of old.hub.origin new.hub_seat.seen) old.host ≡ fetched.Nothing)
    × (new.hub_seat.turns ≡ old.hub_seat.turns + 1)
HasPumped old new pumped.Stopped = HasHeard old new []

-- what a pump did that is told so, where this is the answer to what it delivered
abbrev pub pumped_as : Arrival → EventAnswer → Pumped
pumped_as arrivals.Frame given = pumped.Delivered given
pumped_as arrivals.Stopped given = pumped.Stopped
pumped_as arrivals.Nothing given = pumped.Nothing
