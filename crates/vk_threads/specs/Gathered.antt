-- What comes back from jobs in order, and what is closed with it.
use Rattle.std.specs.Prelude.{ℕ, ◌≡◌, ◌≤◌, ◌==◌, not, Bool, true, false, Option, Some, None, List, [], ◌∷◌, ◌++◌, All, eqb, filter, flat_map, length, map, nat_le}
use Rattle.std.specs.List.{IsDistinct, range_with_len}
use Rattle.std.specs.List.Sorted.{IsPermutation}
use mathlib.Core.List.{IsPrefix}
use Rattle.vk_types.specs.Types.{ProcessSpec, StationEvent}
use Rattle.turn_cell.specs.History.{events_of}
use Rattle.turn_cell.specs.Seats.{Cell, IsSeatOf, Sitting, numbers_of}
use Rattle.turn_cell.specs.declared.replay.Room.{Room}
use Rattle.turn_cell.specs.declared.replay.Room.TheVariants as rooms
use Rattle.vk_hub.specs.declared.event.HubEvent.{HubEvent}
use Rattle.vk_hub.specs.Hubs.{HubLog, traffic_of, waits_nowhere}
use Rattle.vk_schedule.specs.declared.log.StationLog.{StationLog}
use Rattle.vk_port.specs.Stations.{IsLawfulHistory, StationHistory, event_of, origin_of}
use Rattle.v_run.specs.Laws.{IsStill}
use Rattle.vk_threads.specs.declared.end.End.{End}
use Rattle.vk_threads.specs.declared.end.Seats.{Seats}
use Rattle.vk_threads.specs.declared.gather.Closed.{Closed}
use Rattle.vk_threads.specs.declared.gather.Gathered.{Gathered}
use Rattle.vk_threads.specs.declared.opening.Site.{Site}
use Rattle.vk_threads.specs.declared.opening.Spare.{Spare}

-- the Room that a job met, if it met one
abbrev pub is_met_full : Option Room → Bool
is_met_full (Some rooms.Full) = true
is_met_full (Some rooms.NoMemory) = false
is_met_full None = false

abbrev pub is_met_no_memory : Option Room → Bool
is_met_no_memory (Some rooms.Full) = false
is_met_no_memory (Some rooms.NoMemory) = true
is_met_no_memory None = false

abbrev pub met_full : End → Bool
met_full e = is_met_full e.met

abbrev pub met_no_memory : End → Bool
met_no_memory e = is_met_no_memory e.met

-- the seats of all jobs, in order
abbrev pub seats_in : End → List Seats
seats_in e = e.seats.items

abbrev pub all_seats : List End → List Seats
all_seats ends = flat_map seats_in ends

abbrev pub spare_of : Seats → Spare
spare_of s = record { host = s.host; seat = s.seat }

abbrev pub hub_seat_in : Seats → Sitting HubLog HubEvent
hub_seat_in s = s.hub_seat

abbrev pub all_spares : List End → List Spare
all_spares ends = map spare_of (all_seats ends)

abbrev pub all_hub_seats : List End → List (Sitting HubLog HubEvent)
all_hub_seats ends = map hub_seat_in (all_seats ends)

-- and the halt's behind them
abbrev pub with_halt : List End → Sitting HubLog HubEvent → List (Sitting HubLog HubEvent)
with_halt ends halt = all_hub_seats ends ++ halt ∷ []

pub record HasGathered (ends : List End) (all : Gathered) : Type 0 where
  pub spares : all.seats.items ≡ all_spares ends
  pub hub_seats : all.hub_seats.items ≡ all_hub_seats ends

-- the seats of one station, and those of the others
abbrev pub is_at : ℕ → Spare → Bool
is_at h s = s.host == h

abbrev pub is_elsewhere : ℕ → Spare → Bool
is_elsewhere h s = not (s.host == h)

abbrev pub seat_in : Spare → Sitting StationHistory StationEvent
seat_in s = s.seat

abbrev pub seats_at : ℕ → List Spare → List (Sitting StationHistory StationEvent)
seats_at h spares = map seat_in (filter (is_at h) spares)

-- All seats of a cell, so many, have come back: its history begins with what each has seen, and has just their events.
pub record HaveComeBack {S E : Type 0} (count : ℕ) (seats : List (Sitting S E)) (history : List (ℕ × E)) : Type 0 where
  pub seen : All (λ (s : Sitting S E). IsPrefix s.seen history) seats
  pub mine : All (λ (s : Sitting S E). events_of s.number history ≡ s.mine) seats
  pub others : (k : ℕ) → count ≤ k → events_of k history ≡ []
  pub different : IsDistinct eqb (numbers_of seats)
  pub numbers : IsPermutation (numbers_of seats) (range_with_len 0 count)

-- The station was closed with these seats, and this is the log of its history. It is told to stand still only where it ticked so often and
-- none of these processes may collect there.
pub record HasShut (specs : List ProcessSpec) (rounds : ℕ) (still : Bool) (site : Site) (seats : List (Sitting StationHistory StationEvent)) (log : StationLog) : Type 0 where
  pub closed : StationHistory
  pub host : log.host ≡ site.host
  pub events : log.events ≡ map event_of closed.history
  pub lawful : IsLawfulHistory closed
  pub origin : origin_of closed ≡ site.cell.origin
  pub back : HaveComeBack site.cell.seats seats closed.history
  pub looked : still ≡ true → IsStill specs rounds (origin_of closed) closed.history

-- all seats of each station are there, among these
abbrev pub AreReady : List Site → List Spare → Type 0
AreReady [] spares = Unit {0}
AreReady (s ∷ ss) spares =
    All (IsSeatOf s.cell) (seats_at s.host spares) × (length (seats_at s.host spares) ≡ s.cell.seats)
    × AreReady ss (filter (is_elsewhere s.host) spares)

-- each station was closed with its seats among these
module _ (specs : List ProcessSpec) (rounds : ℕ) (still : Bool) where
  abbrev pub AreShut : List Site → List Spare → List StationLog → Type 0
  AreShut [] spares [] = Unit {0}
  AreShut (s ∷ ss) spares (l ∷ ls) =
      HasShut specs rounds still s (seats_at s.host spares) l × AreShut ss (filter (is_elsewhere s.host) spares) ls
  AreShut ss spares ls = ⊥

-- Once all seats of these ends and the halt's have come back, the hub has this history, and the stations have these logs. It is told whether
-- as many programs have finished as are to, and that all stands still only where each station does and no frame is on its way.
pub record HaveClosed (specs : List ProcessSpec) (rounds : ℕ) (sites : List Site) (hub : Cell HubLog) (ends : List End)
    (halt : Sitting HubLog HubEvent) (closed : Closed) : Type 0 where
  pub heard : List (ℕ × HubEvent)
  pub back : HaveComeBack hub.seats (with_halt ends halt) heard
  pub shut : AreShut specs rounds closed.still sites (all_spares ends) closed.logs.items
  pub finished : closed.finished ≡ nat_le hub.origin.programs (traffic_of hub.origin heard).finished
  pub idle : closed.still ≡ true → waits_nowhere (traffic_of hub.origin heard).waiting ≡ true
