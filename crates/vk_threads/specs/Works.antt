-- What jobs do with their ports, and what their ends may be.
use Rattle.std.specs.Prelude.{ℕ, ◌≡◌, ◌≤◌, ◌+◌, ◌⊎◌, Bool, true, false, Option, Some, None, is_some, List, [], ◌∷◌, ◌++◌, length}
use mathlib.Core.List.{IsPrefix}
use Rattle.vk_types.specs.Types.{Answer, Call, Pid, StationEvent}
use Rattle.turn_cell.specs.Seats.{IsSameSeat, Sitting}
use Rattle.turn_cell.specs.declared.replay.Room.{Room}
use Rattle.turn_cell.specs.declared.replay.Room.TheVariants as rooms
use Rattle.vk_hub.specs.declared.event.HubEvent.{HubEvent}
use Rattle.vk_hub.specs.declared.event.HubEvent.TheVariants as hub_events
use Rattle.vk_hub.specs.Hubs.{HubLog, has_halt, others}
use Rattle.vk_port.specs.Ports.{Action, Does, PortValue, stand_of}
use Rattle.vk_port.specs.Stations.{StationHistory}
use Rattle.v_run.specs.Jobs.{SeesFull}
use Rattle.v_run.specs.Passages.{HasHeard, IsAtEnd, IsNextCall, OnlyPumps, Plays, answers_by, calls_by, lost_count}

-- the counts of a crew of threads
pub record Counted : Type 0 where
  pub jobs : ℕ
  pub faults : ℕ

-- what the port's seats have now seen has no room, after these actions
abbrev pub FindsFull : PortValue → List Action → Type 0
FindsFull p acts = SeesFull p.station.origin (stand_of p) acts

-- A call and the way to its answer, by these actions.
pub record HasCalledBy (old new : PortValue) (pid : Pid) (call : Call) (acts : List Action) : Type 0 where
  pub does : Does old new acts
  pub plays : (task : List Answer → Option Call) (calls : List Call) (answers : List Answer) → IsNextCall task calls answers call
      → Plays task pid old.station.origin calls answers acts

abbrev pub HasCalled : PortValue → PortValue → Pid → Call → Option Answer → Type 0
HasCalled old new pid call (Some a) =
    (acts : List Action) × HasCalledBy old new pid call acts × (calls_by acts ≡ call ∷ []) × (answers_by old.station.origin acts ≡ a ∷ [])
    × (lost_count acts ≡ 0)
HasCalled old new pid call None =
    (acts : List Action) × HasCalledBy old new pid call acts × (calls_by acts ≡ call ∷ []) × (answers_by old.station.origin acts ≡ [])
    × HasHeard acts × (lost_count acts ≤ 1)

abbrev pub HasCalledCut : PortValue → PortValue → Pid → Call → Room → Type 0
HasCalledCut old new pid call why =
    (acts : List Action) × HasCalledBy old new pid call acts × (lost_count acts ≤ 1) × (why ≡ rooms.Full → FindsFull new acts)

-- A process with its task: it came to the task's end, or heard that the hub had ended before its last call was answered.
abbrev pub HasPlayed : PortValue → PortValue → Pid → (List Answer → Option Call) → Bool → Type 0
HasPlayed old new pid task true =
    (acts : List Action) × Does old new acts × Plays task pid old.station.origin [] [] acts
    × IsAtEnd task (calls_by acts) (answers_by old.station.origin acts) × (lost_count acts ≡ 0)
HasPlayed old new pid task false =
    (acts : List Action) × Does old new acts × Plays task pid old.station.origin [] [] acts × HasHeard acts × (lost_count acts ≤ 1)
    × (length (calls_by acts) ≡ length (answers_by old.station.origin acts) + 1)

abbrev pub HasPlayedCut : PortValue → PortValue → Pid → (List Answer → Option Call) → Room → Type 0
HasPlayedCut old new pid task why =
    (acts : List Action) × Does old new acts × Plays task pid old.station.origin [] [] acts × (lost_count acts ≤ 1)
    × (why ≡ rooms.Full → FindsFull new acts)

-- Pumping until the hub has ended.
abbrev pub HasPumped : PortValue → PortValue → Type 0
HasPumped old new = (acts : List Action) × Does old new acts × OnlyPumps acts × (lost_count acts ≤ 1) × HasHeard acts

abbrev pub HasPumpedCut : PortValue → PortValue → Room → Type 0
HasPumpedCut old new why =
    (acts : List Action) × Does old new acts × OnlyPumps acts × (lost_count acts ≤ 1) × (why ≡ rooms.Full → FindsFull new acts)

-- A port's two seats, once it has ended: nothing was entered behind its end but a halt, where it was to halt the hub. The hub is halted then.
abbrev pub HasHalted : List HubEvent → List HubEvent → Bool → Type 0
HasHalted before after false = after ≡ before
HasHalted before after true = (after ≡ before) ⊎ (after ≡ before ++ hub_events.Halt ∷ [])

pub record HasClosed (p : PortValue) (station : Sitting StationHistory StationEvent) (hub : Sitting HubLog HubEvent) (halts : Bool)
    : Type 0 where
  pub seat : station ≡ p.seat
  pub same : IsSameSeat p.hub_seat hub
  pub heard : IsPrefix p.hub_seat.seen hub.seen
  pub sent : HasHalted p.hub_seat.mine hub.mine halts
  pub halted : halts ≡ true → has_halt hub.seen ≡ true

-- The two seats of a port whose program has finished: it said so to the hub, or met a Room there and halted it.
abbrev pub HasFinished : PortValue → List HubEvent → List (ℕ × HubEvent) → Option Room → Type 0
HasFinished p sent heard None = (sent ≡ p.hub_seat.mine ++ hub_events.Finished ∷ []) × IsPrefix p.hub_seat.seen heard
HasFinished p sent heard (Some why) =
    (looked : List (ℕ × HubEvent)) × IsPrefix p.hub_seat.seen looked × IsPrefix looked heard
    × HasHalted p.hub_seat.mine sent true × (why ≡ rooms.Full → 200000 ≤ others looked) × (has_halt heard ≡ true)

pub record HasEnded (p : PortValue) (station : Sitting StationHistory StationEvent) (hub : Sitting HubLog HubEvent) (met : Option Room)
    : Type 0 where
  pub seat : station ≡ p.seat
  pub same : IsSameSeat p.hub_seat hub
  pub finished : HasFinished p hub.mine hub.seen met
