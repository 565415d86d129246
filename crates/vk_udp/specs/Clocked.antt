-- What the clock does with its port.
use Rattle.std.specs.Prelude.{ℕ, ◌≡◌, ◌≤◌, ◌⊎◌, Bool, true, false, Option, Some, None, List, [], ◌∷◌, ◌++◌}
use mathlib.Core.List.{IsPrefix}
use Rattle.vk_types.specs.Types.{StationEvent}
use Rattle.turn_cell.specs.Seats.{IsSameSeat, Sitting}
use Rattle.turn_cell.specs.declared.replay.Room.{Room}
use Rattle.turn_cell.specs.declared.replay.Room.TheVariants as rooms
use Rattle.vk_hub.specs.declared.event.HubEvent.{HubEvent}
use Rattle.vk_hub.specs.declared.event.HubEvent.TheVariants as hub_events
use Rattle.vk_hub.specs.Hubs.{HubLog, has_halt}
use Rattle.vk_port.specs.Ports.{Action, Does, HasHeard as HeardOnce, PortValue}
use Rattle.vk_port.specs.Stations.{StationHistory}
use Rattle.v_run.specs.Passages.{HasHeard, OnlyTicks, lost_count, tick_count}
use Rattle.vk_threads.specs.Works.{FindsFull}

-- One look: it heard that the hub had ended, or did not.
abbrev pub HasLookedOn : PortValue → PortValue → Bool → Type 0
HasLookedOn old new true = HeardOnce old new []
HasLookedOn old new false = (acts : List Action) × Does old new acts × OnlyTicks acts × (tick_count acts ≡ 0) × (lost_count acts ≡ 0)

-- It ticked and did nothing else of its own accord: just so many rounds, or fewer where it heard that the hub had ended, or met a Room.
pub record HasClocked (old new : PortValue) (rounds : ℕ) (met : Option Room) : Type 0 where
  pub acts : List Action
  pub does : Does old new acts
  pub only : OnlyTicks acts
  pub few : tick_count acts ≤ rounds
  pub all : met ≡ None → (tick_count acts ≡ rounds) ⊎ HasHeard acts
  pub losses : lost_count acts ≤ 1
  pub full : met ≡ Some rooms.Full → FindsFull new acts

-- A port's two seats; by the one at the hub the hub was halted, or was so before: it has seen a halt.
pub record HasStopped (p : PortValue) (station : Sitting StationHistory StationEvent) (hub : Sitting HubLog HubEvent) : Type 0 where
  pub seat : station ≡ p.seat
  pub same : IsSameSeat p.hub_seat hub
  pub heard : IsPrefix p.hub_seat.seen hub.seen
  pub sent : (hub.mine ≡ p.hub_seat.mine) ⊎ (hub.mine ≡ p.hub_seat.mine ++ hub_events.Halt ∷ [])
  pub halted : has_halt hub.seen ≡ true
