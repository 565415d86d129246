-- Seats that are dealt to the jobs of a node.
use Rattle.std.specs.Prelude.{ℕ, ◌≡◌, ◌++◌, Bool, true, false, Option, List, [], ◌∷◌, length}
use Rattle.vk_types.specs.Types.{StationEvent}
use Rattle.turn_cell.specs.Seats.{Cell, IsSeatOf, Sitting, fresh}
use Rattle.vk_hub.specs.declared.event.HubEvent.{HubEvent}
use Rattle.vk_hub.specs.Hubs.{HubLog}
use Rattle.vk_port.specs.Ports.{PortValue, stand_of}
use Rattle.vk_port.specs.Stations.{StationHistory}
use Rattle.vk_rules.specs.Each.{Each}
use Rattle.v_run.specs.Passages.{nowhere}
use Rattle.vk_program.specs.declared.assigned.Assigned.{Assigned}
use Rattle.vk_threads.specs.Duties.{ProcessDuty}
use Rattle.vk_udp.specs.Values.{CarrierDuty, ClockDuty}
use Rattle.vk_udp.specs.declared.work.NodeWork.{NodeWork}
use Rattle.vk_udp.specs.declared.work.NodeWork.TheVariants as works

-- a seat of the cell, just made
abbrev pub IsNewAt : {S E : Type 0} → Cell S → Sitting S E → Type 0
IsNewAt cell seat = (number : ℕ) × (seat ≡ fresh cell number)

-- So many seats of the station and of the hub are left, all just made.
pub record IsStocked (cell : Cell StationHistory) (hub : Cell HubLog) (host n : ℕ) (seats : List (Sitting StationHistory StationEvent))
    (hub_seats : List (Sitting HubLog HubEvent)) : Type 0 where
  pub at : cell.origin.host ≡ host
  pub each : Each (IsNewAt cell) seats
  pub all : length seats ≡ n
  pub at_hub : Each (IsNewAt hub) hub_seats
  pub all_at_hub : length hub_seats ≡ n

-- A port of the station, with seats that were just made.
pub record IsNodePort (cell : Cell StationHistory) (hub : Cell HubLog) (host : ℕ) (ticks : Bool) (p : PortValue) : Type 0 where
  pub at : p.host ≡ host
  pub at_cell : p.station ≡ cell
  pub at_hub : p.hub ≡ hub
  pub seat : IsSeatOf cell p.seat
  pub hub_seat : IsSeatOf hub p.hub_seat
  pub new : stand_of p ≡ nowhere
  pub may : p.ticks ≡ ticks

-- The job of this process with its program.
pub record IsProcessJob {G P L S : Type 0} (cell : Cell StationHistory) (hub : Cell HubLog) (host : ℕ) (a : Assigned G)
    (w : NodeWork G P L S) : Type 0 where
  pub duty : ProcessDuty G
  pub is : w ≡ works.Process duty
  pub pid : duty.pid ≡ a.pid
  pub program : duty.program ≡ a.program
  pub port : IsNodePort cell hub host false duty.port

abbrev pub AreProcesses : {G P L S : Type 0} → Cell StationHistory → Cell HubLog → ℕ → List (Assigned G) → List (NodeWork G P L S) → Type 0
AreProcesses cell hub host [] [] = Unit {0}
AreProcesses cell hub host (a ∷ all) (w ∷ ws) = IsProcessJob cell hub host a w × AreProcesses cell hub host all ws
AreProcesses cell hub host all ws = ⊥

-- THE JOBS OF A NODE: one for each program, the clock, and what carries frames.
pub record AreNodeDealt {G P L S : Type 0} (cell : Cell StationHistory) (hub : Cell HubLog) (host : ℕ) (programs : List (Assigned G))
    (rounds : ℕ) (duty : Option CarrierDuty) (jobs : List (NodeWork G P L S)) : Type 0 where
  pub first : List (NodeWork G P L S)
  pub clock : ClockDuty
  pub all : jobs ≡ first ++ works.Clock clock ∷ works.Carrier duty ∷ []
  pub each : AreProcesses cell hub host programs first
  pub clock_port : IsNodePort cell hub host true clock.port
  pub so_many : clock.rounds ≡ rounds
