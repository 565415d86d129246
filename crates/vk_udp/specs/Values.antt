-- Jobs of a node, as callers see them.
use Rattle.std.specs.Prelude.{ℕ, List, Option}
use Rattle.turn_cell.specs.Seats.{Sitting}
use Rattle.vk_hub.specs.declared.event.HubEvent.{HubEvent}
use Rattle.vk_hub.specs.Hubs.{HubLog}
use Rattle.vk_hub.specs.Links.{Frame}
use Rattle.vk_port.specs.Ports.{PortValue}
use Rattle.vk_event.specs.declared.port.StationPort.{StationPort}
use Rattle.vk_udp.specs.Wires.{Datagram}

-- the port that the clock ticks, and how many rounds
pub record ClockDuty : Type 0 where
  pub port : PortValue
  pub rounds : ℕ

-- what carries frames: its port, its seat at the hub, the ports of all stations, and what its link had handed out, was given to send and
-- had met in faults
pub record CarrierDuty : Type 0 where
  pub port : PortValue
  pub carrier : Sitting HubLog HubEvent
  pub ports : List StationPort
  pub handed : Option (List Frame)
  pub sent : Option (List Datagram)
  pub faults : ℕ
