-- What is known of a link that threads carry frames over in turns.
use Rattle.std.specs.Prelude.{ℕ, ◌≡◌, ◌⊎◌, Option, Some, None, List}
use Rattle.turn_cell.specs.Seats.{Cell, IsSeatOf, Sitting}
use Rattle.turn_cell.specs.declared.replay.Room.TheVariants as rooms
use Rattle.vk_event.specs.declared.port.StationPort.{StationPort}
use Rattle.vk_hub.specs.declared.event.HubEvent.{HubEvent}
use Rattle.vk_hub.specs.Hubs.{HubLog}
use Rattle.vk_hub.specs.Links.{Frame}
use Rattle.vk_port.specs.Ports.{PortValue}
use Rattle.vk_udp.specs.Carried.{AreRounds, HasBrought, HasGoneAround, HasHaltedBy, IsHubFull, IsPortFull, TellsStop, met_by, stops_of}
use Rattle.vk_udp.specs.Values.{CarrierDuty}
use Rattle.vk_udp.specs.Wires.{Datagram}
use Rattle.vk_udp.specs.declared.carrier.Stop.{Stop}

-- the port and the seat are of this hub, and the port is the station's
abbrev pub IsCargo : ℕ → Cell HubLog → PortValue → Sitting HubLog HubEvent → Type 0
IsCargo host hub port seat = (port.host ≡ host) × (port.hub ≡ hub) × IsSeatOf hub seat

module _ {L : Type 0} (handed : L → Option (List Frame)) (sent : L → Option (List Datagram)) (faults : L → ℕ) where
  -- to carry frames by this port and this seat, to these ports over this link
  abbrev pub duty_of : PortValue → Sitting HubLog HubEvent → List StationPort → L → CarrierDuty
  duty_of port seat ports link = record {
    port = port;
    carrier = seat;
    ports = ports;
    handed = handed link;
    sent = sent link;
    faults = faults link;
  }

  -- SINCE THE BEGINNING: the port delivered what is kept of what the link handed out, and the seat asked for all stations, round after
  -- round; what it was answered the link was given to send. Nothing stopped it so far.
  pub record HasCarriedOn (d : CarrierDuty) (port : PortValue) (seat : Sitting HubLog HubEvent) (link : L) : Type 0 where
    pub brought : HasBrought d.port.host d.port port d.handed (handed link) None
    pub fetched : AreRounds d.port.hub.origin d.ports d.carrier seat d.sent (sent link)
    pub sound : faults link ≡ d.faults

  -- The same up to where it stopped, for this reason. `before` is the seat before it halted the hub, if it did.
  pub record HasLeftOff (d : CarrierDuty) (port : PortValue) (seat : Sitting HubLog HubEvent) (link : L) (stop : Stop) : Type 0 where
    pub before : Sitting HubLog HubEvent
    pub brought : HasBrought d.port.host d.port port d.handed (handed link) (met_by stop)
    pub fetched : HasGoneAround d.port.hub.origin d.ports d.carrier before d.sent (sent link) (stops_of stop)
    pub full : met_by stop ≡ Some rooms.Full → IsPortFull d.port port ⊎ IsHubFull before
    pub tells : TellsStop d.faults (faults link) stop
    pub halted : HasHaltedBy before seat stop

  abbrev pub HasCarriedUntil : CarrierDuty → PortValue → Sitting HubLog HubEvent → L → Option Stop → Type 0
  HasCarriedUntil d port seat link None = HasCarriedOn d port seat link
  HasCarriedUntil d port seat link (Some stop) = HasLeftOff d port seat link stop

  -- WHAT THE LOCK KEEPS: it began with a duty of this station, and has carried since then.
  pub record HasCarriedSince (start : Option CarrierDuty) (hub : Cell HubLog) (host : ℕ) (ports : List StationPort) (port : PortValue)
      (seat : Sitting HubLog HubEvent) (link : L) (stop : Option Stop) : Type 0 where
    pub duty : CarrierDuty
    pub is : start ≡ Some duty
    pub at : duty.port.host ≡ host
    pub at_hub : duty.port.hub ≡ hub
    pub to : duty.ports ≡ ports
    pub of : IsSeatOf hub seat
    pub carried : HasCarriedUntil duty port seat link stop

  -- and what it was when it had stopped
  pub record HasLeftOffSince (start : Option CarrierDuty) (host : ℕ) (port : PortValue) (seat : Sitting HubLog HubEvent) (link : L)
      (stop : Stop) : Type 0 where
    pub duty : CarrierDuty
    pub is : start ≡ Some duty
    pub at : duty.port.host ≡ host
    pub left : HasLeftOff duty port seat link stop
