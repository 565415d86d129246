-- The jobs of a node, and what their ends may be.
use Rattle.std.specs.Prelude.{ℕ, ◌≡◌, ◌++◌, ◌⊎◌, true, false, Option, Some, None, List, [], ◌∷◌, option_map}
use Rattle.vk_types.specs.Types.{Answer, Call}
use Rattle.turn_cell.specs.declared.replay.Room.{Room}
use Rattle.vk_base.specs.Settings.{Settings}
use Rattle.vk_hub.specs.Hubs.{has_halt}
use Rattle.vk_hub.specs.Links.{Frame}
use Rattle.vk_io.specs.Causes.{Rose}
use Rattle.vk_port.specs.Ports.{PortValue}
use Rattle.vk_rules.specs.Each.{Each}
use Rattle.v_node.specs.Jobs.{ClockEnd, IsClockEnd, IsLinkEnd, LinkEnd}
use Rattle.v_node.specs.Links.{stop_count}
use Rattle.v_node.specs.Seats.{IsLinkThrough, hub_stand_of}
use Rattle.vk_threads.specs.declared.end.Seats.{Seats}
use Rattle.vk_threads.specs.Ends.{EndsProcess, IsOf, IsThrough}
use Rattle.vk_udp.specs.Asked.{HasCarried}
use Rattle.vk_udp.specs.Carried.{IsStationPort}
use Rattle.vk_udp.specs.Values.{CarrierDuty}
use Rattle.vk_udp.specs.Wires.{Datagram}
use Rattle.vk_udp.specs.declared.work.Carried.{Carried}
use Rattle.vk_udp.specs.declared.work.NodeEnd.{NodeEnd}
use Rattle.vk_udp.specs.declared.work.NodeEnd.TheVariants as ends
use Rattle.vk_udp.specs.declared.work.NodeWork.{NodeWork}
use Rattle.vk_udp.specs.declared.work.NodeWork.TheVariants as works

-- The clock with this port may hand back these seats with this Room. The hub is halted then.
pub record EndsClock (p : PortValue) (rounds : ℕ) (back : List Seats) (why : Option Room) : Type 0 where
  pub end : ClockEnd
  pub seat : Seats
  pub seats : back ≡ seat ∷ []
  pub through : IsThrough p seat end.passage
  pub met : end.met ≡ why
  pub job : (c : Settings) → IsOf c p → IsClockEnd c rounds end
  pub halted : has_halt seat.hub_seat.seen ≡ true

-- What carries frames may come to this end: the link handed out these datagrams, and met a fault exactly where the job says so. Round after
-- round the job asked for the stations of its ports, and the link was given to send, in order, each frame that was answered, for its
-- station's port, and nothing else. It ended where it heard that the hub had ended; else the hub is halted.
pub record EndsCarrier {L : Type 0} (handed : L → Option (List Frame)) (sent : L → Option (List Datagram)) (faults : L → ℕ)
    (d : CarrierDuty) (e : Carried L) : Type 0 where
  pub end : LinkEnd
  pub seat : Seats
  pub seats : e.end.seats.items ≡ seat ∷ []
  pub host : seat.host ≡ d.port.host
  pub through : IsLinkThrough d.port d.carrier seat.seat seat.hub_seat e.hub_seat end
  pub met : end.met ≡ e.end.met
  pub told : handed e.link ≡ option_map (λ all. all ++ end.handed) d.handed
  pub carried : HasCarried d.carrier.number d.port.hub.origin (hub_stand_of d.carrier) d.ports end.reached end.errands d.sent
      (sent e.link)
  pub sound : end.failed ≡ false → faults e.link ≡ d.faults
  pub failed : end.failed ≡ true → Rose d.faults (faults e.link)
  pub job : (c : Settings) → IsOf c d.port → Each (IsStationPort c) d.ports → IsLinkEnd c d.port.host end
  pub ended : ((end.met ≡ None) × (end.failed ≡ false) × (stop_count end.errands ≡ 1)) ⊎ (has_halt e.hub_seat.seen ≡ true)

-- and where its duty is known by a type alone
abbrev pub EndsCarried : {L : Type 0} → (L → Option (List Frame)) → (L → Option (List Datagram)) → (L → ℕ) → Option CarrierDuty
    → Carried L → Type 0
EndsCarried handed sent faults (Some d) e = EndsCarrier handed sent faults d e
EndsCarried handed sent faults None e = ⊥

abbrev pub ends_as : {G P L S : Type 0} → (G → List Answer → Option Call) → (L → Option (List Frame)) → (L → Option (List Datagram))
    → (L → ℕ) → NodeWork G P L S → NodeEnd L → Type 0
ends_as task handed sent faults (works.Process w) (ends.Own e) = EndsProcess w.port w.pid (task w.program) e.seats.items e.met
ends_as task handed sent faults (works.Clock w) (ends.Own e) = EndsClock w.port w.rounds e.seats.items e.met
ends_as task handed sent faults (works.Carrier w) (ends.Carried e) = EndsCarried handed sent faults w e
ends_as task handed sent faults w e = ⊥
