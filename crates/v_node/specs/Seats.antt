-- What the link's job promises of the seats that it hands back.
use Rattle.std.specs.Prelude.{◌≡◌, ◌++◌}
use mathlib.Core.List.{IsPrefix}
use Rattle.vk_types.specs.Types.{StationEvent}
use Rattle.turn_cell.specs.Seats.{IsSameSeat, Sitting}
use Rattle.vk_hub.specs.declared.event.HubEvent.{HubEvent}
use Rattle.vk_hub.specs.Hubs.{HubLog}
use Rattle.vk_port.specs.Ports.{IsLog, PortValue, berth_of, stand_of}
use Rattle.vk_port.specs.Stations.{StationHistory}
use Rattle.v_node.specs.Jobs.{LinkEnd}
use Rattle.v_node.specs.Links.{AreErrands, HubStand, OnlyBrings}

abbrev pub hub_stand_of : Sitting HubLog HubEvent → HubStand
hub_stand_of s = record { heard = s.seen; sent = s.mine }

-- It was done through this port and with this carrier, whose seat was `before`. `a` and `b` are the port's two seats as they came back, and
-- `d` is the carrier's.
pub record IsLinkThrough (p : PortValue) (before : Sitting HubLog HubEvent) (a : Sitting StationHistory StationEvent)
    (b d : Sitting HubLog HubEvent) (l : LinkEnd) : Type 0 where
  pub berth : l.berth ≡ berth_of p
  pub log : IsLog (berth_of p) (stand_of p) l.actions l.left
  pub brings : OnlyBrings l.actions
  pub seat : IsSameSeat p.seat a
  pub seen : a.seen ≡ l.left.seen
  pub mine : a.mine ≡ l.left.mine
  pub hub_seat : IsSameSeat p.hub_seat b
  pub heard : IsPrefix l.left.heard b.seen
  pub sent : b.mine ≡ l.left.sent ++ l.last
  pub carrier : l.carrier ≡ before.number
  pub errands : AreErrands before.number p.hub.origin (hub_stand_of before) l.errands l.reached
  pub back : IsSameSeat before d
  pub reached : IsPrefix l.reached.heard d.seen
  pub carried : d.mine ≡ l.reached.sent ++ l.rest
