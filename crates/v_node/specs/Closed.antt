-- Closed histories of a node: that of its station and that of its hub, once all seats have come back.
use Rattle.std.specs.Prelude.{ℕ, ◌≡◌, ◌==◌, eqb, false, List, [], ◌∷◌, ◌++◌, map}
use Rattle.std.specs.List.{IsDistinct, list_any}
use mathlib.Core.List.{IsPrefix}
use Rattle.vk_types.specs.Types.{StationEvent}
use Rattle.turn_cell.specs.History.{events_of}
use Rattle.vk_base.specs.Settings.{Settings}
use Rattle.vk_hub.specs.declared.event.HubEvent.{HubEvent}
use Rattle.vk_hub.specs.Hubs.{HubLog}
use Rattle.vk_port.specs.Ports.{IsLog}
use Rattle.vk_rules.specs.Each.{Each}
use Rattle.v_run.specs.Closed.{IsClosed}
use Rattle.v_run.specs.Passages.{IsPassage, Passage, fresh_station, host_of, hub_number_of, nowhere, number_of}
use Rattle.v_node.specs.Jobs.{LinkEnd, NodeEnd, passages_in}
use Rattle.v_node.specs.Links.{AreErrands, OnlyBrings, nothing_heard}

-- The link's port was one of this station, with new seats, and only brought; its carrier was a new seat of the hub.
pub record IsLinkWay (c : Settings) (host : ℕ) (o : HubLog) (l : LinkEnd) : Type 0 where
  pub at : l.berth.host ≡ host
  pub station : l.berth.station ≡ fresh_station c host
  pub log : IsLog l.berth nowhere l.actions l.left
  pub brings : OnlyBrings l.actions
  pub errands : AreErrands l.carrier o nothing_heard l.errands l.reached

-- The histories begin with what its three seats had seen, and have just their events.
pub record IsLinkClosed (history : List (ℕ × StationEvent)) (hub : List (ℕ × HubEvent)) (l : LinkEnd) : Type 0 where
  pub seen : IsPrefix l.left.seen history
  pub mine : events_of l.berth.number history ≡ l.left.mine
  pub heard : IsPrefix l.left.heard hub
  pub sent : events_of l.berth.hub_number hub ≡ l.left.sent ++ l.last
  pub reached : IsPrefix l.reached.heard hub
  pub carried : events_of l.carrier hub ≡ l.reached.sent ++ l.rest

-- the numbers of all seats at the station, and of those at the hub that entered anything
abbrev pub numbers_at_station : NodeEnd → List ℕ
numbers_at_station n = map number_of (passages_in n) ++ n.link.berth.number ∷ []

abbrev pub numbers_at_hub : NodeEnd → List ℕ
numbers_at_hub n = map hub_number_of (passages_in n) ++ n.link.berth.hub_number ∷ n.link.carrier ∷ []

-- ALL SEATS HAVE COME BACK, and these are the histories of the station and of the hub: all ports lay here. The seats' numbers differ, and
-- no other number has entered anything. (The crew's halt has a seat of the hub, too; it is known to have entered nothing.)
pub record IsNodeClosed (c : Settings) (host : ℕ) (o : HubLog) (history : List (ℕ × StationEvent)) (heard : List (ℕ × HubEvent))
    (n : NodeEnd) : Type 0 where
  pub passages : Each (IsPassage c o) (passages_in n)
  pub here : Each (λ (g : Passage). host_of g ≡ host) (passages_in n)
  pub closed : Each (IsClosed (λ h. history) heard) (passages_in n)
  pub link : IsLinkWay c host o n.link
  pub link_closed : IsLinkClosed history heard n.link
  pub numbers : IsDistinct eqb (numbers_at_station n)
  pub known : (k : ℕ) → list_any (λ i. i == k) (numbers_at_station n) ≡ false → events_of k history ≡ []
  pub hub_numbers : IsDistinct eqb (numbers_at_hub n)
  pub hub_known : (k : ℕ) → list_any (λ i. i == k) (numbers_at_hub n) ≡ false → events_of k heard ≡ []
