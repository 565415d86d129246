-- What is delivered at the station of a node are the datagrams that its link brought.
use Rattle.std.proofs.Common.{◌≡◌, ℕ, ◌≤◌, ◌==◌, Bool, true, false, List, [], ◌∷◌, ◌++◌, map, cond, refl, sym, ap, ◌∙◌, arith}
use Rattle.vk_types.specs.Types.{StationEvent}
use Rattle.turn_cell.specs.History.{events_of}
use Rattle.vk_base.specs.declared.event.StationEvent.TheVariants as events
use Rattle.vk_base.specs.Settings.{Settings}
use Rattle.vk_hub.specs.declared.event.HubEvent.{HubEvent}
use Rattle.vk_hub.specs.Hubs.{HubLog}
use Rattle.vk_port.specs.Ports.{Action, Enters, Delivers, Drops, Hears}
use Rattle.vk_port.specs.Stations.{entries_at, event_of}
use Rattle.vk_rules.specs.Each.{Each}
use Rattle.vk_rules.specs.Entries.{Entry}
use Rattle.vk_rules.specs.Laws.{AllRise}
use Rattle.v_run.specs.Passages.{fresh_station}
use Rattle.v_run.proofs.Counts.{delivers}
use Rattle.v_run.proofs.Logs.{entered_places}
use Rattle.v_run.proofs.Sound.{AreOpen}
use Rattle.v_run.proofs.Totals.{Place, events_at_places, places, total, weight}
use Rattle.v_node.specs.Closed.{IsNodeClosed}
use Rattle.v_node.specs.Jobs.{IsLinkEnd, NodeEnd}
use Rattle.v_node.specs.Laws.{IsForOthers}
use Rattle.v_node.specs.Links.{OnlyBrings, brought_by, delivered_in, frame_in}
use Rattle.v_node.proofs.Own.{any, no_deliveries}
use Rattle.v_node.proofs.Sums.{IsLightElsewhere, at_station, light_elsewhere, link_placed}

no_frame_in : (e : StationEvent) → delivers any e ≡ 0 → frame_in e ≡ []
no_frame_in (events.Call pid call) none = refl
no_frame_in (events.Collect pid) none = refl
no_frame_in events.Tick none = refl
no_frame_in (events.Deliver frame) none = absurd (cc none)

-- where those of all other numbers deliver nothing
of_number : (n : ℕ) (xs : List (ℕ × StationEvent)) → Each (IsLightElsewhere (delivers any) n) xs
    → delivered_in (map event_of xs) ≡ delivered_in (events_of n xs)
of_number n [] light = refl
of_number n (x ∷ xs) light = by (x.0 == n) refl (of_number n xs light.1)
  where
    by : (b : Bool) → (x.0 == n) ≡ b → delivered_in (map event_of xs) ≡ delivered_in (events_of n xs)
        → frame_in x.1 ++ delivered_in (map event_of xs) ≡ delivered_in (cond b (x.1 ∷ events_of n xs) (events_of n xs))
    by true is rest = ap (λ l. frame_in x.1 ++ l) rest
    by false is rest = ap (λ l. l ++ delivered_in (map event_of xs)) (no_frame_in x.1 (light.0 is)) ∙ rest

of_actions : (acts : List Action) → OnlyBrings acts → delivered_in (map (λ (p : Place StationEvent). p.1) (entered_places acts))
    ≡ brought_by acts
of_actions [] only = refl
of_actions (Enters before e posted ∷ acts) only = ap (λ l. frame_in e ++ l) (of_actions acts only.1)
of_actions (Delivers heard frame before posted ∷ acts) only = absurd only
of_actions (Drops heard frame ∷ acts) only = absurd only
of_actions (Hears heard ∷ acts) only = absurd only

module _ (c : Settings) (host : ℕ) (o : HubLog) (history : List (ℕ × StationEvent)) (heard : List (ℕ × HubEvent)) (n : NodeEnd)
    (k : IsNodeClosed c host o history heard n) (link : IsLinkEnd c host n.link)
    (rise : AllRise host (entries_at (fresh_station c host) history)) (opens : AreOpen (entries_at (fresh_station c host) history))
    (others : Each (λ (e : Entry). Each (IsForOthers host) e.frames) (entries_at (fresh_station c host) history)) where
  pub delivered_is : delivered_in (map event_of history) ≡ brought_by n.link.actions
  delivered_is =
      let u : StationEvent → ℕ = delivers any in
      let m = n.link.berth.number in
      let station = at_station c host o history heard n k (λ before e. u e) in
      let none = no_deliveries c host o history heard n k link rise opens others in
      let own : weight (λ before e. u e) (places m [] history) ≡ weight (λ before e. u e) (entered_places n.link.actions) =
      ap (weight (λ before e. u e)) (link_placed c host o history heard n k) in
      let all : total (λ before e. u e) [] history ≤ weight (λ before e. u e) (places m [] history) = omega arith in
      of_number m history (light_elsewhere u m [] history all)
      ∙ (ap delivered_in (sym (events_at_places m [] history)
      ∙ ap (map (λ (p : Place StationEvent). p.1)) (link_placed c host o history heard n
      k))
      ∙ of_actions n.link.actions k.link.brings)
