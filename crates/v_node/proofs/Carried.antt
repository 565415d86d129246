-- The carrier's errands in the closed history of the hub: its fetches stand there at the places that they tell, and it entered nothing else
-- but what came last.
use Rattle.std.proofs.Common.{◌≡◌, ℕ, ◌+◌, List, [], ◌∷◌, ◌++◌, sym, ap, ◌∙◌, arith, append_assoc, append-nil}
use mathlib.Core.List.{IsPrefix}
use Rattle.turn_cell.specs.History.{events_of}
use Rattle.vk_hub.specs.declared.event.HubEvent.{HubEvent}
use Rattle.vk_hub.specs.declared.event.HubEvent.TheVariants as hub_events
use Rattle.vk_hub.specs.Hubs.{HubLog}
use Rattle.vk_rules.specs.Each.{Each}
use Rattle.v_run.proofs.Totals.{added, places, weight}
use Rattle.v_run.proofs.Heard.{IsNoFetch, IsOfFetches, heavy_last, light_between, prefix_over}
use Rattle.v_run.proofs.Logs.{events_last}
use Rattle.v_node.specs.Links.{AreErrands, Errand, HubStand, after_errand}

-- its fetches, in order
abbrev pub fetches_of : List Errand → List HubEvent
fetches_of [] = []
fetches_of (e ∷ es) = hub_events.Fetch e.host ∷ fetches_of es

module _ (n : ℕ) (o : HubLog) where
  pub carried_is : (es : List Errand) (s t : HubStand) → AreErrands n o s es t → t.sent ≡ s.sent ++ fetches_of es
  carried_is [] s t are = are.1 ∙ sym (append-nil s.sent)
  carried_is (e ∷ es) s t are =
      carried_is es (after_errand n o s e) t are.1 ∙ append_assoc s.sent (hub_events.Fetch e.host ∷ []) (fetches_of es)

  module _ (w : List (ℕ × HubEvent) → HubEvent → ℕ) (of : IsOfFetches w) where
    pub carried : (history : List (ℕ × HubEvent)) (rest : List HubEvent) (es : List Errand) (s t : HubStand) → AreErrands n o s es t
        → events_of n s.heard ≡ s.sent → IsPrefix t.heard history → events_of n history ≡ t.sent ++ rest → Each IsNoFetch rest
        → weight w (places n [] history)
        ≡ weight w (places n [] s.heard) + added (λ (e : Errand). w e.before (hub_events.Fetch e.host)) es
    carried history rest [] s t are mine pre whole none =
        let is : events_of n history ≡ events_of n s.heard ++ rest = whole ∙ ap (λ l. l ++ rest) (are.1 ∙ sym mine) in
        light_between w of n s.heard history rest (prefix_over s.heard t.heard history are.0 pre) is none
        ∙ plus_none (weight w (places n [] s.heard))
      where
        plus_none : (m : ℕ) → m ≡ m + 0
        plus_none m = omega arith
    carried history rest (e ∷ es) s t are mine pre whole none =
        let fetch = hub_events.Fetch e.host in
        let at = are.0 in
        let next = after_errand n o s e in
        let last = events_last n e.before fetch s.sent at.mine in
        let more = carried history rest es next t are.1 last pre whole none in
        let one = heavy_last w of n e.before fetch in
        let same : events_of n e.before ≡ events_of n s.heard ++ [] = at.mine ∙ (sym mine ∙ sym (append-nil (events_of n s.heard))) in
        let before = light_between w of n s.heard e.before [] at.later same tt in
        omega arith
