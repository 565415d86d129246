-- Sums over the closed histories of a node are sums over what its jobs did.
use Rattle.std.proofs.Common.{◌≡◌, ℕ, ◌+◌, ◌≤◌, ◌==◌, Bool, true, false, List, [], ◌∷◌, ◌++◌, map, cond, refl, sym, ap, ◌∙◌, subst, arith, inl, inr}
use Rattle.vk_types.specs.Types.{StationEvent}
use Rattle.vk_base.specs.Settings.{Settings}
use Rattle.vk_hub.specs.declared.event.HubEvent.{HubEvent}
use Rattle.vk_hub.specs.declared.event.HubEvent.TheVariants as hub_events
use Rattle.vk_hub.specs.Hubs.{HubLog}
use Rattle.vk_rules.specs.Each.{Each}
use Rattle.vk_rules.proofs.Lists.{each_both}
use Rattle.v_run.specs.Closed.{IsClosed}
use Rattle.v_run.specs.Passages.{IsPassage, Passage, fresh_station, host_of, hub_number_of, nowhere, number_of}
use Rattle.v_run.proofs.Totals.{added, added_append, added_map, by_seats, places, total, weight}
use Rattle.v_run.proofs.Dealt.{all_once}
use Rattle.v_run.proofs.Heard.{IsNoFetch, IsOfFetches, sends, sent_is, weight_of_events}
use Rattle.v_run.proofs.Logs.{entered_places, placed}
use Rattle.v_run.proofs.Sums.{IsDone, added_same_each, placed_whole, sent_whole}
use Rattle.v_node.specs.Closed.{IsNodeClosed, numbers_at_hub, numbers_at_station}
use Rattle.v_node.specs.Jobs.{HaltsAtMost, IsLinkEnd, NodeEnd, passages_in}
use Rattle.v_node.specs.Links.{Errand, nothing_heard}
use Rattle.v_node.proofs.Carried.{carried, carried_is, fetches_of}

-- Where one number's entries weigh as much as all, those of other numbers weigh nothing.
module _ {E : Type 0} (u : E → ℕ) (n : ℕ) where
  abbrev own_weight : List (ℕ × E) → List (ℕ × E) → ℕ
  own_weight acc xs = weight (λ before e. u e) (places n acc xs)

  own_by : (b : Bool) (acc : List (ℕ × E)) (x : ℕ × E) (xs : List (ℕ × E)) → (x.0 == n) ≡ b
      → own_weight acc (x ∷ xs) ≡ cond b (u x.1) 0 + own_weight (acc ++ x ∷ []) xs
  own_by true acc x xs is =
      ap (λ b. weight (λ before e. u e) (cond b ((acc, x.1) ∷ places n (acc ++ x ∷ []) xs) (places n (acc ++ x ∷ []) xs))) is
  own_by false acc x xs is =
      ap (λ b. weight (λ before e. u e) (cond b ((acc, x.1) ∷ places n (acc ++ x ∷ []) xs) (places n (acc ++ x ∷ []) xs))) is
      ∙ plus (own_weight (acc ++ x ∷ []) xs)
    where
      plus : (m : ℕ) → m ≡ 0 + m
      plus m = omega arith

  at_most_one : (b : Bool) (m : ℕ) → cond b m 0 ≤ m
  at_most_one true m = omega arith
  at_most_one false m = omega arith

  own_most : (acc xs : List (ℕ × E)) → own_weight acc xs ≤ total (λ before e. u e) acc xs
  own_most acc [] = omega arith
  own_most acc (x ∷ xs) =
      let rest = own_most (acc ++ x ∷ []) xs in
      let one = own_by (x.0 == n) acc x xs refl in
      let few = at_most_one (x.0 == n) (u x.1) in
      omega arith

  abbrev pub IsLightElsewhere : ℕ × E → Type 0
  IsLightElsewhere x = (x.0 == n) ≡ false → u x.1 ≡ 0

  pub light_elsewhere : (acc xs : List (ℕ × E)) → total (λ before e. u e) acc xs ≤ weight (λ before e. u e) (places n acc xs)
      → Each IsLightElsewhere xs
  light_elsewhere acc [] all = tt
  light_elsewhere acc (x ∷ xs) all = (
    (λ other.
        let one = own_by false acc x xs other in
        let most = own_most (acc ++ x ∷ []) xs in
        omega arith),
    light_elsewhere (acc ++ x ∷ []) xs (
        let one = own_by (x.0 == n) acc x xs refl in
        let few = at_most_one (x.0 == n) (u x.1) in
        omega arith),
  )

module _ (c : Settings) (host : ℕ) (o : HubLog) (history : List (ℕ × StationEvent)) (heard : List (ℕ × HubEvent)) (n : NodeEnd)
    (k : IsNodeClosed c host o history heard n) where
  abbrev pub D : Passage → Type 0
  D = IsDone c o (λ h. history) heard

  abbrev pub gs : List Passage
  gs = passages_in n

  pub all_done : Each D gs
  all_done = each_both (IsPassage c o) (IsClosed (λ h. history) heard) gs k.passages k.closed

  -- those of this station
  abbrev pub DHere : Passage → Type 0
  DHere g = D g × (host_of g ≡ host)

  pub all_here : Each DHere gs
  all_here = each_both D (λ (g : Passage). host_of g ≡ host) gs all_done k.here

  -- at the station
  pub link_placed : places n.link.berth.number [] history ≡ entered_places n.link.actions
  link_placed =
      placed n.link.berth history n.link.actions nowhere n.link.left k.link.log refl k.link_closed.seen k.link_closed.mine

  pub at_station : (w : List (ℕ × StationEvent) → StationEvent → ℕ) → total w [] history
      ≡ added (λ (g : Passage). weight w (entered_places g.actions)) gs + weight w (entered_places n.link.actions)
  at_station w =
      let f : ℕ → ℕ = λ j. weight w (places j [] history) in
      let all = by_seats w (numbers_at_station n) [] history (all_once (numbers_at_station n) history k.numbers k.known) in
      let split = added_append f (map number_of gs) (n.link.berth.number ∷ []) in
      let ports = added_map f number_of gs in
      let each = added_same_each D (λ (g : Passage). f (number_of g)) (λ (g : Passage). weight w (entered_places g.actions)) gs
      (λ g done. ap (weight w) (placed_whole c o (λ h. history) heard g done)) all_done in
      let link : weight w (places n.link.berth.number [] history) ≡ weight w (entered_places n.link.actions) = ap (weight w) link_placed in
      omega arith

  -- at the hub
  pub at_hub : (w : List (ℕ × HubEvent) → HubEvent → ℕ) → total w [] heard
      ≡ added (λ (g : Passage). weight w (places (hub_number_of g) [] heard)) gs
      + (weight w (places n.link.berth.hub_number [] heard) + weight w (places n.link.carrier [] heard))
  at_hub w =
      let f : ℕ → ℕ = λ j. weight w (places j [] heard) in
      let all = by_seats w (numbers_at_hub n) [] heard (all_once (numbers_at_hub n) heard k.hub_numbers k.hub_known) in
      let split = added_append f (map hub_number_of gs) (n.link.berth.hub_number ∷ n.link.carrier ∷ []) in
      let ports = added_map f hub_number_of gs in
      omega arith

  module _ (u : HubEvent → ℕ) where
    abbrev pub sent_by : Passage → ℕ
    sent_by g = added u (sends (fresh_station c host) host g.actions) + added u g.last

    pub same_host : (g : Passage) → DHere g → weight (λ before e. u e) (places (hub_number_of g) [] heard) ≡ sent_by g
    same_host g d =
        sent_whole c o (λ h. history) heard u g d.0
        ∙ ap (λ h. added u (sends (fresh_station c h) h g.actions) + added u g.last) d.1

    pub link_sent : weight (λ before e. u e) (places n.link.berth.hub_number [] heard)
        ≡ added u (sends (fresh_station c host) host n.link.actions) + added u n.link.last
    link_sent =
        let l = n.link in
        let sent : l.left.sent ≡ sends (fresh_station c host) host l.actions =
        sent_is l.berth l.actions nowhere l.left k.link.log ∙ (ap (λ s. sends s l.berth.host l.actions) k.link.station
        ∙ ap (λ h. sends (fresh_station c host) h l.actions) k.link.at) in
        weight_of_events u l.berth.hub_number heard ∙ (ap (added u) (k.link_closed.sent ∙ ap (λ s. s ++ l.last) sent)
        ∙ added_append u (sends (fresh_station c host) host l.actions) l.last)

    pub carrier_sent : weight (λ before e. u e) (places n.link.carrier [] heard) ≡ added u (fetches_of n.link.errands) + added u n.link.rest
    carrier_sent =
        let l = n.link in
        weight_of_events u l.carrier heard
        ∙ (ap (added u) (k.link_closed.carried ∙ ap (λ s. s ++ l.rest)
        (carried_is l.carrier o l.errands nothing_heard l.reached k.link.errands))
        ∙ added_append u (fetches_of l.errands) l.rest)

    pub events_at_hub : total (λ before e. u e) [] heard
        ≡ added sent_by gs
        + ((added u (sends (fresh_station c host) host n.link.actions) + added u n.link.last)
        + (added u (fetches_of n.link.errands) + added u n.link.rest))
    events_at_hub =
        let all = at_hub (λ before e. u e) in
        let each = added_same_each DHere (λ (g : Passage). weight (λ before e. u e) (places (hub_number_of g) [] heard)) sent_by gs
        same_host
        all_here in
        let link = link_sent in
        let carrier = carrier_sent in
        omega arith

  -- the carrier's fetches
  no_fetch_rest : (rest : List HubEvent) → HaltsAtMost rest → Each IsNoFetch rest
  no_fetch_rest rest (inl is) = subst (Each IsNoFetch) (sym is) tt
  no_fetch_rest rest (inr is) = subst (Each IsNoFetch) (sym is) (tt, tt)

  pub carrier_fetched : (w : List (ℕ × HubEvent) → HubEvent → ℕ) → IsOfFetches w → IsLinkEnd c host n.link
      → weight w (places n.link.carrier [] heard) ≡ added (λ (e : Errand). w e.before (hub_events.Fetch e.host)) n.link.errands
  carrier_fetched w of ends =
      let l = n.link in
      carried l.carrier o w of heard l.rest l.errands nothing_heard l.reached k.link.errands refl k.link_closed.reached
      k.link_closed.carried
      (no_fetch_rest l.rest ends.rest) ∙ plus (added (λ (e : Errand). w e.before (hub_events.Fetch e.host)) l.errands)
    where
      plus : (m : ℕ) → 0 + m ≡ m
      plus m = omega arith
