-- Sums over closed histories are sums over what the passages did.
use Rattle.std.proofs.Common.{◌≡◌, ℕ, ◌+◌, ◌≤◌, ◌==◌, eqb-true, Bool, true, false, List, [], ◌∷◌, ◌++◌, map, cond, refl, sym, ap, ◌∙◌, subst, arith, inl, inr}
use Rattle.vk_types.specs.Types.{StationEvent}
use Rattle.vk_base.specs.Settings.{Settings, has_station}
use Rattle.vk_hub.specs.declared.event.HubEvent.{HubEvent}
use Rattle.vk_hub.specs.Hubs.{HubLog}
use Rattle.vk_rules.specs.Each.{Each}
use Rattle.vk_rules.proofs.Lists.{each_both}
use Rattle.v_run.specs.Closed.{AreClosed, IsClosed, numbers_at}
use Rattle.v_run.specs.Passages.{IsLast, IsPassage, Passage, fresh_station, host_of, hub_number_of, nowhere, number_of}
use Rattle.v_run.proofs.Totals.{added, added_append, added_map, by_seats, places, total, weight}
use Rattle.v_run.proofs.Dealt.{all_once}
use Rattle.v_run.proofs.Heard.{IsNoFetch, IsOfFetches, fetched, sends, sent_is, weight_of_events}
use Rattle.v_run.proofs.Logs.{entered_places, fetched_places, placed}

pub added_same_each : {A : Type 0} (P : A → Type 0) (f g : A → ℕ) (xs : List A) → ((x : A) → P x → f x ≡ g x) → Each P xs
    → added f xs ≡ added g xs
added_same_each P f g [] same each = refl
added_same_each P f g (x ∷ xs) same each =
    let h = same x each.0 in let t = added_same_each P f g xs same each.1 in omega arith

pub added_most_each : {A : Type 0} (P : A → Type 0) (f g : A → ℕ) (xs : List A) → ((x : A) → P x → f x ≤ g x) → Each P xs
    → added f xs ≤ added g xs
added_most_each P f g [] same each = omega arith
added_most_each P f g (x ∷ xs) same each =
    let h = same x each.0 in let t = added_most_each P f g xs same each.1 in omega arith

spread_by : (f : ℕ → ℕ) (b : Bool) (n : ℕ) (ns : List ℕ) → added f (cond b (n ∷ ns) ns) ≡ cond b (f n) 0 + added f ns
spread_by f true n ns = refl
spread_by f false n ns = omega arith

pub added_at : (f : ℕ → ℕ) (h : ℕ) (gs : List Passage) → added f (numbers_at h gs)
    ≡ added (λ g. cond (host_of g == h) (f (number_of g)) 0) gs
added_at f h [] = refl
added_at f h (g ∷ gs) =
    spread_by f (host_of g == h) (number_of g) (numbers_at h gs) ∙ ap (λ n. cond (host_of g == h) (f (number_of g)) 0 + n) (added_at f h gs)

no_fetch_last : (last : List HubEvent) → IsLast last → Each IsNoFetch last
no_fetch_last last (inl is) = subst (Each IsNoFetch) (sym is) tt
no_fetch_last last (inr (inl is)) = subst (Each IsNoFetch) (sym is) (tt, tt)
no_fetch_last last (inr (inr is)) = subst (Each IsNoFetch) (sym is) (tt, tt)

module _ (c : Settings) (o : HubLog) (histories : ℕ → List (ℕ × StationEvent)) (heard : List (ℕ × HubEvent)) where
  abbrev pub IsDone : Passage → Type 0
  IsDone g = IsPassage c o g × IsClosed histories heard g

  -- at the station
  pub placed_whole : (g : Passage) → IsDone g → places (number_of g) [] (histories (host_of g)) ≡ entered_places g.actions
  placed_whole g done = placed g.berth (histories (host_of g)) g.actions nowhere g.left done.0.log refl done.1.seen done.1.mine

  here_by : (w : List (ℕ × StationEvent) → StationEvent → ℕ) (h : ℕ) (g : Passage) → IsDone g → (b : Bool) → (host_of g == h) ≡ b
      → cond b (weight w (places (number_of g) [] (histories h))) 0 ≡ cond b (weight w (entered_places g.actions)) 0
  here_by w h g done true is =
      let same : host_of g ≡ h = eqb-true (host_of g) h is in
      ap (λ (k : ℕ). weight w (places (number_of g) [] (histories k))) (sym same) ∙ ap (weight w) (placed_whole g done)
  here_by w h g done false is = refl

  -- at the hub
  pub fetched_whole : (w : List (ℕ × HubEvent) → HubEvent → ℕ) → IsOfFetches w → (g : Passage) → IsDone g
      → weight w (places (hub_number_of g) [] heard) ≡ weight w (fetched_places (host_of g) g.actions)
  fetched_whole w of g done =
      fetched w of g.berth heard g.last g.actions nowhere g.left done.0.log ([], refl, tt) done.1.heard done.1.sent
      (no_fetch_last g.last done.0.last)
      ∙ plus (weight w (fetched_places (host_of g) g.actions))
    where
      plus : (k : ℕ) → 0 + k ≡ k
      plus k = omega arith

  -- all that it sent
  pub sent_whole : (u : HubEvent → ℕ) (g : Passage) → IsDone g
      → weight (λ before e. u e) (places (hub_number_of g) [] heard)
      ≡ added u (sends (fresh_station c (host_of g)) (host_of g) g.actions) + added u g.last
  sent_whole u g done =
      let sent : g.left.sent ≡ sends (fresh_station c (host_of g)) (host_of g) g.actions =
      sent_is g.berth g.actions nowhere g.left done.0.log ∙ ap (λ s. sends s (host_of g) g.actions) done.0.station in
      weight_of_events u (hub_number_of g) heard ∙ (ap (added u) (done.1.sent ∙ ap (λ l. l ++ g.last) sent)
      ∙ added_append u (sends (fresh_station c (host_of g)) (host_of g) g.actions) g.last)

  module _ (gs : List Passage) (k : AreClosed c o histories heard gs) where
    pub all_done : Each IsDone gs
    all_done = each_both (IsPassage c o) (IsClosed histories heard) gs k.passages k.closed

    pub at_station : (w : List (ℕ × StationEvent) → StationEvent → ℕ) (h : ℕ) → has_station c.specs h ≡ true
        → total w [] (histories h) ≡ added (λ g. cond (host_of g == h) (weight w (entered_places g.actions)) 0) gs
    at_station w h there =
        by_seats w (numbers_at h gs) [] (histories h) (all_once (numbers_at h gs) (histories h) (k.numbers h there) (k.known h there))
        ∙ (added_at (λ j. weight w (places j [] (histories h))) h gs
        ∙ added_same_each IsDone (λ g. cond (host_of g == h) (weight w (places (number_of g) [] (histories h))) 0)
        (λ g. cond (host_of g == h) (weight w (entered_places g.actions)) 0) gs (λ g done. here_by w h g done (host_of g == h) refl)
        all_done)

    at_hub : (w : List (ℕ × HubEvent) → HubEvent → ℕ) → total w [] heard ≡ added (λ g. weight w (places (hub_number_of g) [] heard)) gs
    at_hub w =
        by_seats w (map hub_number_of gs) [] heard (all_once (map hub_number_of gs) heard k.hub_numbers k.hub_known)
        ∙ added_map (λ j. weight w (places j [] heard)) hub_number_of gs

    pub fetches_at_hub : (w : List (ℕ × HubEvent) → HubEvent → ℕ) → IsOfFetches w
        → total w [] heard ≡ added (λ g. weight w (fetched_places (host_of g) g.actions)) gs
    fetches_at_hub w of =
        at_hub w ∙ added_same_each IsDone (λ g. weight w (places (hub_number_of g) [] heard))
        (λ g. weight w (fetched_places (host_of g) g.actions)) gs (λ g done. fetched_whole w of g done) all_done

    pub events_at_hub : (u : HubEvent → ℕ)
        → total (λ before e. u e) [] heard
        ≡ added (λ g. added u (sends (fresh_station c (host_of g)) (host_of g) g.actions) + added u g.last) gs
    events_at_hub u =
        at_hub (λ before e. u e) ∙ added_same_each IsDone (λ g. weight (λ before e. u e) (places (hub_number_of g) [] heard))
        (λ g. added u (sends (fresh_station c (host_of g)) (host_of g) g.actions) + added u g.last) gs (λ g done. sent_whole u g done)
        all_done
