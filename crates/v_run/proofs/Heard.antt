-- A port's log in the closed history of the hub: its fetches stand there at the places that its actions tell, and all else that it
-- entered are posts.
use Rattle.std.proofs.Common.{◌≡◌, ℕ, ◌+◌, List, [], ◌∷◌, ◌++◌, map, take, refl, sym, ap, ◌∙◌, subst, arith, append_assoc, append-nil}
use mathlib.Core.List.{IsPrefix}
use Rattle.turn_cell.specs.History.{events_of}
use Rattle.vk_base.specs.declared.event.StationEvent.TheVariants as events
use Rattle.vk_hub.specs.declared.event.HubEvent.{HubEvent}
use Rattle.vk_hub.specs.declared.event.HubEvent.TheVariants as hub_events
use Rattle.vk_hub.specs.Links.{Frame}
use Rattle.vk_port.specs.Ports.{Action, Enters, Delivers, Drops, Hears, IsLog, Berth, Stand, entered_at, fetched_at, posts}
use Rattle.vk_port.specs.Stations.{StationHistory, frames_at}
use Rattle.vk_rules.specs.Each.{Each}
use Rattle.vk_rules.proofs.Lists.{each_append}
use Rattle.v_run.proofs.Totals.{Place, added, added_append, added_map, events_append, events_at_places, places, places_append, weight}
use Rattle.v_run.proofs.Logs.{events_last, fetched_places, placed_last}

pub prefix_over : {A : Type 0} (xs ys zs : List A) → IsPrefix xs ys → IsPrefix ys zs → IsPrefix xs zs
prefix_over xs ys zs one two = (one.0 ++ two.0, sym (append_assoc xs one.0 two.0) ∙ (ap (λ l. l ++ two.0) one.1 ∙ two.1))

pub prefix_front : {A : Type 0} (xs ys zs : List A) → IsPrefix (xs ++ ys) zs → IsPrefix xs zs
prefix_front xs ys zs pre = (ys ++ pre.0, sym (append_assoc xs ys pre.0) ∙ pre.1)

pub append_same : {A : Type 0} (xs ys zs : List A) → xs ++ ys ≡ xs ++ zs → ys ≡ zs
append_same [] ys zs same = same
append_same (x ∷ xs) ys zs same = append_same xs ys zs (grind (arith, same))

-- each beginning is one of what was seen in the end
pub log_is_later : (p : Berth) (acts : List Action) (s t : Stand) → IsLog p s acts t → IsPrefix s.seen t.seen × IsPrefix s.heard t.heard
log_is_later p [] s t log = (log.0, log.1)
log_is_later p (Enters before e posted ∷ acts) s t log =
    let rest = log_is_later p acts (entered_at p s before e posted) t log.1 in
    (prefix_over s.seen before t.seen log.0.later (prefix_front before ((p.number, e) ∷ []) t.seen rest.0), rest.1)
log_is_later p (Delivers heard frame before posted ∷ acts) s t log =
    let rest = log_is_later p acts (entered_at p (fetched_at p s heard) before (events.Deliver frame) posted) t log.1 in (
      prefix_over s.seen before t.seen log.0.1.later (prefix_front before ((p.number, events.Deliver frame) ∷ []) t.seen rest.0),
      prefix_over s.heard heard t.heard log.0.0.later (prefix_front heard ((p.hub_number, hub_events.Fetch p.host) ∷ []) t.heard rest.1),
    )
log_is_later p (Drops heard frame ∷ acts) s t log =
    let rest = log_is_later p acts (fetched_at p s heard) t log.1 in (
      rest.0,
      prefix_over s.heard heard t.heard log.0.later (prefix_front heard ((p.hub_number, hub_events.Fetch p.host) ∷ []) t.heard rest.1),
    )
log_is_later p (Hears heard ∷ acts) s t log =
    let rest = log_is_later p acts (fetched_at p s heard) t log.1 in (
      rest.0,
      prefix_over s.heard heard t.heard log.0.later (prefix_front heard ((p.hub_number, hub_events.Fetch p.host) ∷ []) t.heard rest.1),
    )

abbrev pub IsNoFetch : HubEvent → Type 0
IsNoFetch (hub_events.Fetch host) = ⊥
IsNoFetch e = Unit {0}

posts_are : (fs : List Frame) → Each IsNoFetch (map hub_events.Post fs)
posts_are [] = tt
posts_are (f ∷ fs) = (tt, posts_are fs)

-- weights that see fetches alone
pub record IsOfFetches (w : List (ℕ × HubEvent) → HubEvent → ℕ) : Type 0 where
  pub post : (before : List (ℕ × HubEvent)) (f : Frame) → w before (hub_events.Post f) ≡ 0
  pub finished : (before : List (ℕ × HubEvent)) → w before hub_events.Finished ≡ 0
  pub halt : (before : List (ℕ × HubEvent)) → w before hub_events.Halt ≡ 0

module _ (w : List (ℕ × HubEvent) → HubEvent → ℕ) (of : IsOfFetches w) where
  light_one : (before : List (ℕ × HubEvent)) (e : HubEvent) → IsNoFetch e → w before e ≡ 0
  light_one before (hub_events.Post f) no_fetch = of.post before f
  light_one before (hub_events.Fetch host) no_fetch = absurd no_fetch
  light_one before hub_events.Finished no_fetch = of.finished before
  light_one before hub_events.Halt no_fetch = of.halt before

  light : (ps : List (Place HubEvent)) → Each IsNoFetch (map (λ (p : Place HubEvent). p.1) ps) → weight w ps ≡ 0
  light [] none = refl
  light (p ∷ ps) none = let one = light_one p.0 p.1 none.0 in let rest = light ps none.1 in omega arith

  -- what lies between, without a fetch
  pub light_between : (n : ℕ) (xs ys : List (ℕ × HubEvent)) (more : List HubEvent) → IsPrefix xs ys
      → events_of n ys ≡ events_of n xs ++ more → Each IsNoFetch more → weight w (places n [] ys) ≡ weight w (places n [] xs)
  light_between n xs ys more pre is none =
      let rest = pre.0 in
      let same : events_of n rest ≡ more =
      append_same (events_of n xs) (events_of n rest) more (sym (events_append n xs rest) ∙ (ap (events_of n) pre.1 ∙ is)) in
      let zero : weight w (places n xs rest) ≡ 0 =
      light (places n xs rest) (subst (Each IsNoFetch) (sym (events_at_places n xs rest ∙ same)) none) in
      let sum : weight w (places n [] xs ++ places n xs rest) ≡ weight w (places n [] xs) + weight w (places n xs rest) =
      added_append (λ (p : Place HubEvent). w p.0 p.1) (places n [] xs) (places n xs rest) in
      let whole : weight w (places n [] ys) ≡ weight w (places n [] xs ++ places n xs rest) =
      ap (λ l. weight w (places n [] l)) (sym pre.1) ∙ ap (weight w) (places_append n [] xs rest) in
      whole ∙ (sum ∙ ap (λ k. weight w (places n [] xs) + k) zero ∙ plus_none (weight w (places n [] xs)))
    where
      plus_none : (k : ℕ) → k + 0 ≡ k
      plus_none k = omega arith

  pub heavy_last : (n : ℕ) (xs : List (ℕ × HubEvent)) (e : HubEvent)
      → weight w (places n [] (xs ++ (n, e) ∷ [])) ≡ weight w (places n [] xs) + w xs e
  heavy_last n xs e =
      ap (weight w) (placed_last n xs e)
      ∙ (added_append (λ (p : Place HubEvent). w p.0 p.1) (places n [] xs) ((xs, e) ∷ []) ∙ plus (weight w (places n [] xs)) (w xs e))
    where
      plus : (a b : ℕ) → a + (b + 0) ≡ a + b
      plus a b = omega arith

  -- so much of what it sent behind what it has heard, none of it fetches
  abbrev Behind : ℕ → Stand → Type 0
  Behind n s = (more : List HubEvent) × (s.sent ≡ events_of n s.heard ++ more) × Each IsNoFetch more

  module _ (p : Berth) where
    after_fetch : (s : Stand) (heard : List (ℕ × HubEvent)) (posted : List HubEvent) → Each IsNoFetch posted
        → events_of p.hub_number heard ≡ s.sent
        → (s.sent ++ hub_events.Fetch p.host ∷ []) ++ posted
        ≡ events_of p.hub_number (heard ++ (p.hub_number, hub_events.Fetch p.host) ∷ []) ++ posted
    after_fetch s heard posted none mine =
        ap (λ l. l ++ posted) (sym (events_last p.hub_number heard (hub_events.Fetch p.host) s.sent mine))

    step : (s : Stand) (heard : List (ℕ × HubEvent)) (b : Behind p.hub_number s) → IsPrefix s.heard heard
        → events_of p.hub_number heard ≡ s.sent
        → weight w (places p.hub_number [] (heard ++ (p.hub_number, hub_events.Fetch p.host) ∷ []))
        ≡ weight w (places p.hub_number [] s.heard) + w heard (hub_events.Fetch p.host)
    step s heard b later mine =
        let n = p.hub_number in
        heavy_last n heard (hub_events.Fetch p.host)
        ∙ ap (λ k. k + w heard (hub_events.Fetch p.host)) (light_between n s.heard heard b.0 later (mine ∙ b.1) b.2)

    pub fetched : (history : List (ℕ × HubEvent)) (last : List HubEvent) (acts : List Action) (s t : Stand) → IsLog p s acts t
        → Behind p.hub_number s → IsPrefix t.heard history → events_of p.hub_number history ≡ t.sent ++ last
        → Each IsNoFetch last
        → weight w (places p.hub_number [] history)
        ≡ weight w (places p.hub_number [] s.heard) + weight w (fetched_places p.host acts)
    fetched history last [] s t log b pre whole none =
        let n = p.hub_number in
        let more : List HubEvent = b.0 ++ last in
        let is : events_of n history ≡ events_of n s.heard ++ more =
        whole ∙ (ap (λ l. l ++ last) (log.3 ∙ b.1) ∙ append_assoc (events_of n s.heard) b.0 last) in
        light_between n s.heard history more (prefix_over s.heard t.heard history log.1 pre) is (each_append IsNoFetch b.0 last b.2 none)
        ∙ plus_none (weight w (places n [] s.heard))
      where
        plus_none : (k : ℕ) → k ≡ k + 0
        plus_none k = omega arith
    fetched history last (Enters before e posted ∷ acts) s t log b pre whole none =
        let ps = posts p.station before e posted in
        let behind : Behind p.hub_number (entered_at p s before e posted) = (
          b.0 ++ ps,
          ap (λ l. l ++ ps) b.1 ∙ append_assoc (events_of p.hub_number s.heard) b.0 ps,
          each_append IsNoFetch b.0 ps b.2 (posts_are (take posted (frames_at p.station before e))),
        ) in
        fetched history last acts (entered_at p s before e posted) t log.1 behind pre whole none
    fetched history last (Delivers heard frame before posted ∷ acts) s t log b pre whole none =
        let n = p.hub_number in
        let e = events.Deliver frame in
        let ps = posts p.station before e posted in
        let ps_are : Each IsNoFetch ps = posts_are (take posted (frames_at p.station before e)) in
        let at = log.0.0 in
        let behind : Behind n (entered_at p (fetched_at p s heard) before e posted) = (ps, after_fetch s heard ps ps_are at.mine, ps_are) in
        let rest = fetched history last acts (entered_at p (fetched_at p s heard) before e posted) t log.1 behind pre whole none in
        let one = step s heard b at.later at.mine in
        omega arith
    fetched history last (Drops heard frame ∷ acts) s t log b pre whole none =
        let n = p.hub_number in
        let at = log.0 in
        let behind : Behind n (fetched_at p s heard) =
        ([], sym (append-nil (s.sent ++ hub_events.Fetch p.host ∷ [])) ∙ after_fetch s heard [] tt at.mine, tt) in
        let rest = fetched history last acts (fetched_at p s heard) t log.1 behind pre whole none in
        let one = step s heard b at.later at.mine in
        omega arith
    fetched history last (Hears heard ∷ acts) s t log b pre whole none =
        let n = p.hub_number in
        let at = log.0 in
        let behind : Behind n (fetched_at p s heard) =
        ([], sym (append-nil (s.sent ++ hub_events.Fetch p.host ∷ [])) ∙ after_fetch s heard [] tt at.mine, tt) in
        let rest = fetched history last acts (fetched_at p s heard) t log.1 behind pre whole none in
        let one = step s heard b at.later at.mine in
        omega arith

-- All that it entered at the hub, in order.
abbrev pub sends : StationHistory → ℕ → List Action → List HubEvent
sends o host [] = []
sends o host (Enters before e posted ∷ acts) = posts o before e posted ++ sends o host acts
sends o host (Delivers heard frame before posted ∷ acts) =
    hub_events.Fetch host ∷ (posts o before (events.Deliver frame) posted ++ sends o host acts)
sends o host (Drops heard frame ∷ acts) = hub_events.Fetch host ∷ sends o host acts
sends o host (Hears heard ∷ acts) = hub_events.Fetch host ∷ sends o host acts

pub sent_is : (p : Berth) (acts : List Action) (s t : Stand) → IsLog p s acts t → t.sent ≡ s.sent ++ sends p.station p.host acts
sent_is p [] s t log = log.3 ∙ sym (append-nil s.sent)
sent_is p (Enters before e posted ∷ acts) s t log =
    let ps = posts p.station before e posted in
    sent_is p acts (entered_at p s before e posted) t log.1 ∙ append_assoc s.sent ps (sends p.station p.host acts)
sent_is p (Delivers heard frame before posted ∷ acts) s t log =
    let e = events.Deliver frame in
    let ps = posts p.station before e posted in
    let rest = sends p.station p.host acts in
    let fetch = hub_events.Fetch p.host in
    sent_is p acts (entered_at p (fetched_at p s heard) before e posted) t log.1
    ∙ (append_assoc (s.sent ++ fetch ∷ []) ps rest ∙ append_assoc s.sent (fetch ∷ []) (ps ++ rest))
sent_is p (Drops heard frame ∷ acts) s t log =
    sent_is p acts (fetched_at p s heard) t log.1 ∙ append_assoc s.sent (hub_events.Fetch p.host ∷ []) (sends p.station p.host acts)
sent_is p (Hears heard ∷ acts) s t log =
    sent_is p acts (fetched_at p s heard) t log.1 ∙ append_assoc s.sent (hub_events.Fetch p.host ∷ []) (sends p.station p.host acts)

-- what the hub's history has of it, each event by itself
pub weight_of_events : {E : Type 0} (u : E → ℕ) (n : ℕ) (xs : List (ℕ × E))
    → weight (λ before e. u e) (places n [] xs) ≡ added u (events_of n xs)
weight_of_events {E} u n xs = sym (added_map u (λ (p : Place E). p.1) (places n [] xs)) ∙ ap (added u) (events_at_places n [] xs)
