-- What a station takes was fetched for it, what was fetched was posted, and what was posted some station made, once.
use Rattle.std.proofs.Common.{◌≡◌, ℕ, ◌+◌, ◌*◌, ◌≤◌, ◌==◌, ◌&&◌, ◌||◌, eqb-true, eq-eqb, Bool, true, false, List, [], ◌∷◌, cond, refl, sym, ap, ◌∙◌, subst, arith, inl, inr}
use Rattle.std.specs.List.{list_any}
use Rattle.std.proofs.lemmas.Bool.{or_right}
use Rattle.vk_types.specs.Types.{StationEvent}
use Rattle.vk_base.proofs.SettingsLemmas.{among_stations}
use Rattle.vk_base.specs.Settings.{Settings, has_station, stations_of}
use Rattle.vk_hub.specs.declared.event.HubEvent.{HubEvent}
use Rattle.vk_hub.specs.Counting.{all_posts, copies, gets}
use Rattle.vk_hub.specs.Counting as counting
use Rattle.vk_hub.specs.Hubs.{HubLog, traffic_of}
use Rattle.vk_hub.specs.Links.{Frame, header_of, is_addressed}
use Rattle.vk_hub.proofs.Counts.{counted}
use Rattle.vk_port.specs.Stations.{frames_at}
use Rattle.vk_rules.specs.Each.{Each}
use Rattle.v_run.specs.Closed.{AreClosed}
use Rattle.v_run.specs.Outcomes.{over}
use Rattle.v_run.specs.Passages.{EntersOwn, IsLast, Passage, fresh_station, host_of}
use Rattle.v_run.proofs.Totals.{added, added_same, total, weight}
use Rattle.v_run.proofs.Spread.{AllStandOnce, by_hosts}
use Rattle.v_run.proofs.Heard.{sends}
use Rattle.v_run.proofs.Logs.{entered_places, fetched_places}
use Rattle.v_run.proofs.Sums.{IsDone, added_most_each, added_same_each, all_done, at_station, events_at_hub, fetches_at_hub}
use Rattle.v_run.proofs.Counts.{delivered_was_fetched, delivers, gets_are, gets_of_fetches, posts_are, sends_few}
use Rattle.v_run.proofs.Once.{stands_once}
use Rattle.v_run.proofs.Roles.{own_role}

pub all_once : (c : Settings) (gs : List Passage) → Each (λ g. has_station c.specs (host_of g) ≡ true) gs
    → AllStandOnce host_of (stations_of c.specs) gs
all_once c [] there = tt
all_once c (g ∷ gs) there = (stands_once c.specs (host_of g) there.0, all_once c gs there.1)

pub added_over : (f : ℕ → ℕ) (hs : List ℕ) → added f hs ≡ over f hs
added_over f [] = refl
added_over f (h ∷ hs) = ap (λ n. f h + n) (added_over f hs)

-- sums over all stations, of which each is in the list
each_among : (P : ℕ → Type 0) (hs : List ℕ) → ((h : ℕ) → list_any (λ k. k == h) hs ≡ true → P h) → Each P hs
each_among P [] all = tt
each_among P (h ∷ hs) all = (
  all h (ap (λ b. b || list_any (λ k. k == h) hs) (eq-eqb h h refl)),
  each_among P hs (λ k any. all k (or_right (h == k) (list_any (λ x. x == k) hs) any)),
)

pub each_station : (P : ℕ → Type 0) (c : Settings) → ((h : ℕ) → has_station c.specs h ≡ true → P h) → Each P (stations_of c.specs)
each_station P c all = each_among P (stations_of c.specs) (λ h any. all h (sym (among_stations c.specs h) ∙ any))

pub times_most : (b : Bool) (m n l : ℕ) → m ≤ n → l ≤ cond {A = ℕ} b 1 2 * m → l ≤ cond {A = ℕ} b 1 2 * n
times_most true m n l low few = omega arith
times_most false m n l low few = omega arith

module _ (c : Settings) (o : HubLog) (histories : ℕ → List (ℕ × StationEvent)) (heard : List (ℕ × HubEvent)) (gs : List Passage)
    (k : AreClosed c o histories heard gs) where
  abbrev D : Passage → Type 0
  D = IsDone c o histories heard

  pub own : (g : Passage) → D g → EntersOwn g.actions
  own g d = own_role g.role (fresh_station c (host_of g)) g.actions d.0.role

  module _ (test : Frame → Bool) (h : ℕ) where
    -- at one passage
    taken_by : (g : Passage) → D g → (b : Bool) → (host_of g == h) ≡ b
        → cond b (weight (λ before e. delivers test e) (entered_places g.actions)) 0
        ≤ weight (λ before e. gets test h o.programs (traffic_of o before) e) (fetched_places (host_of g) g.actions)
    taken_by g d true is =
        let same : host_of g ≡ h = eqb-true (host_of g) h is in
        let it = delivered_was_fetched test g.berth g.actions _ g.left d.0.log (own g d) in
        let P : ℕ × HubLog → Type 0 = λ x.
        weight (λ before e. delivers test e) (entered_places g.actions)
        ≤ weight (λ before e. gets test x.0 x.1.programs (traffic_of x.1 before) e) (fetched_places (host_of g) g.actions) in
        subst P (λ i. (same i, d.0.hub i)) it
    taken_by g d false is = omega arith

    taken_most : has_station c.specs h ≡ true → total (λ before e. delivers test e) [] (histories h)
        ≤ copies o.plan * all_posts test h heard
    taken_most there =
        let w : List (ℕ × HubEvent) → HubEvent → ℕ = λ before e. gets test h o.programs (traffic_of o before) e in
        let here = at_station c o histories heard gs k (λ before e. delivers test e) h there in
        let most = added_most_each D (λ g. cond (host_of g == h) (weight (λ before e. delivers test e) (entered_places g.actions)) 0)
        (λ g. weight w (fetched_places (host_of g) g.actions)) gs (λ g d. taken_by g d (host_of g == h) refl)
        (all_done c o histories heard gs k) in
        let hub = fetches_at_hub c o histories heard gs k w (gets_of_fetches o test h) in
        let all = gets_are o test h [] heard in
        let law = counted o heard test h in
        omega arith

    -- a frame that is meant, for this station
    abbrev meant : Frame → ℕ
    meant f = cond (test f && is_addressed (header_of f) h) 1 0

    abbrev made : ℕ → List (ℕ × StationEvent) → StationEvent → ℕ
    made q before e = added meant (frames_at (fresh_station c q) before e)

    no_last : (last : List HubEvent) → IsLast last → added (counting.posts test h) last ≡ 0
    no_last last (inl is) = ap (added (counting.posts test h)) is
    no_last last (inr (inl is)) = ap (added (counting.posts test h)) is
    no_last last (inr (inr is)) = ap (added (counting.posts test h)) is

    posted_by : (g : Passage) → D g
        → added (counting.posts test h) (sends (fresh_station c (host_of g)) (host_of g) g.actions) + added (counting.posts test h) g.last
        ≤ weight (made (host_of g)) (entered_places g.actions)
    posted_by g d =
        let few = sends_few (counting.posts test h) meant (λ f. refl) (fresh_station c (host_of g)) (host_of g) g.actions in
        let none = no_last g.last d.0.last in
        omega arith

    made_at : (g : Passage) (q : ℕ) (b : Bool) → (host_of g == q) ≡ b
        → cond b (weight (made (host_of g)) (entered_places g.actions)) 0 ≡ cond b (weight (made q) (entered_places g.actions)) 0
    made_at g q true is = ap (λ (x : ℕ). weight (made x) (entered_places g.actions)) (eqb-true (host_of g) q is)
    made_at g q false is = refl

    made_total : (q : ℕ) → has_station c.specs q ≡ true
        → added (λ g. cond (host_of g == q) (weight (made (host_of g)) (entered_places g.actions)) 0) gs ≡ total (made q) [] (histories q)
    made_total q there =
        added_same (λ g. cond (host_of g == q) (weight (made (host_of g)) (entered_places g.actions)) 0)
        (λ g. cond (host_of g == q) (weight (made q) (entered_places g.actions)) 0) gs (λ g. made_at g q (host_of g == q) refl)
        ∙ sym (at_station c o histories heard gs k (made q) q there)

    pub posted_most : all_posts test h heard ≤ added (λ q. total (made q) [] (histories q)) (stations_of c.specs)
    posted_most =
        let all = posts_are test h [] heard in
        let hub = events_at_hub c o histories heard gs k (counting.posts test h) in
        let most = added_most_each D
        (λ g. added (counting.posts test h) (sends (fresh_station c (host_of g)) (host_of g) g.actions) + added (counting.posts test
        h) g.last)
        (λ g. weight (made (host_of g)) (entered_places g.actions)) gs posted_by (all_done c o histories heard gs k) in
        let parts = by_hosts host_of (λ g. weight (made (host_of g)) (entered_places g.actions)) (stations_of c.specs) gs
        (all_once c gs k.stations) in
        let each = added_same_each (λ q. has_station c.specs q ≡ true)
        (λ q. added (λ g. cond (host_of g == q) (weight (made (host_of g)) (entered_places g.actions)) 0) gs)
        (λ q. total (made q) [] (histories q)) (stations_of c.specs) made_total (each_station _ c (λ q there. there)) in
        omega arith

    pub taken_was_made : has_station c.specs h ≡ true
        → total (λ before e. delivers test e) [] (histories h)
        ≤ copies o.plan * added (λ q. total (made q) [] (histories q)) (stations_of c.specs)
    taken_was_made there =
        times_most (o.plan.double == 0) (all_posts test h heard) (added (λ q. total (made q) [] (histories q)) (stations_of c.specs))
        (total (λ before e. delivers test e) [] (histories h)) posted_most (taken_most there)
