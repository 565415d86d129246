-- The hub's history is short beside the frames that the station of a node emitted: each is posted once, and fetched at most twice for
-- each of at most 15 other stations; what else there is, is few.
use Rattle.std.proofs.Common.{◌≡◌, ◌≢◌, ℕ, ◌+◌, ◌*◌, ◌≤◌, ◌==◌, ◌&&◌, eqb-true, Bool, true, false, List, [], ◌∷◌, ◌++◌, cond, length, refl, sym, ap, ◌∙◌, arith, inl, inr}
use Rattle.std.proofs.Math.Nat.{mul-le-mul_right}
use native.Mathlib.Nat.{add-mul, one-mul}
use Rattle.vk_types.specs.Types.{StationEvent}
use Rattle.vk_base.specs.Settings.{AreLawful, Settings, has_station, stations_of}
use Rattle.vk_host.specs.Sealed.{sealed}
use Rattle.vk_hub.specs.declared.event.Fetched.{Fetched}
use Rattle.vk_hub.specs.declared.event.Fetched.TheVariants as fetched
use Rattle.vk_hub.specs.declared.event.HubEvent.{HubEvent}
use Rattle.vk_hub.specs.declared.event.HubEvent.TheVariants as hub_events
use Rattle.vk_hub.specs.Counting.{all_gets, all_posts, gets, hits}
use Rattle.vk_hub.specs.Hubs.{HubLog, fetched_from, others, traffic_of}
use Rattle.vk_hub.specs.Links.{Frame, header_of, is_addressed}
use Rattle.vk_hub.proofs.Counts.{counted}
use Rattle.vk_port.specs.Ports.{Action, Enters, Delivers, Drops, Hears}
use Rattle.vk_port.specs.Stations.{StationHistory, entries_at, entry_at, frames_at}
use Rattle.vk_rules.specs.Each.{Each}
use Rattle.vk_rules.specs.Entries.{Entry}
use Rattle.vk_rules.specs.Laws.{AllRise}
use Rattle.vk_rules.proofs.Lists.{each_behind}
use Rattle.v_run.specs.Jobs.{IsJobEnd}
use Rattle.v_run.specs.Outcomes.{frames_in}
use Rattle.v_run.specs.Passages.{EntersOwn, IsLast, Passage, fresh_station, host_of, lost_count}
use Rattle.v_run.specs.Runs.{passages_of}
use Rattle.v_run.proofs.Counts.{delivers, fetch_count, fetches_counted, gets_are, gets_of_fetches, other, others_are, sends_few}
use Rattle.v_run.proofs.Ended.{each_of, of_each}
use Rattle.v_run.proofs.Entries.{by_entries, frames_sum, total_same}
use Rattle.v_run.proofs.Limits.{added_ones, few_lasts, few_losses, last_few, length_map}
use Rattle.v_run.proofs.Logs.{entered_places}
use Rattle.v_run.proofs.Once.{stands_once}
use Rattle.v_run.proofs.Roles.{own_role}
use Rattle.v_run.proofs.Sound.{AreOpen}
use Rattle.v_run.proofs.Spread.{added_swap}
use Rattle.v_run.proofs.Stations.{few_stations}
use Rattle.v_run.proofs.Sums.{added_most_each}
use Rattle.v_run.proofs.Totals.{added, added_append, added_sum, total, weight}
use Rattle.v_node.specs.Closed.{IsNodeClosed}
use Rattle.v_node.specs.Jobs.{AreNodeJobs, HaltsAtMost, IsProgramEnd, NodeEnd, passages_in}
use Rattle.v_node.specs.Laws.{IsForOthers}
use Rattle.v_node.specs.Links.{AreErrands, Errand, HubStand, OnlyBrings, after_errand, is_stop, nothing_heard, stop_count}
use Rattle.v_node.proofs.Carried.{fetches_of}
use Rattle.v_node.proofs.Own.{any, meant, no_deliveries, no_gets, posts_most}
use Rattle.v_node.proofs.Sums.{DHere, all_here, at_hub, at_station, carrier_fetched, events_at_hub, sent_by}

-- What the link's port sends are posts alone.
no_fetches : (acts : List Action) → OnlyBrings acts → fetch_count acts ≡ 0
no_fetches [] only = refl
no_fetches (Enters before e posted ∷ acts) only = no_fetches acts only.1
no_fetches (Delivers heard frame before posted ∷ acts) only = absurd only
no_fetches (Drops heard frame ∷ acts) only = absurd only
no_fetches (Hears heard ∷ acts) only = absurd only

no_other : (last : List HubEvent) → HaltsAtMost last → added other last ≡ 0
no_other last (inl is) = ap (added other) is
no_other last (inr is) = ap (added other) is

one_last : (last : List HubEvent) → IsLast last → length last ≤ 1
one_last last (inl is) = let n = ap length is in omega arith
one_last last (inr (inl is)) = let n = ap length is in omega arith
one_last last (inr (inr is)) = let n = ap length is in omega arith

-- Each errand gave a frame, or was answered that the hub has ended.
abbrev is_given : Fetched → ℕ
is_given (fetched.Frame frame) = 1
is_given f = 0

given_or_stop : (f : Fetched) → f ≢ fetched.Nothing → 1 ≤ is_given f + is_stop f
given_or_stop (fetched.Frame frame) some = omega arith
given_or_stop fetched.Nothing some = absurd (some refl)
given_or_stop fetched.Stopped some = omega arith

each_errand : (es : List Errand) (m : ℕ) (o : HubLog) (s t : HubStand) → AreErrands m o s es t
    → added other (fetches_of es) ≤ added (λ (e : Errand). is_given e.answer) es + stop_count es
each_errand [] m o s t are = omega arith
each_errand (e ∷ es) m o s t are =
    let one = given_or_stop e.answer are.0.some in
    let rest = each_errand es m o (after_errand m o s e) t are.1 in
    omega arith

-- one that gave a frame is a fetch of its station
hit_by : (specs : Settings) (h : ℕ) (f : Fetched) → has_station specs.specs h ≡ true
    → is_given f ≤ added (λ q. cond (h == q) (hits any q f) 0) (stations_of specs.specs)
hit_by c h (fetched.Frame frame) there = let one = stands_once c.specs h there 1 in omega arith
hit_by c h fetched.Nothing there = omega arith
hit_by c h fetched.Stopped there = omega arith

all_hit : (c : Settings) (es : List Errand) (m : ℕ) (o : HubLog) (s t : HubStand) → AreErrands m o s es t
    → Each (λ (e : Errand). has_station c.specs e.host ≡ true) es
    → added (λ (e : Errand). is_given e.answer) es
    ≤ added (λ (e : Errand). added (λ q. gets any q o.programs (traffic_of o e.before) (hub_events.Fetch e.host)) (stations_of c.specs)) es
all_hit c [] m o s t are there = omega arith
all_hit c (e ∷ es) m o s t are there =
    let P : Fetched → Type 0 = λ f. is_given f ≤ added (λ q. cond (e.host == q) (hits any q f) 0) (stations_of c.specs) in
    let hit : is_given e.answer ≤ added (λ q. cond (e.host == q) (hits any q e.answer) 0) (stations_of c.specs) =
    hit_by c e.host e.answer there.0 in
    let same : added (λ q. cond (e.host == q) (hits any q (fetched_from o.programs (traffic_of o e.before) e.host)) 0) (stations_of c.specs)
    ≡ added (λ q. cond (e.host == q) (hits any q e.answer) 0) (stations_of c.specs) =
    ap (λ f. added (λ q. cond (e.host == q) (hits any q f) 0) (stations_of c.specs)) are.0.answered in
    let rest = all_hit c es m o (after_errand m o s e) t are.1 there.1 in
    omega arith

-- sums over stations
bounded : (f : ℕ → ℕ) (m : ℕ) (hs : List ℕ) → ((q : ℕ) → f q ≤ m) → added f hs ≤ length hs * m
bounded f m [] few = omega arith
bounded f m (h ∷ hs) few =
    let one = few h in let rest = bounded f m hs few in omega (arith, add-mul 1 (length hs) m, one-mul m)

but_one : (b : Bool) (x m : ℕ) → x ≤ m → (b ≡ true → x ≡ 0) → x + cond b m 0 ≤ m
but_one true x m few none = let zero = none refl in omega arith
but_one false x m few none = omega arith

all_but_one : (c : Settings) (host m : ℕ) (f : ℕ → ℕ) → AreLawful c → has_station c.specs host ≡ true → ((q : ℕ) → f q ≤ m) → f host ≡ 0
    → added f (stations_of c.specs) ≤ 15 * m
all_but_one c host m f lawful there few none =
    let hs : List ℕ = stations_of c.specs in
    let one = stands_once c.specs host there m in
    let sum = added_sum f (λ q. cond (host == q) m 0) hs in
    let all = bounded (λ q. f q + cond (host == q) m 0) m hs
    (λ q. but_one (host == q) (f q) m (few q) (λ is. ap f (sym (eqb-true host q is)) ∙ none)) in
    let count : length hs * m ≤ 16 * m = mul-le-mul_right m (few_stations c lawful) in
    omega arith

twice : (b : Bool) (l m n : ℕ) → l ≤ cond {A = ℕ} b 1 2 * m → m ≤ n → l ≤ 2 * n
twice true l m n few most = omega arith
twice false l m n few most = omega arith

total_most : {E : Type 0} (w v : List (ℕ × E) → E → ℕ) (acc xs : List (ℕ × E)) → ((before : List (ℕ × E)) (e : E) → w before e ≤ v before e)
    → total w acc xs ≤ total v acc xs
total_most w v acc [] most = omega arith
total_most w v acc (x ∷ xs) most =
    let one = most acc x.1 in let rest = total_most w v (acc ++ x ∷ []) xs most in omega arith

one_at_most : (b : Bool) → cond {A = ℕ} b 1 0 ≤ 1
one_at_most true = omega arith
one_at_most false = omega arith

meant_few : (q : ℕ) (fs : List Frame) → added (meant q) fs ≤ added (λ (f : Frame). 1) fs
meant_few q [] = omega arith
meant_few q (f ∷ fs) =
    let one = one_at_most (any f && is_addressed (header_of f) q) in let rest = meant_few q fs in omega arith

module _ (c : Settings) (host : ℕ) (o : HubLog) (rounds : ℕ) (history : List (ℕ × StationEvent)) (heard : List (ℕ × HubEvent)) (n : NodeEnd)
    (k : IsNodeClosed c host o history heard n) (jobs : AreNodeJobs c host o rounds n)
    (rise : AllRise host (entries_at (fresh_station c host) history)) (opens : AreOpen (entries_at (fresh_station c host) history))
    (for_others : Each (λ (e : Entry). Each (IsForOthers host) e.frames) (entries_at (fresh_station c host) history))
    (lawful : AreLawful c) (there : has_station c.specs host ≡ true) where
  abbrev O : StationHistory
  O = fresh_station c host

  abbrev F : ℕ
  F = frames_in (entries_at O history)

  abbrev ps : List Passage
  ps = passages_of n.programs

  abbrev H : Passage → Type 0
  H = DHere c host o history heard n k

  here : Each H (passages_in n)
  here = all_here c host o history heard n k

  -- the frames that the station made
  abbrev ones : List (ℕ × StationEvent) → StationEvent → ℕ
  ones before e = added (λ (f : Frame). 1) (frames_at O before e)

  ones_are : total ones [] history ≡ F
  ones_are =
      total_same ones (λ before e. length (entry_at O before e).frames) [] history
      (λ before e. added_ones (frames_at O before e) ∙ length_map sealed (entry_at O before e).frames)
      ∙ (by_entries c host history (λ (e : Entry). length e.frames) ∙ sym (frames_sum (entries_at O history)))

  -- what is fetched for a station was posted for it
  abbrev fetches_for : ℕ → List (ℕ × HubEvent) → HubEvent → ℕ
  fetches_for q before e = gets any q o.programs (traffic_of o before) e

  abbrev carried_for : ℕ → ℕ
  carried_for q = added (λ (e : Errand). fetches_for q e.before (hub_events.Fetch e.host)) n.link.errands

  carried_few : (q : ℕ) → carried_for q ≤ total (fetches_for q) [] heard
  carried_few q =
      let all = at_hub c host o history heard n k (fetches_for q) in
      let carrier = carrier_fetched c host o history heard n k (fetches_for q) (gets_of_fetches o any q) jobs.link in
      omega arith

  fetched_few : (q : ℕ) → total (fetches_for q) [] heard ≤ 2 * F
  fetched_few q =
      let are = gets_are o any q [] heard in
      let law = counted o heard any q in
      let posted = posts_most c host o history heard n k jobs.link rise opens for_others any q in
      let few = total_most (λ before e. added (meant q) (frames_at O before e)) ones [] history
      (λ before e. meant_few q (frames_at O before e)) in
      let made = ones_are in
      let it : all_gets any q o.plan o.programs (traffic_of o []) heard ≤ 2 * F =
      twice (o.plan.double == 0) (all_gets any q o.plan o.programs (traffic_of o []) heard) (all_posts any q heard) F law (omega arith) in
      omega arith

  errands_few : added other (fetches_of n.link.errands) ≤ 30 * F + 1
  errands_few =
      let l = n.link in
      let each = each_errand l.errands l.carrier o nothing_heard l.reached k.link.errands in
      let hit = all_hit c l.errands l.carrier o nothing_heard l.reached k.link.errands jobs.link.stations in
      let swap = added_swap (λ (e : Errand) (q : ℕ). fetches_for q e.before (hub_events.Fetch e.host)) l.errands (stations_of c.specs) in
      let none = no_gets c host o history heard n k jobs.link rise opens for_others in
      let own : carried_for host ≡ 0 = let few = carried_few host in omega arith in
      let all = all_but_one c host (2 * F) carried_for lawful there
      (λ q. let one = carried_few q in let two = fetched_few q in omega arith) own in
      let stops = jobs.link.stops in
      omega arith

  -- what the ports of programs and clock sent
  sent_few : (g : Passage) → H g → sent_by c host o history heard n k other g
      ≤ (weight ones (entered_places g.actions) + weight (λ before e. delivers any e) (entered_places g.actions))
      + (lost_count g.actions + length g.last)
  sent_few g d =
      let own : EntersOwn g.actions = own_role g.role (fresh_station c (host_of g)) g.actions d.0.0.role in
      let few = sends_few other (λ f. 1) (λ f. refl) O host g.actions in
      let count = fetches_counted g.actions own in
      let last = last_few g.last in
      omega arith

  pub others_few : others heard ≤ 31 * F + 1600
  others_few =
      let G = passages_in n in
      let all = others_are [] heard in
      let hub = events_at_hub c host o history heard n k other in
      let most = added_most_each H (sent_by c host o history heard n k other)
      (λ (g : Passage). (weight ones (entered_places g.actions) + weight (λ before e. delivers any e) (entered_places g.actions))
      + (lost_count g.actions + length g.last)) G sent_few here in
      let one = added_sum (λ (g : Passage). weight ones (entered_places g.actions) + weight (λ before e. delivers any e) (entered_places
      g.actions)) (λ (g : Passage). lost_count g.actions + length g.last) G in
      let two = added_sum (λ (g : Passage). weight ones (entered_places g.actions))
      (λ (g : Passage). weight (λ before e. delivers any e) (entered_places g.actions)) G in
      let three = added_sum (λ (g : Passage). lost_count g.actions) (λ (g : Passage). length g.last) G in
      let taken = no_deliveries c host o history heard n k jobs.link rise opens for_others in
      let lost_parts = added_append (λ (g : Passage). lost_count g.actions) ps (n.clock.passage ∷ []) in
      let last_parts = added_append (λ (g : Passage). length g.last) ps (n.clock.passage ∷ []) in
      let ends : Each (IsJobEnd c) n.programs =
      each_of _ n.programs (λ j among. (of_each (IsProgramEnd c) n.programs j jobs.programs among).job) in
      let losses = few_losses c n.programs ends in
      let lasts = few_lasts c n.programs ends in
      let clock_losses = jobs.clock.losses in
      let clock_last = one_last n.clock.passage.last (each_behind H ps (n.clock.passage ∷ []) here).0.0.0.last in
      let few = jobs.few in
      let link = sends_few other (λ f. 1) (λ f. refl) O host n.link.actions in
      let no_fetch = no_fetches n.link.actions k.link.brings in
      let link_last = no_other n.link.last jobs.link.last in
      let errands = errands_few in
      let rest = no_other n.link.rest jobs.link.rest in
      let station = at_station c host o history heard n k ones in
      let made = ones_are in
      omega arith
