-- What passages deliver they fetched, what was fetched was posted, and what they post they made.
use Rattle.std.proofs.Common.{◌≡◌, ℕ, zero, suc, ◌+◌, ◌*◌, ◌≤◌, ◌==◌, eq-eqb, Bool, true, false, List, [], ◌∷◌, ◌++◌, map, take, cond, refl, ap, ◌∙◌, arith}
use native.Mathlib.Nat.{add-mul, one-mul}
use Rattle.vk_types.specs.Types.{StationEvent}
use Rattle.vk_base.specs.declared.event.StationEvent.TheVariants as events
use Rattle.vk_hub.specs.declared.event.Fetched.{Fetched}
use Rattle.vk_hub.specs.declared.event.HubEvent.{HubEvent}
use Rattle.vk_hub.specs.declared.event.HubEvent.TheVariants as hub_events
use Rattle.vk_hub.specs.Counting.{all_gets, all_posts, gets, hits}
use Rattle.vk_hub.specs.Counting as counting
use Rattle.vk_hub.specs.Hubs.{HubLog, Traffic, fetched_from, first_traffic, is_halt, others, traffic_of}
use Rattle.vk_hub.specs.Links.{Frame}
use Rattle.vk_hub.proofs.Entries.{traffic_more}
use Rattle.vk_port.specs.Ports.{Action, Enters, Delivers, Drops, Hears, IsLog, Berth, Stand, entered_at, fetched_at, posts}
use Rattle.vk_port.specs.Stations.{StationHistory, frames_at}
use Rattle.v_run.specs.Passages.{EntersOwn, IsOwn, lost_count}
use Rattle.v_run.proofs.Totals.{added, added_append, total, weight}
use Rattle.v_run.proofs.Heard.{IsOfFetches, sends}
use Rattle.v_run.proofs.Logs.{entered_places, fetched_places}

-- 1 where the event is the delivery of such a frame
abbrev pub delivers : (Frame → Bool) → StationEvent → ℕ
delivers test (events.Deliver f) = cond (test f) 1 0
delivers test e = 0

not_own : (test : Frame → Bool) (e : StationEvent) → IsOwn e → delivers test e ≡ 0
not_own test (events.Call pid call) own = refl
not_own test (events.Collect pid) own = refl
not_own test events.Tick own = refl
not_own test (events.Deliver f) own = absurd own

-- The hub's counts as sums over its history.

module _ (o : HubLog) where
  pub gets_of_fetches : (test : Frame → Bool) (h : ℕ) → IsOfFetches (λ before e. gets test h o.programs (traffic_of o before) e)
  gets_of_fetches test h = record { post = λ before f. refl; finished = λ before. refl; halt = λ before. refl }

  pub gets_are : (test : Frame → Bool) (h : ℕ) (acc xs : List (ℕ × HubEvent))
      → total (λ before e. gets test h o.programs (traffic_of o before) e) acc xs ≡ all_gets test h o.plan o.programs (traffic_of o acc) xs
  gets_are test h acc [] = refl
  gets_are test h acc (x ∷ xs) =
      let rest = gets_are test h (acc ++ x ∷ []) xs in
      ap (λ n. gets test h o.programs (traffic_of o acc) x.1 + n)
      (rest ∙ ap (λ (t : Traffic). all_gets test h o.plan o.programs t xs)
      (traffic_more o.plan o.programs x.0 x.1 (first_traffic o.plan o.stations) acc))

pub posts_are : (test : Frame → Bool) (h : ℕ) (acc xs : List (ℕ × HubEvent))
    → total (λ before e. counting.posts test h e) acc xs ≡ all_posts test h xs
posts_are test h acc [] = refl
posts_are test h acc (x ∷ xs) = ap (λ n. counting.posts test h x.1 + n) (posts_are test h (acc ++ x ∷ []) xs)

abbrev pub other : HubEvent → ℕ
other e = cond (is_halt e) 0 1

other_by : (b : Bool) (n : ℕ) → cond b 0 1 + n ≡ cond b n (n + 1)
other_by true n = omega arith
other_by false n = omega arith

pub others_are : (acc xs : List (ℕ × HubEvent)) → total (λ before e. other e) acc xs ≡ others xs
others_are acc [] = refl
others_are acc (x ∷ xs) = ap (λ n. other x.1 + n) (others_are (acc ++ x ∷ []) xs) ∙ other_by (is_halt x.1) (others xs)

-- Of one passage: its deliveries are of frames that it fetched.
eq_self_by : (h : ℕ) (n : ℕ) (b : Bool) → (h == h) ≡ b → cond b n 0 ≡ n
eq_self_by h n true is = refl
eq_self_by h n false is = absurd (cc (is, eq-eqb h h refl))

module _ (test : Frame → Bool) (p : Berth) where
  abbrev pub gets_here : List (ℕ × HubEvent) → HubEvent → ℕ
  gets_here before e = gets test p.host p.hub.programs (traffic_of p.hub before) e

  pub got : (heard : List (ℕ × HubEvent)) (f : Fetched) → fetched_from p.hub.programs (traffic_of p.hub heard) p.host ≡ f
      → gets_here heard (hub_events.Fetch p.host) ≡ hits test p.host f
  got heard f is =
      eq_self_by p.host (hits test p.host (fetched_from p.hub.programs (traffic_of p.hub heard) p.host)) (p.host == p.host) refl
      ∙ ap (hits test p.host) is

  pub delivered_was_fetched : (acts : List Action) (s t : Stand) → IsLog p s acts t → EntersOwn acts
      → weight (λ before e. delivers test e) (entered_places acts)
      ≤ weight (λ before e. gets test p.host p.hub.programs (traffic_of p.hub before) e) (fetched_places p.host acts)
  delivered_was_fetched [] s t log own = omega arith
  delivered_was_fetched (Enters before e posted ∷ acts) s t log own =
      let rest = delivered_was_fetched acts (entered_at p s before e posted) t log.1 own.1 in
      let none = not_own test e own.0 in
      omega arith
  delivered_was_fetched (Delivers heard frame before posted ∷ acts) s t log own =
      let rest = delivered_was_fetched acts (entered_at p (fetched_at p s heard) before (events.Deliver frame) posted) t log.1 own in
      let one = got heard _ log.0.0.answered in
      omega arith
  delivered_was_fetched (Drops heard frame ∷ acts) s t log own =
      let rest = delivered_was_fetched acts (fetched_at p s heard) t log.1 own in
      omega arith
  delivered_was_fetched (Hears heard ∷ acts) s t log own =
      let rest = delivered_was_fetched acts (fetched_at p s heard) t log.1 own in
      omega arith

-- Of one passage: what it sends.
added_take : (v : Frame → ℕ) (n : ℕ) (fs : List Frame) → added v (take n fs) ≤ added v fs
added_take v zero fs = omega arith
added_take v (suc n) [] = omega arith
added_take v (suc n) (f ∷ fs) = let rest = added_take v n fs in omega arith

abbrev pub fetch_count : List Action → ℕ
fetch_count [] = 0
fetch_count (Enters before e posted ∷ acts) = fetch_count acts
fetch_count (Delivers heard frame before posted ∷ acts) = 1 + fetch_count acts
fetch_count (Drops heard frame ∷ acts) = 1 + fetch_count acts
fetch_count (Hears heard ∷ acts) = 1 + fetch_count acts

module _ (u : HubEvent → ℕ) (v : Frame → ℕ) (same : (f : Frame) → u (hub_events.Post f) ≡ v f) (o : StationHistory) (host : ℕ) where
  added_posts : (fs : List Frame) → added u (map hub_events.Post fs) ≡ added v fs
  added_posts [] = refl
  added_posts (f ∷ fs) = let one = same f in let rest = added_posts fs in omega arith

  few_posts : (before : List (ℕ × StationEvent)) (e : StationEvent) (n : ℕ) → added u (posts o before e n) ≤ added v (frames_at o before e)
  few_posts before e n =
      let one = added_posts (take n (frames_at o before e)) in let two = added_take v n (frames_at o before e) in omega arith

  one_more : (n a : ℕ) → (1 + n) * a ≡ a + n * a
  one_more n a = omega (arith, add-mul 1 n a, one-mul a)

  pub sends_few : (acts : List Action)
      → added u (sends o host acts)
      ≤ weight (λ before e. added v (frames_at o before e)) (entered_places acts) + fetch_count acts * u (hub_events.Fetch host)
  sends_few [] = omega arith
  sends_few (Enters before e posted ∷ acts) =
      let rest = sends_few acts in
      let few = few_posts before e posted in
      let sum = added_append u (posts o before e posted) (sends o host acts) in
      omega arith
  sends_few (Delivers heard frame before posted ∷ acts) =
      let rest = sends_few acts in
      let few = few_posts before (events.Deliver frame) posted in
      let sum = added_append u (posts o before (events.Deliver frame) posted) (sends o host acts) in
      let more = one_more (fetch_count acts) (u (hub_events.Fetch host)) in
      omega arith
  sends_few (Drops heard frame ∷ acts) =
      let rest = sends_few acts in
      let more = one_more (fetch_count acts) (u (hub_events.Fetch host)) in
      omega arith
  sends_few (Hears heard ∷ acts) =
      let rest = sends_few acts in
      let more = one_more (fetch_count acts) (u (hub_events.Fetch host)) in
      omega arith

pub fetches_counted : (acts : List Action) → EntersOwn acts → fetch_count acts
    ≡ weight (λ before e. delivers (λ f. true) e) (entered_places acts) + lost_count acts
fetches_counted [] own = refl
fetches_counted (Enters before e posted ∷ acts) own =
    let rest = fetches_counted acts own.1 in let none = not_own (λ f. true) e own.0 in omega arith
fetches_counted (Delivers heard frame before posted ∷ acts) own = let rest = fetches_counted acts own in omega arith
fetches_counted (Drops heard frame ∷ acts) own = let rest = fetches_counted acts own in omega arith
fetches_counted (Hears heard ∷ acts) own = let rest = fetches_counted acts own in omega arith
