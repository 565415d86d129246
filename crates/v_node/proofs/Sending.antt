-- What a node's link fetches for other stations was posted for them, and what was posted its station made.
use Rattle.std.proofs.Common.{◌≡◌, ℕ, ◌+◌, ◌*◌, ◌≤◌, ◌==◌, Bool, true, false, List, [], ◌∷◌, map, cond, refl, ap, arith}
use Rattle.vk_types.specs.Types.{StationEvent}
use Rattle.vk_base.specs.Settings.{Settings}
use Rattle.vk_host.specs.Sealed.{sealed}
use Rattle.vk_hub.specs.declared.event.Fetched.{Fetched}
use Rattle.vk_hub.specs.declared.event.HubEvent.{HubEvent}
use Rattle.vk_hub.specs.declared.event.HubEvent.TheVariants as hub_events
use Rattle.vk_hub.specs.Counting.{all_posts, copies, gets, hits}
use Rattle.vk_hub.specs.Hubs.{HubLog, traffic_of}
use Rattle.vk_hub.specs.Links.{Frame}
use Rattle.vk_hub.proofs.Counts.{counted}
use Rattle.vk_port.specs.Stations.{entries_at}
use Rattle.vk_rules.specs.Each.{Each}
use Rattle.vk_rules.specs.Entries.{Entry}
use Rattle.vk_rules.specs.Laws.{AllRise}
use Rattle.v_run.specs.Passages.{fresh_station}
use Rattle.v_run.proofs.Counts.{gets_are, gets_of_fetches}
use Rattle.v_run.proofs.Entries.{by_entries}
use Rattle.v_run.proofs.Sound.{AreOpen}
use Rattle.v_run.proofs.Totals.{added, total}
use Rattle.v_node.specs.Closed.{IsNodeClosed}
use Rattle.v_node.specs.Jobs.{IsLinkEnd, NodeEnd}
use Rattle.v_node.specs.Laws.{IsForOthers}
use Rattle.v_node.specs.Links.{AreErrands, Errand, HubStand, after_errand, nothing_heard}
use Rattle.v_node.specs.Sent.{AreOwnFrames, given_by, made_in, meant_in}
use Rattle.v_node.proofs.Own.{any, made, meant_by, no_gets, posts_most}
use Rattle.v_node.proofs.Sums.{at_hub, carrier_fetched}

-- the counts as sums
meant_added : (test : Frame → Bool) (q : ℕ) (fs : List Frame) → meant_in test q fs ≡ added (meant_by test q) fs
meant_added test q [] = refl
meant_added test q (f ∷ fs) = ap (λ n. meant_by test q f + n) (meant_added test q fs)

made_added : (test : Frame → Bool) (q : ℕ) (es : List Entry)
    → made_in test q es ≡ added (λ (e : Entry). added (meant_by test q) (map sealed e.frames)) es
made_added test q [] = refl
made_added test q (e ∷ es) =
    let one = meant_added test q (map sealed e.frames) in let rest = made_added test q es in omega arith

given_added : (test : Frame → Bool) (q m : ℕ) (o : HubLog) (es : List Errand) (s t : HubStand) → AreErrands m o s es t
    → given_by test q es ≡ added (λ (e : Errand). gets test q o.programs (traffic_of o e.before) (hub_events.Fetch e.host)) es
given_added test q m o [] s t are = refl
given_added test q m o (e ∷ es) s t are =
    let one : gets test q o.programs (traffic_of o e.before) (hub_events.Fetch e.host) ≡ cond (e.host == q) (hits test q e.answer) 0 =
    ap (λ (f : Fetched). cond {A = ℕ} (e.host == q) (hits test q f) 0) are.0.answered in
    let rest = given_added test q m o es (after_errand m o s e) t are.1 in
    omega arith

-- one or two copies of each
copied : (once : Bool) (given posted made : ℕ) → given ≤ cond once 1 2 * posted → posted ≤ made → given ≤ cond once 1 2 * made
copied true given posted made few most = omega arith
copied false given posted made few most = omega arith

module _ (c : Settings) (host : ℕ) (o : HubLog) (history : List (ℕ × StationEvent)) (heard : List (ℕ × HubEvent)) (n : NodeEnd)
    (k : IsNodeClosed c host o history heard n) (link : IsLinkEnd c host n.link)
    (rise : AllRise host (entries_at (fresh_station c host) history)) (opens : AreOpen (entries_at (fresh_station c host) history))
    (others : Each (λ (e : Entry). Each (IsForOthers host) e.frames) (entries_at (fresh_station c host) history)) where
  -- what was given for a station was fetched for it in the hub's history
  given_few : (test : Frame → Bool) (q : ℕ)
      → given_by test q n.link.errands ≤ total (λ before e. gets test q o.programs (traffic_of o before) e) [] heard
  given_few test q =
      let is = given_added test q n.link.carrier o n.link.errands nothing_heard n.link.reached k.link.errands in
      let all = at_hub c host o history heard n k (λ before e. gets test q o.programs (traffic_of o before) e) in
      let carrier = carrier_fetched c host o history heard n k (λ before e. gets test q o.programs (traffic_of o before) e)
      (gets_of_fetches o test q) link in
      omega arith

  few_given : (test : Frame → Bool) (q : ℕ)
      → given_by test q n.link.errands ≤ copies o.plan * made_in test q (entries_at (fresh_station c host) history)
  few_given test q =
      let given = given_few test q in
      let are = gets_are o test q [] heard in
      let law = counted o heard test q in
      let posted = posts_most c host o history heard n k link rise opens others test q in
      let entries : total (made c host o history heard n k link rise opens others test q) [] history
      ≡ added (λ (e : Entry). added (meant_by test q) (map sealed e.frames)) (entries_at (fresh_station c host) history) =
      by_entries c host history (λ (e : Entry). added (meant_by test q) (map sealed e.frames)) in
      let is = made_added test q (entries_at (fresh_station c host) history) in
      let most : all_posts test q heard ≤ made_in test q (entries_at (fresh_station c host) history) = omega arith in
      let fetched : given_by test q n.link.errands ≤ copies o.plan * all_posts test q heard = omega arith in
      copied (o.plan.double == 0) (given_by test q n.link.errands) (all_posts test q heard)
      (made_in test q (entries_at (fresh_station c host) history)) fetched most

  pub own_frames : AreOwnFrames o.plan host n.link.errands (entries_at (fresh_station c host) history)
  own_frames = record {
    few = few_given;
    none =
        let given = given_few any host in
        let none = no_gets c host o history heard n k link rise opens others in
        omega arith;
  }
