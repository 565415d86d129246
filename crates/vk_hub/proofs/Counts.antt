-- What is fetched was posted, counted over a history.
use Rattle.std.proofs.Common.{◌≡◌, ℕ, ◌+◌, ◌*◌, ◌≤◌, ◌==◌, Bool, true, false, List, [], ◌∷◌, map, cond, refl, arith}
use Rattle.std.proofs.Math.Nat.{mul-add}
use Rattle.vk_hub.specs.Links.{Frame, header_of}
use Rattle.vk_hub.specs.Hubs.{Traffic, changed, first_traffic, is_stopped, nothing_for}
use Rattle.vk_hub.specs.Counting.{FetchesArePosts, all_gets, all_posts, copies, gets, posts}
use Rattle.vk_schedule.specs.declared.plan.LinkPlan.{LinkPlan}
use Rattle.vk_hub.specs.declared.event.HubEvent.{HubEvent}
use Rattle.vk_hub.specs.declared.event.HubEvent.TheVariants.{Post, Fetch, Finished, Halt}
use Rattle.vk_hub.proofs.Fetching.{fetched_by}
use Rattle.vk_hub.proofs.Posting.{in_held, in_ring, posts_at_most, waiting_for}

module _ (test : Frame → Bool) (host : ℕ) where
  -- what an event gives the station and what then waits for it were there, or are copies of what it posts
  steps : (plan : LinkPlan) (n : ℕ) (t : Traffic) (e : HubEvent)
      → gets test host n t e + waiting_for test host (changed plan n t e).waiting
      ≤ waiting_for test host t.waiting + copies plan * posts test host e
  steps plan n t (Post f) = let all = posts_at_most test plan host (header_of f) f t.x t.waiting in omega arith
  steps plan n t (Fetch h) = fetched_by test host h (copies plan) t.waiting (is_stopped n t) (h == host) refl
  steps plan n t Finished = omega arith
  steps plan n t Halt = omega arith

  goes : (plan : LinkPlan) (n : ℕ) (t : Traffic) (xs : List (ℕ × HubEvent))
      → all_gets test host plan n t xs ≤ waiting_for test host t.waiting + copies plan * all_posts test host xs
  goes plan n t [] = omega arith
  goes plan n t (x ∷ xs) =
      let now = steps plan n t x.1 in
      let later = goes plan n (changed plan n t x.1) xs in
      let both = mul-add (copies plan) (posts test host x.1) (all_posts test host xs) in
      omega arith

  none_waits : (stations : List ℕ) → waiting_for test host (map nothing_for stations) ≡ 0
  unfolding waiting_for in_ring in_held
  none_waits [] = refl
  none_waits (s ∷ ss) = by_first (s == host) (waiting_for test host (map nothing_for ss)) (none_waits ss)
    where
      by_first : (b : Bool) (k : ℕ) → k ≡ 0 → cond b (0 + 0) k ≡ 0
      by_first true k is = refl
      by_first false k is = is

pub counted : FetchesArePosts
counted o history test host =
    let all = goes test host o.plan o.programs (first_traffic o.plan o.stations) history in
    let none = none_waits test host o.stations in
    omega arith
