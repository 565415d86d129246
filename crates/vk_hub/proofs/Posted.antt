-- A frame that is fetched was posted for the station.
use Rattle.std.proofs.Common.{◌≡◌, ℕ, zero, suc, ◌+◌, ◌*◌, ◌≤◌, ◌&&◌, ◌⊎◌, eqb-true, eq-eqb, Bool, true, false, List, [], ◌∷◌, ◌++◌, cond, nat_eq, bytes_eq, refl, sym, ap, ◌∙◌, subst, arith, inl, inr}
use Rattle.turn_cell.specs.Seats.{HasEntered, Sitting}
use Rattle.vk_hub.specs.Links.{Frame, header_of, is_addressed}
use Rattle.vk_hub.specs.Hubs.{HubLog, Traffic, changed, fetched_from, first_traffic, is_at_limit, traffic_after, traffic_of}
use Rattle.vk_hub.specs.Counting.{all_gets, all_posts, copies, gets, hits, posts}
use Rattle.vk_hub.specs.Posts.{IsFromPost, IsPostOf, WasPosted}
use Rattle.vk_schedule.specs.declared.plan.LinkPlan.{LinkPlan}
use Rattle.vk_hub.specs.declared.event.Fetched.{Fetched}
use Rattle.vk_hub.specs.declared.event.Fetched.TheVariants as fetched
use Rattle.vk_hub.specs.declared.event.HubEvent.{HubEvent}
use Rattle.vk_hub.specs.declared.event.HubEvent.TheVariants.{Post, Fetch, Finished, Halt}
use Rattle.vk_hub.proofs.Counts.{counted}

same_self : (xs : List ℕ) → bytes_eq xs xs ≡ true
same_self [] = refl
same_self (x ∷ xs) = ap (λ b. b && bytes_eq xs xs) (eq-eqb x x refl) ∙ same_self xs

same_step : (x y : ℕ) (xs ys : List ℕ) → (bytes_eq xs ys ≡ true → ys ≡ xs) → (b : Bool) → nat_eq x y ≡ b → (b && bytes_eq xs ys) ≡ true
    → (y ∷ ys) ≡ (x ∷ xs)
same_step x y xs ys rest true is all = (λ i. sym (eqb-true x y is) i ∷ rest all i)
same_step x y xs ys rest false is all = absurd (cc all)

same_bytes : (xs ys : List ℕ) → bytes_eq xs ys ≡ true → ys ≡ xs
same_bytes [] [] e = refl
same_bytes [] (y ∷ ys) e = absurd (cc e)
same_bytes (x ∷ xs) [] e = absurd (cc e)
same_bytes (x ∷ xs) (y ∷ ys) e = same_step x y xs ys (same_bytes xs ys) (nat_eq x y) refl e

some_factor : (c n : ℕ) → 1 ≤ c * n → 1 ≤ n
some_factor c zero h = absurd (omega (arith, h))
some_factor c (suc n) h = omega arith

gets_more : (test : Frame → Bool) (host : ℕ) (plan : LinkPlan) (n k : ℕ) (e : HubEvent) (t : Traffic) (xs : List (ℕ × HubEvent))
    → gets test host n (traffic_after plan n t xs) e ≤ all_gets test host plan n t (xs ++ (k, e) ∷ [])
gets_more test host plan n k e t [] = omega arith
gets_more test host plan n k e t (x ∷ xs) = let rest = gets_more test host plan n k e (changed plan n t x.1) xs in omega arith

module _ (frame : Frame) (host : ℕ) where
  abbrev Same : Frame → Bool
  Same f = bytes_eq frame f

  post_by : (f : Frame) (xs : List (ℕ × HubEvent)) → (1 ≤ all_posts Same host xs → WasPosted frame host xs) → (a b : Bool) → Same f ≡ a
      → is_addressed (header_of f) host ≡ b → 1 ≤ cond (a && b) 1 0 + all_posts Same host xs
      → IsPostOf frame host (Post f) ⊎ WasPosted frame host xs
  post_by f xs rest true true same to some = inl (same_bytes frame f same, to)
  post_by f xs rest true false same to some = inr (rest (omega arith))
  post_by f xs rest false b same to some = inr (rest (omega arith))

  event_by : (e : HubEvent) (xs : List (ℕ × HubEvent)) → (1 ≤ all_posts Same host xs → WasPosted frame host xs)
      → 1 ≤ posts Same host e + all_posts Same host xs → IsPostOf frame host e ⊎ WasPosted frame host xs
  event_by (Post f) xs rest some = post_by f xs rest (Same f) (is_addressed (header_of f) host) refl refl some
  event_by (Fetch h) xs rest some = inr (rest (omega arith))
  event_by Finished xs rest some = inr (rest (omega arith))
  event_by Halt xs rest some = inr (rest (omega arith))

  was_posted : (xs : List (ℕ × HubEvent)) → 1 ≤ all_posts Same host xs → WasPosted frame host xs
  was_posted [] some = absurd (omega arith)
  was_posted (x ∷ xs) some = event_by x.1 xs (was_posted xs) some

  -- what a fetch gives after a history was posted in it
  fetched_was_posted : (o : HubLog) (n : ℕ) (before : List (ℕ × HubEvent))
      → fetched_from o.programs (traffic_of o before) host ≡ fetched.Frame frame → WasPosted frame host (before ++ (n, Fetch host) ∷ [])
  fetched_was_posted o n before is =
      let history : List (ℕ × HubEvent) = before ++ (n, Fetch host) ∷ [] in
      let t : Traffic = traffic_of o before in
      let one : gets Same host o.programs t (Fetch host) ≡ 1 =
      ap (λ (b : Bool). cond {A = ℕ} b (hits Same host (fetched_from o.programs t host)) 0) (eq-eqb host host refl)
      ∙ (ap (hits Same host) is ∙ ap (λ (b : Bool). cond {A = ℕ} b 1 0) (same_self frame)) in
      let more = gets_more Same host o.plan o.programs n (Fetch host) (first_traffic o.plan o.stations) before in
      let all = counted o history Same host in
      let some : 1 ≤ copies o.plan * all_posts Same host history = omega arith in
      was_posted history (some_factor (copies o.plan) (all_posts Same host history) some)

from_post_by : (o : HubLog) (host n : ℕ) (before : List (ℕ × HubEvent)) (f : Fetched)
    → fetched_from o.programs (traffic_of o before) host ≡ f → IsFromPost f host (before ++ (n, Fetch host) ∷ [])
from_post_by o host n before (fetched.Frame frame) is = fetched_was_posted frame host o n before is
from_post_by o host n before fetched.Stopped is = tt
from_post_by o host n before fetched.Nothing is = tt

-- what was fetched by an entry of the seat
pub from_post : (o : HubLog) (host : ℕ) (old new : Sitting HubLog HubEvent) (f : Fetched)
    → HasEntered (λ before. (is_at_limit before (Fetch host) ≡ false) × (f ≡ fetched_from o.programs (traffic_of o before) host)) old new
    (Fetch host) → IsFromPost f host new.seen
from_post o host old new f entered =
    subst (IsFromPost f host) (sym entered.seen) (from_post_by o host old.number entered.before f (sym entered.gives.1))
