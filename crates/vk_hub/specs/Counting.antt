-- How often a frame was posted for a station, and how often it was fetched by it.
use Rattle.std.specs.Prelude.{ℕ, ◌+◌, ◌*◌, ◌≤◌, ◌==◌, ◌&&◌, Bool, List, [], ◌∷◌, cond}
use Rattle.vk_hub.specs.Links.{Frame, header_of, is_addressed}
use Rattle.vk_hub.specs.Hubs.{HubLog, Traffic, changed, fetched_from, first_traffic}
use Rattle.vk_schedule.specs.declared.plan.LinkPlan.{LinkPlan}
use Rattle.vk_hub.specs.declared.event.HubEvent.{HubEvent}
use Rattle.vk_hub.specs.declared.event.HubEvent.TheVariants as event
use Rattle.vk_hub.specs.declared.event.Fetched.{Fetched}
use Rattle.vk_hub.specs.declared.event.Fetched.TheVariants as fetched

-- `test` says which frames are meant
module _ (test : Frame → Bool) (host : ℕ) where
  -- 1 where the event posts such a frame for the station
  abbrev pub posts : HubEvent → ℕ
  posts (event.Post frame) = cond (test frame && is_addressed (header_of frame) host) 1 0
  posts e = 0

  abbrev pub all_posts : List (ℕ × HubEvent) → ℕ
  all_posts [] = 0
  all_posts (x ∷ xs) = posts x.1 + all_posts xs

  abbrev pub hits : Fetched → ℕ
  hits (fetched.Frame frame) = cond (test frame) 1 0
  hits f = 0

  -- 1 where the event is a fetch of the station that gives such a frame
  abbrev pub gets : ℕ → Traffic → HubEvent → ℕ
  gets programs t (event.Fetch h) = cond (h == host) (hits (fetched_from programs t h)) 0
  gets programs t e = 0

  abbrev pub all_gets : LinkPlan → ℕ → Traffic → List (ℕ × HubEvent) → ℕ
  all_gets plan programs t [] = 0
  all_gets plan programs t (x ∷ xs) = gets programs t x.1 + all_gets plan programs (changed plan programs t x.1) xs

-- how many copies a post may make for a station
abbrev pub copies : LinkPlan → ℕ
copies plan = cond (plan.double == 0) 1 2

-- Whatever frames are meant: at any point of a history, a station has fetched them at most as often as they were posted for it,
-- times the copies of a post
abbrev pub FetchesArePosts : Type 0
FetchesArePosts =
    (o : HubLog) (history : List (ℕ × HubEvent)) (test : Frame → Bool) (host : ℕ)
    → all_gets test host o.plan o.programs (first_traffic o.plan o.stations) history ≤ copies o.plan * all_posts test host history
