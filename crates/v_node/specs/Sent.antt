-- What a node's link fetches for other stations are frames that the node's own station made.
use Rattle.std.specs.Prelude.{ℕ, ◌≡◌, ◌≤◌, ◌+◌, ◌*◌, ◌==◌, ◌&&◌, Bool, true, List, [], ◌∷◌, cond, map}
use Rattle.vk_types.specs.Types.{StationEvent}
use Rattle.vk_base.specs.Settings.{Settings}
use Rattle.vk_host.specs.Sealed.{sealed}
use Rattle.vk_hub.specs.Counting.{copies, hits}
use Rattle.vk_hub.specs.declared.event.HubEvent.{HubEvent}
use Rattle.vk_hub.specs.Hubs.{HubLog}
use Rattle.vk_hub.specs.Links.{Frame, header_of, is_addressed}
use Rattle.vk_port.specs.Stations.{IsLawfulHistory, entries_after, event_of}
use Rattle.vk_rules.specs.Entries.{Entry}
use Rattle.vk_schedule.specs.declared.plan.LinkPlan.{LinkPlan}
use Rattle.v_run.specs.Laws.{closed_station}
use Rattle.v_node.specs.Closed.{IsNodeClosed}
use Rattle.v_node.specs.Jobs.{AreNodeJobs, NodeEnd}
use Rattle.v_node.specs.Laws.{IsHeld}
use Rattle.v_node.specs.Links.{Errand}

-- `test` says which frames are meant, and `host` is a station
module _ (test : Frame → Bool) (host : ℕ) where
  -- how many of these errands gave such a frame for the station
  abbrev pub given_by : List Errand → ℕ
  given_by [] = 0
  given_by (e ∷ es) = cond (e.host == host) (hits test host e.answer) 0 + given_by es

  -- how many of these frames are such and are addressed to it
  abbrev pub meant_in : List Frame → ℕ
  meant_in [] = 0
  meant_in (f ∷ fs) = cond (test f && is_addressed (header_of f) host) 1 0 + meant_in fs

  -- and how many of those that these entries made
  abbrev pub made_in : List Entry → ℕ
  made_in [] = 0
  made_in (e ∷ es) = meant_in (map sealed e.frames) + made_in es

-- Whatever frames are meant, and for each station: errands gave them at most as often as the entries made them for it, times the copies
-- that the link plan makes of a frame. For the node's own station they gave none.
pub record AreOwnFrames (plan : LinkPlan) (host : ℕ) (errands : List Errand) (entries : List Entry) : Type 0 where
  pub few : (test : Frame → Bool) (there : ℕ) → given_by test there errands ≤ copies plan * made_in test there entries
  pub none : given_by (λ f. true) host errands ≡ 0

-- Where a node's jobs ended so, and all seats have come back, this holds of its link's errands and its station's events.
abbrev pub NodesSendTheirOwn : Type 0
NodesSendTheirOwn = (c : Settings) (host : ℕ) (o : HubLog) (rounds : ℕ) (history : List (ℕ × StationEvent)) (heard : List (ℕ × HubEvent))
    (n : NodeEnd) → IsNodeClosed c host o history heard n → AreNodeJobs c host o rounds n → IsLawfulHistory (closed_station c host history)
    → IsHeld c (map event_of history) → AreOwnFrames o.plan host n.link.errands (entries_after c host (map event_of history))
