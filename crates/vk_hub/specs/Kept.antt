-- What a hub keeps: its traffic is what its history makes, which is within its limits.
use Rattle.std.specs.Prelude.{◌≡◌, ℕ, ◌+◌, ◌≤◌, List, length, cond}
use Rattle.vk_hub.specs.Hubs.{Traffic, first_traffic, has_halt, others, traffic_after}
use Rattle.vk_schedule.specs.declared.plan.LinkPlan.{LinkPlan}
use Rattle.vk_hub.specs.declared.event.HubEvent.{HubEvent}

pub record IsHubKept (plan : LinkPlan) (stations : List ℕ) (programs : ℕ) (traffic : Traffic) (history : List (ℕ × HubEvent)) (counted : ℕ)
    : Type 0 where
  pub replayed : traffic ≡ traffic_after plan programs (first_traffic plan stations) history
  pub halts : has_halt history ≡ traffic.halted
  pub count : length history ≡ others history + cond traffic.halted 1 0
  pub few : others history ≤ 200000
  pub finished : traffic.finished ≤ others history
  pub same_count : counted ≡ others history
