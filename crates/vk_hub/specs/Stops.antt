-- That a hub ends for good.
use Rattle.std.specs.Prelude.{◌≡◌, ℕ, true, List}
use Rattle.vk_hub.specs.Hubs.{Traffic, is_stopped, traffic_after}
use Rattle.vk_schedule.specs.declared.plan.LinkPlan.{LinkPlan}
use Rattle.vk_hub.specs.declared.event.HubEvent.{HubEvent}

-- whatever is entered behind, what is stopped stays stopped
abbrev pub StoppedStays : Type 0
StoppedStays =
    (plan : LinkPlan) (programs : ℕ) (t : Traffic) (more : List (ℕ × HubEvent))
    → is_stopped programs t ≡ true → is_stopped programs (traffic_after plan programs t more) ≡ true
