use Rattle.std.proofs.Common.{◌≡◌, drop}
use Rattle.vk_picture.specs.Lanes.{after_steps}
use Rattle.vk_picture.proofs.lanes.after_steps.Given as goal

abbrev pub invariant-loop-step : goal.invariant-loop-step
invariant-loop-step l = after_steps l.pid (drop l.step-index l.steps) ≡ after_steps l.pid l.steps
