use Rattle.std.proofs.Common.{◌≡◌, ◌+◌, length}
use Rattle.vk_top.specs.Check.{without_steps}
use Rattle.vk_top.proofs.check.read_on.Given as goal

abbrev pub invariant-loop-step : goal.invariant-loop-step
invariant-loop-step l = record {
  counted : l.read + length l.reader.steps ≡ l.fn.before + length l.fn.reader.steps;
  ends : without_steps l.reader ≡ without_steps l.fn.reader;
}

abbrev pub decreases-loop-step : goal.decreases-loop-step
decreases-loop-step l = length l.reader.steps
