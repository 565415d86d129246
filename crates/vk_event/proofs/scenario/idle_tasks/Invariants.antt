use Rattle.std.proofs.Common.{◌≡◌, map, take}
use Rattle.vk_event.specs.Scenario.{idle}
use Rattle.vk_event.proofs.scenario.idle_tasks.Given as goal

abbrev pub invariant-loop-spec : goal.invariant-loop-spec
invariant-loop-spec l = l.tasks.items ≡ map idle (take l.spec-index l.specs)
