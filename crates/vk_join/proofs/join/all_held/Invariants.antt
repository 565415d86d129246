use Rattle.std.proofs.Common.{take}
use Rattle.vk_rules.specs.Each.{Each}
use Rattle.vk_join.specs.Logs.{IsReadableEvent}
use Rattle.vk_join.proofs.join.all_held.Given as goal

abbrev pub invariant-loop-at : goal.invariant-loop-at
invariant-loop-at l = Each IsReadableEvent (take l.at l.log.events)
