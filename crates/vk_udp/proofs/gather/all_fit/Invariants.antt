use Rattle.std.proofs.Common.{take}
use Rattle.vk_rules.specs.Each.{Each}
use Rattle.vk_udp.specs.Gathered.{Fits}
use Rattle.vk_udp.proofs.gather.all_fit.Given as goal

abbrev pub invariant-loop-event : goal.invariant-loop-event
invariant-loop-event l = Each Fits (take l.event-index l.events)
