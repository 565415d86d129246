use Rattle.vk_threads.specs.Clocks.{HaveTicked}
use Rattle.vk_threads.proofs.clock.watch.Given as goal

abbrev pub invariant-loop : goal.invariant-loop
invariant-loop g l = HaveTicked 0 0 0 l.fn.ports l.ports
