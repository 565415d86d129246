use Rattle.vk_rules.specs.Each.{Each}
use Rattle.vk_threads.specs.Clocks.{HaveTicked, may_tick}
use Rattle.vk_threads.proofs.clock.tick_on.Given as goal

abbrev pub invariant-loop : goal.invariant-loop
invariant-loop g l = record {
  so_far : HaveTicked l.counter l.counter 0 l.fn.ports l.ports;
  may : Each may_tick l.ports;
}
