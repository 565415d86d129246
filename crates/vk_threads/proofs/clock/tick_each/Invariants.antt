use Rattle.vk_rules.specs.Each.{Each}
use Rattle.vk_threads.specs.Clocks.{may_tick}
use Rattle.vk_threads.proofs.Clocks.{TicksSoFar}
use Rattle.vk_threads.proofs.clock.tick_each.Given as goal

abbrev pub invariant-loop-port : goal.invariant-loop-port
invariant-loop-port g l = record {
  so_far : TicksSoFar l.port-index l.fn.ports l.ports;
  may : Each may_tick l.ports;
}
