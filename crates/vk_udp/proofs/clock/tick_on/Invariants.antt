use Rattle.std.proofs.Common.{◌≡◌, true}
use Rattle.vk_udp.proofs.Clocking.{ClocksSoFar}
use Rattle.vk_udp.proofs.clock.tick_on.Given as goal

abbrev pub invariant-loop : goal.invariant-loop
invariant-loop g l = record {
  so_far : ClocksSoFar l.counter l.fn.port l.port;
  may : l.port.ticks ≡ true;
}
