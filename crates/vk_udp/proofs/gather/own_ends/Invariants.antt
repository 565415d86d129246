use Rattle.std.proofs.Common.{◌≡◌, map}
use Rattle.vk_udp.specs.Gathered.{own_end}
use Rattle.vk_udp.proofs.gather.own_ends.Given as goal

abbrev pub invariant-loop-end : goal.invariant-loop-end
invariant-loop-end g l = l.own.items ≡ map own_end l.yielded
