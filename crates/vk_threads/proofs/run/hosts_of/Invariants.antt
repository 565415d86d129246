use Rattle.std.proofs.Common.{◌≡◌, map, take}
use Rattle.vk_threads.specs.Dealt.{host_of}
use Rattle.vk_threads.proofs.run.hosts_of.Given as goal

abbrev pub invariant-loop-assigned : goal.invariant-loop-assigned
invariant-loop-assigned g l = l.hosts.items ≡ map host_of (take l.assigned-index l.programs)
