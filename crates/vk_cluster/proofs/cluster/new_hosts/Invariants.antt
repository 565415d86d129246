use Rattle.std.proofs.Common.{take}
use Rattle.vk_base.specs.Settings.{stations_of}
use Rattle.vk_cluster.specs.Standing.{AreHosts}
use Rattle.vk_cluster.proofs.cluster.new_hosts.Given as goal

abbrev pub invariant-loop-at : goal.invariant-loop-at
invariant-loop-at l = AreHosts l.config l.hosts.items (take l.at (stations_of l.config.specs))
