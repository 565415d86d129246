use Rattle.std.proofs.Common.{◌≡◌, take}
use Rattle.vk_base.specs.Settings.{stations_of}
use Rattle.vk_threads.proofs.opening.stations.Given as goal

abbrev pub invariant-loop-at : goal.invariant-loop-at
invariant-loop-at l = l.hosts.items ≡ take l.at (stations_of l.config.specs)
