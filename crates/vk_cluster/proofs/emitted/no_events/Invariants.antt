use Rattle.std.proofs.Common.{◌≡◌, [], map, replicate}
use Rattle.vk_cluster.specs.Piles.{items_of}
use Rattle.vk_cluster.proofs.emitted.no_events.Given as goal

abbrev pub invariant-loop-station : goal.invariant-loop-station
invariant-loop-station l = map items_of l.events.items ≡ replicate l._station []
