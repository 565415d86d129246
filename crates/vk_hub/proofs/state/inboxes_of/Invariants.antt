use Rattle.std.proofs.Common.{◌≡◌, map, take}
use Rattle.vk_hub.specs.Hubs.{nothing_for}
use Rattle.vk_hub.proofs.state.inboxes_of.Given as goal

abbrev pub invariant-loop-station : goal.invariant-loop-station
invariant-loop-station l = l.inboxes.items ≡ map nothing_for (take l.station-index l.stations)
