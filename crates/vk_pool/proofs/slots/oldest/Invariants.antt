use Rattle.std.proofs.Common.{map}
use Rattle.vk_pool.specs.Kept.{shown}
use Rattle.vk_pool.proofs.Closing.{AreFrontClosed}
use Rattle.vk_pool.proofs.slots.oldest.Given as goal

abbrev pub invariant-loop-slot : goal.invariant-loop-slot
invariant-loop-slot l = AreFrontClosed l.oldest l.slot-index (map shown l.slots)
