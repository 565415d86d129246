use Rattle.std.proofs.Common.{take}
use Rattle.vk_join.specs.Keys.{AreKeys}
use Rattle.vk_join.proofs.number.keys_of.Given as goal

abbrev pub invariant-loop-at : goal.invariant-loop-at
invariant-loop-at l = AreKeys l.logs (take l.at l.logs) l.keys.items
