use Rattle.vk_join.proofs.Keyed.{AreCounted}
use Rattle.vk_join.proofs.number.push_keys.Given as goal

abbrev pub invariant-loop-at : goal.invariant-loop-at
invariant-loop-at l = AreCounted l.logs l.log l.entry l.at l.number l.keys.items
