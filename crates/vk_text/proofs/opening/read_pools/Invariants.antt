use Rattle.vk_text.proofs.OpeningReading.{AreRead}
use Rattle.vk_text.proofs.opening.read_pools.Given as goal

abbrev pub invariant-loop-place : goal.invariant-loop-place
invariant-loop-place l = AreRead l.fn.config l.text l.fn.start l.config l.at l.taken l.place
