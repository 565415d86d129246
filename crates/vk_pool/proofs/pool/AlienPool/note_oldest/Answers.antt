use Rattle.std.proofs.Common.{map, subst}
use Rattle.vk_pool.specs.Kept.{AreClosedFrom, shown}
use Rattle.vk_pool.proofs.Pooled.{pooled_since}
use Rattle.vk_pool.proofs.pool.AlienPool.note_oldest.Goals as goal

pub invariant_of-self : goal.invariant_of-self
invariant_of-self c = (
  pooled_since _ _ _ _ _ c.self.invariant.0
      (subst (λ xs. AreClosedFrom c.oldest-self-inside.result (map shown xs)) c.deref.ensures.value c.oldest-self-inside.ensures),
  c.self.invariant.1,
)
