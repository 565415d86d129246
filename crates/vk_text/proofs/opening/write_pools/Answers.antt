use Rattle.vk_text.proofs.Fronts.{front_before, at_refusal}
use Rattle.vk_text.proofs.opening.write_pools.Goals as goal

pub returns-in_err-write_own_pool-clause-front : goal.returns-in_err-write_own_pool-clause-front
returns-in_err-write_own_pool-clause-front c =
    at_refusal c.from_residual.result (front_before _ _ _ _ c.loop-place.invariant c.in_err-write_own_pool.ensures.front)
