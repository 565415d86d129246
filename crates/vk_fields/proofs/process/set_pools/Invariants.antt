-- What is left to be set is as much as all was before.
use Rattle.std.proofs.Common.{◌≡◌, drop}
use Rattle.vk_fields.specs.Processes.{pools_refusal, with_pools}
use Rattle.vk_fields.proofs.process.set_pools.Given as goal

abbrev pub invariant-loop-pool : goal.invariant-loop-pool
invariant-loop-pool l =
    (pools_refusal l.fn.config l.pools ≡ pools_refusal l.config (drop l.pool-index l.pools))
    × (with_pools l.fn.config l.pools ≡ with_pools l.config (drop l.pool-index l.pools))
