use Rattle.std.proofs.Common.{◌≡◌, map, take, drop, ◌++◌}
use Rattle.vk_pool.specs.Aliens.{kept}
use Rattle.vk_pool.proofs.pool.AlienPool.release_all.Given as goal

abbrev pub invariant-loop-slot : goal.invariant-loop-slot
invariant-loop-slot l = l.self ≡ map (kept l.times l.now) (take l.slot l.initial.self) ++ drop l.slot l.initial.self
