use Rattle.std.proofs.Common.{take}
use Rattle.vk_join.specs.Logs.{AreReadable}
use Rattle.vk_join.proofs.join.are_held.Given as goal

abbrev pub invariant-loop-log : goal.invariant-loop-log
invariant-loop-log l = AreReadable (take l.log-index l.logs)
