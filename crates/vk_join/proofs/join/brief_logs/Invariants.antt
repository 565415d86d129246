use Rattle.std.proofs.Common.{◌≡◌, take}
use Rattle.vk_join.proofs.join.brief_logs.Given as goal

abbrev pub invariant-loop-log : goal.invariant-loop-log
invariant-loop-log l = l.brief.items ≡ take l.log-index l.logs
