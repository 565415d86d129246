use Rattle.std.proofs.Common.{◌≡◌, [], fold}
use Rattle.vk_top.specs.Joins.{put_log}
use Rattle.vk_top.proofs.join.in_order.Given as goal

abbrev pub invariant-loop-log : goal.invariant-loop-log
invariant-loop-log l = l.sorted.items ≡ fold put_log [] l.yielded
