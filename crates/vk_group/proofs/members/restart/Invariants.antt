use Rattle.std.proofs.Common.{◌≡◌, map, take, drop, ◌++◌}
use Rattle.vk_group.specs.Members.{reopened}
use Rattle.vk_group.proofs.members.restart.Given as goal

abbrev pub invariant-loop-member : goal.invariant-loop-member
invariant-loop-member l = l.list ≡ map reopened (take l.member-index l.initial.list) ++ drop l.member-index l.initial.list
