use Rattle.std.proofs.Common.{◌≡◌, map, take}
use Rattle.vk_group.specs.Members.{new_member}
use Rattle.vk_group.proofs.members.Members.new.Given as goal

abbrev pub invariant-loop-pair : goal.invariant-loop-pair
invariant-loop-pair l = l.list.items ≡ map new_member (take l.pair-index l.pairs)
