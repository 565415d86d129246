use Rattle.std.proofs.Common.{arith, ap, get_or}
use Rattle.std.proofs.lemmas.List.Edits.{map_over_more}
use Rattle.vk_group.specs.Members.{reopened}
use Rattle.vk_group.proofs.members.restart.Goals as goal

pub loop-member-preserved : goal.loop-member-preserved
loop-member-preserved c =
    rw c.reopen.ensures (map_over_more reopened c.args.list.now c.loop-member.list _ _
    (omega arith) c.loop-member.invariant (ap (λ x. get_or c.loop-member.list c.loop-member.member-index x) c.member-item.is))
