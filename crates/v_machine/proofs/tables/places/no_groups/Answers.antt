use Rattle.std.proofs.Common.{◌≡◌, [], replicate, subst, arith}
use Rattle.v_machine.proofs.tables.places.no_groups.Goals as goal

pub returns : goal.returns
returns c =
    let all : c.loop-group._group ≡ 1024 = omega arith in
    subst (λ n. c.loop-group.groups.items ≡ replicate n []) all c.loop-group.invariant
