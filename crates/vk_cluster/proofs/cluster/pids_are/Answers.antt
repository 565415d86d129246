use Rattle.std.proofs.Common.{subst, arith}
use Rattle.std.proofs.lemmas.List.{take_all}
use Rattle.vk_types.specs.Types.{ProcessSpec}
use Rattle.vk_base.specs.Pids.{IsPid}
use Rattle.vk_rules.specs.Each.{Each}
use Rattle.vk_cluster.proofs.Loops.{pid_more}
use Rattle.vk_cluster.proofs.cluster.pids_are.Goals as goal

pub loop-spec-preserved : goal.loop-spec-preserved
loop-spec-preserved c =
    pid_more c.args.specs.now c.loop-spec.spec-index c.spec-item.result c.loop-spec-test.true c.spec-item.is c.pid_is.ensures c.loop-spec.invariant

pub returns : goal.returns
returns c =
    subst (Each (λ (s : ProcessSpec). IsPid s.pid)) (take_all c.loop-spec.spec-index c.args.specs.now (omega arith)) c.loop-spec.invariant
