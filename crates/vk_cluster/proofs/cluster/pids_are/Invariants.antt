use Rattle.std.proofs.Common.{take}
use Rattle.vk_types.specs.Types.{ProcessSpec}
use Rattle.vk_base.specs.Pids.{IsPid}
use Rattle.vk_rules.specs.Each.{Each}
use Rattle.vk_cluster.proofs.cluster.pids_are.Given as goal

abbrev pub invariant-loop-spec : goal.invariant-loop-spec
invariant-loop-spec l = Each (λ (s : ProcessSpec). IsPid s.pid) (take l.spec-index l.specs)
