use Rattle.std.proofs.Common.{[], subst}
use Rattle.vk_types.specs.Types.{ProcessSpec}
use Rattle.vk_base.specs.Pids.{IsPid}
use Rattle.vk_rules.specs.Each.{Each}
use Rattle.vk_cluster.specs.Piles.{pile_of}
use Rattle.vk_cluster.proofs.Begins.{begins}
use Rattle.vk_cluster.proofs.cluster.Cluster.new.Goals as goal

pub returns : goal.returns
returns c =
    let pids = subst (Each (λ (s : ProcessSpec). IsPid s.pid)) c.specs.ensures.specs c.pids_are.ensures in
    begins c.args.config.now c.in_ok-copy.field-0 c.in_ok-new_hosts.field-0.items (pile_of c.in_ok-new.field-0) c.station_count.result
    c.in_ok-copy.ensures c.times-lawful.ensures.lawful pids c.in_ok-new_hosts.ensures c.station_count.ensures.count c.in_ok-new.ensures

pub invariant_of-result : goal.invariant_of-result
invariant_of-result c = (c.args.config.now, [], returns c)
