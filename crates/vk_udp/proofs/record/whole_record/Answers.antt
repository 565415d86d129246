use Rattle.std.proofs.Common.{rules, subst}
use Rattle.vk_types.specs.Types.{ProcessSpec}
use Rattle.vk_base.specs.Pids.{IsPid}
use Rattle.vk_join.specs.Logs.{IsReadableEvent}
use Rattle.vk_rules.specs.Each.{Each}
use Rattle.vk_udp.specs.Gathered.{Fits}
use Rattle.vk_udp.proofs.Closed.{all_ready, hub_all, hub_count}
use Rattle.vk_udp.proofs.Recorded.{recorded, sends_own}
use Rattle.vk_udp.proofs.record.whole_record.Goals as goal

pub close_node-requires-clause-ready : goal.close_node-requires-clause-ready
close_node-requires-clause-ready c =
    let t = c.requires.ended in
    all_ready c.args.config.now c.args.node.host c.args.node.cell c.args.node.hub t.0 t.1 t.2 c.args.ends.items c.args.fetches c.args.halt c.requires.station t.3

pub close_node-requires-clause-seats : goal.close_node-requires-clause-seats
close_node-requires-clause-seats c =
    let t = c.requires.ended in
    hub_all c.args.config.now c.args.node.host c.args.node.cell c.args.node.hub t.0 t.1 t.2 c.args.ends.items c.args.fetches c.args.halt c.requires.station t.3

pub close_node-requires-clause-all : goal.close_node-requires-clause-all
close_node-requires-clause-all c =
    let t = c.requires.ended in
    hub_count c.args.config.now c.args.node.host c.args.node.cell c.args.node.hub t.0 t.1 t.2 c.args.ends.items c.args.fetches c.args.halt c.requires.station t.3

pub returns-clause-ran : goal.returns-clause-ran
returns-clause-ran c = λ rounds tasks n ended failed.
    recorded c.args.config.now c.args.node.host c.args.node.cell c.args.node.hub rounds tasks n c.args.ends.items c.args.fetches c.args.halt c.requires.station ended
    c.in_ok-log.log c.in_ok-log.ensures c.closed_nodes_are_runs.ensures c.times-lawful.ensures.lawful
    (subst (Each (λ (s : ProcessSpec). IsPid s.pid)) c.specs.ensures.specs c.pids_are.ensures)
    (subst (Each IsReadableEvent) c.as_slice.ensures c.all_readable.ensures) (subst (Each Fits) c.as_slice-2.ensures c.all_fit.ensures)
    c.has_met_full-limited.result (search rules) (search rules) failed

pub returns-clause-own : goal.returns-clause-own
returns-clause-own c = λ rounds tasks n ended.
    sends_own c.args.config.now c.args.node.host c.args.node.cell c.args.node.hub rounds tasks n c.args.ends.items c.args.fetches c.args.halt c.requires.station ended
    c.in_ok-log.log c.in_ok-log.ensures c.nodes_send_their_own.ensures c.times-lawful.ensures.lawful
    (subst (Each (λ (s : ProcessSpec). IsPid s.pid)) c.specs.ensures.specs c.pids_are.ensures)
    (subst (Each IsReadableEvent) c.as_slice.ensures c.all_readable.ensures)
