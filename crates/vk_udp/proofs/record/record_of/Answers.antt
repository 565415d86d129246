use Rattle.std.proofs.Common.{arith, ◌≡◌}
use Rattle.vk_udp.proofs.LinkBack.{counts_nothing, ended, node_record, node_sent, sound_link}
use Rattle.vk_udp.proofs.record.record_of.Goals as goal

pub whole_record-requires-clause-ended : goal.whole_record-requires-clause-ended
whole_record-requires-clause-ended g c =
    let t = c.requires.ended in (
      t.0,
      t.2,
      t.4.n,
      ended g.W.L.Link.handed g.W.L.Link.sent g.W.L.Link.fault_count c.args.config.now c.args.node.host c.args.node.cell c.args.node.hub t.0 t.1 t.2 t.3 c.args.ends.items
          c.args.halt t.4
          c.take_carried-end.new.ends.items c.take_carried-end.result c.take_carried-end.ensures c.in-Ok.all.items c.in-Ok.ensures,
    )

pub returns-in-Ok-whole_record-clause-ran : goal.returns-in-Ok-whole_record-clause-ran
returns-in-Ok-whole_record-clause-ran g c = λ rounds ports tasks start new it.
    let x = c.take_carried-end.result in
    let rest = c.take_carried-end.new.ends.items in
    let handed = g.W.L.Link.handed in
    let given = g.W.L.Link.sent in
    let faults = g.W.L.Link.fault_count in
    let sound : faults x.link ≡ 0 = omega (arith, c.faults-failed.ensures, c.if-failed.false) in
    let limited = c.in-Ok-whole_record.record.limited in
    let log = c.in-Ok-whole_record.record.log in
    node_record handed given faults c.args.config.now c.args.node.host c.args.node.cell c.args.node.hub rounds ports tasks start c.args.ends.items c.args.halt it rest x
    c.take_carried-end.ensures (g.W.Wire.handed c.args.wire.now) (g.W.Wire.handed c.close.new.self) new sound c.close.ensures.handed limited log
    (c.in-Ok-whole_record.ensures.ran rounds tasks it.n
    (ended handed given faults c.args.config.now c.args.node.host c.args.node.cell c.args.node.hub rounds ports tasks start c.args.ends.items c.args.halt it rest x
    c.take_carried-end.ensures c.in-Ok.all.items c.in-Ok.ensures)
    (sound_link handed given faults c.args.config.now c.args.node.host c.args.node.cell c.args.node.hub rounds ports tasks start c.args.ends.items c.args.halt it rest x
    c.take_carried-end.ensures (g.W.Wire.handed c.args.wire.now) (g.W.Wire.handed c.close.new.self) new sound c.close.ensures.handed))

pub returns-in-Ok-whole_record-clause-sent : goal.returns-in-Ok-whole_record-clause-sent
returns-in-Ok-whole_record-clause-sent g c = λ rounds ports tasks start new it stations.
    let x = c.take_carried-end.result in
    let rest = c.take_carried-end.new.ends.items in
    let handed = g.W.L.Link.handed in
    let given = g.W.L.Link.sent in
    let faults = g.W.L.Link.fault_count in
    node_sent handed given faults c.args.config.now c.args.node.host c.args.node.cell c.args.node.hub rounds ports tasks start c.args.ends.items c.args.halt it rest x
    c.take_carried-end.ensures (g.W.Wire.sent c.args.wire.now) (g.W.Wire.sent c.close.new.self) c.in-Ok-whole_record.record.log.events new
    c.close.ensures.sent stations
    (c.in-Ok-whole_record.ensures.own rounds tasks it.n
    (ended handed given faults c.args.config.now c.args.node.host c.args.node.cell c.args.node.hub rounds ports tasks start c.args.ends.items c.args.halt it rest x
    c.take_carried-end.ensures c.in-Ok.all.items c.in-Ok.ensures))

pub returns-in-Ok-whole_record-clause-fault : goal.returns-in-Ok-whole_record-clause-fault
returns-in-Ok-whole_record-clause-fault g c =
    let faults = g.W.L.Link.fault_count c.take_carried-end.result.link in
    let sound : faults ≡ 0 = omega (arith, c.faults-failed.ensures, c.if-failed.false) in
    counts_nothing faults (g.W.Wire.fault_count c.args.wire.now) (g.W.Wire.fault_count c.close.new.self) sound c.close.ensures.faults
