use Rattle.std.proofs.Common.{◌∙◌}
use Rattle.vk_udp.proofs.Docking.{as_stopped, going, sent_cut, sent_last, sent_on}
use Rattle.vk_udp.proofs.dock.Carry.send_round.Goals as goal

pub invariant_of-self : goal.invariant_of-self
invariant_of-self g c =
    let l = g.L.Link in
    let w = c.self.inside in
    let was = going l.handed l.sent l.fault_count g.S.Start.duty w.route.hub.now w.route.host w.route.ports.now w.port w.hub_seat w.link w.stop
    (c.self.view_is ∙ c.requires) c.self.invariant in
    sent_last l.handed l.sent l.fault_count g.S.Start.duty w.route.hub.now w.route.host w.route.ports.now w.port w.hub_seat c.send_each.new.hub_seat w.link
    c.send_each.new.link c.in-Ok.sent was c.in-Ok.ensures.fetched c.if-sent.true c.in-Ok.ensures.handed c.in-Ok.ensures.faults

pub invariant_of-self-else-sent : goal.invariant_of-self-else-sent
invariant_of-self-else-sent g c =
    let l = g.L.Link in
    let w = c.self.inside in
    let none = c.self.view_is ∙ c.requires in
    let was = going l.handed l.sent l.fault_count g.S.Start.duty w.route.hub.now w.route.host w.route.ports.now w.port w.hub_seat w.link w.stop none
    c.self.invariant in
    as_stopped l.handed l.sent l.fault_count g.S.Start.duty w.route.hub.now w.route.host w.route.ports.now w.port c.send_each.new.hub_seat
    c.send_each.new.link w.stop none
    (sent_on l.handed l.sent l.fault_count g.S.Start.duty w.route.hub.now w.route.host w.route.ports.now w.port w.hub_seat c.send_each.new.hub_seat w.link
    c.send_each.new.link c.in-Ok.sent was c.in-Ok.ensures.fetched c.if-sent.false c.in-Ok.ensures.handed c.in-Ok.ensures.faults)

pub invariant_of-self-in-Err : goal.invariant_of-self-in-Err
invariant_of-self-in-Err g c =
    let l = g.L.Link in
    let w = c.self.inside in
    let was = going l.handed l.sent l.fault_count g.S.Start.duty w.route.hub.now w.route.host w.route.ports.now w.port w.hub_seat w.link w.stop
    (c.self.view_is ∙ c.requires) c.self.invariant in
    let halt = c.stop.ensures in
    sent_cut l.handed l.sent l.fault_count g.S.Start.duty w.route.hub.now w.route.host w.route.ports.now w.port w.hub_seat c.send_each.new.hub_seat
    c.stop.new.seat w.link c.send_each.new.link c.in-Err.why was c.in-Err.ensures.fetched c.in-Err.ensures.full c.in-Err.ensures.handed
    c.in-Err.ensures.faults (halt.same, halt.later, halt.mine, halt.halted)
