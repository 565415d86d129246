use Rattle.std.proofs.Common.{◌∙◌, Ok, subst}
use Rattle.vk_udp.specs.Carried.{TellsHeard}
use Rattle.vk_udp.proofs.Docking.{as_stopped, going, heard_but, heard_last, heard_on}
use Rattle.vk_udp.proofs.dock.Carry.receive.Goals as goal

pub invariant_of-self : goal.invariant_of-self
invariant_of-self g c =
    let l = g.L.Link in
    let w = c.self.inside in
    let none = c.self.view_is ∙ c.requires in
    let was = going l.handed l.sent l.fault_count g.S.Start.duty w.route.hub.now w.route.host w.route.ports.now w.port w.hub_seat w.link w.stop none
    c.self.invariant in
    as_stopped l.handed l.sent l.fault_count g.S.Start.duty w.route.hub.now w.route.host w.route.ports.now c.hear.new.port w.hub_seat c.hear.new.link w.stop none
    (heard_on l.handed l.sent l.fault_count g.S.Start.duty w.route.hub.now w.route.host w.route.ports.now w.port c.hear.new.port w.hub_seat w.link
    c.hear.new.link was c.in-Ok-Nothing.ensures.brought c.in-Ok-Nothing.ensures.sent
    (subst (λ h. TellsHeard (l.fault_count w.link) (l.fault_count c.hear.new.link) (Ok h)) c.in-Ok-Nothing.field-0-is c.in-Ok-Nothing.ensures.faults))

pub invariant_of-self-in-Ok-Datagram : goal.invariant_of-self-in-Ok-Datagram
invariant_of-self-in-Ok-Datagram g c =
    let l = g.L.Link in
    let w = c.self.inside in
    let none = c.self.view_is ∙ c.requires in
    let was = going l.handed l.sent l.fault_count g.S.Start.duty w.route.hub.now w.route.host w.route.ports.now w.port w.hub_seat w.link w.stop none
    c.self.invariant in
    as_stopped l.handed l.sent l.fault_count g.S.Start.duty w.route.hub.now w.route.host w.route.ports.now c.hear.new.port w.hub_seat c.hear.new.link w.stop none
    (heard_on l.handed l.sent l.fault_count g.S.Start.duty w.route.hub.now w.route.host w.route.ports.now w.port c.hear.new.port w.hub_seat w.link
    c.hear.new.link was c.in-Ok-Datagram.ensures.brought c.in-Ok-Datagram.ensures.sent
    (subst (λ h. TellsHeard (l.fault_count w.link) (l.fault_count c.hear.new.link) (Ok h)) c.in-Ok-Datagram.field-0-is c.in-Ok-Datagram.ensures.faults))

pub invariant_of-self-in-Ok-Failed : goal.invariant_of-self-in-Ok-Failed
invariant_of-self-in-Ok-Failed g c =
    let l = g.L.Link in
    let w = c.self.inside in
    let was = going l.handed l.sent l.fault_count g.S.Start.duty w.route.hub.now w.route.host w.route.ports.now w.port w.hub_seat w.link w.stop
    (c.self.view_is ∙ c.requires) c.self.invariant in
    let halt = c.stop.ensures in
    heard_last l.handed l.sent l.fault_count g.S.Start.duty w.route.hub.now w.route.host w.route.ports.now w.port c.hear.new.port w.hub_seat c.stop.new.seat
    w.link c.hear.new.link was c.in-Ok-Failed.ensures.brought c.in-Ok-Failed.ensures.sent
    (subst (λ h. TellsHeard (l.fault_count w.link) (l.fault_count c.hear.new.link) (Ok h)) c.in-Ok-Failed.field-0-is c.in-Ok-Failed.ensures.faults)
    (halt.same, halt.later, halt.mine, halt.halted)

pub invariant_of-self-in-Err : goal.invariant_of-self-in-Err
invariant_of-self-in-Err g c =
    let l = g.L.Link in
    let w = c.self.inside in
    let was = going l.handed l.sent l.fault_count g.S.Start.duty w.route.hub.now w.route.host w.route.ports.now w.port w.hub_seat w.link w.stop
    (c.self.view_is ∙ c.requires) c.self.invariant in
    let halt = c.stop-in-Err.ensures in
    heard_but l.handed l.sent l.fault_count g.S.Start.duty w.route.hub.now w.route.host w.route.ports.now w.port c.hear.new.port w.hub_seat
    c.stop-in-Err.new.seat w.link c.hear.new.link c.in-Err.why was c.in-Err.ensures.brought c.in-Err.ensures.full c.in-Err.ensures.sent
    c.in-Err.ensures.faults (halt.same, halt.later, halt.mine, halt.halted)
