use Rattle.vk_udp.proofs.Docking.{begun}
use Rattle.vk_udp.proofs.dock.Carry.new.Goals as goal

pub invariant_of-result : goal.invariant_of-result
invariant_of-result g c =
    let l = g.L.Link in
    let w = c.args.cargo in
    begun l.handed l.sent l.fault_count g.S.Start.duty w.route.hub.now w.route.host w.route.ports.now w.port w.hub_seat w.link c.requires.cargo
    c.requires.start
