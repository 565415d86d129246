use Rattle.std.proofs.Common.{ap, [], sym, subst, true}
use Rattle.vk_udp.specs.Dealt.{AreProcesses, IsNodePort, IsStocked}
use Rattle.vk_udp.proofs.Dealing.{as_named, node_dealt}
use Rattle.vk_udp.proofs.deal.jobs_of.Goals as goal

pub add_programs-requires-clause-stock : goal.add_programs-requires-clause-stock
add_programs-requires-clause-stock g c = (1, c.requires.stock)

pub port-requires : goal.port-requires
port-requires g c =
    let stock = c.args.stock in
    let new = c.add_programs.new.stock in (
      0,
      as_named (λ s h k. IsStocked s h k 1 new.seats.items new.hub_seats.items) new.cell.now stock.cell.now new.hub.now stock.hub.now new.host
          stock.host
          (sym (ap (λ s. s.now) c.add_programs.ensures.cell)) (sym (ap (λ h. h.now) c.add_programs.ensures.hub)) (sym c.add_programs.ensures.host)
          (c.in_ok-add_programs.ensures.left 1 c.requires.stock),
    )

pub returns : goal.returns
returns g c =
    let stock = c.args.stock in
    let one = c.add_programs.new.stock in
    let each = c.in_ok-add_programs.ensures.jobs []
    (subst (AreProcesses stock.cell.now stock.hub.now stock.host []) (sym c.new-jobs.ensures.items) tt) in
    let ticks = as_named (λ s h k. IsNodePort s h k true c.in_ok-port.port) stock.cell.now one.cell.now stock.hub.now one.hub.now stock.host
    one.host (ap (λ s. s.now) c.add_programs.ensures.cell) (ap (λ h. h.now) c.add_programs.ensures.hub) c.add_programs.ensures.host
    c.in_ok-port.ensures.port in
    node_dealt stock.cell.now stock.hub.now stock.host c.args.roster.programs.items c.args.roster.rounds g.S.Start.duty c.in_ok-carrier.carrier
    c.add_programs.new.jobs.items c.push.new.self.items c.push-2.new.self.items c.in_ok-port.port c.in_ok-clock.clock
    each c.in_ok-push.ensures.items c.in_ok-push-2.ensures.items ticks c.in_ok-clock.ensures c.in_ok-carrier.ensures
