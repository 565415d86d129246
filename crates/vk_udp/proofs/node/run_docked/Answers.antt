use denote.Param.Send.{sendable}
use Rattle.std.proofs.Crossing.{crosses}
use Rattle.std.proofs.Common.{arith, ap, ◌∙◌, ◌≡◌, ◌+◌, min, subst, sym}
use Rattle.turn_cell.specs.Seats.{IsSeatOf}
use Rattle.vk_udp.specs.Docked.{duty_of}
use Rattle.vk_udp.proofs.Dealing.{dealt_count}
use Rattle.vk_udp.proofs.RunJobs.{have_run}
use Rattle.vk_udp.proofs.Sending.{node_end_send, work_send}
use Rattle.vk_udp.proofs.node.run_docked.Goals as goal

pub returns-in-Ok-run_all-clause-ended : goal.returns-in-Ok-run_all-clause-ended
returns-in-Ok-run_all-clause-ended g c =
    let l = g.L.Link in
    let stock = c.args.stock in
    let roster = c.args.roster in
    let w = c.args.cargo in
    let same : c.into_seat.result ≡ c.args.halt = c.into_seat.ensures ∙ (c.in-Ok-run_all.ensures.halt ∙ c.new-halt.ensures) in
    have_run g.row.P.Denot g.row.S.Denot g.G.Program.task l.handed l.sent l.fault_count stock.cell.now stock.hub.now stock.host roster.programs.items
    roster.rounds g.S.Start.duty (duty_of l.handed l.sent l.fault_count w.port w.hub_seat w.route.ports.now w.link) c.in-Ok.jobs.items
    c.in-Ok-run_all.ends.items c.into_seat.result c.requires.start c.in-Ok.ensures c.in-Ok-run_all.ensures.ends
    (subst (IsSeatOf stock.hub.now) (sym same) c.requires.halt) (ap (λ s. s.mine) same ∙ c.requires.unhalted)

pub returns-in-Ok-run_all-clause-crew : goal.returns-in-Ok-run_all-clause-crew
returns-in-Ok-run_all-clause-crew g c =
    let stock = c.args.stock in
    let count = dealt_count stock.cell.now stock.hub.now stock.host c.args.roster.programs.items c.args.roster.rounds g.S.Start.duty c.in-Ok.jobs.items
    c.in-Ok.ensures in (
      c.in-Ok-run_all.ensures.cause,
      c.in-Ok-run_all.ensures.jobs
          ∙ ap (λ n. min (g.C.Crew.job_count c.args.crew.now + n) 18446744073709551615) (omega (arith, c.in-Ok.jobs.ok.0, count)),
    )

pub run_all-requires-send-J : goal.run_all-requires-send-J
run_all-requires-send-J g c κs within = search (sendable, crosses, work_send) depth 20

pub run_all-requires-send-J-End : goal.run_all-requires-send-J-End
run_all-requires-send-J-End g c κs within = search (sendable, crosses, node_end_send) depth 20
