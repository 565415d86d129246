use denote.Param.Send.{sendable}
use Rattle.std.proofs.Crossing.{crosses}
use Rattle.std.proofs.Common.{arith, ap, ◌∙◌, ◌+◌, min}
use Rattle.vk_threads.proofs.Sending.{end_send, work_send}
use Rattle.vk_threads.proofs.WholeRun.{dealt_count}
use Rattle.vk_threads.proofs.run.run_jobs.Goals as goal

pub returns-in-Ok-run_all-clause-jobs : goal.returns-in-Ok-run_all-clause-jobs
returns-in-Ok-run_all-clause-jobs g c =
    let count = dealt_count g.G.Program.task c.args.stock.sites.now c.args.stock.hub.now c.args.roster.programs.items c.args.roster.stations.items c.args.roster.rounds
    c.in-Ok.jobs.items c.in-Ok.ensures in
    c.in-Ok-run_all.ensures.jobs ∙ ap (λ n. min (g.C.Crew.job_count c.args.crew.now + n) 18446744073709551615) (omega (arith, c.in-Ok.jobs.ok.0, count))

pub run_all-requires-send-J : goal.run_all-requires-send-J
run_all-requires-send-J g c κs within = search (sendable, crosses, work_send) depth 20

pub run_all-requires-send-J-End : goal.run_all-requires-send-J-End
run_all-requires-send-J-End g c κs within = search (sendable, crosses, end_send) depth 20
