use Rattle.std.proofs.Common.{◌+◌, sym, subst, min, IfOk}
use denote.Param.Send.{sendable}
use Rattle.std.proofs.Crossing.{crosses}
use Rattle.vk_base.specs.Settings.{Settings}
use Rattle.vk_rules.specs.Each.{Each}
use Rattle.vk_top.proofs.Nodes.{station_ports, station_processes}
use Rattle.vk_top.proofs.Programs.{programs_count, programs_fresh, programs_tasks, scenario_tasks}
use Rattle.vk_top.proofs.Sending.{program_send}
use Rattle.vk_top.proofs.Stations.{station_apart}
use Rattle.vk_top.specs.Programs.{AreTopPrograms, IsTopTask, assignments_at, tasks_at}
use Rattle.vk_udp.specs.Node.{HavePort, IsNodeRecord, IsProcessAt, TellsNodeJobs}
use Rattle.vk_top.proofs.node.run_station.Goals as goal

pub programs_at-requires : goal.programs_at-requires
programs_at-requires g c =
    let s = c.args.asked.now.scenario in
    subst (λ (x : Settings). Each (IsTopTask x.specs) c.as_slice.result.now) (sym c.in-Ok.ensures)
    (subst (Each (IsTopTask s.config.specs)) (sym c.as_slice.ensures) (scenario_tasks s c.requires.lawful))

pub run_node-requires-send-G : goal.run_node-requires-send-G
run_node-requires-send-G g c κs within = search (sendable, crosses, program_send) depth 20

pub run_node-requires-clause-processes : goal.run_node-requires-clause-processes
run_node-requires-clause-processes g c κs within =
    subst (λ (x : Settings). Each (IsProcessAt x.specs c.args.asked.now.host) c.in-Ok-programs_at.programs.items) (sym c.in-Ok.ensures)
    (station_processes c.args.asked.now.scenario c.args.asked.now.host c.in-Ok-programs_at.programs.items c.requires.lawful
    (subst (λ l. AreTopPrograms (tasks_at c.args.asked.now.host l) c.in-Ok-programs_at.programs.items) c.as_slice.ensures c.in-Ok-programs_at.ensures))

pub run_node-requires-clause-apart : goal.run_node-requires-clause-apart
run_node-requires-clause-apart g c κs within =
    station_apart c.args.asked.now.scenario c.args.asked.now.host c.in-Ok-programs_at.programs.items c.requires.lawful
    (subst (λ l. AreTopPrograms (tasks_at c.args.asked.now.host l) c.in-Ok-programs_at.programs.items) c.as_slice.ensures c.in-Ok-programs_at.ensures)

pub run_node-requires-clause-fresh : goal.run_node-requires-clause-fresh
run_node-requires-clause-fresh g c κs within =
    programs_fresh (tasks_at c.args.asked.now.host c.as_slice.result.now) c.in-Ok-programs_at.programs.items c.in-Ok-programs_at.ensures

pub run_node-requires-clause-ports : goal.run_node-requires-clause-ports
run_node-requires-clause-ports g c κs within =
    let s = c.args.asked.now.scenario in
    subst (λ (x : Settings). HavePort x.specs c.args.asked.now.host c.as_slice-2.result.now) (sym c.in-Ok.ensures)
    (subst (HavePort s.config.specs c.args.asked.now.host) (sym c.as_slice-2.ensures) (station_ports s c.args.asked.now.host c.requires.lawful c.requires.ports))

pub returns-clause-ran : goal.returns-clause-ran
returns-clause-ran g c =
    let s = c.args.asked.now.scenario in
    subst (λ (x : Settings). IfOk c.run_node.result (λ r. IsNodeRecord x c.args.asked.now.host s.rounds (assignments_at c.args.asked.now.host s.tasks)
    (g.W.Wire.handed c.args.wire.now) (g.W.Wire.handed c.run_node.new.wire) r.limited r.log)) c.in-Ok.ensures
    (subst (λ ts. IfOk c.run_node.result (λ r. IsNodeRecord c.in-Ok.config c.args.asked.now.host s.rounds ts
    (g.W.Wire.handed c.args.wire.now) (g.W.Wire.handed c.run_node.new.wire) r.limited r.log))
    (programs_tasks (tasks_at c.args.asked.now.host s.tasks) c.in-Ok-programs_at.programs.items
    (subst (λ l. AreTopPrograms (tasks_at c.args.asked.now.host l) c.in-Ok-programs_at.programs.items) c.as_slice.ensures c.in-Ok-programs_at.ensures))
    c.run_node.ensures.ran)

pub returns-clause-jobs : goal.returns-clause-jobs
returns-clause-jobs g c =
    let s = c.args.asked.now.scenario in
    subst (λ n. TellsNodeJobs (g.C.Crew.job_count c.args.crew.now) (min (g.C.Crew.job_count c.args.crew.now + (n + 2)) 18446744073709551615)
    (g.C.Crew.job_count c.run_node.new.crew) c.run_node.result)
    (programs_count (tasks_at c.args.asked.now.host s.tasks) c.in-Ok-programs_at.programs.items
    (subst (λ l. AreTopPrograms (tasks_at c.args.asked.now.host l) c.in-Ok-programs_at.programs.items) c.as_slice.ensures c.in-Ok-programs_at.ensures))
    c.run_node.ensures.jobs
