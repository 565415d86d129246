use Rattle.std.proofs.Common.{◌≡◌, ◌+◌, sym, subst, min, length, OnOk, IfErr, IfOk}
use Rattle.v_run.specs.Ran.{IsRun}
use Rattle.vk_base.specs.Settings.{stations_of}
use Rattle.vk_pages.specs.Any.{IsTaskOf}
use Rattle.vk_rules.specs.Each.{Each}
use Rattle.vk_threads.specs.Assigned.{ArePrograms, LeavesJobs}
use Rattle.vk_threads.proofs.Dealing.{programs_count, programs_fresh, programs_tasks}
use Rattle.vk_threads.proofs.Scenarios.{scenario_apart, scenario_have, scenario_tasks}
use Rattle.vk_threads.proofs.run.run_stations.Goals as goal

pub programs_of-requires : goal.programs_of-requires
programs_of-requires g c =
    subst (Each (IsTaskOf c.args.scenario.config.specs)) (sym c.as_slice.ensures) (scenario_tasks c.args.scenario c.requires.lawful c.requires.kinds)

pub run_programs-requires-clause-processes : goal.run_programs-requires-clause-processes
run_programs-requires-clause-processes g c κs within =
    scenario_have c.args.scenario c.in-Ok.programs.items c.requires.lawful
    (subst (λ l. ArePrograms l c.in-Ok.programs.items) c.as_slice.ensures c.in-Ok.ensures)

pub run_programs-requires-clause-apart : goal.run_programs-requires-clause-apart
run_programs-requires-clause-apart g c κs within =
    scenario_apart c.args.scenario c.in-Ok.programs.items c.requires.lawful
    (subst (λ l. ArePrograms l c.in-Ok.programs.items) c.as_slice.ensures c.in-Ok.ensures)

pub run_programs-requires-clause-fresh : goal.run_programs-requires-clause-fresh
run_programs-requires-clause-fresh g c κs within = programs_fresh c.as_slice.result.now c.in-Ok.programs.items c.in-Ok.ensures

pub returns-clause-ran : goal.returns-clause-ran
returns-clause-ran g c =
    let s = c.args.scenario in
    subst (λ ts. IfOk c.run_programs.result (λ r. IsRun s.config s.plan s.rounds ts r.end r.schedule))
    (programs_tasks s.tasks c.in-Ok.programs.items (subst (λ l. ArePrograms l c.in-Ok.programs.items) c.as_slice.ensures c.in-Ok.ensures))
    c.run_programs.ensures.ran

pub returns-clause-jobs : goal.returns-clause-jobs
returns-clause-jobs g c =
    let s = c.args.scenario in
    subst (λ n. OnOk c.run_programs.result (g.C.Crew.job_count c.run_programs.new.crew
    ≡ min (g.C.Crew.job_count c.args.crew.now + (n + length (stations_of s.config.specs) + 1)) 18446744073709551615))
    (programs_count s.tasks c.in-Ok.programs.items (subst (λ l. ArePrograms l c.in-Ok.programs.items) c.as_slice.ensures c.in-Ok.ensures))
    c.run_programs.ensures.jobs

pub returns-clause-no_jobs : goal.returns-clause-no_jobs
returns-clause-no_jobs g c =
    let s = c.args.scenario in
    subst (λ n. IfErr c.run_programs.result (LeavesJobs (g.C.Crew.job_count c.args.crew.now)
    (min (g.C.Crew.job_count c.args.crew.now + (n + length (stations_of s.config.specs) + 1)) 18446744073709551615)
    (g.C.Crew.job_count c.run_programs.new.crew)))
    (programs_count s.tasks c.in-Ok.programs.items (subst (λ l. ArePrograms l c.in-Ok.programs.items) c.as_slice.ensures c.in-Ok.ensures))
    c.run_programs.ensures.no_jobs
