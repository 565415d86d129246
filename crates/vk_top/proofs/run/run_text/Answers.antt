use Rattle.std.proofs.Common.{◌≡◌, inl, refl, subst, sym}
use Rattle.std.proofs.lemmas.Result.{IfErr-weaker, err_from_is_err_and}
use Rattle.vk_top.proofs.Runs.{refused_text, run_failed, run_grown, run_tells, some_scenario}
use Rattle.vk_top.proofs.Threaded.{not_run, not_run_tells}
use Rattle.vk_top.specs.Runs.{IsRunFailure, run_asked}
use Rattle.vk_top.specs.Threaded.{IsThreadedRefusal}
use Rattle.vk_top.proofs.run.run_text.Goals as goal

pub returns-in_err-scenario-clause-refused : goal.returns-in_err-scenario-clause-refused
returns-in_err-scenario-clause-refused g c =
    let text = c.args.text.now in
    let jobs = g.C.Crew.job_count c.args.crew.now in
    let left = err_from_is_err_and c.from_residual.result c.from_residual.ensures.1 in
    rw (left.1, left.2)
    (not_run run_asked (IsRunFailure jobs jobs) _ text _ refl (inl refl) (refused_text text _ c.in_err-scenario.ensures.refused))

pub returns-in_err-scenario-clause-faults : goal.returns-in_err-scenario-clause-faults
returns-in_err-scenario-clause-faults g c =
    let text = c.args.text.now in
    let left = err_from_is_err_and c.from_residual.result c.from_residual.ensures.1 in
    rw (left.1, left.2) (not_run_tells run_asked _ text _ _ (λ none. none) (refused_text text _ c.in_err-scenario.ensures.refused))

pub returns-in_err-ran-clause-refused : goal.returns-in_err-ran-clause-refused
returns-in_err-ran-clause-refused g c =
    let left = err_from_is_err_and c.from_residual-in_err-ran.result c.from_residual-in_err-ran.ensures.1 in
    rw (left.1, left.2)
    (run_failed c.args.text.now c.in_ok-scenario.scenario _ _ c.requires c.in_ok-scenario.ensures.scenario
    (c.run_scenario.new.crew ≡ c.args.crew.now) _ c.in_err-ran.ensures.no_jobs)

pub returns-in_err-ran-clause-faults : goal.returns-in_err-ran-clause-faults
returns-in_err-ran-clause-faults g c =
    let left = err_from_is_err_and c.from_residual-in_err-ran.result c.from_residual-in_err-ran.ensures.1 in
    rw (left.1, left.2) (run_tells _ _ _ c.in_err-ran.ensures.fault)

pub returns-clause-refused : goal.returns-clause-refused
returns-clause-refused g c =
    let text = c.args.text.now in
    let s = c.in_ok-scenario.scenario in
    let is = c.in_ok-scenario.ensures.scenario in
    let Failure = IsRunFailure (g.C.Crew.job_count c.args.crew.now) (g.C.Crew.job_count c.run_scenario.new.crew) in
    IfErr-weaker c.written.result _ _
    (λ e same. subst (IsThreadedRefusal run_asked Failure _ text) (sym same)
    (some_scenario text s is, run_grown text s _ _ c.requires is c.in_ok-ran.ensures.jobs))
    c.written.ensures.refused
