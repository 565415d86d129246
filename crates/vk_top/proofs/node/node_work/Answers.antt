use Rattle.std.proofs.Common.{◌≡◌, List, IfOk, OnOk, Ok, inl, refl, subst, sym}
use Rattle.std.proofs.lemmas.Result.{IfErr-weaker, err_from_is_err_and}
use Rattle.vk_types.specs.Types.{StationEvent}
use Rattle.vk_event.specs.NodeLaws.{node_text, one_log}
use Rattle.vk_event.specs.Nodes.{nodes_of}
use Rattle.vk_top.proofs.Nodes.{node_failed, node_grown, node_tells_crew, node_tells_link, node_told}
use Rattle.vk_top.proofs.Threaded.{not_run, not_run_tells}
use Rattle.vk_top.specs.Nodes.{IsNodeFailure, node_asked, node_end}
use Rattle.vk_top.specs.Threaded.{IsThreadedRefusal, ended}
use Rattle.vk_top.proofs.node.node_work.Goals as goal

pub returns-in_err-scenario-clause-refused : goal.returns-in_err-scenario-clause-refused
returns-in_err-scenario-clause-refused g c =
    let jobs = g.C.Crew.job_count c.args.crew.now in
    let left = err_from_is_err_and c.from_residual.result c.from_residual.ensures.1 in
    rw (left.1, left.2)
    (not_run (node_asked c.args.asked.now.host) (IsNodeFailure c.args.asked.now.host jobs jobs) _ c.args.asked.now.text.now _ (refl, refl) (inl refl)
    c.in_err-scenario.ensures.refused)

pub returns-in_err-scenario-clause-crew_faults : goal.returns-in_err-scenario-clause-crew_faults
returns-in_err-scenario-clause-crew_faults g c =
    let left = err_from_is_err_and c.from_residual.result c.from_residual.ensures.1 in
    rw (left.1, left.2) (not_run_tells (node_asked c.args.asked.now.host) _ c.args.asked.now.text.now _ _ (λ none. none) c.in_err-scenario.ensures.refused)

pub returns-in_err-scenario-clause-link_faults : goal.returns-in_err-scenario-clause-link_faults
returns-in_err-scenario-clause-link_faults g c =
    let left = err_from_is_err_and c.from_residual.result c.from_residual.ensures.1 in
    rw (left.1, left.2) (not_run_tells (node_asked c.args.asked.now.host) _ c.args.asked.now.text.now _ _ (λ none. none) c.in_err-scenario.ensures.refused)

pub returns-in_err-ran-clause-refused : goal.returns-in_err-ran-clause-refused
returns-in_err-ran-clause-refused g c =
    let left = err_from_is_err_and c.from_residual-in_err-ran.result c.from_residual-in_err-ran.ensures.1 in
    rw (left.1, left.2)
    (node_failed c.args.asked.now.host c.args.asked.now.text.now c.in_ok-scenario.scenario _ _ c.requires c.in_ok-scenario.ensures.scenario
    ((c.run_station.new.crew ≡ c.args.crew.now) × (c.run_station.new.wire ≡ c.args.wire.now)) _ c.in_ok-scenario.ensures.some
    c.in_err-ran.ensures.jobs)

pub returns-in_err-ran-clause-crew_faults : goal.returns-in_err-ran-clause-crew_faults
returns-in_err-ran-clause-crew_faults g c =
    let left = err_from_is_err_and c.from_residual-in_err-ran.result c.from_residual-in_err-ran.ensures.1 in
    rw (left.1, left.2) (node_tells_crew _ _ _ _ _ c.in_err-ran.ensures.fault)

pub returns-in_err-ran-clause-link_faults : goal.returns-in_err-ran-clause-link_faults
returns-in_err-ran-clause-link_faults g c =
    let left = err_from_is_err_and c.from_residual-in_err-ran.result c.from_residual-in_err-ran.ensures.1 in
    rw (left.1, left.2) (node_tells_link _ _ _ _ _ c.in_err-ran.ensures.fault)

pub returns-clause-refused : goal.returns-clause-refused
returns-clause-refused g c =
    let text = c.args.asked.now.text.now in
    let s = c.in_ok-scenario.scenario in
    let Failure = IsNodeFailure c.args.asked.now.host (g.C.Crew.job_count c.args.crew.now) (g.C.Crew.job_count c.run_station.new.crew) in
    IfErr-weaker c.written.result _ _
    (λ e same. subst (IsThreadedRefusal (node_asked c.args.asked.now.host) Failure _ text) (sym same)
    (c.in_ok-scenario.ensures.some, node_grown c.args.asked.now.host text s _ _ c.requires c.in_ok-scenario.ensures.scenario c.in_ok-ran.ensures.jobs))
    c.written.ensures.refused

pub returns-clause-work : goal.returns-clause-work
returns-clause-work g c =
    let s = c.in_ok-scenario.scenario in
    let log = c.in_ok-ran.ran.log in
    let Read : List StationEvent → Type 0 =
    λ e. OnOk c.written.result (nodes_of (node_text s.config c.args.asked.now.host e) ≡ Ok (one_log s.config c.args.asked.now.host e)) in
    let Wrote : List StationEvent → Type 0 = λ e. IfOk c.written.result
    (λ w. (w.text.items ≡ node_text s.config c.args.asked.now.host e) × (w.status ≡ ended (node_end c.in_ok-ran.ran.limited))) in
    node_told c.args.asked.now.host
    (record { handed = g.W.Wire.handed c.args.wire.now; jobs = g.C.Crew.job_count c.args.crew.now })
    (record { handed = g.W.Wire.handed c.run_station.new.wire; jobs = g.C.Crew.job_count c.run_station.new.crew })
    c.args.asked.now.text.now s c.in_ok-ran.ran.limited log c.written.result c.requires c.in_ok-scenario.ensures.scenario
    c.in_ok-ran.ensures.ran
    c.in_ok-ran.ensures.jobs (subst Read c.as_slice-events.ensures c.written.ensures.read)
    (subst Wrote c.as_slice-events.ensures c.written.ensures.work)
