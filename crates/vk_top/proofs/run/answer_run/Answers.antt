use Rattle.std.proofs.Common.{◌≡◌, inr, refl, inl}
use Rattle.vk_edge.proofs.Answers.{other_than}
use Rattle.vk_top.proofs.Outcomes.{done_flushed}
use Rattle.vk_top.proofs.Threaded.{run_refused, work_late, work_written, written_tells}
use Rattle.vk_top.specs.Runs.{IsRunFailure, run_asked}
use Rattle.vk_top.specs.Threaded.{IsThreadedRefusal}
use Rattle.vk_top.specs.declared.status.Status.TheVariants as status
use Rattle.vk_top.proofs.run.answer_run.Goals as goal

pub write_work-requires : goal.write_work-requires
write_work-requires g c = work_late _ _ _ _ c.in-Ok.ensures.work

pub returns-in-Ok-clause-answered : goal.returns-in-Ok-clause-answered
returns-in-Ok-clause-answered g c =
    work_written _ _ _ _ _ _ _ _ _ _ c.requires c.in-Ok.ensures.work c.write_work.ensures.written c.write_work.ensures.front

pub returns-in-Ok-clause-flushed : goal.returns-in-Ok-clause-flushed
returns-in-Ok-clause-flushed g c = done_flushed _ _ c.write_work.ensures.flushed

pub returns-in-Ok-clause-all_flushed : goal.returns-in-Ok-clause-all_flushed
returns-in-Ok-clause-all_flushed g c = λ whole. inr (c.write_work.ensures.flushed whole)

pub returns-in-Ok-clause-crew_faults : goal.returns-in-Ok-clause-crew_faults
returns-in-Ok-clause-crew_faults g c =
    written_tells _ _ _ _ _ _ _ _ tt (work_late _ _ _ _ c.in-Ok.ensures.work) c.write_work.ensures.written c.in-Ok.ensures.kept

pub returns-in-Err-clause-answered : goal.returns-in-Err-clause-answered
returns-in-Err-clause-answered g c = run_refused _ _ _ _ _ _ _ _ refl c.requires c.in-Err.ensures.refused

pub returns-in-Err-clause-flushed : goal.returns-in-Err-clause-flushed
returns-in-Err-clause-flushed g c =
    let Failure = IsRunFailure (g.C.Crew.job_count c.args.crew.now) (g.C.Crew.job_count c.run_text.new.crew) in
    let Refusal = IsThreadedRefusal run_asked Failure (c.run_text.new.crew ≡ c.args.crew.now) c.args.text.now in
    λ is. absurd (other_than Refusal c.in-Err.status status.Done c.in-Err.ensures.refused (λ none. none) is)

pub returns-in-Err-clause-all_flushed : goal.returns-in-Err-clause-all_flushed
returns-in-Err-clause-all_flushed g c = λ whole. inl refl

pub returns-in-Err-clause-write_count : goal.returns-in-Err-clause-write_count
returns-in-Err-clause-write_count g c =
    let Failure = IsRunFailure (g.C.Crew.job_count c.args.crew.now) (g.C.Crew.job_count c.run_text.new.crew) in
    let Refusal = IsThreadedRefusal run_asked Failure (c.run_text.new.crew ≡ c.args.crew.now) c.args.text.now in
    inr (other_than Refusal c.in-Err.status status.WriteFault c.in-Err.ensures.refused (λ none. none), refl)
