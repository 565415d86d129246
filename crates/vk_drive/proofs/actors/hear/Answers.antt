use Rattle.std.proofs.Common.{refl, sym, ap, subst, ◌∙◌, arith}
use Rattle.std.proofs.lemmas.Option.{slice_get_within}
use Rattle.vk_cluster.specs.declared.report.StepReport.{StepReport}
use Rattle.vk_cluster.specs.Standing.{logs_of, report_by}
use Rattle.vk_host.specs.Responses.{answer_of}
use Rattle.vk_rules.specs.Histories.{happened, history_of}
use Rattle.vk_drive.specs.Driving.{IsNextOf}
use Rattle.vk_drive.specs.Tasks.{settings, task_at}
use Rattle.vk_drive.specs.Told.{answered_to}
use Rattle.vk_drive.proofs.Acting.{one_answer}
use Rattle.vk_drive.proofs.Chosen.{HearsOneAnswer, process_hears, processes_differ, quiet_tells}
use Rattle.vk_drive.proofs.Places.{quiet_at}
use Rattle.vk_drive.proofs.actors.hear.Goals as goal

pub hear_at-requires-clause-within : goal.hear_at-requires-clause-within
hear_at-requires-clause-within c =
    let hs = history_of settings c.requires.0 in
    let its = subst (λ p. IsNextOf p c.args.actors.now.items hs c.requires.1) c.in-Some.is c.requires.2 in
    let low = its.0 in
    let count = its.1.actors_are.count in
    omega (arith, low, count)

pub hear_at-requires-clause-none : goal.hear_at-requires-clause-none
hear_at-requires-clause-none c =
    let hs = history_of settings c.requires.0 in
    let its = subst (λ p. IsNextOf p c.args.actors.now.items hs c.requires.1) c.in-Some.is c.requires.2 in
    its.1.none

pub hear_at-requires-clause-there : goal.hear_at-requires-clause-there
hear_at-requires-clause-there c =
    let played = c.requires.3.played in
    slice_get_within c.args.course.now.stations.hosts.items c.args.at played.station played.found

pub returns-in-Some : goal.returns-in-Some
returns-in-Some c es e next happens =
    let hs = history_of settings es in
    let logs = logs_of settings es in
    let h = happened settings logs e in
    let place = c.in-Some.place in
    let its = subst (λ p. IsNextOf p c.args.actors.now.items hs e) c.in-Some.is next in
    let heard : HearsOneAnswer settings logs (task_at place).pid e =
    subst (HearsOneAnswer settings logs (task_at place).pid) (sym its.1.event)
    (process_hears settings logs place (answered_to (task_at place).pid hs)) in
    let played = happens.played in
    let s = played.station in
    let given = answer_of s c.args.course.now.response in
    let answered =
    one_answer given heard.answer (report_by s c.args.course.now.response).answer refl
    (ap (λ (r : StepReport). r.answer) played.told ∙ heard.reported) in
    c.hear_at.ensures hs h heard.answer s its.1.actors_are played.found answered heard.own
    (λ q few apart. heard.others (task_at q).pid (processes_differ place q its.0 few apart))

pub returns-in_default : goal.returns-in_default
returns-in_default c es e next happens =
    let hs = history_of settings es in
    let logs = logs_of settings es in
    let its = subst (λ p. IsNextOf p c.args.actors.now.items hs e) c.in_default.is next in
    quiet_at c.args.actors.now.items hs its.0 (happened settings logs e) (λ q. quiet_tells settings logs e (task_at q).pid its.1.quiet)
