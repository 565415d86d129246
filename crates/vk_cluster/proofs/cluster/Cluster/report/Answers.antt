use Rattle.std.proofs.Common.{◌≡◌, sym, subst, ◌∙◌}
use Rattle.std.proofs.lemmas.Option.{slice_get_within}
use Rattle.vk_cluster.specs.declared.report.ClusterAnswer.TheVariants as answers
use Rattle.vk_cluster.specs.declared.report.StepReport.{StepReport}
use Rattle.vk_cluster.specs.Standing.{TellsReport, report_by}
use Rattle.vk_cluster.proofs.Told.{report_told, station_told}
use Rattle.vk_cluster.proofs.cluster.Cluster.report.Goals as goal

pub station-station-requires : goal.station-station-requires
station-station-requires c =
    let s = station_told c.args.self.now c.args.advance c.in-Event.place c.in-Event.response c.requires.0 c.in-Event.is c.requires.1 in
    slice_get_within c.args.self.now.hosts c.in-Event.place s.0 s.1

pub returns-in-Missing : goal.returns-in-Missing
returns-in-Missing c = λ r told. sym (subst (λ a. TellsReport c.args.self.now a r) c.in-Missing.is told)

pub returns-in-Event : goal.returns-in-Event
returns-in-Event c = λ r told.
    let s = c.station-station.result.now in
    let made : StepReport = record { host = c.host.result; event = c.events.result; answer = answers.Event c.answer.result } in
    let is : made ≡ report_by s c.in-Event.response =
    λ k. record { host = c.host.ensures k; event = c.events.ensures k; answer = answers.Event (c.answer.ensures k) } in
    is ∙ sym (report_told c.args.self.now c.args.advance c.in-Event.place c.in-Event.response r c.in-Event.is told s
    c.station-station.ensures)
