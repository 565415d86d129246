use Rattle.std.proofs.Common.{ap, sym, ◌∙◌}
use Rattle.std.proofs.lemmas.Result.{IfOk-weaker}
use Rattle.vk_cluster.specs.Standing.{logs_of}
use Rattle.vk_rules.specs.Histories.{happened}
use Rattle.vk_cluster.proofs.Shown.{is_station, last_is, reported_entry, reported_missing}
use Rattle.vk_draw.specs.Rows.{picture_row}
use Rattle.vk_draw.proofs.playing.row_by.Goals as goal

pub host-station-requires : goal.host-station-requires
host-station-requires c =
    let r = c.requires in record { station = is_station r.0 r.1 c.args.cluster.now c.args.event.now c.args.report.now r.2 }

pub station_row-requires : goal.station_row-requires
station_row-requires c =
    let r = c.requires in
    let one = reported_entry c.args.report.now c.in-Event.answer (happened r.0 (logs_of r.0 r.1) c.args.event.now) r.2.next.report c.in-Event.is in (
      one.entry,
      last_is r.0 r.1 c.args.cluster.now c.args.event.now c.args.report.now r.2 one.entry one.is c.host-station.ensures.found.0
          c.host-station.result.now c.host-station.ensures.found.1 c.host-station.ensures.host c.in-Event.answer one.answered,
    )

pub returns-in-Event : goal.returns-in-Event
returns-in-Event c =
    let event = c.args.event.now in
    let report = c.args.report.now in
    IfOk-weaker c.station_row.result _ _
    (λ row is s es r.
    let one = reported_entry report c.in-Event.answer (happened s (logs_of s es) event) r.next.report c.in-Event.is in
    is one.entry
    (last_is s es c.args.cluster.now event report r one.entry one.is c.host-station.ensures.found.0 c.host-station.result.now
    c.host-station.ensures.found.1 c.host-station.ensures.host c.in-Event.answer one.answered)
    ∙ ap (picture_row c.args.number event) (sym one.is))
    c.station_row.ensures

pub returns-in-Missing : goal.returns-in-Missing
returns-in-Missing c = λ s es r.
    let h = happened s (logs_of s es) c.args.event.now in
    c.missing_row.ensures
    ∙ ap (picture_row c.args.number c.args.event.now) (sym (reported_missing c.args.report.now h r.next.report c.in-Missing.is))
