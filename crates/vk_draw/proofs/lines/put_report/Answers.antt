use Rattle.std.proofs.Common.{◌++◌, ap, sym, ◌∙◌, append-nil}
use Rattle.std.proofs.lemmas.Result.{on_ok_weaker}
use Rattle.vk_cluster.specs.Standing.{logs_of}
use Rattle.vk_rules.specs.Histories.{happened}
use Rattle.vk_cluster.proofs.Shown.{is_station, last_is, reported_entry, reported_missing}
use Rattle.vk_text.specs.Texts.{shown}
use Rattle.vk_draw.specs.Frames.{happened_lines}
use Rattle.vk_draw.proofs.lines.put_report.Goals as goal

pub host-station-requires : goal.host-station-requires
host-station-requires c =
    let r = c.requires in record { station = is_station r.0 r.1 c.args.cluster.now r.2 c.args.report.now r.3 }

pub put_lines-requires : goal.put_lines-requires
put_lines-requires c =
    let r = c.requires in
    let one = reported_entry c.args.report.now c.in-Event.answer (happened r.0 (logs_of r.0 r.1) r.2) r.3.next.report c.in-Event.is in
    let last = last_is r.0 r.1 c.args.cluster.now r.2 c.args.report.now r.3 one.entry one.is c.host-station.ensures.found.0
    c.host-station.result.now c.host-station.ensures.found.1 c.host-station.ensures.host c.in-Event.answer one.answered in
    (one.entry.frames, last.sends)

pub returns-in-Event : goal.returns-in-Event
returns-in-Event c =
    let report = c.args.report.now in
    on_ok_weaker c.put_lines.result
    (λ is s es event r.
    let one = reported_entry report c.in-Event.answer (happened s (logs_of s es) event) r.next.report c.in-Event.is in
    let last = last_is s es c.args.cluster.now event report r one.entry one.is c.host-station.ensures.found.0 c.host-station.result.now
    c.host-station.ensures.found.1 c.host-station.ensures.host c.in-Event.answer one.answered in
    is one.entry.frames last.sends ∙ ap (λ h. shown c.args.text.now ++ happened_lines h) (sym one.is))
    c.put_lines.ensures

pub returns-in-Missing : goal.returns-in-Missing
returns-in-Missing c = λ s es event r.
    let h = happened s (logs_of s es) event in
    sym (append-nil (shown c.args.text.now))
    ∙ ap (λ h. shown c.args.text.now ++ happened_lines h) (sym (reported_missing c.args.report.now h r.next.report c.in-Missing.is))
