use Rattle.std.proofs.Common.{◌++◌, ◌∙◌}
use Rattle.std.proofs.lemmas.Result.{on_ok_weaker}
use Rattle.vk_text.specs.Texts.{shown}
use Rattle.vk_host.specs.Responses.{answer_of}
use Rattle.vk_report.specs.Report.{entry_lines}
use Rattle.vk_top.proofs.Events.{entry_told, trace_told}
use Rattle.vk_top.proofs.replay.put_told.Goals as goal

pub returns-in-Report : goal.returns-in-Report
returns-in-Report c =
    let front = shown c.args.text.now in
    let answer = answer_of c.args.station.now c.args.response.now in
    let entry = c.in_ok-put_told_entry.ensures.ok
    ∙ (λ i. front ++ entry_lines c.args.manner.form c.args.place (c.answer_view-answer.ensures.value i) (c.steps.ensures i))
    in on_ok_weaker c.put_frames.result
    (λ frames e last. entry_told c.args.manner.form c.args.station.now c.args.place answer e front _ _ last entry (frames e.frames last.sends))
    c.put_frames.ensures

pub returns-in-Trace : goal.returns-in-Trace
returns-in-Trace c =
    let front = shown c.args.text.now in
    let answer = answer_of c.args.station.now c.args.response.now in
    let entry = c.in_ok-put_told_entry.ensures.ok
    ∙ (λ i. front ++ entry_lines c.args.manner.form c.args.place (c.answer_view-answer.ensures.value i) (c.steps.ensures i))
    in λ e last. trace_told c.args.manner.form c.args.station.now c.args.place answer e front _ c.in-Trace.is last entry
