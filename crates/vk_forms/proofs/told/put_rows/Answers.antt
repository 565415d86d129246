use Rattle.std.proofs.Common.{ap, drop, sym, ◌++◌, ◌∙◌}
use Rattle.vk_text.specs.Lines.{lines_of, words_from}
use Rattle.vk_forms.specs.Faults.{told_text}
use Rattle.vk_forms.specs.Follow.{goes_on}
use Rattle.vk_forms.specs.Forms.{behind}
use Rattle.vk_forms.proofs.Telling.{no_row_told, row_told}
use Rattle.vk_forms.proofs.told.put_rows.Goals as goal

pub loop-row-preserved : goal.loop-row-preserved
loop-row-preserved c left more h =
    let specs = c.args.config.now.specs in
    let ws = words_from c.args.line.now 0 in
    c.in_ok-longer.ensures (goes_on specs ws left (behind c.args.front.now (lines_of (drop c.in-Some.next c.args.rows.now))) ++ more)
    ∙ (ap (λ x. c.loop-row.into.items ++ told_text specs c.loop-row.told.some c.loop-row.told.last.now x)
    (row_told specs ws left c.args.front.now (lines_of (drop c.loop-row.at c.args.rows.now)) c.in-Some.row.now
    (lines_of (drop c.in-Some.next c.args.rows.now)) c.follow-head.result.slot.now (words_from c.args.line.now c.follow-head.result.at)
    c.follow_behind-reach.result.slot.now (words_from c.args.line.now c.follow_behind-reach.result.at)
    c.follow_behind-reach.result.words c.args.words _ more c.in-Some.ensures.line c.follow-head.ensures.slot c.follow-head.ensures.left
    c.follow_behind-reach.ensures.slot c.follow_behind-reach.ensures.left c.follow_behind-reach.ensures.words h)
    ∙ c.loop-row.invariant left more h)

pub returns : goal.returns
returns c left more h =
    let specs = c.args.config.now.specs in
    ap (λ x. c.loop-row.into.items ++ told_text specs c.loop-row.told.some c.loop-row.told.last.now x)
    (sym (no_row_told specs (words_from c.args.line.now 0) left c.args.front.now (lines_of (drop c.loop-row.at c.args.rows.now)) more
    c.in_default.ensures.line))
    ∙ c.loop-row.invariant left more h
