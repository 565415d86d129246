use Rattle.std.proofs.Common.{drop, false, sym, true, ◌∙◌}
use Rattle.vk_text.specs.Lines.{lines_of, words_from}
use Rattle.vk_forms.specs.Follow.{stop_at}
use Rattle.vk_forms.proofs.Farthest.{none_whole, whole_row, whole_same}
use Rattle.vk_forms.proofs.follow.follows_in.Goals as goal

pub returns-then-whole : goal.returns-then-whole
returns-then-whole c =
    sym (whole_row c.args.config.now.specs _ (words_from c.args.line.now 0) c.args.front.now
    (lines_of (drop c.loop-row.at c.args.rows.now)) c.in-Some.row.now (lines_of (drop c.in-Some.next c.args.rows.now))
    c.follow-head.result.slot.now (words_from c.args.line.now c.follow-head.result.at) true
    c.loop-row.invariant c.in-Some.ensures.line c.follow-head.ensures.slot c.follow-head.ensures.left
    (whole_same (stop_at c.args.config.now.specs c.in-Some.row.now c.follow-head.result.slot.now (words_from c.args.line.now c.follow-head.result.at))
    c.follow_behind-reach.result.slot.now (words_from c.args.line.now c.follow_behind-reach.result.at) true
    c.follow_behind-reach.ensures.slot c.follow_behind-reach.ensures.left (sym c.if-whole.true ∙ c.is_followed-whole.ensures)))

pub loop-row-preserved : goal.loop-row-preserved
loop-row-preserved c =
    whole_row c.args.config.now.specs _ (words_from c.args.line.now 0) c.args.front.now
    (lines_of (drop c.loop-row.at c.args.rows.now)) c.in-Some.row.now (lines_of (drop c.in-Some.next c.args.rows.now))
    c.follow-head.result.slot.now (words_from c.args.line.now c.follow-head.result.at) false
    c.loop-row.invariant c.in-Some.ensures.line c.follow-head.ensures.slot c.follow-head.ensures.left
    (whole_same (stop_at c.args.config.now.specs c.in-Some.row.now c.follow-head.result.slot.now (words_from c.args.line.now c.follow-head.result.at))
    c.follow_behind-reach.result.slot.now (words_from c.args.line.now c.follow_behind-reach.result.at) false
    c.follow_behind-reach.ensures.slot c.follow_behind-reach.ensures.left (sym c.if-whole.false ∙ c.is_followed-whole.ensures))

pub returns : goal.returns
returns c = sym (none_whole c.args.config.now.specs _ _ _ _ c.loop-row.invariant c.in_default.ensures.line)
