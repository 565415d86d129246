use Rattle.std.proofs.Common.{ap, drop, refl, ◌∙◌}
use Rattle.vk_text.specs.Lines.{lines_of, words_from}
use Rattle.vk_forms.specs.Follow.{fewer}
use Rattle.vk_forms.proofs.Farthest.{farthest_done, farther_on, mark_left, mark_within, mark_words}
use Rattle.vk_forms.proofs.follow.farthest_in.Goals as goal

pub loop-row-init : goal.loop-row-init
loop-row-init c = record { same = refl; words = c.requires.words; within = c.requires.within }

pub loop-row-preserved : goal.loop-row-preserved
loop-row-preserved c = record {
  same = farther_on c.args.config.now.specs _ (words_from c.args.line.now 0) (words_from c.args.line.now c.loop-row.best.at) c.args.front.now
      (lines_of (drop c.loop-row.at c.args.rows.now)) c.in-Some.row.now (lines_of (drop c.in-Some.next c.args.rows.now))
      c.follow-head.result.slot.now (words_from c.args.line.now c.follow-head.result.at) (words_from c.args.line.now c.farther-best.result.at)
      c.loop-row.invariant.same c.in-Some.ensures.line c.follow-head.ensures.slot c.follow-head.ensures.left
      (mark_left c.args.line.now c.loop-row.best _ c.farther-best.result _ c.farther-best.ensures c.loop-row.invariant.words
      c.follow_behind-reach.ensures.words
      ∙ ap (fewer (words_from c.args.line.now c.loop-row.best.at)) c.follow_behind-reach.ensures.left);
  words = mark_words c.args.line.now c.loop-row.best _ c.farther-best.result _ c.farther-best.ensures c.loop-row.invariant.words
      c.follow_behind-reach.ensures.words;
  within = mark_within c.loop-row.best _ c.farther-best.result _ c.farther-best.ensures c.loop-row.invariant.within c.follow_behind-reach.ensures.within;
}

pub returns-clause-left : goal.returns-clause-left
returns-clause-left c = farthest_done c.args.config.now.specs _ _ _ _ _ c.loop-row.invariant.same c.in_default.ensures.line

pub returns-clause-words : goal.returns-clause-words
returns-clause-words c = c.loop-row.invariant.words

pub returns-clause-within : goal.returns-clause-within
returns-clause-within c = c.loop-row.invariant.within
