use Rattle.std.proofs.Common.{◌≡◌, ◌+◌, ◌-◌, ◌≤◌, length, drop}
use Rattle.vk_text.specs.Lines.{lines_of, words_from}
use Rattle.vk_forms.specs.Follow.{farthest}
use Rattle.vk_forms.specs.Forms.{behind}
use Rattle.vk_forms.proofs.follow.farthest_in.Given as goal

abbrev pub invariant-loop-row : goal.invariant-loop-row
invariant-loop-row l = record {
  same : farthest l.config.specs (words_from l.line 0) (words_from l.line l.fn.start.at) (behind l.front (lines_of l.rows))
      ≡ farthest l.config.specs (words_from l.line 0) (words_from l.line l.best.at) (behind l.front (lines_of (drop l.at l.rows)));
  words : l.best.words + length (words_from l.line l.best.at) ≡ length (words_from l.line 0);
  within : l.best.at ≤ length l.line + 1;
}

abbrev pub decreases-loop-row : goal.decreases-loop-row
decreases-loop-row l = length l.rows - l.at
