use Rattle.std.proofs.Common.{◌≡◌, ◌-◌, length, drop}
use Rattle.vk_text.specs.Lines.{lines_of, words_from}
use Rattle.vk_forms.specs.Follow.{follows}
use Rattle.vk_forms.specs.Forms.{behind}
use Rattle.vk_forms.proofs.follow.follows_in.Given as goal

abbrev pub invariant-loop-row : goal.invariant-loop-row
invariant-loop-row l = follows l.config.specs (words_from l.line 0) (behind l.front (lines_of l.rows))
    ≡ follows l.config.specs (words_from l.line 0) (behind l.front (lines_of (drop l.at l.rows)))

abbrev pub decreases-loop-row : goal.decreases-loop-row
decreases-loop-row l = length l.rows - l.at
