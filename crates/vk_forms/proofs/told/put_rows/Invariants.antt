use Rattle.std.proofs.Common.{◌≡◌, ℕ, ◌+◌, ◌-◌, ◌++◌, List, length, drop}
use Rattle.vk_text.specs.Lines.{lines_of, words_from}
use Rattle.vk_forms.specs.Faults.{told_text}
use Rattle.vk_forms.specs.Follow.{goes_on}
use Rattle.vk_forms.specs.Forms.{behind}
use Rattle.vk_forms.proofs.told.put_rows.Given as goal

abbrev pub invariant-loop-row : goal.invariant-loop-row
invariant-loop-row l = (left : ℕ) (more : List (List ℕ)) → l.words + left ≡ length (words_from l.line 0)
    → l.into.items ++ told_text l.config.specs l.told.some l.told.last.now
    (goes_on l.config.specs (words_from l.line 0) left (behind l.front (lines_of (drop l.at l.rows))) ++ more)
    ≡ l.fn.into.items ++ told_text l.config.specs l.fn.start.some l.fn.start.last.now
    (goes_on l.config.specs (words_from l.line 0) left (behind l.front (lines_of l.rows)) ++ more)

abbrev pub decreases-loop-row : goal.decreases-loop-row
decreases-loop-row l = length l.rows - l.at
