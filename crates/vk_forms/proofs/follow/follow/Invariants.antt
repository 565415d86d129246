use Rattle.std.proofs.Common.{◌≡◌, ◌+◌, ◌-◌, ◌≤◌, length}
use Rattle.vk_text.specs.Lines.{words_from}
use Rattle.vk_forms.specs.Follow.{stop}
use Rattle.vk_forms.proofs.follow.follow.Given as goal

abbrev pub invariant-loop-slot : goal.invariant-loop-slot
invariant-loop-slot l = record {
  same : stop l.config.specs (words_from l.form 0) (words_from l.line l.start)
      ≡ stop l.config.specs (words_from l.form l.place) (words_from l.line l.at);
  words : l.words + length (words_from l.line l.at) ≡ length (words_from l.line l.start);
  within : l.at ≤ length l.line + 1;
  few : l.start + l.words ≤ l.at;
}

abbrev pub decreases-loop-slot : goal.decreases-loop-slot
decreases-loop-slot l = length l.line + 1 - l.at
