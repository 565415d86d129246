use Rattle.std.proofs.Common.{◌≡◌, length}
use Rattle.vk_text.specs.Lines.{words_from}
use Rattle.vk_event.specs.Tasks.{pairs_of}
use Rattle.vk_event.proofs.PairWords.{behind}
use Rattle.vk_event.proofs.programs.read_pairs.Given as goal

abbrev pub invariant-loop-pairs : goal.invariant-loop-pairs
invariant-loop-pairs l = pairs_of (words_from l.line l.start) ≡ behind l.pairs (pairs_of (words_from l.line l.at))

abbrev pub decreases-loop-pairs : goal.decreases-loop-pairs
decreases-loop-pairs l = length (words_from l.line l.at)
