use Rattle.std.proofs.Common.{◌≤◌, ◌-◌, length}
use Rattle.vk_text.specs.Words.{IsReadTo}
use Rattle.vk_text.proofs.word.unhex_blocks.Given as goal

abbrev pub invariant-loop-into : goal.invariant-loop-into
invariant-loop-into l = record { within : l.at ≤ length l.into; read : IsReadTo l.word l.into l.at }

abbrev pub decreases-loop-into : goal.decreases-loop-into
decreases-loop-into l = length l.into - l.at
