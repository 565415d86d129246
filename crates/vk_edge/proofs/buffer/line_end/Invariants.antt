use Rattle.std.proofs.Common.{◌-◌, ◌≤◌, drop, length}
use Rattle.vk_edge.specs.Pieces.{EndsNone}
use Rattle.vk_edge.proofs.buffer.line_end.Given as goal

abbrev pub invariant-loop-at : goal.invariant-loop-at
invariant-loop-at l = (l.at ≤ length l.bytes) × EndsNone (drop l.at l.bytes)

abbrev pub decreases-loop-at : goal.decreases-loop-at
decreases-loop-at l = l.at - l.from
