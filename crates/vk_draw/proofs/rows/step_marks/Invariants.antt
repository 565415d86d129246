use Rattle.std.proofs.Common.{◌≡◌, map, take}
use Rattle.vk_draw.specs.Rows.{step_mark}
use Rattle.vk_draw.proofs.rows.step_marks.Given as goal

abbrev pub invariant-loop-at : goal.invariant-loop-at
invariant-loop-at l = l.marks ≡ map step_mark (take l.at l.steps)
