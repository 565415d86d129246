use Rattle.std.proofs.Common.{◌≡◌, drop}
use Rattle.vk_picture.specs.Places.{most_steps}
use Rattle.vk_picture.proofs.places.most_steps.Given as goal

abbrev pub invariant-loop-row : goal.invariant-loop-row
invariant-loop-row l = most_steps l.most (drop l.row-index l.rows) ≡ most_steps 0 l.rows
