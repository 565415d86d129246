use Rattle.std.proofs.Common.{◌≡◌, ◌++◌, take}
use Rattle.std.specs.List.{flat_map}
use Rattle.vk_picture.specs.Svg.{ruler_text}
use Rattle.vk_picture.proofs.svg.write_rulers.Given as goal

abbrev pub invariant-loop-row : goal.invariant-loop-row
invariant-loop-row l = l.text.items ≡ l.fn.text.items ++ flat_map (ruler_text l.steps l.width) (take l.row-index l.rows)
