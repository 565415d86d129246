use Rattle.std.proofs.Common.{◌≡◌, ◌++◌, take}
use Rattle.std.specs.List.{flat_map}
use Rattle.vk_picture.specs.Svg.{arrow_line}
use Rattle.vk_picture.proofs.svg.write_arrows.Given as goal

abbrev pub invariant-loop-row : goal.invariant-loop-row
invariant-loop-row l = l.text.items ≡ l.fn.text.items ++ flat_map (arrow_line l.picture) (take l.row-index l.rows)
