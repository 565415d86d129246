use Rattle.std.proofs.Common.{◌≡◌, ◌++◌, take}
use Rattle.std.specs.List.{flat_map}
use Rattle.vk_picture.specs.Svg.{column_text}
use Rattle.vk_picture.proofs.svg.write_columns.Given as goal

abbrev pub invariant-loop-column : goal.invariant-loop-column
invariant-loop-column l = l.text.items ≡ l.fn.text.items ++ flat_map (column_text l.bottom l.rows) (take l.column-index l.columns)
