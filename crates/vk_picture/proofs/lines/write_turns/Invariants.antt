use Rattle.std.proofs.Common.{◌≡◌, ◌++◌, drop}
use Rattle.vk_picture.specs.declared.lanes.Activity.TheVariants as activities
use Rattle.vk_picture.specs.Svg.{turns_text}
use Rattle.vk_picture.proofs.lines.write_turns.Given as goal

-- what is written and what the rows that are left add
abbrev pub invariant-loop-row : goal.invariant-loop-row
invariant-loop-row l =
    l.text.items ++ turns_text l.pid l.x l.activity (drop l.row-index l.rows)
    ≡ l.fn.text.items ++ turns_text l.pid l.x activities.Ready l.rows
