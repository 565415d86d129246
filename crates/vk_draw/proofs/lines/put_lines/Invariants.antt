use Rattle.std.proofs.Common.{◌≡◌, ◌++◌, List, drop, flat_map}
use Rattle.vk_cluster.specs.Shown.{Sends}
use Rattle.vk_rules.specs.Frames.{Frame}
use Rattle.vk_text.specs.Texts.{shown}
use Rattle.vk_draw.specs.Frames.{line_of}
use Rattle.vk_draw.proofs.lines.put_lines.Given as goal

abbrev pub invariant-loop-at : goal.invariant-loop-at
invariant-loop-at l = (fs : List Frame) → Sends l.station fs →
    shown l.text ++ flat_map line_of (drop l.at fs) ≡ shown l.fn.text ++ flat_map line_of fs
