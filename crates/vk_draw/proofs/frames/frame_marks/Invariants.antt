use Rattle.std.proofs.Common.{◌≡◌, ◌++◌, List, drop, map}
use Rattle.vk_rules.specs.Frames.{Frame}
use Rattle.vk_cluster.specs.Shown.{Sends}
use Rattle.vk_draw.specs.Rows.{frame_mark}
use Rattle.vk_draw.proofs.frames.frame_marks.Given as goal

abbrev pub invariant-loop-at : goal.invariant-loop-at
invariant-loop-at l = (fs : List Frame) → Sends l.station fs → l.marks ++ drop l.at (map frame_mark fs) ≡ map frame_mark fs
