use Rattle.std.proofs.Common.{map}
use Rattle.vk_draw.specs.Rows.{frame_mark}
use Rattle.vk_draw.proofs.Marked.{marks_more}
use Rattle.vk_draw.proofs.frames.frame_marks.Goals as goal

pub loop-at-preserved : goal.loop-at-preserved
loop-at-preserved c = λ fs sends.
    marks_more (map frame_mark fs) c.loop-at.at c.loop-at.marks _ _ _ (c.frame_mark.ensures fs sends) c.in_ok-push.ensures.ok
    (c.loop-at.invariant fs sends)
