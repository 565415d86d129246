use Rattle.std.proofs.Common.{sym, ◌∙◌}
use Rattle.vk_event.proofs.NodeFrames.{uncounted}
use Rattle.vk_event.proofs.node_line.frame.Goals as goal

pub returns-then-not-is_frame_size : goal.returns-then-not-is_frame_size
returns-then-not-is_frame_size c = uncounted c.args.word.now (sym c.is_frame_size.ensures ∙ c.if-not-is_frame_size.true)
