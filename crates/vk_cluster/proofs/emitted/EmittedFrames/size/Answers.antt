use Rattle.std.proofs.Common.{sym, ◌∙◌}
use Rattle.vk_cluster.proofs.Piles.{concat_length}
use Rattle.vk_cluster.proofs.emitted.EmittedFrames.size.Goals as goal

pub returns : goal.returns
returns c = c.size.ensures ∙ sym (concat_length c.args.self.now.frames.items)
