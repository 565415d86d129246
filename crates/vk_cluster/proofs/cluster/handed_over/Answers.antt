use Rattle.std.proofs.Common.{ap, sym, ◌∙◌}
use Rattle.vk_cluster.specs.Found.{if_for}
use Rattle.vk_cluster.specs.Piles.{frame_at, frames_by_event, pile_of}
use Rattle.vk_base.specs.Options.{◌>>=◌}
use Rattle.vk_cluster.proofs.Taking.{handed_if, refused_if}
use Rattle.vk_cluster.proofs.cluster.handed_over.Goals as goal

pub returns-then-is_for : goal.returns-then-is_for
returns-then-is_for c =
    handed_if c.args.to c.in-Some.bytes.now
    (frame_at (frames_by_event (pile_of c.args.emitted.now)) c.args.place c.args.event c.args.output)
    c.in-Some.ensures.frame (sym c.is_for.ensures ∙ c.if-is_for.true)

pub returns-else-is_for : goal.returns-else-is_for
returns-else-is_for c =
    refused_if c.args.to c.in-Some.bytes.now
    (frame_at (frames_by_event (pile_of c.args.emitted.now)) c.args.place c.args.event c.args.output)
    c.in-Some.ensures.frame (sym c.is_for.ensures ∙ c.if-is_for.false)

pub returns-in-None : goal.returns-in-None
returns-in-None c = ap (λ o. o >>= if_for c.args.to) c.in-None.ensures.frame
