use Rattle.std.proofs.Common.{◌<◌, ◌∙◌, length, sym, subst}
use Rattle.vk_queue.specs.Lists.{queue_at}
use Rattle.vk_local.proofs.Leaving.{emptied_at, emptying_first, emptying_more, shorter}
use Rattle.vk_local.proofs.exits.empty.Goals as goal

pub loop-init : goal.loop-init
loop-init c = emptying_first c.args.list c.args.queues.now c.requires

pub loop-preserved : goal.loop-preserved
loop-preserved c =
    (emptying_more c.args.list c.args.queues.now c.loop.queues c.pop_front.new.self _ c.loop.invariant c.pop_front.ensures.rest).0

pub loop-smaller : goal.loop-smaller
loop-smaller c =
    let more = emptying_more c.args.list c.args.queues.now c.loop.queues c.pop_front.new.self _ c.loop.invariant
    c.pop_front.ensures.rest in
    subst (λ q. length q < length (queue_at c.loop.queues.lists c.args.list)) (sym more.1)
    (shorter (queue_at c.loop.queues.lists c.args.list) c.in-Some.field-0 (sym c.in-Some.is ∙ c.pop_front.ensures.first))

pub returns : goal.returns
returns c =
    c.in_default.ensures.none
    ∙ emptied_at c.args.list c.args.queues.now c.loop.queues c.loop.invariant (sym c.in_default.is ∙ c.pop_front.ensures.first)
