use Rattle.vk_threads.proofs.Dealing.{none_more}
use Rattle.vk_threads.proofs.deal.place_of.Goals as goal

pub loop-at-preserved : goal.loop-at-preserved
loop-at-preserved c =
    none_more c.args.spares.now c.loop-at.at c.args.host c.index-spares-at.result c.loop-at-test.true c.loop-at.invariant c.if-spares-at.false
