use Rattle.std.proofs.Common.{subst, arith}
use Rattle.std.proofs.lemmas.List.{take_all}
use Rattle.vk_join.proofs.Takes.{each_more}
use Rattle.vk_rules.specs.Each.{Each}
use Rattle.vk_udp.specs.Gathered.{Fits}
use Rattle.vk_udp.proofs.gather.all_fit.Goals as goal

pub loop-event-preserved : goal.loop-event-preserved
loop-event-preserved c =
    each_more Fits c.args.events.now c.loop-event.event-index c.event-item.result c.loop-event-test.true c.event-item.is c.fits.ensures
    c.loop-event.invariant

pub returns : goal.returns
returns c = subst (Each Fits) (take_all c.loop-event.event-index c.args.events.now (omega arith)) c.loop-event.invariant
