use Rattle.std.proofs.Common.{subst, arith}
use Rattle.std.proofs.lemmas.List.{take_all}
use Rattle.vk_join.specs.Logs.{IsOfStation}
use Rattle.vk_join.proofs.Takes.{each_more}
use Rattle.vk_rules.specs.Each.{Each}
use Rattle.vk_station_tests.proofs.logs.are_own.Goals as goal

pub loop-event-preserved : goal.loop-event-preserved
loop-event-preserved c =
    each_more (IsOfStation c.args.config.now.specs c.args.host) c.args.events.now c.loop-event.event-index c.event-item.result
    c.loop-event-test.true c.event-item.is (c.is_own.ensures c.if-not-is_own.false) c.loop-event.invariant

pub returns : goal.returns
returns c is =
    subst (Each (IsOfStation c.args.config.now.specs c.args.host)) (take_all c.loop-event.event-index c.args.events.now (omega arith))
    c.loop-event.invariant
