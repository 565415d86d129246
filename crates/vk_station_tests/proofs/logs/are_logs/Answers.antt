use Rattle.std.proofs.Common.{arith}
use Rattle.vk_station_tests.proofs.Joining.{log_more, logs_are}
use Rattle.vk_station_tests.proofs.logs.are_logs.Goals as goal

pub loop-log-init : goal.loop-log-init
loop-log-init c = record { rise = tt; below = tt; each = tt }

pub loop-log-preserved : goal.loop-log-preserved
loop-log-preserved c =
    log_more c.args.config.now.specs c.args.logs.now c.loop-log.log-index c.loop-log.last c.log-item.result c.loop-log-test.true c.log-item.is
    c.if-log-last.false (c.is_log.ensures c.if-not-is_log.false)
    c.loop-log.invariant

pub returns : goal.returns
returns c is = logs_are c.args.config.now c.args.logs.now c.loop-log.log-index c.loop-log.last (omega arith) c.loop-log.invariant
