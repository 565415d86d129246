use Rattle.std.proofs.Common.{arith, ◌+◌, subst}
use Rattle.vk_base.specs.declared.event.EventAnswer.TheVariants as answers
use Rattle.vk_udp.specs.Clocked.{HasLookedOn}
use Rattle.vk_udp.proofs.Clocking.{clocks_cut_pump, clocks_cut_tick, clocks_looked, clocks_none, clocks_stopped, clocks_tick, still_ticks}
use Rattle.vk_udp.proofs.clock.tick_on.Goals as goal

pub loop-init : goal.loop-init
loop-init g c = record { so_far = clocks_none c.args.port.now; may = c.requires }

pub returns-in-Err : goal.returns-in-Err
returns-in-Err g c =
    clocks_cut_tick c.loop.counter c.args.rounds c.args.port.now c.loop.port c.tick.new.self c.in-Err.why (omega arith) c.loop.invariant.so_far
    c.in-Err.ensures.err

pub returns-in-Ok-true : goal.returns-in-Ok-true
returns-in-Ok-true g c =
    clocks_stopped (c.loop.counter + 1) c.args.rounds c.args.port.now c.tick.new.self c.has_ended.new.port (omega arith)
    (clocks_tick c.loop.counter c.args.port.now c.loop.port c.tick.new.self (answers.Ticked c.in-Ok.now) c.loop.invariant.so_far c.in-Ok.ensures.ok)
    (subst (HasLookedOn c.tick.new.self c.has_ended.new.port) c.in-Ok-true.field-0-test c.in-Ok-true.ensures.looked)

pub returns-in-Err-has_ended : goal.returns-in-Err-has_ended
returns-in-Err-has_ended g c =
    clocks_cut_pump (c.loop.counter + 1) c.args.rounds c.args.port.now c.tick.new.self c.has_ended.new.port c.in-Err-has_ended.why (omega arith)
    (clocks_tick c.loop.counter c.args.port.now c.loop.port c.tick.new.self (answers.Ticked c.in-Ok.now) c.loop.invariant.so_far c.in-Ok.ensures.ok)
    c.in-Err-has_ended.ensures.cut

pub loop-preserved : goal.loop-preserved
loop-preserved g c =
    let so = clocks_looked (c.loop.counter + 1) c.args.port.now c.tick.new.self c.has_ended.new.port
    (clocks_tick c.loop.counter c.args.port.now c.loop.port c.tick.new.self (answers.Ticked c.in-Ok.now) c.loop.invariant.so_far c.in-Ok.ensures.ok)
    (subst (HasLookedOn c.tick.new.self c.has_ended.new.port) c.in-Ok-false.field-0-test c.in-Ok-false.ensures.looked) in
    record { so_far = so; may = still_ticks (c.loop.counter + 1) c.args.port.now c.has_ended.new.port so c.requires }
