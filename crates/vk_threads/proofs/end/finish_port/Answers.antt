use Rattle.vk_threads.proofs.Finishing.{has_failed, has_finished}
use Rattle.vk_threads.proofs.end.finish_port.Goals as goal

pub returns-in-Ok-clause-ended : goal.returns-in-Ok-clause-ended
returns-in-Ok-clause-ended g c =
    has_finished c.args.port c.end-seat.result.0 c.end-seat.result.1 c.finished.new.seat _ c.end-seat.ensures.seat c.end-seat.ensures.hub_seat
    c.finished.ensures.same c.in-Ok.ensures.ok

pub returns-in-Err-clause-ended : goal.returns-in-Err-clause-ended
returns-in-Err-clause-ended g c =
    has_failed c.args.port c.end-seat.result.0 c.end-seat.result.1 c.finished.new.seat c.stop.new.seat c.in-Err.why c.end-seat.ensures.seat
    c.end-seat.ensures.hub_seat c.finished.ensures.same c.in-Err.ensures.err c.in-Err.ensures.refused c.stop.ensures.same c.stop.ensures.later
    c.stop.ensures.mine c.stop.ensures.halted
