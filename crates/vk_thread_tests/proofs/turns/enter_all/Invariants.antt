use Rattle.turn_cell.specs.Seats.{IsSameSeat, IsSeatOf}
use Rattle.vk_thread_tests.proofs.turns.enter_all.Given as goal

abbrev pub invariant-loop-k : goal.invariant-loop-k
invariant-loop-k g l = IsSeatOf l.cell l.seat × IsSameSeat l.fn.seat l.seat
