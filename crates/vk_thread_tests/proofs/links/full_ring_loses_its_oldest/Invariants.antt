use Rattle.turn_cell.specs.Seats.{IsSeatOf}
use Rattle.vk_thread_tests.proofs.links.full_ring_loses_its_oldest.Given as goal

abbrev pub invariant-loop-event : goal.invariant-loop-event
invariant-loop-event g l = IsSeatOf l.hub l.seat
