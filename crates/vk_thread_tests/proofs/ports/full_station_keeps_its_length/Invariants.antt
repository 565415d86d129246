use Rattle.std.proofs.Common.{◌≤◌}
use Rattle.turn_cell.specs.Seats.{IsSeatOf}
use Rattle.vk_thread_tests.proofs.ports.full_station_keeps_its_length.Given as goal

abbrev pub invariant-loop-event : goal.invariant-loop-event
invariant-loop-event g l = record {
  seat : IsSeatOf l.cell l.seat;
  room : 2048 ≤ l.out.room;
}
