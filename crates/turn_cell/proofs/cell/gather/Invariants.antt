use Rattle.std.proofs.Common.{◌≡◌, ◌++◌, All, map, vec_len}
use Rattle.turn_cell.specs.Held.{IsWhole, account_of}
use Rattle.turn_cell.specs.Standings.{accounts_in}
use Rattle.turn_cell.proofs.cell.gather.Given as goal

abbrev pub invariant-loop-seat : goal.invariant-loop-seat
invariant-loop-seat g l = record {
  on : l.place.table_id ≡ l.board.table_id;
  whole : IsWhole l.place.me;
  same : All (λ s. s.table ≡ l.board.table_id) l.seats.items;
  kept : map account_of l.seats.items ++ accounts_in l.place.me.0 ≡ map account_of l.fn.seats.items;
}

abbrev pub decreases-loop-seat : goal.decreases-loop-seat
decreases-loop-seat g l = vec_len l.seats
