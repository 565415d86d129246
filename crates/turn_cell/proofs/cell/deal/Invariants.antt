use Rattle.std.proofs.Common.{ℕ, ◌≡◌, ◌-◌, ◌<◌, ◌≤◌, [], Some, slice_get, vec_len, vec_capacity}
use Rattle.turn_cell.specs.Seats.{Cell, fresh}
use Rattle.turn_cell.specs.Standings.{unsplit}
use Rattle.turn_cell.proofs.cell.deal.Given as goal

abbrev pub invariant-loop-number : goal.invariant-loop-number
invariant-loop-number g l =
    let origin = g.S.Replay.origin l.board.key.start.value in
    let cell : Cell g.row.S.Denot = record { table = l.board.table_id; origin = origin; seats = l.seats } in
    record {
      on : l.place.table_id ≡ l.board.table_id;
      place : l.place.me ≡ (unsplit origin l.number l.seats, []);
      under : l.number < l.seats;
      count : vec_len l.dealt ≡ l.number;
      room : l.seats ≤ vec_capacity l.dealt;
      each : (k : ℕ) → k < l.number → slice_get l.dealt.items k ≡ Some (fresh cell k);
    }

abbrev pub decreases-loop-number : goal.decreases-loop-number
decreases-loop-number g l = l.seats - l.number
