use Rattle.std.proofs.Common.{rules, ◌+◌, ◌<◌, ◌∙◌, [], sym, ap, subst, arith}
use Rattle.std.proofs.lemmas.Grind.{common_steps}
use Rattle.turn_cell.specs.Held.{sitting}
use Rattle.turn_cell.specs.Seats.{Cell, fresh}
use Rattle.turn_cell.specs.Standings.{with_first, without_first}
use Rattle.turn_cell.proofs.Gathering.{each_more}
use Rattle.turn_cell.proofs.Splitting.{split_keeps}
use Rattle.turn_cell.proofs.cell.deal.Goals as goal

pub split_seat-seat-requires : goal.split_seat-seat-requires
split_seat-seat-requires g c =
    let is = c.loop-number.invariant.place in
    let v = c.loop-number.place.me.0 in
    let more = subst (λ m. m.0.account.number + 1 < m.0.limit) (sym is) c.loop-number-test.true in
    (search rules, search rules, split_keeps _ _ _ _ _ v (ap (λ m. m.0.holds) is) (ap (λ m. m.0.ended) is) more)

pub loop-number-preserved : goal.loop-number-preserved
loop-number-preserved g c =
    let before = c.loop-number.invariant in
    let split = c.split_seat-seat.ensures in
    let number = c.loop-number.number in
    let origin = g.S.Replay.origin c.args.board.now.key.start.value in
    let cell : Cell g.row.S.Denot = record { table = c.args.board.now.table_id; origin = origin; seats = c.args.seats } in
    let table = split.3 ∙ before.on in
    let me = split.4 ∙ ap (λ m. (with_first m.0, [])) before.place in
    let count = sym c.loop-number.dealt.ok.0 ∙ before.count in
    record {
      on = split.0 ∙ before.on;
      place = split.2 ∙ ap (λ m. (without_first m.0, m.1)) before.place;
      under = omega arith;
      count = grind (arith, common_steps);
      room = grind (arith, common_steps);
      each = rw c.push_reserved.ensures.items
          (each_more (fresh cell) c.loop-number.dealt.items _ number count before.each (λ i. sitting (table i) number (me i)));
    }

pub returns-clause-each : goal.returns-clause-each
returns-clause-each g c =
    let before = c.loop-number.invariant in
    let number = c.loop-number.number in
    let origin = g.S.Replay.origin c.args.board.now.key.start.value in
    let cell : Cell g.row.S.Denot = record { table = c.args.board.now.table_id; origin = origin; seats = c.args.seats } in
    let count = sym c.loop-number.dealt.ok.0 ∙ before.count in
    rw c.push_reserved-2.ensures.items
    (λ k under. each_more (fresh cell) c.loop-number.dealt.items _ number count before.each
    (λ i. sitting (before.on i) number (before.place i)) k (omega arith))
