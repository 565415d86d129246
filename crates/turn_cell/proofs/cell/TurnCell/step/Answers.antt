use Rattle.turn_cell.proofs.Turning.{has_entered_where_ok}
use Rattle.turn_cell.proofs.cell.TurnCell.step.Goals as goal

pub returns-clause-ok : goal.returns-clause-ok
returns-clause-ok g c =
    let start = g.S.Replay.origin c.self.inside.table.shared.key.start.value in
    let idle = c.seat.inside.seat.me in
    let turn = c.begin-found.new.seat.me in
    let ended = c.enter.new.seat.me in
    rw (← c.seat.view_is, ← c.self.view_is)
    (has_entered_where_ok g.S.Replay.history g.S.Replay.origin start _ _ _ idle turn ended _ _ _ _
    c.seat.invariant.0 c.begin-found.ensures.began c.enter.ensures.ok)
