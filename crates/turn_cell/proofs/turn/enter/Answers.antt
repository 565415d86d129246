use Rattle.std.proofs.Common.{ℕ, ◌≡◌, false, List, sym, subst}
use Rattle.turn_cell.proofs.Turning.{enters}
use Rattle.turn_cell.proofs.turn.enter.Goals as goal

pub returns-in-Ok-clause-ok : goal.returns-in-Ok-clause-ok
returns-in-Ok-clause-ok g c =
    let turn = c.requires.turn in
    let t = c.in-Ok.ensures.ok turn.state turn.has in
    let Grows : g.row.S.Denot × List (ℕ × g.row.S-Event.Denot) → Type 0 = λ z. g.S.Replay.full_at z.0 z.1 c.args.event.now ≡ false in
    let Gives : g.row.S.Denot × List (ℕ × g.row.S-Event.Denot) → Type 0 =
    λ z. g.S.Replay.gives z.0 z.1 c.args.number c.args.event.now c.args.out.now c.try_enter.new.out in (
      enters _ _ _ _ _ _ turn c.try_enter.ensures.same.2 t.0 _ _ c.requires.number t.2.0 _ (c.give.ensures.gave t.0 t.1),
      subst Grows (λ i. (turn.same i, sym turn.seen i)) t.2.3,
      subst Gives (λ i. (turn.same i, sym turn.seen i)) t.2.4,
    )
