use Rattle.std.proofs.Common.{List, [], ◌∷◌, ◌++◌, map, refl, sym, ap, ◌∙◌, subst}
use mathlib.Core.Option.{some}
use Rattle.turn_cell.specs.Standings.{unsplit}
use Rattle.turn_cell.specs.Turns.{Kept}
use Rattle.turn_cell.proofs.Splitting.{begins}
use Rattle.turn_cell.proofs.cell.TurnCell.new.Goals as goal

pub new-requires : goal.new-requires
new-requires g c =
    let history = g.S.Replay.history in
    let origin = g.S.Replay.origin in
    let start = c.args.start in
    let items = c.push_reserved.ensures.items ∙ ap (λ l. l ++ start ∷ []) c.in-Ok-with_capacity.ensures.items in
    let Begins : g.row.S.Denot × List g.row.S.Denot → Type 0 = λ z. Kept history origin (origin z.0) c.args.seats
    record { words = 0 ∷ []; homes = map some z.1; views = unsplit (origin z.0) 0 c.args.seats ∷ [] } in
    subst Begins (λ i. (sym c.of.ensures i, sym items i)) (begins history origin (origin start) c.args.seats start c.requires.empty refl)
