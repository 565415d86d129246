use Rattle.std.proofs.Common.{rules, subst, sym}
use Rattle.turn_cell.specs.Turns.{Waits}
use Rattle.turn_cell.proofs.Taking.{take_keeps}
use Rattle.turn_cell.proofs.turn.take.Goals as goal

pub compare_exchange-requires : goal.compare_exchange-requires
compare_exchange-requires g c =
    let waits = subst (Waits _) (sym c.loop.invariant.2) c.requires.waits in
    (search rules, search rules, take_keeps _ _ _ _ _ _ _ _ (search rules) waits)
