use Rattle.std.proofs.Common.{rules}
use Rattle.turn_cell.proofs.Giving.{give_keeps}
use Rattle.turn_cell.proofs.turn.give.Goals as goal

pub store-requires : goal.store-requires
store-requires g c =
    let back = c.requires.back in (search rules, search rules, give_keeps _ _ _ _ _ _ _ _ back.0 back.1 back.2)
