use Rattle.v_due.proofs.Negated as negated
use Rattle.v_due.proofs.law.moves_are_gone_by_negatives.Goals as goal

pub returns : goal.returns
returns c = record { only = negated.gone_comes_by_move_negatives; there = negated.move_negatives_end_moves }
