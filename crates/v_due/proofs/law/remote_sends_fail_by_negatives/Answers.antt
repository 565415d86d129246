use Rattle.v_due.proofs.Negated as negated
use Rattle.v_due.proofs.law.remote_sends_fail_by_negatives.Goals as goal

pub returns : goal.returns
returns c = record { only = negated.remote_sends_fail_by_negatives; there = negated.negatives_end_sends }
