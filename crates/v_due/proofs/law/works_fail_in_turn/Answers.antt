use Rattle.v_due.proofs.Patience as patience
use Rattle.v_due.proofs.law.works_fail_in_turn.Goals as goal

pub returns : goal.returns
returns c = record { only = patience.failures_come_in_turn; there = patience.works_fail_in_turn }
