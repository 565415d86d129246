use Rattle.v_due.proofs.Nearby as nearby
use Rattle.v_due.proofs.law.near_sends_fail_by_exits.Goals as goal

pub returns : goal.returns
returns c = record { only = nearby.near_sends_fail_by_exits; there = nearby.exits_end_near_sends }
