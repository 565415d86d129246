use Rattle.v_due.proofs.Nearby as nearby
use Rattle.v_due.proofs.law.dead_targets_are_refused.Goals as goal

pub returns : goal.returns
returns c = record { dead = nearby.dead_targets_are_refused; live = nearby.other_sends_begin }
