use Rattle.v_due.proofs.Passed as passed
use Rattle.v_due.proofs.law.copies_change_nothing.Goals as goal

pub returns : goal.returns
returns c = passed.copies_change_nothing c.views_and_aliens_hold_anyhow.ensures
