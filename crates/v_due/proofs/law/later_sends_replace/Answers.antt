use Rattle.v_due.proofs.Arrived as arrived
use Rattle.v_due.proofs.law.later_sends_replace.Goals as goal

pub returns : goal.returns
returns c = arrived.later_sends_replace c.views_and_aliens_hold_anyhow.ensures
