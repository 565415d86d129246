use Rattle.v_due.proofs.Arrived as arrived
use Rattle.v_due.proofs.law.new_sends_arrive.Goals as goal

pub returns : goal.returns
returns c = arrived.new_sends_arrive c.views_and_aliens_hold_anyhow.ensures
