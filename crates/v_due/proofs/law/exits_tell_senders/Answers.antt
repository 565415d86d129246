use Rattle.v_due.proofs.Exiting as exiting
use Rattle.v_due.proofs.law.exits_tell_senders.Goals as goal

pub returns : goal.returns
returns c = exiting.exits_tell_senders
