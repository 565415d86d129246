use Rattle.v_pipe.proofs.Readers.{senders_answered, senders_answered_in}
use Rattle.v_pipe.proofs.senders_are_answered.Goals as goal

pub returns : goal.returns
returns c = record { runs = senders_answered; histories = senders_answered_in }
