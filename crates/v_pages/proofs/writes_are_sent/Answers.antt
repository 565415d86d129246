use Rattle.v_pages.proofs.Events.{writes_sent_in}
use Rattle.v_pages.proofs.Sent.{writes_sent}
use Rattle.v_pages.proofs.writes_are_sent.Goals as goal

pub returns : goal.returns
returns c = record { runs = writes_sent; histories = writes_sent_in }
