use Rattle.v_pages.proofs.Events.{senders_served_in}
use Rattle.v_pages.proofs.Senders.{senders_served}
use Rattle.v_pages.proofs.senders_are_served.Goals as goal

pub returns : goal.returns
returns c = record { runs = senders_served; histories = senders_served_in }
