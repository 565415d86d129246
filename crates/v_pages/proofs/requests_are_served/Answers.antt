use Rattle.v_pages.proofs.Events.{requests_served_in}
use Rattle.v_pages.proofs.Senders.{requests_served}
use Rattle.v_pages.proofs.requests_are_served.Goals as goal

pub returns : goal.returns
returns c = record { runs = requests_served; histories = requests_served_in }
