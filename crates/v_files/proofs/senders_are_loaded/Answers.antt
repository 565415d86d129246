use Rattle.v_files.proofs.Events.{senders_loaded_in}
use Rattle.v_files.proofs.Loads.{senders_loaded}
use Rattle.v_files.proofs.senders_are_loaded.Goals as goal

pub returns : goal.returns
returns c = record { runs = senders_loaded; histories = senders_loaded_in }
