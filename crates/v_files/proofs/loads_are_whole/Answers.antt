use Rattle.v_files.proofs.Events.{loads_whole_in}
use Rattle.v_files.proofs.Loads.{loads_whole}
use Rattle.v_files.proofs.loads_are_whole.Goals as goal

pub returns : goal.returns
returns c = record { runs = loads_whole; histories = loads_whole_in }
