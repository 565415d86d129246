use Rattle.v_group.proofs.Events.{codes_true_in}
use Rattle.v_group.proofs.Told.{codes_true}
use Rattle.v_group.proofs.codes_are_true_there.Goals as goal

pub returns : goal.returns
returns c = record { runs = codes_true; histories = codes_true_in }
