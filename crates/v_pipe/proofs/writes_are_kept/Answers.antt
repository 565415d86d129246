use Rattle.v_pipe.proofs.Writers.{writes_kept, writes_kept_in}
use Rattle.v_pipe.proofs.writes_are_kept.Goals as goal

pub returns : goal.returns
returns c = record { runs = writes_kept; histories = writes_kept_in }
