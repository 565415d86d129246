use Rattle.v_storm.proofs.Laws as laws
use Rattle.v_storm.proofs.programs_go_on.Goals as goal

pub returns : goal.returns
returns c = laws.programs_go_on
