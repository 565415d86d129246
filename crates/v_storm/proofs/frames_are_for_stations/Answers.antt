use Rattle.v_storm.proofs.Laws as laws
use Rattle.v_storm.proofs.frames_are_for_stations.Goals as goal

pub returns : goal.returns
returns c = laws.frames_are_for_stations
