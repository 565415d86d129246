use Rattle.v_run.proofs.Ran.{joined_runs_are_runs}
use Rattle.v_run.proofs.law.joined_runs_are_runs.Goals as goal

pub returns : goal.returns
returns c =
    joined_runs_are_runs c.frames_unseal_again.ensures c.frames_are_spelled_once.ensures c.packets_are_spelled_once.ensures.read
    c.bytes_are_of_stations.ensures c.answered_works_end_by_frames.ensures
