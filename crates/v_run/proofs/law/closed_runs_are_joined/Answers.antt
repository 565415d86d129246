use Rattle.v_run.proofs.Logged.{logs_may_be_joined}
use Rattle.v_run.proofs.Ran.{closed_runs_are_joined}
use Rattle.v_run.proofs.law.closed_runs_are_joined.Goals as goal

pub returns-clause-asked : goal.returns-clause-asked
returns-clause-asked c = logs_may_be_joined

pub returns-clause-joined : goal.returns-clause-joined
returns-clause-joined c =
    closed_runs_are_joined c.frames_unseal_again.ensures c.frames_are_spelled_once.ensures c.packets_are_spelled_once.ensures.read
    c.outputs_are_joined.ensures
