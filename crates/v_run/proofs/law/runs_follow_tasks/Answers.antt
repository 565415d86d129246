use Rattle.v_run.proofs.Followed.{runs_follow_tasks}
use Rattle.v_run.proofs.law.runs_follow_tasks.Goals as goal

pub returns : goal.returns
returns c = runs_follow_tasks
