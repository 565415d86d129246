use Rattle.std.proofs.Common.{codes}
use Rattle.vk_text.specs.Spelling.{pid_text}
use Rattle.vk_why.proofs.Writing.{two}
use Rattle.vk_why.proofs.reason.put_no_process.Goals as goal

pub returns : goal.returns
returns c =
    two _ _ _ _ (pid_text c.args.pid) (codes " is no process") c.in_ok-put_pid.ensures.ok c.put.ensures.ok
