use Rattle.std.proofs.Common.{refl}
use Rattle.vk_top.proofs.Programs.{programs_on}
use Rattle.vk_top.proofs.program.programs_of.Goals as goal

pub loop-task-preserved : goal.loop-task-preserved
loop-task-preserved c =
    programs_on c.args.tasks.now c.loop-task.task-index c.task-item.result (record { pid = c.task-item.result.pid; program = c.in_ok-program.program })
    c.loop-task.programs.items c.push.new.self.items c.loop-task-test.true c.task-item.is c.loop-task.invariant refl c.in_ok-program.ensures.task c.in_ok-program.ensures.after
    c.in_ok-push.ensures.items
