use Rattle.std.proofs.Common.{take}
use Rattle.vk_top.specs.Programs.{AreTopPrograms, tasks_at}
use Rattle.vk_top.proofs.program.programs_at.Given as goal

abbrev pub invariant-loop-task : goal.invariant-loop-task
invariant-loop-task l = AreTopPrograms (tasks_at l.host (take l.task-index l.tasks)) l.programs.items
