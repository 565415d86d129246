use Rattle.std.proofs.Common.{take}
use Rattle.vk_threads.specs.Assigned.{ArePrograms}
use Rattle.vk_threads.proofs.run.programs_of.Given as goal

abbrev pub invariant-loop-task : goal.invariant-loop-task
invariant-loop-task l = ArePrograms (take l.task-index l.tasks) l.programs.items
