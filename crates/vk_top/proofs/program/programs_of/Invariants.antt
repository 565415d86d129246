use Rattle.std.proofs.Common.{take}
use Rattle.vk_top.specs.Programs.{AreTopPrograms}
use Rattle.vk_top.proofs.program.programs_of.Given as goal

abbrev pub invariant-loop-task : goal.invariant-loop-task
invariant-loop-task l = AreTopPrograms (take l.task-index l.tasks) l.programs.items
