use Rattle.std.proofs.Common.{ap}
use Rattle.vk_types.specs.Types.{Pid}
use Rattle.vk_base.proofs.PidLemmas.{of_numbers}
use Rattle.vk_event.specs.declared.task.Task.{Task}
use Rattle.vk_event.specs.declared.task.TaskKind.TheVariants as kinds
use Rattle.vk_drive.proofs.tasks.server.Goals as goal

abbrev served : Pid → Task
served pid = record { pid = pid; kind = kinds.PageServer 16 4294967295 }

pub returns : goal.returns
returns c = ap served (of_numbers 1 1 _ _ _ _ _ _)
