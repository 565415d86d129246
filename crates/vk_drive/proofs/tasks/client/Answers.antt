use Rattle.std.proofs.Common.{ap}
use Rattle.vk_types.specs.Types.{Pid}
use Rattle.vk_base.proofs.PidLemmas.{of_numbers}
use Rattle.vk_event.specs.declared.task.Task.{Task}
use Rattle.vk_event.specs.declared.task.TaskKind.TheVariants as kinds
use Rattle.vk_drive.proofs.tasks.client.Goals as goal

abbrev served_by : Pid → Pid → Task
served_by pid server = record { pid = pid; kind = kinds.PageClient server 16 4294967295 }

pub returns : goal.returns
returns c = ap (served_by c.args.pid) (of_numbers 1 1 _ _ _ _ _ _)
