use Rattle.std.proofs.Common.{◌≡◌, map, take}
use Rattle.vk_types.specs.Types.{ProcessSpec}
use Rattle.vk_event.specs.declared.task.Task.{Task}
use Rattle.vk_text.specs.Heads.{settings_of}
use Rattle.vk_drive.proofs.tasks.settings.Given as goal

abbrev sized : Task → ProcessSpec
sized t = record { pid = t.pid; size = 1024 }

abbrev pub invariant-loop-task : goal.invariant-loop-task
invariant-loop-task l = l.config ≡ settings_of (map sized (take l.task-index l.task-items))
