-- Scripts and programs of pages.
use Rattle.std.specs.Prelude.{ℕ, List, Option, None}
use Rattle.vk_types.specs.Types.{Answer, Call}
use Rattle.vk_event.specs.declared.task.Task.{Task}
use Rattle.vk_event.specs.declared.task.TaskKind.{TaskKind}
use Rattle.vk_event.specs.declared.task.TaskKind.TheVariants as kinds
use Rattle.vk_program.specs.Tasks.{script_call}
use Rattle.vk_pages.specs.Clients.{client_call}
use Rattle.vk_pages.specs.Servers.{server_call}

-- what a process of this host and program calls after these answers; a program of another kind has no task here
abbrev pub kind_call : ℕ → TaskKind → List Answer → Option Call
kind_call host (kinds.Script calls) = script_call calls
kind_call host (kinds.PageServer pages requests) = server_call pages requests
kind_call host (kinds.PageClient server pages rounds) = client_call host server pages rounds
kind_call host kind = λ answers. None

abbrev pub task_call : Task → List Answer → Option Call
task_call t = kind_call t.pid.host t.kind
