-- Any program of a scenario, as its task and the answers so far.
use Rattle.std.specs.Prelude.{◌≡◌, ℕ, ◌==◌, true, List, [], ◌∷◌, map, filter, Option}
use Rattle.vk_types.specs.Types.{Answer, Call, ProcessSpec}
use Rattle.vk_event.specs.ScenarioLaws.{IsReadableKind}
use Rattle.vk_event.specs.Tasks.{has_memory, memory_of}
use Rattle.vk_event.specs.declared.task.Task.{Task}
use Rattle.vk_event.specs.declared.task.TaskKind.{TaskKind}
use Rattle.vk_event.specs.declared.task.TaskKind.TheVariants as kinds
use Rattle.vk_files.specs.Loaders.{IsLoaderAfter, loader_calls}
use Rattle.vk_files.specs.MemoryDisks.{sure_state}
use Rattle.vk_files.specs.Numbered.{numbered_blocks}
use Rattle.vk_files.specs.Tasks.{IsAfter as IsFileServerAfter, file_task}
use Rattle.vk_group.specs.Coordinators.{IsCoordinatorAfter}
use Rattle.vk_group.specs.Groups.{coordinator_call}
use Rattle.vk_group.specs.Helpers.{IsHelperAfter, helper_call}
use Rattle.vk_group.specs.Members.{pairs_of}
use Rattle.vk_pages.specs.Any.{IsAfter as IsAnyAfter, call_by as any_call_by}
use Rattle.vk_pages.specs.Programs.{kind_call}
use Rattle.vk_pipe.specs.Pipes.{pipe_call}
use Rattle.vk_pipe.specs.Standing.{IsPipeAfter}
use Rattle.vk_program.specs.Tasks.{script_call}
use Rattle.v_run.specs.Outcomes.{Assignment}
use Rattle.vk_program.specs.declared.assigned.Assigned.{Assigned}
use Rattle.vk_top.specs.declared.program.TopProgram.{TopProgram}
use Rattle.vk_top.specs.declared.program.TopProgram.TheVariants as programs

-- its fields are in their ranges, and its process is there and has the memory for it
abbrev pub IsTopTask : List ProcessSpec → Task → Type 0
IsTopTask specs t = IsReadableKind t.kind × (has_memory specs t.pid (memory_of t.kind) ≡ true)

-- what a process of this host and program calls after these answers
abbrev pub program_call : ℕ → TaskKind → List Answer → Option Call
program_call host (kinds.FileServer files requests) = file_task (sure_state (numbered_blocks files)) requests
program_call host (kinds.Loader server file) = script_call (loader_calls server file)
program_call host (kinds.PipeServer requests) = pipe_call requests
program_call host (kinds.Group requests pairs) = coordinator_call pairs requests
program_call host (kinds.GroupHelper coordinator member) = helper_call coordinator member
program_call host kind = kind_call host kind

abbrev pub top_call : Task → List Answer → Option Call
top_call t = program_call t.pid.host t.kind

-- what the program calls after these answers
abbrev pub call_by : TopProgram → List Answer → Option Call
call_by (programs.Old program) = any_call_by program
call_by (programs.FileServer program) = file_task program.first program.requests
call_by (programs.Loader program) = script_call (loader_calls program.server program.file)
call_by (programs.PipeServer program) = pipe_call program.requests
call_by (programs.Coordinator program) = coordinator_call (pairs_of program.group.members) program.requests
call_by (programs.Helper program) = helper_call program.coordinator program.member

-- it may have been given these answers, and no others
abbrev pub IsAfter : TopProgram → List Answer → Type 0
IsAfter (programs.Old program) given = IsAnyAfter program given
IsAfter (programs.FileServer program) given = IsFileServerAfter program given
IsAfter (programs.Loader program) given = IsLoaderAfter program.at given
IsAfter (programs.PipeServer program) given = IsPipeAfter program given
IsAfter (programs.Coordinator program) given = IsCoordinatorAfter program.requests program.group given
IsAfter (programs.Helper program) given = IsHelperAfter program.stage given

-- what a task of a scenario asks of its process
abbrev pub assignment_of : Task → Assignment
assignment_of t = record { pid = t.pid; task = top_call t }

abbrev pub assignments_of : List Task → List Assignment
assignments_of ts = map assignment_of ts

-- those of the tasks whose processes are on this station, and what they ask
abbrev pub tasks_at : ℕ → List Task → List Task
tasks_at host ts = filter (λ (t : Task). t.pid.host == host) ts

abbrev pub assignments_at : ℕ → List Task → List Assignment
assignments_at host ts = assignments_of (tasks_at host ts)

-- the programs of these tasks, none of which was given an answer
abbrev pub AreTopPrograms : List Task → List (Assigned TopProgram) → Type 0
AreTopPrograms [] [] = Unit {0}
AreTopPrograms (t ∷ ts) (a ∷ others) = (a.pid ≡ t.pid) × (call_by a.program ≡ top_call t) × IsAfter a.program [] × AreTopPrograms ts others
AreTopPrograms ts others = ⊥
