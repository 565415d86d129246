-- A script or a program of pages, as its task and the answers so far.
use Rattle.std.specs.Prelude.{◌≡◌, Bool, true, false, List, Option}
use Rattle.std.specs.List.{list_all}
use Rattle.vk_types.specs.Types.{Answer, Call, ProcessSpec}
use Rattle.vk_event.specs.ScenarioLaws.{IsReadableKind}
use Rattle.vk_event.specs.Tasks.{has_memory, memory_of}
use Rattle.vk_event.specs.declared.task.Task.{Task}
use Rattle.vk_event.specs.declared.task.TaskKind.{TaskKind}
use Rattle.vk_event.specs.declared.task.TaskKind.TheVariants as kinds
use Rattle.vk_program.specs.Tasks.{IsScriptAfter, script_call}
use Rattle.vk_pages.specs.Clients.{IsClientAfter, client_call}
use Rattle.vk_pages.specs.Servers.{IsServerAfter, server_call}
use Rattle.vk_pages.specs.declared.any.AnyProgram.{AnyProgram}
use Rattle.vk_pages.specs.declared.any.AnyProgram.TheVariants as programs

-- it is a script, or a program of pages
abbrev pub is_any_kind : TaskKind → Bool
is_any_kind (kinds.Script calls) = true
is_any_kind (kinds.PageServer pages requests) = true
is_any_kind (kinds.PageClient server pages rounds) = true
is_any_kind kind = false

-- each of the tasks is one of these
abbrev pub are_any_kinds : List Task → Bool
are_any_kinds tasks = list_all (λ t. is_any_kind t.kind) tasks

-- it is one of these, its fields are in their ranges, and its process is there and has the memory for it
abbrev pub IsTaskOf : List ProcessSpec → Task → Type 0
IsTaskOf specs t = (is_any_kind t.kind ≡ true) × IsReadableKind t.kind × (has_memory specs t.pid (memory_of t.kind) ≡ true)

-- what the program calls after these answers
abbrev pub call_by : AnyProgram → List Answer → Option Call
call_by (programs.Script script) = script_call script.calls
call_by (programs.Server server) = server_call server.pages server.requests
call_by (programs.Client client) = client_call client.host client.server client.pages client.rounds

-- it may have been given these answers, and no others
abbrev pub IsAfter : AnyProgram → List Answer → Type 0
IsAfter (programs.Script script) given = IsScriptAfter script given
IsAfter (programs.Server server) given =
    IsServerAfter server.store.pages.items server.pages server.requests server.replies server.stage given
IsAfter (programs.Client client) given = IsClientAfter client.rounds client.at given
