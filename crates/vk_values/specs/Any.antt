-- The server or a script, as its task and the answers so far.
use Rattle.std.specs.Prelude.{List, Option}
use Rattle.vk_types.specs.Types.{Answer, Call}
use Rattle.vk_program.specs.Tasks.{IsScriptAfter, script_call}
use Rattle.vk_values.specs.Servers.{IsServerAfter, server_call}
use Rattle.vk_values.specs.declared.any.KeyProgram.{KeyProgram}
use Rattle.vk_values.specs.declared.any.KeyProgram.TheVariants as programs

-- what the program calls after these answers
abbrev pub call_by : KeyProgram → List Answer → Option Call
call_by (programs.Server server) = server_call server.requests
call_by (programs.Script script) = script_call script.calls

-- it may have been given these answers, and no others
abbrev pub IsAfter : KeyProgram → List Answer → Type 0
IsAfter (programs.Server server) given = IsServerAfter server.table server.requests server.replies server.stage given
IsAfter (programs.Script script) given = IsScriptAfter script given
