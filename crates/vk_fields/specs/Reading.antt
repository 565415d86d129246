-- What call fields are.
use Rattle.std.specs.Prelude.{ℕ, ◌==◌, Option, Some, None, option_map, if◌then◌else◌}
use Rattle.vk_base.specs.declared.call.Scope.{Scope}
use Rattle.vk_base.specs.declared.call.Scope.TheVariants as scopes
use Rattle.vk_base.specs.declared.message.Message.{Message}
use Rattle.vk_base.specs.declared.pid.Pid.{Pid}
use Rattle.vk_base.specs.Pids.{pid_of_numbers}
use Rattle.vk_brief.specs.declared.call.BriefCall.{BriefCall}
use Rattle.vk_brief.specs.declared.call.BriefCall.TheVariants as calls
use Rattle.vk_fields.specs.declared.call.CallFields.{CallFields}
use Rattle.vk_fields.specs.declared.kinds.TheConstants as kinds

abbrev pub scope_in : ℕ → Option Scope
scope_in n = if n == kinds.LOCAL then Some scopes.Local else if n == kinds.REMOTE then Some scopes.Remote else if n == kinds.BOTH then Some scopes.Both else None

abbrev pub pid_in : CallFields → Option Pid
pid_in f = pid_of_numbers f.host f.local

abbrev pub to_in : CallFields → Option Pid
to_in f = pid_of_numbers f.to_host f.to_local

abbrev pub message_in : CallFields → Message
message_in f = record { 0 = f.message }

abbrev pub and_then : {A B : Type 0} → Option A → (A → Option B) → Option B
and_then None more = None
and_then (Some x) more = more x

abbrev pub other_call_in : CallFields → Option BriefCall
other_call_in f =
    if f.kind == kinds.SET_PID then and_then (pid_in f) (λ p. option_map (calls.SetPid f.logical p) (scope_in f.scope))
    else if f.kind == kinds.GET_PID then option_map (calls.GetPid f.logical) (scope_in f.scope)
    else if f.kind == kinds.LOAD then Some (calls.Load f.start f.count)
    else if f.kind == kinds.STORE then Some (calls.Store f.start)
    else if f.kind == kinds.EXIT then Some calls.Exit
    else None

abbrev pub passing_call_in : CallFields → Option BriefCall
passing_call_in f =
    if f.kind == kinds.FORWARD then and_then (pid_in f) (λ p. option_map (calls.Forward (message_in f) p) (to_in f))
    else if f.kind == kinds.MOVE_TO then option_map (λ p. calls.MoveTo p f.dest f.src f.count) (pid_in f)
    else if f.kind == kinds.MOVE_FROM then option_map (λ p. calls.MoveFrom p f.dest f.src f.count) (pid_in f)
    else other_call_in f

-- the call, without the bytes of a Store
abbrev pub call_in : CallFields → Option BriefCall
call_in f =
    if f.kind == kinds.SEND then option_map (λ p. calls.Send p (message_in f)) (pid_in f)
    else if f.kind == kinds.RECEIVE then Some calls.Receive
    else if f.kind == kinds.REPLY then option_map (calls.Reply (message_in f)) (pid_in f)
    else if f.kind == kinds.RECEIVE_SEGMENT then Some (calls.ReceiveSegment f.start f.count)
    else if f.kind == kinds.REPLY_SEGMENT then option_map (λ p. calls.ReplySegment (message_in f) p f.dest f.src f.count) (pid_in f)
    else passing_call_in f
