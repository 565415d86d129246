-- The programs of a storm: each goes on, and what it calls is such that code can hold it.
use Rattle.std.proofs.Common.{◌≡◌, ℕ, ◌+◌, ◌*◌, ◌/◌, ◌%◌, ◌<◌, ◌==◌, cond, nat_lt, zero, suc, List, [], ◌∷◌, ◌++◌, length, replicate, Option, Some, None, refl, sym, subst, ◌∙◌, length-append, arith}
use Rattle.std.proofs.lemmas.Bool.{cond-true, cond_both, lt-ltb}
use Rattle.vk_types.specs.Types.{Answer, Call, Pid}
use Rattle.vk_base.specs.declared.call.Call.TheVariants as calls
use Rattle.vk_event.specs.declared.task.Task.{Task}
use Rattle.vk_event.specs.declared.task.TaskKind.{TaskKind}
use Rattle.vk_event.specs.declared.task.TaskKind.TheVariants as kinds
use Rattle.vk_drive.specs.Tasks.{task_at}
use Rattle.vk_pages.specs.Clients.{client_call, fill_of, round_call}
use Rattle.vk_pages.specs.Messages.{request_of}
use Rattle.vk_pages.specs.Programs.{kind_call, task_call}
use Rattle.vk_pages.specs.Servers.{answered_all, new_server, server_call}
use Rattle.v_storm.proofs.Views.{IsOurs, IsPlain}
use Rattle.v_storm.proofs.Called.{IsAnswerTo, LiesInMemory}
use Rattle.v_storm.proofs.Messages.{filled_bytes, request_message}
use Rattle.v_storm.proofs.Serving.{IsGoodCall, IsServing, answered_more, requests, serving_calls, serving_first, serving_more}
use Rattle.vk_text.specs.Laws.{IsReadable}
use Rattle.vk_base.specs.Pids.{IsPid}
use Rattle.v_storm.proofs.Ours.{our_pid}

-- the process goes on after these answers
abbrev pub IsGoing : TaskKind → List Answer → Type 0
IsGoing (kinds.PageServer pages most) given =
    (pages ≡ 16) × (most ≡ requests) × IsServing (length given) (answered_all requests (new_server 16 requests) given)
IsGoing (kinds.PageClient server pages rounds) given = IsOurs server × (rounds ≡ requests)
IsGoing kind given = ⊥

pub going_first : (place : ℕ) → place < 4 → IsGoing (task_at place).kind []
going_first zero low = (refl, refl, serving_first)
going_first (suc zero) low = (refl, refl)
going_first (suc (suc zero)) low = (refl, refl)
going_first (suc (suc (suc zero))) low = (refl, refl)
going_first (suc (suc (suc (suc place)))) low = absurd (omega arith)

-- A client.
good : (c : Call) → IsPlain c → LiesInMemory c → IsReadable c →
    IsGoodCall (Some c)
good c plain within readable = record { call = c; is = refl; plain = plain; within = within; readable = readable }

round_good : (host : ℕ) (server : Pid) (pages round call : ℕ) → IsOurs server → IsPid server →
    IsGoodCall (Some (round_call host server pages round call))
round_good host server pages round call ours pid =
    let first : Call = calls.Store 0 (replicate 512 (fill_of host round)) in
    let second : Call = calls.Send server (request_of 1 2 (round % pages) 0 512) in
    let third : Call = calls.Send server (request_of 2 1 (round % pages) 512 512) in
    let last : Call = calls.Load 512 512 in
    let writes = request_message 1 2 (round % pages) 0 512 (omega arith) (omega arith) in
    let reads = request_message 2 1 (round % pages) 512 512 (omega arith) (omega arith) in
    cond_both (call == 0) first (cond (call == 1) second (cond (call == 2) third last)) (λ c. IsGoodCall (Some c))
    (λ t. good first tt tt (omega arith, (omega arith, filled_bytes 512 (fill_of host round) (omega arith))))
    (λ f. cond_both (call == 1) second (cond (call == 2) third last) (λ c. IsGoodCall (Some c))
    (λ t. good second (ours, writes) tt (pid, writes))
    (λ g. cond_both (call == 2) third last (λ c. IsGoodCall (Some c))
    (λ t. good third (ours, reads) tt (pid, reads))
    (λ h. good last tt (omega arith, omega arith) (omega arith, omega arith))))

client_good : (host : ℕ) (server : Pid) (pages rounds : ℕ) (given : List Answer) → IsOurs server → rounds ≡ requests →
    length given < requests → IsGoodCall (client_call host server pages rounds given)
client_good host server pages rounds given ours all few =
    let c : Option Call = Some (round_call host server pages (length given / 4) (length given % 4)) in
    let low : length given < 4 * rounds = omega (arith, all, few) in
    subst IsGoodCall (sym (cond-true (nat_lt (length given) (4 * rounds)) c None (lt-ltb (length given) (4 * rounds) low)))
    (round_good host server pages (length given / 4) (length given % 4) ours (our_pid server ours))

-- Each.
server_good : (pages most : ℕ) (given : List Answer) → pages ≡ 16 → most ≡ requests →
    IsServing (length given) (answered_all requests (new_server 16 requests) given) →
    IsGoodCall (server_call pages most given)
server_good pages most given count all serving =
    subst (λ p. IsGoodCall (server_call p most given)) (sym count)
    (subst (λ m. IsGoodCall (server_call 16 m given)) (sym all) (serving_calls (length given) _ serving))

going_calls_by : (host : ℕ) (kind : TaskKind) (given : List Answer) → IsGoing kind given → length given < requests →
    IsGoodCall (kind_call host kind given)
going_calls_by host (kinds.PageServer pages most) given going few = server_good pages most given going.0 going.1 going.2
going_calls_by host (kinds.PageClient server pages rounds) given going few =
    client_good host server pages rounds given going.0 going.1 few
going_calls_by host kind given going few = absurd going

pub going_calls : (t : Task) (given : List Answer) → IsGoing t.kind given → length given < requests → IsGoodCall (task_call t given)
going_calls t given going few = going_calls_by t.pid.host t.kind given going few

served_more : (pages most : ℕ) (given : List Answer) (c : Call) (a : Answer) → pages ≡ 16 → most ≡ requests →
    IsServing (length given) (answered_all requests (new_server 16 requests) given) → length given + 1 < requests →
    server_call pages most given ≡ Some c → IsAnswerTo c a →
    IsServing (length (given ++ a ∷ [])) (answered_all requests (new_server 16 requests) (given ++ a ∷ []))
served_more pages most given c a count all serving few called told =
    let s = answered_all requests (new_server 16 requests) given in
    let made : server_call 16 requests given ≡ Some c =
    (λ i. server_call (sym count i) (sym all i) given) ∙ called in
    let next = serving_more (length given) s c a few serving made told in
    subst (λ n. IsServing n (answered_all requests (new_server 16 requests) (given ++ a ∷ []))) (sym (length-append given (a ∷ [])))
    (subst (IsServing (length given + 1)) (sym (answered_more (new_server 16 requests) given a)) next)

going_more_by : (host : ℕ) (kind : TaskKind) (given : List Answer) (c : Call) (a : Answer) → IsGoing kind given →
    length given + 1 < requests → kind_call host kind given ≡ Some c → IsAnswerTo c a → IsGoing kind (given ++ a ∷ [])
going_more_by host (kinds.PageServer pages most) given c a going few called told =
    (going.0, going.1, served_more pages most given c a going.0 going.1 going.2 few called told)
going_more_by host (kinds.PageClient server pages rounds) given c a going few called told = going
going_more_by host kind given c a going few called told = absurd going

pub going_more : (t : Task) (given : List Answer) (c : Call) (a : Answer) → IsGoing t.kind given → length given + 1 < requests →
    task_call t given ≡ Some c → IsAnswerTo c a → IsGoing t.kind (given ++ a ∷ [])
going_more t given c a going few called told = going_more_by t.pid.host t.kind given c a going few called told
