-- Calls do the same, and see the same, without the bytes of spent moves.
use Rattle.std.proofs.Common.{◌≡◌, ℕ, ◌+◌, Bool, false, cond, not, ◌&&◌, nat_lt, List, [], ◌∷◌, ◌++◌, filter, length, option_map, Option, Some, None, is_none, is_some, refl, ap, ◌∙◌}
use Rattle.vk_types.specs.Types.{Call, Exchange, Message, Move, Name, Pid, Process, Refusal, Registration, Scope, State}
use Rattle.vk_base.specs.declared.answer.Answer.TheVariants as answers
use Rattle.vk_base.specs.declared.answer.Refusal.TheVariants as refusals
use Rattle.vk_base.specs.declared.call.Call.TheVariants as calls
use Rattle.vk_base.specs.declared.call.Scope.TheVariants as scopes
use Rattle.vk_base.specs.declared.kernel.Direction.TheVariants as directions
use Rattle.vk_base.specs.declared.kernel.Stage.TheVariants as stages
use Rattle.vk_base.specs.declared.kernel.State.TheVariants as states
use Rattle.vk_base.specs.declared.limits.TheConstants.{MOVE_BYTES, SEGMENT_BYTES}
use Rattle.vk_base.specs.Calls.{first_that_holds, may_read, may_write, is_granted, is_own, is_local_scope, tests_of, call_refusal, sent_exchange, sent, replied, forward, forwarded, is_at_once, copied_at_once, new_move, move_begun, begin_move, move_to, move_from, lookup_begun, get_pid, found_at_once, is_message_at, dropped_at, released, exited, accepted, called, call_step}
use Rattle.vk_base.specs.Kernel.{Kernel, name_of, is_live, is_ready, without, sending, ended, held, held_exchange, put_process, put_exchange, with_state, with_memory}
use Rattle.vk_base.specs.Pids.{same_pid, same_host}
use Rattle.vk_base.specs.Ranges.{range_of, bytes_in, with_bytes}
use Rattle.v_machine.specs.Sends.{handed_on}
use Rattle.v_machine.specs.Spent.{lean, emptied_kernel}
use Rattle.v_machine.proofs.Spent.{push_absorbed, length-emptied}
use Rattle.v_machine.proofs.SpentKernels.{Same, lean_effect, bind_same, bind_same_at, unseen_same, answered_same, others_alike, emptied_kernel_again, cond_alike, stage_again, handed_again, stage_alike, mapped_same, cond_same, holds_lean, held_lean, held_exchange_lean, alike_twice, kernels_alike, put_alike, lean_again, map_alike}

-- The refusals.

may_write_lean : (o : Option Exchange) → may_write (option_map lean o) ≡ may_write o
may_write_lean None = refl
may_write_lean (Some e) = refl

may_read_lean : (o : Option Exchange) → may_read (option_map lean o) ≡ may_read o
may_read_lean None = refl
may_read_lean (Some e) = refl

is_granted_lean : (o : Option Exchange) (start count : ℕ) → is_granted (option_map lean o) start count ≡ is_granted o start count
is_granted_lean None start count = refl
is_granted_lean (Some e) start count = refl

-- the tests of an access
access_lean : (k : Kernel) (pid partner : Pid) (may : Option Exchange → Bool) (limit count start : ℕ) (own : Bool) →
    ((o : Option Exchange) → may (option_map lean o) ≡ may o) →
    first_that_holds ((nat_lt limit count, refusals.TooLong) ∷ (is_none (held (emptied_kernel k) pid partner), refusals.NotAwaiting)
    ∷ (not (may (held_exchange (emptied_kernel k) pid partner)), refusals.NoAccess)
    ∷ (not (is_granted (held_exchange (emptied_kernel k) pid partner) start count && own), refusals.BadRange) ∷ [])
    ≡ first_that_holds ((nat_lt limit count, refusals.TooLong) ∷ (is_none (held k pid partner), refusals.NotAwaiting)
    ∷ (not (may (held_exchange k pid partner)), refusals.NoAccess)
    ∷ (not (is_granted (held_exchange k pid partner) start count && own), refusals.BadRange) ∷ [])
access_lean k pid partner may limit count start own each =
    let holds = held_lean k pid partner in
    let exchange = held_exchange_lean k pid partner in
    let allowed : may (held_exchange (emptied_kernel k) pid partner) ≡ may (held_exchange k pid partner) =
    ap may exchange ∙ each (held_exchange k pid partner) in
    let granted : is_granted (held_exchange (emptied_kernel k) pid partner) start count ≡ is_granted (held_exchange k pid partner) start count =
    ap (λ o. is_granted o start count) exchange ∙ is_granted_lean (held_exchange k pid partner) start count in
    λ i. first_that_holds ((nat_lt limit count, refusals.TooLong) ∷ (is_none (holds i), refusals.NotAwaiting)
    ∷ (not (allowed i), refusals.NoAccess) ∷ (not (granted i && own), refusals.BadRange) ∷ [])

found_lean : (k : Kernel) (pid : Pid) (logical : ℕ) (scope : Scope) →
    found_at_once (emptied_kernel k) pid logical scope ≡ found_at_once k pid logical scope
unfolding emptied_kernel
found_lean k pid logical scopes.Local = refl
found_lean k pid logical scopes.Remote = refl
found_lean k pid logical scopes.Both = refl

tests_lean : (k : Kernel) (pid : Pid) (p : Process) (c : Call) →
    first_that_holds (tests_of (emptied_kernel k) pid p c) ≡ first_that_holds (tests_of k pid p c)
unfolding emptied_kernel
tests_lean k pid p (calls.Send target m) = refl
tests_lean k pid p calls.Receive = refl
tests_lean k pid p (calls.ReceiveSegment start count) = refl
tests_lean k pid p (calls.Reply m to) = ap (λ o. first_that_holds ((is_none o, refusals.NotAwaiting) ∷ [])) (held_lean k pid to)
tests_lean k pid p (calls.ReplySegment m to dest src count) =
    access_lean k pid to may_write SEGMENT_BYTES count dest (is_own p src count) may_write_lean
tests_lean k pid p (calls.Forward m from to) =
    ap (λ o. first_that_holds ((is_none o, refusals.NotAwaiting)
    ∷ (not (same_host pid to && is_live (k.procs to)), refusals.NoProcess) ∷ [])) (held_lean k pid from)
tests_lean k pid p (calls.MoveTo partner dest src count) =
    access_lean k pid partner may_write MOVE_BYTES count dest (is_own p src count) may_write_lean
tests_lean k pid p (calls.MoveFrom partner dest src count) =
    access_lean k pid partner may_read MOVE_BYTES count src (is_own p dest count) may_read_lean
tests_lean k pid p (calls.SetPid logical q scope) = refl
tests_lean k pid p (calls.GetPid logical scope) =
    ap (λ o. first_that_holds ((is_local_scope scope && is_none o, refusals.NotFound) ∷ [])) (found_lean k pid logical scope)
tests_lean k pid p (calls.Load start count) = refl
tests_lean k pid p (calls.Store start bytes) = refl
tests_lean k pid p calls.Exit = refl

refusal_lean : (k : Kernel) (pid : Pid) (p : Process) (c : Call) → call_refusal (emptied_kernel k) pid p c ≡ call_refusal k pid p c
unfolding call_refusal
refusal_lean k pid p c = λ i. cond (not p.alive) (Some refusals.Dead) (cond (not (is_ready p.state)) (Some refusals.Busy) (tests_lean k pid p c i))

-- What is done.

sent_same : (k : Kernel) (pid : Pid) (p : Process) (target : Pid) (m : Message) →
    emptied_kernel (sent (emptied_kernel k) pid p target m) ≡ emptied_kernel (sent k pid p target m)
unfolding emptied_kernel sent
sent_same k pid p target m = kernels_alike _ _ _ _ _ _
    (put_alike (λ n. option_map lean (k.exchanges n)) k.exchanges (name_of pid (p.sends + 1)) (sent_exchange pid p target m)
    (sent_exchange pid p target m) (alike_twice k) refl)

pub state_same : (k : Kernel) (pid : Pid) (p : Process) (s : State) →
    emptied_kernel (with_state (emptied_kernel k) pid p s) ≡ emptied_kernel (with_state k pid p s)
unfolding emptied_kernel
state_same k pid p s = others_alike k (put_process k.procs pid (record p { state = s })) k.names k.lookups

memory_same : (k : Kernel) (pid : Pid) (p : Process) (memory : List ℕ) →
    emptied_kernel (with_memory (emptied_kernel k) pid p memory) ≡ emptied_kernel (with_memory k pid p memory)
unfolding emptied_kernel
memory_same k pid p memory = others_alike k (put_process k.procs pid (record p { memory = memory })) k.names k.lookups

replied_same : (k : Kernel) (pid : Pid) (c : Call) (to : Pid) (m : Message) (dest : ℕ) (bytes : List ℕ) →
    Same (replied (emptied_kernel k) pid c to m dest bytes) (replied k pid c to m dest bytes)
unfolding emptied_kernel
replied_same k pid c to m dest bytes =
    bind_same_at (held (emptied_kernel k) pid to) (held k pid to) _ _ (held_lean k pid to) (λ number holds.
    mapped_same lean (k.exchanges (name_of to number)) _ _ (λ e at.
    answered_same _ _ pid c answers.Ok (stage_alike k (name_of to number) e (stages.Replied m dest bytes))))

forwarded_same : (k : Kernel) (name : Name) (e : Exchange) (m : Message) (to : Pid) →
    emptied_kernel (forwarded (emptied_kernel k) name (lean e) m to) ≡ emptied_kernel (forwarded k name e m to)
unfolding emptied_kernel forwarded
forwarded_same k name e m to = kernels_alike k.procs _ _ (without name k.arrived ++ name ∷ []) k.names k.lookups
    (put_alike (λ n. option_map lean (k.exchanges n)) k.exchanges name (handed_on m to (lean e)) (handed_on m to e) (alike_twice k)
    (handed_again e m to))

forward_same : (k : Kernel) (pid : Pid) (c : Call) (m : Message) (from to : Pid) →
    Same (forward (emptied_kernel k) pid c m from to) (forward k pid c m from to)
unfolding emptied_kernel
forward_same k pid c m from to =
    bind_same_at (held (emptied_kernel k) pid from) (held k pid from) _ _ (held_lean k pid from) (λ number holds.
    mapped_same lean (k.exchanges (name_of from number)) _ _ (λ e at.
    answered_same _ _ pid c answers.Ok (forwarded_same k (name_of from number) e m to)))

at_once_same : (k : Kernel) (pid : Pid) (c : Call) (into : Pid) (dest : ℕ) (bytes : List ℕ) →
    Same (copied_at_once (emptied_kernel k) pid c into dest bytes) (copied_at_once k pid c into dest bytes)
unfolding emptied_kernel copied_at_once
at_once_same k pid c into dest bytes = bind_same (k.procs into) _ _ (λ q at.
    answered_same _ _ pid c answers.Ok (memory_same k into q (with_bytes q.memory dest bytes)))

begun_same : (k : Kernel) (pid : Pid) (p : Process) (c : Call) (name : Name) (e : Exchange) (m : Move) →
    emptied_kernel (move_begun (emptied_kernel k) pid p c name (lean e) m) ≡ emptied_kernel (move_begun k pid p c name e m)
unfolding emptied_kernel move_begun
begun_same k pid p c name e m =
    let caller : ℕ → Process =
    λ n. record p { state = states.Blocked c; moving = Some (record { exchange = name; number = n + 1 }) } in
    let exchanges : Name → Option Exchange =
    put_exchange (λ n. option_map lean (k.exchanges n)) name (record (lean e) { moves = (lean e).moves ++ m ∷ [] }) in
    ap (λ n. emptied_kernel (record k { procs = put_process k.procs pid (caller n); exchanges = exchanges }))
    (length-emptied e.opened e.done 1 e.moves)
    ∙ kernels_alike (put_process k.procs pid (caller (length e.moves))) exchanges _ k.arrived k.names k.lookups
    (put_alike (λ n. option_map lean (k.exchanges n)) k.exchanges name (record (lean e) { moves = (lean e).moves ++ m ∷ [] })
    (record e { moves = e.moves ++ m ∷ [] }) (alike_twice k)
    (ap (λ (ms : List Move). record e { moves = ms }) (push_absorbed e.opened e.done 1 e.moves m)))

begin_same : (k : Kernel) (pid : Pid) (p : Process) (c : Call) (partner : Pid) (m : Move) →
    Same (begin_move (emptied_kernel k) pid p c partner m) (begin_move k pid p c partner m)
unfolding emptied_kernel
begin_same k pid p c partner m =
    bind_same_at (held (emptied_kernel k) pid partner) (held k pid partner) _ _ (held_lean k pid partner) (λ number holds.
    mapped_same lean (k.exchanges (name_of partner number)) _ _ (λ e at.
    unseen_same _ _ (begun_same k pid p c (name_of partner number) e m)))

move_to_same : (k : Kernel) (pid : Pid) (p : Process) (c : Call) (partner : Pid) (dest src count : ℕ) →
    Same (move_to (emptied_kernel k) pid p c partner dest src count) (move_to k pid p c partner dest src count)
move_to_same k pid p c partner dest src count = cond_same (is_at_once pid partner count) _ _ _ _
    (at_once_same k pid c partner dest (bytes_in (range_of src count) p.memory))
    (begin_same k pid p c partner (new_move pid directions.To dest src count (bytes_in (range_of src count) p.memory)))

move_from_same : (k : Kernel) (pid : Pid) (p : Process) (c : Call) (partner : Pid) (dest src count : ℕ) →
    Same (move_from (emptied_kernel k) pid p c partner dest src count) (move_from k pid p c partner dest src count)
unfolding emptied_kernel
move_from_same k pid p c partner dest src count = cond_same (is_at_once pid partner count) _ _ _ _
    (bind_same (k.procs partner) _ _ (λ q at. at_once_same k pid c pid dest (bytes_in (range_of src count) q.memory)))
    (begin_same k pid p c partner (new_move pid directions.From dest src count []))

get_pid_same : (k : Kernel) (pid : Pid) (p : Process) (c : Call) (logical : ℕ) (found : Option Pid) →
    Same (Some (get_pid (emptied_kernel k) pid p c logical found)) (Some (get_pid k pid p c logical found))
unfolding emptied_kernel lookup_begun
get_pid_same k pid p c logical None = unseen_same _ _ (others_alike k _ k.names _)
get_pid_same k pid p c logical (Some q) = answered_same _ _ pid c (answers.Found q) (emptied_kernel_again k)

-- an Exit
bereft_same : (k : Kernel) (r q : Pid) (x : Process) → released (emptied_kernel k) r q x ≡ released k r q x
unfolding emptied_kernel
bereft_same k r q x =
    ap (λ b. cond (same_host q r && is_some (sending x.state) && b) (record x { state = ended x.state (answers.Refused refusals.NoProcess) }) x)
    (holds_lean (is_message_at r) (λ e. refl) (k.exchanges (name_of q x.sends)))

exited_same : (k : Kernel) (pid : Pid) (p : Process) → emptied_kernel (exited (emptied_kernel k) pid p) ≡ emptied_kernel (exited k pid p)
unfolding emptied_kernel exited
exited_same k pid p =
    let gone : Option Process = Some (record p { alive = false }) in
    let dropped : Name → Option Exchange = λ n. option_map (dropped_at pid) (option_map lean (k.exchanges n)) in
    let names : ℕ → List Registration = λ host. filter (λ (r : Registration). not (same_pid r.pid pid)) (k.names host) in
    (λ i. emptied_kernel (record k {
      procs = λ q. cond (same_pid q pid) gone (option_map (λ x. bereft_same k pid q x i) (k.procs q));
      exchanges = dropped;
      names = names;
    }))
    ∙ kernels_alike _ dropped _ k.arrived names k.lookups
    (map_alike k.exchanges (λ n. dropped_at pid) (λ n. dropped_at pid) (λ n e.
    cond_alike (is_message_at pid e) (record (lean e) { stage = stages.Dropped }) (lean e) (record e { stage = stages.Dropped }) e
    (stage_again e stages.Dropped) (lean_again e)))

accepted_same : (k : Kernel) (pid : Pid) (p : Process) (c : Call) → Same (accepted (emptied_kernel k) pid p c) (accepted k pid p c)
unfolding emptied_kernel
accepted_same k pid p (calls.Send target m) = unseen_same _ _ (sent_same k pid p target m)
accepted_same k pid p calls.Receive = unseen_same _ _ (state_same k pid p (states.Blocked calls.Receive))
accepted_same k pid p (calls.ReceiveSegment start count) =
    unseen_same _ _ (state_same k pid p (states.Blocked (calls.ReceiveSegment start count)))
accepted_same k pid p (calls.Reply m to) = replied_same k pid (calls.Reply m to) to m 0 []
accepted_same k pid p (calls.ReplySegment m to dest src count) =
    replied_same k pid (calls.ReplySegment m to dest src count) to m dest (bytes_in (range_of src count) p.memory)
accepted_same k pid p (calls.Forward m from to) = forward_same k pid (calls.Forward m from to) m from to
accepted_same k pid p (calls.MoveTo partner dest src count) =
    move_to_same k pid p (calls.MoveTo partner dest src count) partner dest src count
accepted_same k pid p (calls.MoveFrom partner dest src count) =
    move_from_same k pid p (calls.MoveFrom partner dest src count) partner dest src count
accepted_same k pid p (calls.SetPid logical q scope) =
    answered_same _ _ pid (calls.SetPid logical q scope) answers.Ok (others_alike k k.procs _ k.lookups)
accepted_same k pid p (calls.GetPid logical scope) =
    ap (λ o. option_map lean_effect (Some (get_pid (emptied_kernel k) pid p (calls.GetPid logical scope) logical o))) (found_lean k pid logical scope)
    ∙ get_pid_same k pid p (calls.GetPid logical scope) logical (found_at_once k pid logical scope)
accepted_same k pid p (calls.Load start count) =
    answered_same _ _ pid (calls.Load start count) (answers.Loaded (bytes_in (range_of start count) p.memory)) (emptied_kernel_again k)
accepted_same k pid p (calls.Store start bytes) =
    answered_same _ _ pid (calls.Store start bytes) answers.Ok (memory_same k pid p (with_bytes p.memory start bytes))
accepted_same k pid p calls.Exit = answered_same _ _ pid calls.Exit answers.Ok (exited_same k pid p)

called_same : (k : Kernel) (pid : Pid) (p : Process) (c : Call) (why : Option Refusal) →
    Same (called (emptied_kernel k) pid p c why) (called k pid p c why)
called_same k pid p c None = accepted_same k pid p c
called_same k pid p c (Some why) = answered_same _ _ pid c (answers.Refused why) (emptied_kernel_again k)

pub call_same : (k : Kernel) (pid : Pid) (c : Call) → Same (call_step (emptied_kernel k) pid c) (call_step k pid c)
unfolding emptied_kernel
call_same k pid c = bind_same (k.procs pid) _ _ (λ p at.
    ap (λ why. option_map lean_effect (called (emptied_kernel k) pid p c why)) (refusal_lean k pid p c)
    ∙ called_same k pid p c (call_refusal k pid p c))
