-- Calls do the same, and see the same, without the exchanges that are over.
use Rattle.std.proofs.Common.{◌≡◌, ℕ, ◌+◌, ◌≤◌, if◌then◌else◌, Bool, true, false, cond, not, ◌&&◌, nat_lt, List, [], ◌∷◌, ◌++◌, filter, length, option_map, Option, Some, None, is_none, is_some, refl, sym, ap, ◌∙◌, inl, inr, arith}
use Rattle.std.proofs.lemmas.Bool.{cases_Bool, cond-true, cond-false, and_parts}
use Rattle.vk_types.specs.Types.{Call, Exchange, Message, Move, Name, Pid, Process, Refusal, Registration, Scope, State}
use Rattle.vk_base.specs.declared.answer.Answer.TheVariants as answers
use Rattle.vk_base.specs.declared.answer.Refusal.TheVariants as refusals
use Rattle.vk_base.specs.declared.call.Call.TheVariants as calls
use Rattle.vk_base.specs.declared.call.Scope.TheVariants as scopes
use Rattle.vk_base.specs.declared.kernel.Direction.TheVariants as directions
use Rattle.vk_base.specs.declared.kernel.Stage.TheVariants as stages
use Rattle.vk_base.specs.declared.kernel.State.TheVariants as states
use Rattle.vk_base.specs.declared.limits.TheConstants.{MOVE_BYTES, SEGMENT_BYTES}
use Rattle.vk_base.specs.Calls.{Effect, first_that_holds, may_read, may_write, is_granted, is_own, is_local_scope, tests_of, call_refusal, sent_exchange, sent, replied, forward, forwarded, is_at_once, copied_at_once, new_move, move_begun, begin_move, move_to, move_from, lookup_begun, get_pid, found_at_once, is_message_at, dropped_at, released, exited, accepted, called, call_step}
use Rattle.vk_base.specs.Kernel.{Kernel, name_of, is_live, is_ready, is_at_target, without, sending, ended, held, held_exchange, put_process, put_exchange, put_lookup, with_state, with_memory}
use Rattle.vk_base.specs.Pids.{same_pid, same_host}
use Rattle.vk_base.specs.Ranges.{range_of, bytes_in, with_bytes}
use Rattle.v_laws.proofs.Tables.{same_pid_is}
use Rattle.v_machine.specs.Sends.{handed_on}
use Rattle.v_machine.specs.Spent.{has_ended, is_past, current_kernel}
use Rattle.v_machine.proofs.Current.{NoLess, all_now, as_many, current_again, fails, held_exchange_now, held_now, held_there, holds_there, kernels_now, others_now, put_no_less, put_now, target_open}
use Rattle.v_machine.proofs.Effects.{SameBy, effect_by, bind_by, bind_by_at, cond_by, unseen_by, answered_by}

-- The refusals.
access_now : (k : Kernel) (pid partner : Pid) (may : Option Exchange → Bool) (limit count start : ℕ) (own : Bool) →
    first_that_holds ((nat_lt limit count, refusals.TooLong) ∷ (is_none (held (current_kernel k) pid partner), refusals.NotAwaiting)
    ∷ (not (may (held_exchange (current_kernel k) pid partner)), refusals.NoAccess)
    ∷ (not (is_granted (held_exchange (current_kernel k) pid partner) start count && own), refusals.BadRange) ∷ [])
    ≡ first_that_holds ((nat_lt limit count, refusals.TooLong) ∷ (is_none (held k pid partner), refusals.NotAwaiting)
    ∷ (not (may (held_exchange k pid partner)), refusals.NoAccess)
    ∷ (not (is_granted (held_exchange k pid partner) start count && own), refusals.BadRange) ∷ [])
access_now k pid partner may limit count start own =
    let holds = held_now k pid partner in
    let exchange = held_exchange_now k pid partner in
    λ i. first_that_holds ((nat_lt limit count, refusals.TooLong) ∷ (is_none (holds i), refusals.NotAwaiting)
    ∷ (not (may (exchange i)), refusals.NoAccess) ∷ (not (is_granted (exchange i) start count && own), refusals.BadRange) ∷ [])

found_now : (k : Kernel) (pid : Pid) (logical : ℕ) (scope : Scope) →
    found_at_once (current_kernel k) pid logical scope ≡ found_at_once k pid logical scope
unfolding current_kernel
found_now k pid logical scopes.Local = refl
found_now k pid logical scopes.Remote = refl
found_now k pid logical scopes.Both = refl

tests_now : (k : Kernel) (pid : Pid) (p : Process) (c : Call) →
    first_that_holds (tests_of (current_kernel k) pid p c) ≡ first_that_holds (tests_of k pid p c)
unfolding current_kernel
tests_now k pid p (calls.Send target m) = refl
tests_now k pid p calls.Receive = refl
tests_now k pid p (calls.ReceiveSegment start count) = refl
tests_now k pid p (calls.Reply m to) = ap (λ o. first_that_holds ((is_none o, refusals.NotAwaiting) ∷ [])) (held_now k pid to)
tests_now k pid p (calls.ReplySegment m to dest src count) =
    access_now k pid to may_write SEGMENT_BYTES count dest (is_own p src count)
tests_now k pid p (calls.Forward m from to) =
    ap (λ o. first_that_holds ((is_none o, refusals.NotAwaiting)
    ∷ (not (same_host pid to && is_live (k.procs to)), refusals.NoProcess) ∷ [])) (held_now k pid from)
tests_now k pid p (calls.MoveTo partner dest src count) =
    access_now k pid partner may_write MOVE_BYTES count dest (is_own p src count)
tests_now k pid p (calls.MoveFrom partner dest src count) =
    access_now k pid partner may_read MOVE_BYTES count src (is_own p dest count)
tests_now k pid p (calls.SetPid logical q scope) = refl
tests_now k pid p (calls.GetPid logical scope) =
    ap (λ o. first_that_holds ((is_local_scope scope && is_none o, refusals.NotFound) ∷ [])) (found_now k pid logical scope)
tests_now k pid p (calls.Load start count) = refl
tests_now k pid p (calls.Store start bytes) = refl
tests_now k pid p calls.Exit = refl

refusal_now : (k : Kernel) (pid : Pid) (p : Process) (c : Call) → call_refusal (current_kernel k) pid p c ≡ call_refusal k pid p c
unfolding call_refusal
refusal_now k pid p c = λ i. cond (not p.alive) (Some refusals.Dead) (cond (not (is_ready p.state)) (Some refusals.Busy) (tests_now k pid
    p c i))

-- What is done.
abbrev pub SameNow : Option Effect → Option Effect → Type 0
SameNow = SameBy current_kernel

-- one exchange is put, and no process changes
pub stage_now : (k : Kernel) (name : Name) (x : Exchange) (arrived : List Name) →
    current_kernel (record (current_kernel k) { exchanges = put_exchange (current_kernel k).exchanges name x; arrived = arrived })
    ≡ current_kernel (record k { exchanges = put_exchange k.exchanges name x; arrived = arrived })
unfolding current_kernel
stage_now k name x arrived = kernels_now k.procs _ _ arrived k.names k.lookups (put_now k k.procs name x (as_many k.procs))

-- one process is put, and one exchange
pub both_now : (k : Kernel) (pid : Pid) (p q : Process) (name : Name) (x : Exchange) (arrived : List Name) → k.procs pid ≡ Some p →
    p.sends ≤ q.sends →
    current_kernel (record (current_kernel k) {
      procs = put_process (current_kernel k).procs pid q;
      exchanges = put_exchange (current_kernel k).exchanges name x;
      arrived = arrived;
    })
    ≡ current_kernel (record k { procs = put_process k.procs pid q; exchanges = put_exchange k.exchanges name x; arrived = arrived })
unfolding current_kernel
both_now k pid p q name x arrived at more = kernels_now (put_process k.procs pid q) _ _ arrived k.names k.lookups
    (put_now k (put_process k.procs pid q) name x (put_no_less k.procs pid p q at more))

-- one process is put
pub process_now : (k : Kernel) (pid : Pid) (p q : Process) → k.procs pid ≡ Some p → p.sends ≤ q.sends →
    current_kernel (record (current_kernel k) { procs = put_process (current_kernel k).procs pid q })
    ≡ current_kernel (record k { procs = put_process k.procs pid q })
unfolding current_kernel
process_now k pid p q at more = others_now k (put_process k.procs pid q) k.names k.lookups (put_no_less k.procs pid p q at more)

pub state_now : (k : Kernel) (pid : Pid) (p : Process) (s : State) → k.procs pid ≡ Some p →
    current_kernel (with_state (current_kernel k) pid p s) ≡ current_kernel (with_state k pid p s)
state_now k pid p s at = process_now k pid p (record p { state = s }) at (omega arith)

memory_now : (k : Kernel) (pid : Pid) (p : Process) (memory : List ℕ) → k.procs pid ≡ Some p →
    current_kernel (with_memory (current_kernel k) pid p memory) ≡ current_kernel (with_memory k pid p memory)
memory_now k pid p memory at = process_now k pid p (record p { memory = memory }) at (omega arith)

sent_now : (k : Kernel) (pid : Pid) (p : Process) (target : Pid) (m : Message) → k.procs pid ≡ Some p →
    current_kernel (sent (current_kernel k) pid p target m) ≡ current_kernel (sent k pid p target m)
unfolding current_kernel sent
sent_now k pid p target m at =
    both_now k pid p (record p { state = states.Blocked (calls.Send target m); sends = p.sends + 1 }) (name_of pid (p.sends + 1))
    (sent_exchange pid p target m) (if same_host pid target then k.arrived ++ name_of pid (p.sends + 1) ∷ [] else k.arrived) at (omega
    arith)

replied_now : (k : Kernel) (pid : Pid) (c : Call) (to : Pid) (m : Message) (dest : ℕ) (bytes : List ℕ) →
    SameNow (replied (current_kernel k) pid c to m dest bytes) (replied k pid c to m dest bytes)
unfolding current_kernel
replied_now k pid c to m dest bytes =
    bind_by_at current_kernel (held (current_kernel k) pid to) (held k pid to) _ _ (held_now k pid to) (λ number holds.
    bind_by_at current_kernel ((current_kernel k).exchanges (name_of to number)) (k.exchanges (name_of to number)) _ _
    (held_there k pid to number holds) (λ e at.
    answered_by current_kernel _ _ pid c answers.Ok
    (stage_now k (name_of to number) (record e { stage = stages.Replied m dest bytes }) k.arrived)))

forwarded_now : (k : Kernel) (name : Name) (e : Exchange) (m : Message) (to : Pid) →
    current_kernel (forwarded (current_kernel k) name e m to) ≡ current_kernel (forwarded k name e m to)
unfolding current_kernel forwarded
forwarded_now k name e m to = stage_now k name (handed_on m to e) (without name k.arrived ++ name ∷ [])

forward_now : (k : Kernel) (pid : Pid) (c : Call) (m : Message) (from to : Pid) →
    SameNow (forward (current_kernel k) pid c m from to) (forward k pid c m from to)
forward_now k pid c m from to =
    bind_by_at current_kernel (held (current_kernel k) pid from) (held k pid from) _ _ (held_now k pid from) (λ number holds.
    bind_by_at current_kernel ((current_kernel k).exchanges (name_of from number)) (k.exchanges (name_of from number)) _ _
    (held_there k pid from number holds) (λ e at.
    answered_by current_kernel _ _ pid c answers.Ok (forwarded_now k (name_of from number) e m to)))

at_once_now : (k : Kernel) (pid : Pid) (c : Call) (into : Pid) (dest : ℕ) (bytes : List ℕ) →
    SameNow (copied_at_once (current_kernel k) pid c into dest bytes) (copied_at_once k pid c into dest bytes)
unfolding current_kernel copied_at_once
at_once_now k pid c into dest bytes = bind_by current_kernel (k.procs into) _ _ (λ q at.
    answered_by current_kernel _ _ pid c answers.Ok (memory_now k into q (with_bytes q.memory dest bytes) at))

begun_now : (k : Kernel) (pid : Pid) (p : Process) (c : Call) (name : Name) (e : Exchange) (m : Move) → k.procs pid ≡ Some p →
    current_kernel (move_begun (current_kernel k) pid p c name e m) ≡ current_kernel (move_begun k pid p c name e m)
unfolding current_kernel move_begun
begun_now k pid p c name e m at =
    both_now k pid p (record p { state = states.Blocked c; moving = Some (record { exchange = name; number = length e.moves + 1 }) }) name
    (record e { moves = e.moves ++ m ∷ [] }) k.arrived at (omega arith)

begin_now : (k : Kernel) (pid : Pid) (p : Process) (c : Call) (partner : Pid) (m : Move) → k.procs pid ≡ Some p →
    SameNow (begin_move (current_kernel k) pid p c partner m) (begin_move k pid p c partner m)
begin_now k pid p c partner m there =
    bind_by_at current_kernel (held (current_kernel k) pid partner) (held k pid partner) _ _ (held_now k pid partner) (λ number holds.
    bind_by_at current_kernel ((current_kernel k).exchanges (name_of partner number)) (k.exchanges (name_of partner number)) _ _
    (held_there k pid partner number holds) (λ e at.
    unseen_by current_kernel _ _ (begun_now k pid p c (name_of partner number) e m there)))

move_to_now : (k : Kernel) (pid : Pid) (p : Process) (c : Call) (partner : Pid) (dest src count : ℕ) → k.procs pid ≡ Some p →
    SameNow (move_to (current_kernel k) pid p c partner dest src count) (move_to k pid p c partner dest src count)
move_to_now k pid p c partner dest src count at = cond_by current_kernel (is_at_once pid partner count) _ _ _ _
    (at_once_now k pid c partner dest (bytes_in (range_of src count) p.memory))
    (begin_now k pid p c partner (new_move pid directions.To dest src count (bytes_in (range_of src count) p.memory)) at)

move_from_now : (k : Kernel) (pid : Pid) (p : Process) (c : Call) (partner : Pid) (dest src count : ℕ) → k.procs pid ≡ Some p →
    SameNow (move_from (current_kernel k) pid p c partner dest src count) (move_from k pid p c partner dest src count)
unfolding current_kernel
move_from_now k pid p c partner dest src count at = cond_by current_kernel (is_at_once pid partner count) _ _ _ _
    (bind_by current_kernel (k.procs partner) _ _ (λ q there. at_once_now k pid c pid dest (bytes_in (range_of src count) q.memory)))
    (begin_now k pid p c partner (new_move pid directions.From dest src count []) at)

get_pid_now : (k : Kernel) (pid : Pid) (p : Process) (c : Call) (logical : ℕ) (found : Option Pid) → k.procs pid ≡ Some p →
    SameNow (Some (get_pid (current_kernel k) pid p c logical found)) (Some (get_pid k pid p c logical found))
unfolding current_kernel lookup_begun
get_pid_now k pid p c logical None at =
    let asker : Process = record p { state = states.Blocked c; lookups = p.lookups + 1 } in
    unseen_by current_kernel _ _ (others_now k (put_process k.procs pid asker) k.names
    (put_lookup k.lookups pid (p.lookups + 1) (record { logical = logical; candidates = [] }))
    (put_no_less k.procs pid p asker at (omega arith)))
get_pid_now k pid p c logical (Some q) at = answered_by current_kernel _ _ pid c (answers.Found q) (current_again k)

-- an Exit
bereft_now : (k : Kernel) (r q : Pid) (x : Process) → released (current_kernel k) r q x ≡ released k r q x
unfolding current_kernel
bereft_now k r q x =
    ap (λ b. cond (same_host q r && is_some (sending x.state) && b) (record x {
      state = ended x.state (answers.Refused
          refusals.NoProcess);
    }) x)
    (holds_there (k.procs q) x.sends (k.exchanges (name_of q x.sends)) (is_message_at r) (λ e.
    fails (is_message_at r e) e (λ t. target_open e (and_parts (same_pid e.at r) (is_at_target e.stage) t).1)))

exit_no_less : (k : Kernel) (pid : Pid) (p : Process) → k.procs pid ≡ Some p →
    NoLess k.procs (λ q. cond (same_pid q pid) (Some (record p { alive = false })) (option_map (released k pid q) (k.procs q)))
exit_no_less k pid p at q number t = elim (cases_Bool (same_pid q pid)) [
  | inl same ↦ ap (is_past number)
      (cond-true (same_pid q pid) (Some (record p { alive = false })) (option_map (released k pid q) (k.procs q)) same)
      ∙ sym (ap (is_past number) (ap k.procs (same_pid_is q pid same) ∙ at)) ∙ t
  | inr other ↦ ap (is_past number)
      (cond-false (same_pid q pid) (Some (record p { alive = false })) (option_map (released k pid q) (k.procs q)) other)
      ∙ kept (k.procs q) ∙ t
]
  where
    as_before : (b : Bool) (x y : Process) → y.sends ≡ x.sends → nat_lt number (cond b y x).sends ≡ nat_lt number x.sends
    as_before true x y same = ap (nat_lt number) same
    as_before false x y same = refl

    kept : (o : Option Process) → is_past number (option_map (released k pid q) o) ≡ is_past number o
    kept None = refl
    kept (Some x) = as_before _ x (record x { state = ended x.state (answers.Refused refusals.NoProcess) }) refl

exited_now : (k : Kernel) (pid : Pid) (p : Process) → k.procs pid ≡ Some p →
    current_kernel (exited (current_kernel k) pid p) ≡ current_kernel (exited k pid p)
unfolding current_kernel exited
exited_now k pid p at =
    let gone : Option Process = Some (record p { alive = false }) in
    let procs : Pid → Option Process = λ q. cond (same_pid q pid) gone (option_map (released k pid q) (k.procs q)) in
    let dropped : Name → Option Exchange = λ n. option_map (dropped_at pid) ((current_kernel k).exchanges n) in
    let names : ℕ → List Registration = λ host. filter (λ (r : Registration). not (same_pid r.pid pid)) (k.names host) in
    (λ i. current_kernel (record k {
      procs = λ q. cond (same_pid q pid) gone (option_map (λ x. bereft_now k pid q x i) (k.procs q));
      exchanges = dropped;
      names = names;
    }))
    ∙ kernels_now procs dropped _ k.arrived names k.lookups
    (all_now k procs (λ n. dropped_at pid) (exit_no_less k pid p at) (λ n e is over.
    ap has_ended (cond-false (is_message_at pid e) (record e { stage = stages.Dropped }) e
    (fails (is_message_at pid e) e (λ t. target_open e (and_parts (same_pid e.at pid) (is_at_target e.stage) t).1) over)) ∙ over))

accepted_now : (k : Kernel) (pid : Pid) (p : Process) (c : Call) → k.procs pid ≡ Some p →
    SameNow (accepted (current_kernel k) pid p c) (accepted k pid p c)
unfolding current_kernel
accepted_now k pid p (calls.Send target m) at = unseen_by current_kernel _ _ (sent_now k pid p target m at)
accepted_now k pid p calls.Receive at = unseen_by current_kernel _ _ (state_now k pid p (states.Blocked calls.Receive) at)
accepted_now k pid p (calls.ReceiveSegment start count) at =
    unseen_by current_kernel _ _ (state_now k pid p (states.Blocked (calls.ReceiveSegment start count)) at)
accepted_now k pid p (calls.Reply m to) at = replied_now k pid (calls.Reply m to) to m 0 []
accepted_now k pid p (calls.ReplySegment m to dest src count) at =
    replied_now k pid (calls.ReplySegment m to dest src count) to m dest (bytes_in (range_of src count) p.memory)
accepted_now k pid p (calls.Forward m from to) at = forward_now k pid (calls.Forward m from to) m from to
accepted_now k pid p (calls.MoveTo partner dest src count) at =
    move_to_now k pid p (calls.MoveTo partner dest src count) partner dest src count at
accepted_now k pid p (calls.MoveFrom partner dest src count) at =
    move_from_now k pid p (calls.MoveFrom partner dest src count) partner dest src count at
accepted_now k pid p (calls.SetPid logical q scope) at =
    answered_by current_kernel _ _ pid (calls.SetPid logical q scope) answers.Ok (others_now k k.procs _ k.lookups (as_many k.procs))
accepted_now k pid p (calls.GetPid logical scope) at =
    ap (λ o. option_map (effect_by current_kernel) (Some (get_pid (current_kernel k) pid p (calls.GetPid logical scope) logical o)))
    (found_now k pid logical scope)
    ∙ get_pid_now k pid p (calls.GetPid logical scope) logical (found_at_once k pid logical scope) at
accepted_now k pid p (calls.Load start count) at =
    answered_by current_kernel _ _ pid (calls.Load start count) (answers.Loaded (bytes_in (range_of start count) p.memory))
    (current_again k)
accepted_now k pid p (calls.Store start bytes) at =
    answered_by current_kernel _ _ pid (calls.Store start bytes) answers.Ok (memory_now k pid p (with_bytes p.memory start bytes) at)
accepted_now k pid p calls.Exit at = answered_by current_kernel _ _ pid calls.Exit answers.Ok (exited_now k pid p at)

called_now : (k : Kernel) (pid : Pid) (p : Process) (c : Call) (why : Option Refusal) → k.procs pid ≡ Some p →
    SameNow (called (current_kernel k) pid p c why) (called k pid p c why)
called_now k pid p c None at = accepted_now k pid p c at
called_now k pid p c (Some why) at = answered_by current_kernel _ _ pid c (answers.Refused why) (current_again k)

pub call_now : (k : Kernel) (pid : Pid) (c : Call) → SameNow (call_step (current_kernel k) pid c) (call_step k pid c)
unfolding current_kernel
call_now k pid c = bind_by current_kernel (k.procs pid) _ _ (λ p at.
    ap (λ why. option_map (effect_by current_kernel) (called (current_kernel k) pid p c why)) (refusal_now k pid p c)
    ∙ called_now k pid p c (call_refusal k pid p c) at)
