-- A process that is not ready was called for once more than it was answered.
use Rattle.std.proofs.Common.{◌≡◌, ℕ, Bool, true, false, ◌&&◌, not, option_map, List, [], ◌∷◌, fold, Option, Some, None, refl, sym, ap, subst, ◌∙◌, inl, inr, ◌⊎◌}
use Rattle.std.proofs.lemmas.Bool.{cases_Bool, both_ways, and_from, cond_both}
use Rattle.std.proofs.lemmas.Option.{same_Some}
use Rattle.vk_types.specs.Types.{Call, Message, Move, Pid, Process, Refusal, State, Step}
use Rattle.vk_base.specs.declared.answer.Refusal.TheVariants as refusals
use Rattle.vk_base.specs.declared.answer.Answer.TheVariants as answers
use Rattle.vk_base.specs.declared.call.Call.TheVariants as calls
use Rattle.vk_base.specs.declared.kernel.Direction.TheVariants as directions
use Rattle.vk_base.specs.declared.kernel.State.TheVariants as states
use Rattle.vk_base.specs.declared.step.Step.TheVariants as steps
use Rattle.vk_base.specs.Calls.{Effect, accepted, begin_move, call_refusal, call_step, called, copied_at_once, exited, forward, forwarded, found_at_once, get_pid, is_at_once, is_bereft, lookup_begun, move_begun, new_move, released, replied, sent, unseen}
use Rattle.vk_base.specs.Kernel.{◌>>=◌, Kernel, name_of, holds_of, held, is_ready, receiving, sending, is_moving, is_asking, finished_call, ended, put_process}
use Rattle.vk_base.specs.Pids.{same_pid}
use Rattle.vk_base.specs.Ranges.{range_of, bytes_in}
use Rattle.vk_base.specs.Steps.{effect, next, after_effect}
use Rattle.vk_base.proofs.OptionLemmas.{bind_is}
use Rattle.v_laws.proofs.Options.{of_either}
use Rattle.v_laws.proofs.States.{ended_ready}
use Rattle.v_laws.proofs.Tables.{same_pid_is}
use Rattle.vk_rules.specs.CallOutcomes.{effect_answer, seen_answer}
use Rattle.vk_rules.specs.Each.{Each}
use Rattle.vk_rules.specs.Entries.{is_begun}
use Rattle.v_ages.proofs.Quiet.{NoCall}
use Rattle.v_ended.proofs.Spared.{Passes, after_leaves, doing, put_other, put_same, state_of}

abbrev pub is_busy : State → Bool
is_busy s = not (is_ready s)

abbrev pub waits : Kernel → Pid → Bool
waits k r = holds_of is_busy (doing k r)

-- a change after which it waits only where it waited before
abbrev pub NoMore : Pid → Kernel → Kernel → Type 0
NoMore r k l = waits l r ≡ true → waits k r ≡ true

same_more : (r : Pid) (k l : Kernel) → doing l r ≡ doing k r → NoMore r k l
same_more r k l same t = ap (holds_of is_busy) (sym same) ∙ t

-- Steps that are no calls: a process that waits for nothing cannot take one.
idle_some : {A : Type 0} (x : Option State) (f : State → Option A) → holds_of is_busy x ≡ false → f states.Ready ≡ None → (x >>= f) ≡ None
idle_some None f idle none = refl
idle_some (Some states.Ready) f idle none = none
idle_some (Some (states.Blocked c)) f idle none = absurd (both_ways true idle refl)
idle_some (Some (states.Done c a)) f idle none = absurd (both_ways true idle refl)

idle_true : (x : Option State) (f : State → Bool) → holds_of is_busy x ≡ false → f states.Ready ≡ false → holds_of f x ≡ false
idle_true None f idle none = refl
idle_true (Some states.Ready) f idle none = none
idle_true (Some (states.Blocked c)) f idle none = absurd (both_ways true idle refl)
idle_true (Some (states.Done c a)) f idle none = absurd (both_ways true idle refl)

idle_passes : (r : Pid) (x : Option State) (s : Step) → holds_of is_busy x ≡ false → NoCall s → Passes r x s
idle_passes r x (steps.Call pid d) idle none = both_ways true none refl
idle_passes r x (steps.Arrive sender number) idle none = tt
idle_passes r x (steps.Take q) idle none = λ same. idle_some x receiving idle refl
idle_passes r x (steps.Finish q) idle none = λ same. idle_some x sending idle refl
idle_passes r x (steps.Fail q why) idle none = λ same. idle_some x sending idle refl
idle_passes r x (steps.OpenMove sender number moving) idle none = tt
idle_passes r x (steps.Copy sender number moving offset count) idle none = tt
idle_passes r x (steps.End q why) idle none = λ same. idle_true x is_moving idle refl
idle_passes r x (steps.Hear asker number pid) idle none = tt
idle_passes r x (steps.Found q pid) idle none = λ same. idle_true x is_asking idle refl
idle_passes r x (steps.Lost q) idle none = λ same. idle_true x is_asking idle refl
idle_passes r x (steps.Collect q) idle none = λ same. idle_some x finished_call idle refl

after_more : (k : Kernel) (r : Pid) (s : Step) → NoCall s → NoMore r k (next k s)
after_more k r s none t = elim (cases_Bool (waits k r)) [
  | inl busy ↦ busy
  | inr idle ↦
      let same = after_leaves k r s (effect k s) refl (idle_passes r (doing k r) s idle none) in same_more r k (next k s) same t
]

pub steps_more : (k : Kernel) (r : Pid) (ss : List Step) → Each NoCall ss → NoMore r k (fold next k ss)
steps_more k r [] none = λ t. t
steps_more k r (s ∷ ss) none = λ t. after_more k r s none.0 (steps_more (next k s) r ss none.1 t)

-- Calls: it waits afterwards where it waited, or where it is its own call that is begun.
abbrev Waiting : Pid → Kernel → Pid → Effect → Type 0
Waiting r k pid e = waits e.after r ≡ true → (waits k r ≡ true) ⊎ ((same_pid r pid && is_begun (seen_answer e.seen)) ≡ true)

by_waiting : (r : Pid) (k : Kernel) (pid : Pid) (f e : Effect) → Some f ≡ Some e → Waiting r k pid f → Waiting r k pid e
by_waiting r k pid f e g on = subst (Waiting r k pid) (same_Some f e g) on

-- one that is answered
not_begun : (r : Pid) (k : Kernel) (pid : Pid) (f e : Effect) → Some f ≡ Some e → doing f.after r ≡ doing k r → Waiting r k pid e
not_begun r k pid f e g same = by_waiting r k pid f e g (λ t. inl (same_more r k f.after same t))

-- one that is begun
put_begun : (r : Pid) (k : Kernel) (pid : Pid) (l : Kernel) (after : Process) (e : Effect) →
    Some (unseen l) ≡ Some e → l.procs ≡ put_process k.procs pid after → Waiting r k pid e
put_begun r k pid l after e g is = by_waiting r k pid (unseen l) e g (λ t. elim (cases_Bool (same_pid r pid)) [
  | inl same ↦ inr (and_from (same_pid r pid) true same refl)
  | inr other ↦ inl (same_more r k l (ap (λ (f : Pid → Option Process). state_of (f r)) is ∙ put_other k.procs pid after r other) t)
])

released_busy : (k : Kernel) (pid q : Pid) (o : Option Process) →
    holds_of is_busy (state_of (option_map (released k pid q) o)) ≡ holds_of is_busy (state_of o)
released_busy k pid q None = refl
released_busy k pid q (Some x) =
    cond_both (is_bereft k pid q x) (record x { state = ended x.state (answers.Refused refusals.NoProcess) }) x
    (λ (y : Process). is_busy y.state ≡ is_busy x.state) (λ t. ap not (ended_ready x.state _)) (λ f. refl)

exit_waits : (k : Kernel) (r pid : Pid) (p : Process) → k.procs pid ≡ Some p → waits (exited k pid p) r ≡ waits k r
unfolding exited
exit_waits k r pid p at =
    cond_both (same_pid r pid) (Some (record p { alive = false })) (option_map (released k pid r) (k.procs r))
    (λ o. holds_of is_busy (state_of o) ≡ waits k r)
    (λ t. sym (ap (λ (q : Pid). holds_of is_busy (state_of (k.procs q))) (same_pid_is r pid t) ∙ ap (λ o. holds_of is_busy (state_of o)) at))
    (λ f. released_busy k pid r (k.procs r))

reply_waits : (k : Kernel) (r pid : Pid) (c : Call) (to : Pid) (m : Message) (dest : ℕ) (bytes : List ℕ) (e : Effect) →
    replied k pid c to m dest bytes ≡ Some e → Waiting r k pid e
reply_waits k r pid c to m dest bytes e g =
    let number = bind_is (held k pid to) _ e g in
    let x = bind_is (k.exchanges (name_of to number.0)) _ e number.2 in
    not_begun r k pid _ e x.2 refl

forward_waits : (k : Kernel) (r pid : Pid) (c : Call) (m : Message) (from to : Pid) (e : Effect) → forward k pid c m from to ≡ Some e →
    Waiting r k pid e
unfolding forwarded
forward_waits k r pid c m from to e g =
    let number = bind_is (held k pid from) _ e g in
    let x = bind_is (k.exchanges (name_of from number.0)) _ e number.2 in
    not_begun r k pid _ e x.2 refl

once_waits : (k : Kernel) (r pid : Pid) (c : Call) (into : Pid) (dest : ℕ) (bytes : List ℕ) (e : Effect) →
    copied_at_once k pid c into dest bytes ≡ Some e → Waiting r k pid e
unfolding copied_at_once
once_waits k r pid c into dest bytes e g =
    let q = bind_is (k.procs into) _ e g in
    not_begun r k pid _ e q.2 (put_same k.procs into q.0 _ r q.1 refl)

move_waits : (k : Kernel) (r pid : Pid) (p : Process) (c : Call) (partner : Pid) (m : Move) (e : Effect) →
    begin_move k pid p c partner m ≡ Some e → Waiting r k pid e
unfolding move_begun
move_waits k r pid p c partner m e g =
    let number = bind_is (held k pid partner) _ e g in
    let x = bind_is (k.exchanges (name_of partner number.0)) _ e number.2 in
    put_begun r k pid _ _ e x.2 refl

got_waits : (k : Kernel) (r pid : Pid) (p : Process) (c : Call) (logical : ℕ) (o : Option Pid) (e : Effect) →
    Some (get_pid k pid p c logical o) ≡ Some e → Waiting r k pid e
unfolding lookup_begun
got_waits k r pid p c logical None e g = put_begun r k pid _ _ e g refl
got_waits k r pid p c logical (Some q) e g = not_begun r k pid _ e g refl

accepted_waits : (k : Kernel) (r pid : Pid) (p : Process) (c : Call) (e : Effect) → k.procs pid ≡ Some p → accepted k pid p c ≡ Some e →
    Waiting r k pid e
unfolding sent
accepted_waits k r pid p (calls.Send target m) e at g = put_begun r k pid _ _ e g refl
accepted_waits k r pid p calls.Receive e at g = put_begun r k pid _ _ e g refl
accepted_waits k r pid p (calls.ReceiveSegment start count) e at g = put_begun r k pid _ _ e g refl
accepted_waits k r pid p (calls.Reply m to) e at g = reply_waits k r pid (calls.Reply m to) to m 0 [] e g
accepted_waits k r pid p (calls.ReplySegment m to dest src count) e at g =
    reply_waits k r pid (calls.ReplySegment m to dest src count) to m dest (bytes_in (range_of src count) p.memory) e g
accepted_waits k r pid p (calls.Forward m from to) e at g = forward_waits k r pid (calls.Forward m from to) m from to e g
accepted_waits k r pid p (calls.MoveTo partner dest src count) e at g =
    let c : Call = calls.MoveTo partner dest src count in
    let bytes = bytes_in (range_of src count) p.memory in
    of_either (Waiting r k pid) (is_at_once pid partner count) (copied_at_once k pid c partner dest bytes)
    (begin_move k pid p c partner (new_move pid directions.To dest src count bytes)) e
    (λ once. once_waits k r pid c partner dest bytes e)
    (λ later. move_waits k r pid p c partner (new_move pid directions.To dest src count bytes) e) g
accepted_waits k r pid p (calls.MoveFrom partner dest src count) e at g =
    let c : Call = calls.MoveFrom partner dest src count in
    of_either (Waiting r k pid) (is_at_once pid partner count)
    (k.procs partner >>= λ q. copied_at_once k pid c pid dest (bytes_in (range_of src count) q.memory))
    (begin_move k pid p c partner (new_move pid directions.From dest src count [])) e
    (λ once h. let q = bind_is (k.procs partner) _ e h in once_waits k r pid c pid dest (bytes_in (range_of src count) q.0.memory) e q.2)
    (λ later. move_waits k r pid p c partner (new_move pid directions.From dest src count []) e) g
accepted_waits k r pid p (calls.SetPid logical q scope) e at g = not_begun r k pid _ e g refl
accepted_waits k r pid p (calls.GetPid logical scope) e at g =
    got_waits k r pid p (calls.GetPid logical scope) logical (found_at_once k pid logical scope) e g
accepted_waits k r pid p (calls.Load start count) e at g = not_begun r k pid _ e g refl
accepted_waits k r pid p (calls.Store start bytes) e at g = not_begun r k pid _ e g (put_same k.procs pid p _ r at refl)
accepted_waits k r pid p calls.Exit e at g =
    by_waiting r k pid _ e g (λ t. inl (sym (exit_waits k r pid p at) ∙ t))

called_waits : (k : Kernel) (r pid : Pid) (p : Process) (c : Call) (o : Option Refusal) (e : Effect) → k.procs pid ≡ Some p →
    called k pid p c o ≡ Some e → Waiting r k pid e
called_waits k r pid p c None e at g = accepted_waits k r pid p c e at g
called_waits k r pid p c (Some why) e at g = not_begun r k pid _ e g refl

pub call_waits : (k : Kernel) (r pid : Pid) (c : Call) (o : Option Effect) → call_step k pid c ≡ o → waits (after_effect k o) r ≡ true →
    (waits k r ≡ true) ⊎ ((same_pid r pid && is_begun (effect_answer o)) ≡ true)
call_waits k r pid c None g t = inl t
call_waits k r pid c (Some e) g t =
    let p = bind_is (k.procs pid) _ e g in called_waits k r pid p.0 c (call_refusal k pid p.0 c) e p.1 p.2 t
