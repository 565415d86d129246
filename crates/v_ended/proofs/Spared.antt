-- What a step does to a process that is blocked in its work: it leaves it so, or ends the work, and the call is over.
use Rattle.std.proofs.Common.{◌≡◌, Bool, true, false, option_map, List, [], ◌∷◌, fold, Option, Some, None, refl, sym, ap, subst, ◌∙◌, inl, inr}
use Rattle.std.proofs.lemmas.Bool.{cases_Bool, both_ways}
use Rattle.std.proofs.lemmas.Option.{same_Some, none-some}
use Rattle.vk_types.specs.Types.{Answer, Call, Pid, Process, State, Step}
use Rattle.vk_base.specs.declared.call.Call.TheVariants as calls
use Rattle.vk_base.specs.declared.kernel.State.TheVariants as states
use Rattle.vk_base.specs.declared.step.Step.TheVariants as steps
use Rattle.vk_base.specs.Calls.{Effect}
use Rattle.vk_base.specs.Kernel.{◌>>=◌, Kernel, name_of, blocked_in, holds_of, receiving, as_receive, sending, is_moving, is_asking, finished_call, put_process}
use Rattle.vk_base.specs.Pids.{same_pid}
use Rattle.vk_base.specs.Steps.{effect, next, after_effect, with_arrival, arriving, taking, taken, finishing, failing, opening_move, move_opened, copying, copied, ending, hearing, asking, finding, collecting}
use Rattle.vk_base.proofs.OptionLemmas.{bind_is}
use Rattle.v_laws.proofs.States.{blocked_is}
use Rattle.v_laws.proofs.StepLemmas.{taking_is, finishing_is, failing_is, copying_is, ending_is, asking_is, finding_is, collecting_is}
use Rattle.v_laws.proofs.Tables.{same_pid_is, put_process_at, put_process_other}
use Rattle.vk_rules.specs.Each.{Each}
use Rattle.v_ages.proofs.Quiet.{NoCall}
use Rattle.v_ended.specs.Ends.{ends, is_work}
use Rattle.v_ended.proofs.Uncollected.{NoCollect}

-- what a process does, where it is there
abbrev pub state_of : Option Process → Option State
state_of o = option_map (λ (p : Process). p.state) o

abbrev pub doing : Kernel → Pid → Option State
doing k r = state_of (k.procs r)

-- it is blocked in a work
pub record IsAtWork (k : Kernel) (r : Pid) : Type 0 where
  pub call : Call
  pub is : doing k r ≡ Some (states.Blocked call)
  pub work : is_work r call ≡ true

pub still : (k l : Kernel) (r : Pid) → doing l r ≡ doing k r → IsAtWork k r → IsAtWork l r
still k l r same at = record { call = at.call; is = same ∙ at.is; work = at.work }

-- its state, by the process
state_there : (k : Kernel) (r q : Pid) (p : Process) → k.procs q ≡ Some p → same_pid r q ≡ true → doing k r ≡ Some p.state
state_there k r q p is same = ap state_of (ap k.procs (same_pid_is r q same) ∙ is)

pub state_at : (k : Kernel) (r q : Pid) (x : State) (p : Process) → doing k r ≡ Some x → k.procs q ≡ Some p → same_pid r q ≡ true →
    p.state ≡ x
state_at k r q x p at is same = same_Some p.state x (sym (state_there k r q p is same) ∙ at)

pub state_is : (k : Kernel) (r : Pid) (p : Process) (at : IsAtWork k r) → k.procs r ≡ Some p → p.state ≡ states.Blocked at.call
state_is k r p at is = same_Some p.state (states.Blocked at.call) (sym (ap state_of is) ∙ at.is)

-- by the call in which it is blocked, and the call that is over
pub blocked_doing : (o : Option Process) (c : Call) → (o >>= λ p. blocked_in p.state) ≡ Some c → state_of o ≡ Some (states.Blocked c)
blocked_doing None c is = absurd (none-some c is)
blocked_doing (Some p) c is = ap Some (blocked_is p.state c is)

pub doing_blocked : (o : Option Process) (c : Call) → state_of o ≡ Some (states.Blocked c) → (o >>= λ p. blocked_in p.state) ≡ Some c
doing_blocked None c is = absurd (none-some (states.Blocked c) is)
doing_blocked (Some p) c is = ap blocked_in (same_Some p.state (states.Blocked c) is)

pub doing_over : (o : Option Process) (c : Call) (a : Answer) → state_of o ≡ Some (states.Done c a) →
    (o >>= λ p. finished_call p.state) ≡ Some (c, a)
doing_over None c a is = absurd (none-some (states.Done c a) is)
doing_over (Some p) c a is = ap finished_call (same_Some p.state (states.Done c a) is)

pub same_blocked : (c d : Call) → states.Blocked c ≡ states.Blocked d → c ≡ d
same_blocked c d is = same_Some c d (ap blocked_in is)

-- A process that is put.
pub put_other : (procs : Pid → Option Process) (pid : Pid) (p : Process) (r : Pid) → same_pid r pid ≡ false →
    state_of (put_process procs pid p r) ≡ state_of (procs r)
put_other procs pid p r other = ap state_of (put_process_other procs pid p r other)

pub put_same : (procs : Pid → Option Process) (pid : Pid) (p after : Process) (r : Pid) → procs pid ≡ Some p → after.state ≡ p.state →
    state_of (put_process procs pid after r) ≡ state_of (procs r)
put_same procs pid p after r at same = elim (cases_Bool (same_pid r pid)) [
  | inl t ↦ ap state_of (put_process_at procs pid after r t) ∙ ap Some same ∙ sym (ap state_of at)
      ∙ sym (ap (λ (q : Pid). state_of (procs q)) (same_pid_is r pid t))
  | inr f ↦ put_other procs pid after r f
]

-- one that the process cannot be
pub put_never : (procs : Pid → Option Process) (pid : Pid) (p : Process) (r : Pid) → (same_pid r pid ≡ true → ⊥) →
    state_of (put_process procs pid p r) ≡ state_of (procs r)
put_never procs pid p r never = elim (cases_Bool (same_pid r pid)) [
  | inl t ↦ absurd (never t)
  | inr f ↦ put_other procs pid p r f
]

-- A work is no receive.
work_receives : (r : Pid) (c : Call) → is_work r c ≡ true → as_receive c ≡ None
work_receives r (calls.Send target m) w = refl
work_receives r calls.Receive w = absurd (both_ways false refl w)
work_receives r (calls.ReceiveSegment start count) w = absurd (both_ways false refl w)
work_receives r (calls.Reply m to) w = refl
work_receives r (calls.ReplySegment m to dest src count) w = refl
work_receives r (calls.Forward m from to) w = refl
work_receives r (calls.MoveTo partner dest src count) w = refl
work_receives r (calls.MoveFrom partner dest src count) w = refl
work_receives r (calls.SetPid logical q scope) w = refl
work_receives r (calls.GetPid logical scope) w = refl
work_receives r (calls.Load start count) w = refl
work_receives r (calls.Store start bytes) w = refl
work_receives r calls.Exit w = refl

-- A step that is of another process, or that a process which does this cannot take.
abbrev pub Passes : Pid → Option State → Step → Type 0
Passes r x (steps.Call pid c) = ⊥
Passes r x (steps.Take q) = same_pid r q ≡ true → (x >>= receiving) ≡ None
Passes r x (steps.Finish q) = same_pid r q ≡ true → (x >>= sending) ≡ None
Passes r x (steps.Fail q why) = same_pid r q ≡ true → (x >>= sending) ≡ None
Passes r x (steps.End q why) = same_pid r q ≡ true → holds_of is_moving x ≡ false
Passes r x (steps.Found q pid) = same_pid r q ≡ true → holds_of is_asking x ≡ false
Passes r x (steps.Lost q) = same_pid r q ≡ true → holds_of is_asking x ≡ false
Passes r x (steps.Collect q) = same_pid r q ≡ true → (x >>= finished_call) ≡ None
Passes r x s = Unit {0}

never_some : {A : Type 0} (k : Kernel) (r q : Pid) (p : Process) (f : State → Option A) (y : A) →
    (same_pid r q ≡ true → (doing k r >>= f) ≡ None) → k.procs q ≡ Some p → f p.state ≡ Some y → same_pid r q ≡ true → ⊥
never_some k r q p f y none is there same =
    none-some y (sym (none same) ∙ ap (λ x. x >>= f) (state_there k r q p is same) ∙ there)

never_true : (k : Kernel) (r q : Pid) (p : Process) (f : State → Bool) → (same_pid r q ≡ true → holds_of f (doing k r) ≡ false) →
    k.procs q ≡ Some p → f p.state ≡ true → same_pid r q ≡ true → ⊥
never_true k r q p f none is holds same =
    both_ways (f p.state) (sym (ap (holds_of f) (state_there k r q p is same)) ∙ none same) holds

pub by_effect : (k : Kernel) (r : Pid) (f e : Effect) → Some f ≡ Some e → doing f.after r ≡ doing k r → doing e.after r ≡ doing k r
by_effect k r f e g on = subst (λ (x : Effect). doing x.after r ≡ doing k r) (same_Some f e g) on

step_leaves : (k : Kernel) (r : Pid) (s : Step) (e : Effect) → Passes r (doing k r) s → effect k s ≡ Some e → doing e.after r ≡ doing k r
unfolding with_arrival taken move_opened copied
step_leaves k r (steps.Call pid c) e passes g = absurd passes
step_leaves k r (steps.Arrive sender number) e passes g =
    let f = bind_is (arriving k (name_of sender number)) _ e g in by_effect k r _ e f.2 refl
step_leaves k r (steps.Take q) e passes g =
    let f = bind_is (taking k q) _ e g in
    let i = taking_is k q f.0 f.1 in
    by_effect k r _ e f.2 (put_never k.procs q _ r (never_some k r q f.0.process receiving f.0.call passes i.process i.call))
step_leaves k r (steps.Finish q) e passes g =
    let f = bind_is (finishing k q) _ e g in
    let i = finishing_is k q f.0 f.1 in
    by_effect k r _ e f.2
    (put_never k.procs q _ r (never_some k r q f.0.process sending (f.0.target, f.0.message) passes i.process i.send))
step_leaves k r (steps.Fail q why) e passes g =
    let f = bind_is (failing k q why) _ e g in
    let i = failing_is k q why f.0 f.1 in
    by_effect k r _ e f.2 (put_never k.procs q _ r (never_some k r q f.0.0 sending i.send passes i.process i.sends))
step_leaves k r (steps.OpenMove sender number moving) e passes g =
    let f = bind_is (opening_move k (name_of sender number) moving) _ e g in by_effect k r _ e f.2 refl
step_leaves k r (steps.Copy sender number moving offset count) e passes g =
    let f = bind_is (copying k (name_of sender number) moving offset count) _ e g in
    let i = copying_is k (name_of sender number) moving offset count f.0 f.1 in
    by_effect k r _ e f.2 (put_same k.procs f.0.pid f.0.process _ r i.process refl)
step_leaves k r (steps.End q why) e passes g =
    let f = bind_is (ending k q why) _ e g in
    let i = ending_is k q why f.0 f.1 in
    by_effect k r _ e f.2 (put_never k.procs q _ r (never_true k r q f.0.0 is_moving passes i.process i.moves))
step_leaves k r (steps.Hear asker number pid) e passes g =
    let f = bind_is (hearing k asker number pid) _ e g in by_effect k r _ e f.2 refl
step_leaves k r (steps.Found q pid) e passes g =
    let f = bind_is (finding k q pid) _ e g in
    let i = finding_is k q pid f.0 f.1 in
    let a = i.asks in
    by_effect k r _ e f.2 (put_never k.procs q _ r (never_true k r q f.0 is_asking passes a.process a.asks))
step_leaves k r (steps.Lost q) e passes g =
    let f = bind_is (asking k q) _ e g in
    let a = asking_is k q f.0 f.1 in
    by_effect k r _ e f.2 (put_never k.procs q _ r (never_true k r q f.0 is_asking passes a.process a.asks))
step_leaves k r (steps.Collect q) e passes g =
    let f = bind_is (collecting k q) _ e g in
    let i = collecting_is k q f.0 f.1 in
    by_effect k r _ e f.2
    (put_never k.procs q _ r (never_some k r q f.0.process finished_call (f.0.call, f.0.answer) passes i.process i.done))

-- A work is passed by what does not end it, and a call that is over by what does not collect.
pub work_passes : (r : Pid) (c : Call) (s : Step) → is_work r c ≡ true → NoCall s → ends r s ≡ false → Passes r (Some (states.Blocked c)) s
work_passes r c (steps.Call pid d) w none other = both_ways true none refl
work_passes r c (steps.Arrive sender number) w none other = tt
work_passes r c (steps.Take q) w none other = λ same. work_receives r c w
work_passes r c (steps.Finish q) w none other = λ same. absurd (both_ways (same_pid r q) other same)
work_passes r c (steps.Fail q why) w none other = λ same. absurd (both_ways (same_pid r q) other same)
work_passes r c (steps.OpenMove sender number moving) w none other = tt
work_passes r c (steps.Copy sender number moving offset count) w none other = tt
work_passes r c (steps.End q why) w none other = λ same. absurd (both_ways (same_pid r q) other same)
work_passes r c (steps.Hear asker number pid) w none other = tt
work_passes r c (steps.Found q pid) w none other = λ same. absurd (both_ways (same_pid r q) other same)
work_passes r c (steps.Lost q) w none other = λ same. absurd (both_ways (same_pid r q) other same)
work_passes r c (steps.Collect q) w none other = λ same. refl

pub over_passes : (r : Pid) (c : Call) (a : Answer) (s : Step) → NoCall s → NoCollect s → Passes r (Some (states.Done c a)) s
over_passes r c a (steps.Call pid d) none left = both_ways true none refl
over_passes r c a (steps.Arrive sender number) none left = tt
over_passes r c a (steps.Take q) none left = λ same. refl
over_passes r c a (steps.Finish q) none left = λ same. refl
over_passes r c a (steps.Fail q why) none left = λ same. refl
over_passes r c a (steps.OpenMove sender number moving) none left = tt
over_passes r c a (steps.Copy sender number moving offset count) none left = tt
over_passes r c a (steps.End q why) none left = λ same. refl
over_passes r c a (steps.Hear asker number pid) none left = tt
over_passes r c a (steps.Found q pid) none left = λ same. refl
over_passes r c a (steps.Lost q) none left = λ same. refl
over_passes r c a (steps.Collect q) none left = absurd (both_ways true left refl)

-- Steps that are no calls and do not end it.
pub record Spares (r : Pid) (s : Step) : Type 0 where
  pub none : NoCall s
  pub other : ends r s ≡ false

pub after_leaves : (k : Kernel) (r : Pid) (s : Step) (o : Option Effect) → effect k s ≡ o → Passes r (doing k r) s →
    doing (after_effect k o) r ≡ doing k r
after_leaves k r s None g passes = refl
after_leaves k r s (Some e) g passes = step_leaves k r s e passes g

pub steps_spare : (k : Kernel) (r : Pid) (ss : List Step) → Each (Spares r) ss → IsAtWork k r → doing (fold next k ss) r ≡ doing k r
steps_spare k r [] each at = refl
steps_spare k r (s ∷ ss) each at =
    let passes = work_passes r at.call s at.work each.0.none each.0.other in
    let same = after_leaves k r s (effect k s) refl (subst (λ x. Passes r x s) (sym at.is) passes) in
    steps_spare (next k s) r ss each.1 (still k (next k s) r same at) ∙ same
