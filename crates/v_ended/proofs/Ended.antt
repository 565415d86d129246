-- What the steps of a packet do to a process that is blocked in its work: they leave it so, or one ends the work, and behind them the
-- call is over.
use Rattle.std.proofs.Common.{◌≡◌, true, false, ◌||◌, List, [], ◌∷◌, fold, Option, Some, None, refl, sym, ap, subst, ◌∙◌, inl, inr, ◌⊎◌}
use Rattle.std.proofs.lemmas.Bool.{cases_Bool, both_ways, or_right}
use Rattle.std.proofs.lemmas.Option.{same_Some}
use Rattle.std.specs.List.{list_any}
use Rattle.vk_types.specs.Types.{Answer, Call, Pid, Process, Step}
use Rattle.vk_base.specs.declared.answer.Answer.TheVariants as answers
use Rattle.vk_base.specs.declared.answer.Refusal.TheVariants as refusals
use Rattle.vk_base.specs.declared.call.Call.TheVariants as calls
use Rattle.vk_base.specs.declared.kernel.State.TheVariants as states
use Rattle.vk_base.specs.declared.step.Step.TheVariants as steps
use Rattle.vk_base.specs.Calls.{Effect}
use Rattle.vk_base.specs.Kernel.{Kernel, ended, put_process}
use Rattle.vk_base.specs.Pids.{same_pid}
use Rattle.vk_base.specs.Steps.{effect, next, after_effect, finishing, failing, ending, asking, finding}
use Rattle.vk_base.proofs.OptionLemmas.{bind_is}
use Rattle.v_laws.proofs.States.{sending_is}
use Rattle.v_laws.proofs.StepLemmas.{finishing_is, failing_is, ending_is, asking_is, finding_is}
use Rattle.v_laws.proofs.Tables.{put_process_at}
use Rattle.vk_rules.specs.Each.{Each}
use Rattle.v_ages.proofs.Quiet.{NoCall}
use Rattle.v_ended.specs.Ends.{ends, is_work}
use Rattle.v_ended.proofs.Spared.{Passes, after_leaves, doing, over_passes, same_blocked, state_at, state_of, work_passes}
use Rattle.v_ended.proofs.Uncollected.{NoCollect}

-- the call is over
abbrev pub IsOver : Kernel → Pid → Call → Type 0
IsOver k r call = (a : Answer) × (doing k r ≡ Some (states.Done call a))

over_by : (r : Pid) (call : Call) (f e : Effect) → Some f ≡ Some e → IsOver f.after r call → IsOver e.after r call
over_by r call f e g on = subst (λ (x : Effect). IsOver x.after r call) (same_Some f e g) on

pub put_over : (procs : Pid → Option Process) (pid : Pid) (after : Process) (r : Pid) (call : Call) (a : Answer) → same_pid r pid ≡ true →
    after.state ≡ states.Done call a → state_of (put_process procs pid after r) ≡ Some (states.Done call a)
put_over procs pid after r call a same is = ap state_of (put_process_at procs pid after r same) ∙ ap Some is

-- A step that ends it, where the step is allowed.
step_ends : (k : Kernel) (r : Pid) (call : Call) (s : Step) (e : Effect) → doing k r ≡ Some (states.Blocked call) → ends r s ≡ true →
    effect k s ≡ Some e → IsOver e.after r call
step_ends k r call (steps.Finish q) e at t g =
    let f = bind_is (finishing k q) _ e g in
    let i = finishing_is k q f.0 f.1 in
    let state = state_at k r q (states.Blocked call) f.0.process at i.process t in
    let send = sending_is f.0.process.state f.0.target f.0.message i.send in
    let same = same_blocked (calls.Send f.0.target f.0.message) call (sym send ∙ state) in
    let a : Answer = answers.Replied f.0.reply in
    over_by r call _ e f.2 (a, put_over k.procs q _ r call a t (ap (λ c. states.Done c a) same))
step_ends k r call (steps.Fail q why) e at t g =
    let f = bind_is (failing k q why) _ e g in
    let i = failing_is k q why f.0 f.1 in
    let state = state_at k r q (states.Blocked call) f.0.0 at i.process t in
    let a : Answer = answers.Refused f.0.1 in
    over_by r call _ e f.2 (a, put_over k.procs q _ r call a t (ap (λ x. ended x a) state))
step_ends k r call (steps.End q why) e at t g =
    let f = bind_is (ending k q why) _ e g in
    let i = ending_is k q why f.0 f.1 in
    let state = state_at k r q (states.Blocked call) f.0.0 at i.process t in
    over_by r call _ e f.2 (f.0.1, put_over k.procs q _ r call f.0.1 t (ap (λ x. ended x f.0.1) state))
step_ends k r call (steps.Found q pid) e at t g =
    let f = bind_is (finding k q pid) _ e g in
    let i = finding_is k q pid f.0 f.1 in
    let asks = i.asks in
    let state = state_at k r q (states.Blocked call) f.0 at asks.process t in
    let a : Answer = answers.Found pid in
    over_by r call _ e f.2 (a, put_over k.procs q _ r call a t (ap (λ x. ended x a) state))
step_ends k r call (steps.Lost q) e at t g =
    let f = bind_is (asking k q) _ e g in
    let asks = asking_is k q f.0 f.1 in
    let state = state_at k r q (states.Blocked call) f.0 at asks.process t in
    let a : Answer = answers.Refused refusals.NotFound in
    over_by r call _ e f.2 (a, put_over k.procs q _ r call a t (ap (λ x. ended x a) state))
step_ends k r call (steps.Call pid c) e at t g = absurd (both_ways false refl t)
step_ends k r call (steps.Arrive sender number) e at t g = absurd (both_ways false refl t)
step_ends k r call (steps.Take q) e at t g = absurd (both_ways false refl t)
step_ends k r call (steps.OpenMove sender number moving) e at t g = absurd (both_ways false refl t)
step_ends k r call (steps.Copy sender number moving offset count) e at t g = absurd (both_ways false refl t)
step_ends k r call (steps.Hear asker number pid) e at t g = absurd (both_ways false refl t)
step_ends k r call (steps.Collect pid) e at t g = absurd (both_ways false refl t)

-- One step, and all of them.
abbrev pub LeftOrOver : Kernel → Kernel → Pid → Call → List Step → Type 0
LeftOrOver k l r call ss = (doing l r ≡ doing k r) ⊎ ((list_any (ends r) ss ≡ true) × IsOver l r call)

step_on : (k : Kernel) (r : Pid) (call : Call) (s : Step) (o : Option Effect) → effect k s ≡ o → is_work r call ≡ true → NoCall s →
    doing k r ≡ Some (states.Blocked call) →
    (doing (after_effect k o) r ≡ doing k r) ⊎ ((ends r s ≡ true) × IsOver (after_effect k o) r call)
step_on k r call s None g w none at = inl refl
step_on k r call s (Some e) g w none at = elim (cases_Bool (ends r s)) [
  | inl t ↦ inr (t, step_ends k r call s e at t g)
  | inr f ↦ inl (after_leaves k r s (Some e) g (subst (λ x. Passes r x s) (sym at) (work_passes r call s w none f)))
]

stays_over : (k : Kernel) (r : Pid) (call : Call) (ss : List Step) → Each NoCall ss → Each NoCollect ss → IsOver k r call →
    IsOver (fold next k ss) r call
stays_over k r call [] none left over = over
stays_over k r call (s ∷ ss) none left over =
    let passes = over_passes r call over.0 s none.0 left.0 in
    let same = after_leaves k r s (effect k s) refl (subst (λ x. Passes r x s) (sym over.1) passes) in
    stays_over (next k s) r call ss none.1 left.1 (over.0, same ∙ over.1)

behind_one : (k l m : Kernel) (r : Pid) (call : Call) (s : Step) (ss : List Step) → doing l r ≡ doing k r → LeftOrOver l m r call ss →
    LeftOrOver k m r call (s ∷ ss)
behind_one k l m r call s ss same (inl rest) = inl (rest ∙ same)
behind_one k l m r call s ss same (inr over) = inr (or_right (ends r s) (list_any (ends r) ss) over.0, over.1)

pub steps_on : (k : Kernel) (r : Pid) (call : Call) (ss : List Step) → is_work r call ≡ true → Each NoCall ss → Each NoCollect ss →
    doing k r ≡ Some (states.Blocked call) → LeftOrOver k (fold next k ss) r call ss
steps_on k r call [] w none left at = inl refl
steps_on k r call (s ∷ ss) w none left at = elim (step_on k r call s (effect k s) refl w none.0 at) [
  | inl same ↦
      behind_one k (next k s) (fold next (next k s) ss) r call s ss same (steps_on (next k s) r call ss w none.1 left.1 (same ∙ at))
  | inr over ↦
      inr (ap (λ b. b || list_any (ends r) ss) over.0, stays_over (next k s) r call ss none.1 left.1 over.1)
]
