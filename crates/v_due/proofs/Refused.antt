-- Which step ends what a process is blocked in with which refusal.
use Rattle.std.proofs.Common.{◌≡◌, Bool, true, false, ◌||◌, not, List, [], ◌∷◌, fold, Option, Some, None, is_none, refl, sym, ap, subst, ◌∙◌, inl, inr}
use Rattle.std.proofs.lemmas.Bool.{cases_Bool, both_ways, or_right}
use Rattle.std.proofs.lemmas.Option.{same_Some, none-some}
use Rattle.std.specs.List.{list_any}
use Rattle.vk_types.specs.Types.{Answer, Call, Ending, Exchange, MoveName, Pid, Process, Refusal, Step}
use Rattle.vk_base.specs.declared.answer.Answer.TheVariants as answers
use Rattle.vk_base.specs.declared.answer.Ending.TheVariants as endings
use Rattle.vk_base.specs.declared.answer.Refusal.TheVariants as refusals
use Rattle.vk_base.specs.declared.kernel.State.TheVariants as states
use Rattle.vk_base.specs.declared.step.Step.TheVariants as steps
use Rattle.vk_base.specs.Calls.{Effect}
use Rattle.vk_base.specs.Kernel.{◌>>=◌, Kernel, name_of, ended, finished_call, is_live, is_moving, sending, waiting_on, holds_of}
use Rattle.vk_base.specs.Pids.{same_pid, same_host}
use Rattle.vk_base.specs.Steps.{effect, next, after_effect, finishing, failing, failure, ending, move_ending, asking, finding, only_if, is_complete}
use Rattle.vk_base.proofs.OptionLemmas.{bind_is}
use Rattle.v_laws.proofs.StepLemmas.{finishing_is, failing_is, ending_is, asking_is, finding_is, only_if_is}
use Rattle.v_laws.proofs.States.{sending_is}
use Rattle.vk_rules.specs.Each.{Each}
use Rattle.v_ages.proofs.Quiet.{NoCall}
use Rattle.v_ended.specs.Ends.{ends, is_work}
use Rattle.v_ended.proofs.Spared.{Passes, after_leaves, doing, over_passes, same_blocked, state_at, work_passes}
use Rattle.v_ended.proofs.Uncollected.{NoCollect}
use Rattle.v_ended.proofs.Ended.{put_over}

-- the step ends the call of the process with this refusal
abbrev pub refuses : Pid → Step → Refusal → Bool
refuses r (steps.Fail s endings.TimedOut) refusals.TimedOut = same_pid r s
refuses r (steps.Fail s endings.NoProcess) refusals.NoProcess = same_pid r s
refuses r (steps.End s endings.TimedOut) refusals.TimedOut = same_pid r s
refuses r (steps.End s endings.Gone) refusals.Gone = same_pid r s
refuses r (steps.Lost s) refusals.NotFound = same_pid r s
refuses r s why = false

-- an answer that is a refusal is one that the step gives
abbrev pub Tells : Pid → Step → Answer → Type 0
Tells r s a = (why : Refusal) → a ≡ answers.Refused why → refuses r s why ≡ true

why_of : Answer → Option Refusal
why_of (answers.Refused why) = Some why
why_of a = None

-- what tells no refusal, and what tells this one
tells_none : (r : Pid) (s : Step) (a : Answer) → why_of a ≡ None → Tells r s a
unfolding why_of
tells_none r s a none = λ why is. absurd (none-some why (sym none ∙ ap why_of is))

tells_one : (r : Pid) (s : Step) (x : Refusal) → refuses r s x ≡ true → Tells r s (answers.Refused x)
unfolding why_of
tells_one r s x t = λ why is. subst (λ y. refuses r s y ≡ true) (same_Some x why (ap why_of is)) t

-- A step that ends the call, where it is allowed.
record Ended (k : Kernel) (r : Pid) (call : Call) (s : Step) (after : Kernel) : Type 0 where
  answer : Answer
  over : doing after r ≡ Some (states.Done call answer)
  tells : Tells r s answer

ended_by : (k : Kernel) (r : Pid) (call : Call) (s : Step) (f e : Effect) → Some f ≡ Some e → Ended k r call s f.after →
    Ended k r call s e.after
ended_by k r call s f e g on = subst (λ (x : Effect). Ended k r call s x.after) (same_Some f e g) on

fail_tells : (k : Kernel) (e : Exchange) (r q : Pid) (why : Ending) (x : Refusal) → same_pid r q ≡ true → failure k e why ≡ Some x →
    Tells r (steps.Fail q why) (answers.Refused x)
fail_tells k e r q endings.TimedOut x t g =
    subst (λ y. Tells r (steps.Fail q endings.TimedOut) (answers.Refused y)) (same_Some refusals.TimedOut x g)
    (tells_one r (steps.Fail q endings.TimedOut) refusals.TimedOut t)
fail_tells k e r q endings.NoProcess x t g =
    let dead = only_if_is (not (is_live (k.procs e.at))) (Some refusals.NoProcess) x g in
    subst (λ y. Tells r (steps.Fail q endings.NoProcess) (answers.Refused y)) (same_Some refusals.NoProcess x dead.1)
    (tells_one r (steps.Fail q endings.NoProcess) refusals.NoProcess t)
fail_tells k e r q endings.Ok x t g = absurd (none-some x g)
fail_tells k e r q endings.Gone x t g = absurd (none-some x g)

end_tells : (k : Kernel) (m : MoveName) (r q : Pid) (why : Ending) (a : Answer) → same_pid r q ≡ true → move_ending k m why ≡ Some a →
    Tells r (steps.End q why) a
unfolding why_of
end_tells k m r q endings.Ok a t g =
    let whole = only_if_is (holds_of (λ e. is_complete e m.number) (k.exchanges m.exchange)) (Some answers.Ok) a g in
    subst (Tells r (steps.End q endings.Ok)) (same_Some answers.Ok a whole.1) (tells_none r (steps.End q endings.Ok) answers.Ok refl)
end_tells k m r q endings.Gone a t g =
    let gone = only_if_is (is_none (waiting_on k m.exchange)) (Some (answers.Refused refusals.Gone)) a g in
    subst (Tells r (steps.End q endings.Gone)) (same_Some (answers.Refused refusals.Gone) a gone.1)
    (tells_one r (steps.End q endings.Gone) refusals.Gone t)
end_tells k m r q endings.TimedOut a t g =
    subst (Tells r (steps.End q endings.TimedOut)) (same_Some (answers.Refused refusals.TimedOut) a g)
    (tells_one r (steps.End q endings.TimedOut) refusals.TimedOut t)
end_tells k m r q endings.NoProcess a t g = absurd (none-some a g)

-- the parts of a Fail and of an End
record IsFail (k : Kernel) (s : Pid) (why : Ending) (f : Process × Refusal) : Type 0 where
  exchange : Exchange
  is : failure k exchange why ≡ Some f.1

fail_is : (k : Kernel) (s : Pid) (why : Ending) (f : Process × Refusal) → failing k s why ≡ Some f → IsFail k s why f
unfolding failing
fail_is k s why f g =
    let p = bind_is (k.procs s) _ f g in
    let e = bind_is (sending p.0.state >>= λ send. k.exchanges (name_of s p.0.sends)) _ f p.2 in
    let r = bind_is (only_if (not (same_host s e.0.target)) (failure k e.0 why)) _ f e.2 in
    let test = only_if_is (not (same_host s e.0.target)) (failure k e.0 why) r.0 r.1 in
    subst (IsFail k s why) (same_Some _ f r.2) (record { exchange = e.0; is = test.1 })

record IsEnd (k : Kernel) (r : Pid) (why : Ending) (e : Process × Answer) : Type 0 where
  name : MoveName
  is : move_ending k name why ≡ Some e.1

end_is : (k : Kernel) (r : Pid) (why : Ending) (e : Process × Answer) → ending k r why ≡ Some e → IsEnd k r why e
unfolding ending
end_is k r why e g =
    let p = bind_is (k.procs r) _ e g in
    let m = bind_is (only_if (is_moving p.0.state) p.0.moving) _ e p.2 in
    let a = bind_is (move_ending k m.0 why) _ e m.2 in
    subst (IsEnd k r why) (same_Some _ e a.2) (record { name = m.0; is = a.1 })

step_ends : (k : Kernel) (r : Pid) (call : Call) (s : Step) (e : Effect) → doing k r ≡ Some (states.Blocked call) → ends r s ≡ true →
    effect k s ≡ Some e → Ended k r call s e.after
unfolding why_of
step_ends k r call (steps.Finish q) e at t g =
    let f = bind_is (finishing k q) _ e g in
    let i = finishing_is k q f.0 f.1 in
    let state = state_at k r q (states.Blocked call) f.0.process at i.process t in
    let send = sending_is f.0.process.state f.0.target f.0.message i.send in
    let same = same_blocked _ call (sym send ∙ state) in
    let a : Answer = answers.Replied f.0.reply in
    ended_by k r call (steps.Finish q) _ e f.2 (record {
      answer = a;
      over = put_over k.procs q _ r call a t (ap (λ c. states.Done c a) same);
      tells = tells_none r (steps.Finish q) a refl;
    })
step_ends k r call (steps.Fail q why) e at t g =
    let f = bind_is (failing k q why) _ e g in
    let i = failing_is k q why f.0 f.1 in
    let x = fail_is k q why f.0 f.1 in
    let state = state_at k r q (states.Blocked call) f.0.0 at i.process t in
    let a : Answer = answers.Refused f.0.1 in
    ended_by k r call (steps.Fail q why) _ e f.2 (record {
      answer = a;
      over = put_over k.procs q _ r call a t (ap (λ x. ended x a) state);
      tells = fail_tells k x.exchange r q why f.0.1 t x.is;
    })
step_ends k r call (steps.End q why) e at t g =
    let f = bind_is (ending k q why) _ e g in
    let i = ending_is k q why f.0 f.1 in
    let x = end_is k q why f.0 f.1 in
    let state = state_at k r q (states.Blocked call) f.0.0 at i.process t in
    ended_by k r call (steps.End q why) _ e f.2 (record {
      answer = f.0.1;
      over = put_over k.procs q _ r call f.0.1 t (ap (λ x. ended x f.0.1) state);
      tells = end_tells k x.name r q why f.0.1 t x.is;
    })
step_ends k r call (steps.Found q pid) e at t g =
    let f = bind_is (finding k q pid) _ e g in
    let i = finding_is k q pid f.0 f.1 in
    let asks = i.asks in
    let state = state_at k r q (states.Blocked call) f.0 at asks.process t in
    let a : Answer = answers.Found pid in
    ended_by k r call (steps.Found q pid) _ e f.2 (record {
      answer = a;
      over = put_over k.procs q _ r call a t (ap (λ x. ended x a) state);
      tells = tells_none r (steps.Found q pid) a refl;
    })
step_ends k r call (steps.Lost q) e at t g =
    let f = bind_is (asking k q) _ e g in
    let asks = asking_is k q f.0 f.1 in
    let state = state_at k r q (states.Blocked call) f.0 at asks.process t in
    let a : Answer = answers.Refused refusals.NotFound in
    ended_by k r call (steps.Lost q) _ e f.2 (record {
      answer = a;
      over = put_over k.procs q _ r call a t (ap (λ x. ended x a) state);
      tells = tells_one r (steps.Lost q) refusals.NotFound t;
    })
step_ends k r call (steps.Call pid c) e at t g = absurd (both_ways false refl t)
step_ends k r call (steps.Arrive sender number) e at t g = absurd (both_ways false refl t)
step_ends k r call (steps.Take q) e at t g = absurd (both_ways false refl t)
step_ends k r call (steps.OpenMove sender number moving) e at t g = absurd (both_ways false refl t)
step_ends k r call (steps.Copy sender number moving offset count) e at t g = absurd (both_ways false refl t)
step_ends k r call (steps.Hear asker number pid) e at t g = absurd (both_ways false refl t)
step_ends k r call (steps.Collect pid) e at t g = absurd (both_ways false refl t)

-- What is over stays so.
pub stays_over : (k : Kernel) (r : Pid) (call : Call) (a : Answer) (ss : List Step) → Each NoCall ss → Each NoCollect ss →
    doing k r ≡ Some (states.Done call a) → doing (fold next k ss) r ≡ Some (states.Done call a)
stays_over k r call a [] none left over = over
stays_over k r call a (s ∷ ss) none left over =
    let passes = over_passes r call a s none.0 left.0 in
    let same = after_leaves k r s (effect k s) refl (subst (λ x. Passes r x s) (sym over) passes) in
    stays_over (next k s) r call a ss none.1 left.1 (same ∙ over)

-- So where a work is over with a refusal, one of the steps gave it.
abbrev pub WasTold : Pid → Kernel → List Step → Type 0
WasTold r l ss = (call : Call) (why : Refusal) → doing l r ≡ Some (states.Done call (answers.Refused why)) →
    list_any (λ s. refuses r s why) ss ≡ true

answer_at : (o : Option Answer) (c d : Call) (a b : Answer) → states.Done c a ≡ states.Done d b → a ≡ b
answer_at o c d a b is = ap (λ (z : Call × Answer). z.1) (same_Some (c, a) (d, b) (ap finished_call is))

-- what does not end the call leaves the process in it
abbrev pub Waits : Pid → Call → Type 0
Waits r call = (s : Step) → NoCall s → ends r s ≡ false → Passes r (Some (states.Blocked call)) s

pub work_waits : (r : Pid) (call : Call) → is_work r call ≡ true → Waits r call
work_waits r call work = λ s none off. work_passes r call s work none off

told_by : (k : Kernel) (r : Pid) (call : Call) (s : Step) (ss : List Step) (o : Option Effect) → effect k s ≡ o →
    NoCall s → Each NoCall ss → Each NoCollect ss → doing k r ≡ Some (states.Blocked call) → ends r s ≡ true →
    (doing (after_effect k o) r ≡ doing k r → WasTold r (fold next (after_effect k o) ss) ss) →
    WasTold r (fold next (after_effect k o) ss) (s ∷ ss)
told_by k r call s ss None g one none left at t rest =
    λ c why is. or_right (refuses r s why) (list_any (λ s. refuses r s why) ss) (rest refl c why is)
told_by k r call s ss (Some e) g one none left at t rest =
    let x = step_ends k r call s e at t g in
    let over = stays_over e.after r call x.answer ss none left x.over in
    λ c why is. ap (λ b. b || list_any (λ s. refuses r s why) ss)
    (x.tells why (answer_at None call c x.answer (answers.Refused why) (same_Some _ _ (sym over ∙ is))))

pub steps_told : (k : Kernel) (r : Pid) (call : Call) (ss : List Step) → Waits r call → Each NoCall ss → Each NoCollect ss →
    doing k r ≡ Some (states.Blocked call) → WasTold r (fold next k ss) ss
steps_told k r call [] w none left at = λ c why is. absurd (never (same_Some _ _ (sym at ∙ is)))
  where
    never : {c d : Call} {a : Answer} → states.Blocked c ≡ states.Done d a → ⊥
    never e = cc
steps_told k r call (s ∷ ss) w none left at =
    let rest = λ (same : doing (next k s) r ≡ doing k r). steps_told (next k s) r call ss w none.1 left.1 (same ∙ at) in
    elim (cases_Bool (ends r s)) [
      | inl t ↦ told_by k r call s ss (effect k s) refl none.0 none.1 left.1 at t rest
      | inr f ↦
          let same = after_leaves k r s (effect k s) refl (subst (λ x. Passes r x s) (sym at) (w s none.0 f)) in
          λ c why is. or_right (refuses r s why) (list_any (λ s. refuses r s why) ss) (rest same c why is)
    ]
