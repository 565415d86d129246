-- At a tick that gives a work up, its call is over: the works that fail before it and behind it are of other processes.
use Rattle.std.proofs.Common.{◌≡◌, ℕ, true, false, ◌&&◌, ◌||◌, not, List, [], ◌∷◌, fold, Option, Some, None, is_some, refl, sym, ap, subst, ◌∙◌, inl, inr}
use Rattle.std.proofs.lemmas.Bool.{and_from, both_ways, cases_Bool, cond-true}
use Rattle.std.proofs.lemmas.Option.{same_Some, none-some}
use Rattle.std.specs.List.{list_any, filter_map, cons_option}
use Rattle.vk_types.specs.Types.{Answer, Call, Ending, Exchange, Message, MoveName, Name, Pid, Process, Refusal, State, Step, Times}
use Rattle.vk_base.specs.declared.answer.Answer.TheVariants as answers
use Rattle.vk_base.specs.declared.answer.Ending.TheVariants as endings
use Rattle.vk_base.specs.declared.answer.Refusal.TheVariants as refusals
use Rattle.vk_base.specs.declared.call.Call.TheVariants as calls
use Rattle.vk_base.specs.declared.kernel.State.TheVariants as states
use Rattle.vk_base.specs.declared.step.Step.TheVariants as steps
use Rattle.vk_base.specs.Calls.{unseen}
use Rattle.vk_base.specs.Kernel.{◌>>=◌, Kernel, name_of, ended, blocked_in, put_process, with_state, sending, is_moving, is_asking}
use Rattle.vk_base.specs.Pids.{same_pid, same_host}
use Rattle.vk_base.specs.Steps.{after_effect, asking, ending, failing, failure, move_ending, next}
use Rattle.vk_base.proofs.OptionLemmas.{bind_is}
use Rattle.v_laws.proofs.Options.{some_there}
use Rattle.v_laws.proofs.StepLemmas.{only_if_is}
use Rattle.v_laws.proofs.Tables.{put_process_here, put_process_other, same_pid_is}
use Rattle.v_sim.proofs.Made.{asking_from, ending_from, failing_from}
use Rattle.vk_rules.specs.CallOutcomes.{failed, failing_step, work_failure}
use Rattle.vk_rules.specs.Readings.{Reading}
use Rattle.vk_rules.specs.Works.{is_due, is_unanswered}
use Rattle.v_ages.proofs.Outcomes.{failed_no_call}
use Rattle.v_ended.specs.Ends.{is_work}
use Rattle.v_ended.proofs.Spared.{doing, state_of}
use Rattle.v_due.specs.Failures.{failure_of}
use Rattle.v_due.proofs.Refused.{stays_over}
use Rattle.v_due.proofs.Told.{failed_left}

-- the step by which a work fails
the_failure : Pid → Call → Step
the_failure s (calls.Send target m) = steps.Fail s endings.TimedOut
the_failure s (calls.GetPid logical scope) = steps.Lost s
the_failure s call = steps.End s endings.TimedOut

work_fails : (s : Pid) (call : Call) → is_work s call ≡ true → work_failure s call ≡ Some (the_failure s call)
unfolding the_failure
work_fails s (calls.Send target m) work = cond-true (not (same_host s target)) (Some (steps.Fail s endings.TimedOut)) None work
work_fails s (calls.MoveTo partner dest src count) work = refl
work_fails s (calls.MoveFrom partner dest src count) work = refl
work_fails s (calls.GetPid logical scope) work = refl
work_fails s calls.Receive work = absurd (both_ways false refl work)
work_fails s (calls.ReceiveSegment start count) work = absurd (both_ways false refl work)
work_fails s (calls.Reply m to) work = absurd (both_ways false refl work)
work_fails s (calls.ReplySegment m to dest src count) work = absurd (both_ways false refl work)
work_fails s (calls.Forward m from to) work = absurd (both_ways false refl work)
work_fails s (calls.SetPid logical q scope) work = absurd (both_ways false refl work)
work_fails s (calls.Load start count) work = absurd (both_ways false refl work)
work_fails s (calls.Store start bytes) work = absurd (both_ways false refl work)
work_fails s calls.Exit work = absurd (both_ways false refl work)

-- What a process at work has in every kernel of the tick.
pub record StandsAtWork (k : Kernel) (s : Pid) (call : Call) : Type 0 where
  pub process : Process
  pub is : k.procs s ≡ Some process
  pub state : process.state ≡ states.Blocked call
  pub sent : (target : Pid) (m : Message) → call ≡ calls.Send target m →
      (e : Exchange) × (k.exchanges (name_of s process.sends) ≡ Some e) × (same_host s e.target ≡ false)
  pub named : is_moving process.state ≡ true → is_some process.moving ≡ true

abbrev IsOverBy : Kernel → Pid → Call → Step → Type 0
IsOverBy k s call st = doing (next k st) s ≡ Some (states.Done call (answers.Refused (failure_of call)))

over_put : (procs : Pid → Option Process) (s : Pid) (p : Process) (call : Call) (a : Answer) → p.state ≡ states.Blocked call →
    state_of (put_process procs s (record p { state = ended p.state a }) s) ≡ Some (states.Done call a)
over_put procs s p call a at = ap state_of (put_process_here procs s _) ∙ ap (λ x. Some (ended x a)) at

-- a Send that fails, a move that ends
pub fail_over : (k : Kernel) (s target : Pid) (m : Message) (p : Process) (e : Exchange) (why : Ending) (r : Refusal) → k.procs s ≡ Some p →
    p.state ≡ states.Blocked (calls.Send target m) → k.exchanges (name_of s p.sends) ≡ Some e → same_host s e.target ≡ false →
    failure k e why ≡ Some r → doing (next k (steps.Fail s why)) s ≡ Some (states.Done (calls.Send target m) (answers.Refused r))
fail_over k s target m p e why r is state at far fails =
    let f = failing_from k s why p (target, m) e r is (ap sending state) at far fails in
    ap (λ o. doing (after_effect k
    (o >>= λ (f : Process × Refusal). Some (unseen (with_state k s f.0 (ended f.0.state (answers.Refused f.1)))))) s) f
    ∙ over_put k.procs s p (calls.Send target m) (answers.Refused r) state

pub end_over : (k : Kernel) (s : Pid) (call : Call) (p : Process) (name : MoveName) (why : Ending) (a : Answer) → k.procs s ≡ Some p →
    p.state ≡ states.Blocked call → is_moving p.state ≡ true → p.moving ≡ Some name → move_ending k name why ≡ Some a →
    doing (next k (steps.End s why)) s ≡ Some (states.Done call a)
end_over k s call p name why a is state moves named ends =
    let f = ending_from k s why p name a is moves named ends in
    ap (λ o. doing (after_effect k (o >>= λ (e : Process × Answer). Some (unseen (with_state k s e.0 (ended e.0.state e.1))))) s) f
    ∙ over_put k.procs s p call a state

send_over : (k : Kernel) (s target : Pid) (m : Message) → StandsAtWork k s (calls.Send target m) →
    IsOverBy k s (calls.Send target m) (the_failure s (calls.Send target m))
unfolding the_failure
send_over k s target m at =
    let e = at.sent target m refl in
    fail_over k s target m at.process e.0 endings.TimedOut refusals.TimedOut at.is at.state e.1 e.2 refl

move_over : (k : Kernel) (s : Pid) (call : Call) → is_moving (states.Blocked call) ≡ true → StandsAtWork k s call →
    doing (next k (steps.End s endings.TimedOut)) s ≡ Some (states.Done call (answers.Refused refusals.TimedOut))
move_over k s call moves at =
    let moving = ap is_moving at.state ∙ moves in
    let name = some_there at.process.moving (at.named moving) in
    end_over k s call at.process name.0 endings.TimedOut (answers.Refused refusals.TimedOut) at.is at.state moving name.1 refl

lookup_over : (k : Kernel) (s : Pid) (call : Call) → is_asking (states.Blocked call) ≡ true → StandsAtWork k s call →
    doing (next k (steps.Lost s)) s ≡ Some (states.Done call (answers.Refused refusals.NotFound))
lookup_over k s call asks at =
    let f = asking_from k s at.process at.is (ap is_asking at.state ∙ asks) in
    ap (λ o. doing (after_effect k
    (o >>= λ (p : Process). Some (unseen (with_state k s p (ended p.state (answers.Refused refusals.NotFound)))))) s) f
    ∙ over_put k.procs s at.process call (answers.Refused refusals.NotFound) at.state

failure_over : (k : Kernel) (s : Pid) (call : Call) → is_work s call ≡ true → StandsAtWork k s call → IsOverBy k s call (the_failure s call)
unfolding the_failure
failure_over k s (calls.Send target m) work at = send_over k s target m at
failure_over k s (calls.MoveTo partner dest src count) work at = move_over k s (calls.MoveTo partner dest src count) refl at
failure_over k s (calls.MoveFrom partner dest src count) work at = move_over k s (calls.MoveFrom partner dest src count) refl at
failure_over k s (calls.GetPid logical scope) work at = lookup_over k s (calls.GetPid logical scope) refl at
failure_over k s calls.Receive work at = absurd (both_ways false refl work)
failure_over k s (calls.ReceiveSegment start count) work at = absurd (both_ways false refl work)
failure_over k s (calls.Reply m to) work at = absurd (both_ways false refl work)
failure_over k s (calls.ReplySegment m to dest src count) work at = absurd (both_ways false refl work)
failure_over k s (calls.Forward m from to) work at = absurd (both_ways false refl work)
failure_over k s (calls.SetPid logical q scope) work at = absurd (both_ways false refl work)
failure_over k s (calls.Load start count) work at = absurd (both_ways false refl work)
failure_over k s (calls.Store start bytes) work at = absurd (both_ways false refl work)
failure_over k s calls.Exit work at = absurd (both_ways false refl work)

-- Another process's failure.
pub record IsSpared (k l : Kernel) (s : Pid) : Type 0 where
  pub procs : l.procs s ≡ k.procs s
  pub exchanges : l.exchanges ≡ k.exchanges

fail_spares : (k : Kernel) (s q : Pid) (why : Ending) (o : Option (Process × Refusal)) → same_pid s q ≡ false →
    IsSpared k (after_effect k (o >>= λ f. Some (unseen (with_state k q f.0 (ended f.0.state (answers.Refused f.1)))))) s
fail_spares k s q why None other = record { procs = refl; exchanges = refl }
fail_spares k s q why (Some f) other = record { procs = put_process_other k.procs q _ s other; exchanges = refl }

end_spares : (k : Kernel) (s q : Pid) (o : Option (Process × Answer)) → same_pid s q ≡ false →
    IsSpared k (after_effect k (o >>= λ e. Some (unseen (with_state k q e.0 (ended e.0.state e.1))))) s
end_spares k s q None other = record { procs = refl; exchanges = refl }
end_spares k s q (Some f) other = record { procs = put_process_other k.procs q _ s other; exchanges = refl }

lost_spares : (k : Kernel) (s q : Pid) (o : Option Process) → same_pid s q ≡ false →
    IsSpared k (after_effect k (o >>= λ p. Some (unseen (with_state k q p (ended p.state (answers.Refused refusals.NotFound)))))) s
lost_spares k s q None other = record { procs = refl; exchanges = refl }
lost_spares k s q (Some f) other = record { procs = put_process_other k.procs q _ s other; exchanges = refl }

failure_spares : (k : Kernel) (s q : Pid) (call : Call) (st : Step) → same_pid s q ≡ false → work_failure q call ≡ Some st →
    IsSpared k (next k st) s
failure_spares k s q (calls.Send target m) st other e =
    let o = only_if_is (not (same_host q target)) (Some (steps.Fail q endings.TimedOut)) st e in
    subst (λ x. IsSpared k (next k x) s) (same_Some _ st o.1) (fail_spares k s q endings.TimedOut (failing k q endings.TimedOut) other)
failure_spares k s q (calls.MoveTo partner dest src count) st other e =
    subst (λ x. IsSpared k (next k x) s) (same_Some _ st e) (end_spares k s q (ending k q endings.TimedOut) other)
failure_spares k s q (calls.MoveFrom partner dest src count) st other e =
    subst (λ x. IsSpared k (next k x) s) (same_Some _ st e) (end_spares k s q (ending k q endings.TimedOut) other)
failure_spares k s q (calls.GetPid logical scope) st other e =
    subst (λ x. IsSpared k (next k x) s) (same_Some _ st e) (lost_spares k s q (asking k q) other)
failure_spares k s q call st other e = absurd (none-some st e)

failed_spares : (t : Times) (now : ℕ) (rd : Reading) (k : Kernel) (s q : Pid) (st : Step) → same_pid s q ≡ false →
    failed t now rd q ≡ Some st → IsSpared k (next k st) s
failed_spares t now rd k s q st other e =
    let o = only_if_is (is_due t now (rd.work q) && is_unanswered t (rd.work q)) (failing_step rd.view q) st e in
    let p = bind_is (rd.view.procs q) _ st o.1 in
    let call = bind_is (blocked_in p.0.state) (work_failure q) st p.2 in
    failure_spares k s q call.0 st other call.2

stands_on : (k l : Kernel) (s : Pid) (call : Call) → IsSpared k l s → StandsAtWork k s call → StandsAtWork l s call
stands_on k l s call spared at = record {
  process = at.process;
  is = spared.procs ∙ at.is;
  state = at.state;
  sent = λ target m same. let e = at.sent target m same in
      (e.0, ap (λ (xs : Name → Option Exchange). xs (name_of s at.process.sends)) spared.exchanges ∙ e.1, e.2);
  named = at.named;
}

-- The failure of the process itself.
own_failure : (t : Times) (now : ℕ) (rd : Reading) (s : Pid) (call : Call) → is_work s call ≡ true →
    doing rd.view s ≡ Some (states.Blocked call) →
    is_due t now (rd.work s) ≡ true → is_unanswered t (rd.work s) ≡ true → failed t now rd s ≡ Some (the_failure s call)
own_failure t now rd s call work at due late =
    cond-true (is_due t now (rd.work s) && is_unanswered t (rd.work s)) (failing_step rd.view s) None
    (and_from (is_due t now (rd.work s)) (is_unanswered t (rd.work s)) due late)
    ∙ step_of (rd.view.procs s) at
  where
    step_of : (o : Option Process) → state_of o ≡ Some (states.Blocked call) →
        (o >>= λ p. blocked_in p.state >>= work_failure s) ≡ Some (the_failure s call)
    step_of None at = absurd (none-some _ at)
    step_of (Some p) at = ap (λ x. blocked_in x >>= work_failure s) (same_Some p.state (states.Blocked call) at) ∙ work_fails s call work

abbrev pub AllFailed : Times → ℕ → Reading → List Pid → List Step
AllFailed t now rd pids = filter_map (failed t now rd) pids

pub first_other : (t : Times) (now : ℕ) (rd : Reading) (k : Kernel) (s q : Pid) (qs : List Pid) (a : Option State) (o : Option Step) →
    same_pid s q ≡ false →
    failed t now rd q ≡ o → ((l : Kernel) → IsSpared k l s → doing (fold next l (AllFailed t now rd qs)) s ≡ a) →
    doing (fold next k (cons_option o (AllFailed t now rd qs))) s ≡ a
first_other t now rd k s q qs a None other e rest = rest k (record { procs = refl; exchanges = refl })
first_other t now rd k s q qs a (Some st) other e rest = rest (next k st) (failed_spares t now rd k s q st other e)

pub all_failed : (t : Times) (now : ℕ) (rd : Reading) (s : Pid) (call : Call) (pids : List Pid) (k : Kernel) → is_work s call ≡ true →
    doing rd.view s ≡ Some (states.Blocked call) → is_due t now (rd.work s) ≡ true → is_unanswered t (rd.work s) ≡ true →
    list_any (same_pid s) pids ≡ true → StandsAtWork k s call →
    doing (fold next k (AllFailed t now rd pids)) s ≡ Some (states.Done call (answers.Refused (failure_of call)))
all_failed t now rd s call [] k work at due late there stands = absurd (both_ways false refl there)
all_failed t now rd s call (q ∷ qs) k work at due late there stands = elim (cases_Bool (same_pid s q)) [
  | inl same ↦
      let a : Answer = answers.Refused (failure_of call) in
      let own = own_failure t now rd s call work at due late in
      let first = ap (failed t now rd) (sym (same_pid_is s q same)) ∙ own in
      ap (λ o. doing (fold next k (cons_option o (AllFailed t now rd qs))) s) first
      ∙ stays_over (next k (the_failure s call)) s call a (AllFailed t now rd qs) (failed_no_call t now rd qs) (failed_left t now rd qs)
      (failure_over k s call work stands)
  | inr other ↦
      let rest = ap (λ b. b || list_any (same_pid s) qs) (sym other) ∙ there in
      first_other t now rd k s q qs _ (failed t now rd q) other refl
      (λ l spared. all_failed t now rd s call qs l work at due late rest (stands_on k l s call spared stands))
]
