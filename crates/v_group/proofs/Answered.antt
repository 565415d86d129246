-- What a process is answered where its next call is answered at once: it calls there.
use Rattle.std.proofs.Common.{◌≡◌, ℕ, false, List, slice_get, Option, Some, None, sym, ap, ◌∙◌, inl, inr}
use Rattle.std.proofs.lemmas.Bool.{both_ways, cond-true}
use Rattle.std.proofs.lemmas.Option.{same_Some, none-some}
use Rattle.vk_types.specs.Types.{Answer, Call, Observation, Pid, ProcessSpec, State, Step}
use Rattle.vk_base.specs.declared.kernel.State.TheVariants as states
use Rattle.vk_base.specs.declared.step.Step.TheVariants as steps
use Rattle.vk_base.specs.Calls.{Effect, unseen}
use Rattle.vk_base.specs.Kernel.{◌>>=◌, Kernel, finished_call}
use Rattle.vk_base.specs.Pids.{same_pid}
use Rattle.vk_base.specs.Steps.{collecting, effect, taken, taking}
use Rattle.vk_base.proofs.OptionLemmas.{bind_is}
use Rattle.vk_base.proofs.PidLemmas.{same_pid_self}
use Rattle.v_laws.specs.Places.{before, effect_at, seen_at}
use Rattle.v_laws.specs.Reached.{saw}
use Rattle.v_laws.proofs.StepLemmas.{collecting_is}
use Rattle.v_pages.specs.Followed.{FollowsTask, answer_at, answer_in, answers_before}
use Rattle.v_pages.proofs.Calling.{own_told, told}
use Rattle.v_pages.proofs.Own.{OwnStep, SeenBy, call_seen, other_told, which_step}
use Rattle.v_group.proofs.Stepping.{IsPlainTask, in_call, is_slow}
use Rattle.v_group.proofs.Timeline.{busy_at}

-- what it sees of its own call is its answer
pub saw_own : (r : Pid) (c : Call) (a : Answer) → (saw r c a >>= answer_in r) ≡ Some a
saw_own r c a = cond-true (same_pid r r) (Some a) None (same_pid_self r)

pub record IsOwnAnswer (specs : List ProcessSpec) (ss : List Step) (r : Pid) (i : ℕ) (a : Answer) : Type 0 where
  pub call : Call
  pub is : slice_get ss i ≡ Some (steps.Call r call)
  pub seen : seen_at specs ss i ≡ saw r call a

finished_in : (t : State) (c : Call) (a : Answer) → finished_call t ≡ Some (c, a) → in_call t ≡ Some c
finished_in states.Ready c a e = absurd (none-some (c, a) e)
finished_in (states.Blocked d) c a e = absurd (none-some (c, a) e)
finished_in (states.Done d b) c a e = ap (λ (z : Call × Answer). Some z.0) (same_Some (d, b) (c, a) e)

own_seen : (specs : List ProcessSpec) (ss : List Step) (r : Pid) (i : ℕ) (a : Answer) (o : Observation) (e : Effect) (c : Call) →
    slice_get ss i ≡ Some (steps.Call r c) → seen_at specs ss i ≡ Some o → e.seen ≡ Some o → told r e ≡ Some a → SeenBy r c e →
    IsOwnAnswer specs ss r i a
own_seen specs ss r i a o e c is seen did got (inl none) = absurd (none-some o (sym none ∙ did))
own_seen specs ss r i a o e c is seen did got (inr some) = record {
  call = c;
  is = is;
  seen = seen ∙ sym did ∙ some.1 ∙ ap (saw r c) (same_Some some.0 a (sym (own_told r c some.0 e some.1) ∙ got));
}

pub own_answer : (task : List Answer → Option Call) (specs : List ProcessSpec) (ss : List Step) (r : Pid) → IsPlainTask task →
    FollowsTask task specs ss r → (i : ℕ) (a : Answer) (c : Call) → answer_at specs ss r i ≡ Some a →
    task (answers_before specs ss r i) ≡ Some c → is_slow c ≡ false → IsOwnAnswer specs ss r i a
own_answer task specs ss r plain follows i a c answer next quick = by_step (which_step r s.0)
  where
    seen : (o : Observation) × (seen_at specs ss i ≡ Some o) × (answer_in r o ≡ Some a)
    seen = bind_is (seen_at specs ss i) (answer_in r) a answer

    did : (e : Effect) × (effect_at specs ss i ≡ Some e) × (e.seen ≡ Some seen.0)
    did = bind_is (effect_at specs ss i) (λ (e : Effect). e.seen) seen.0 seen.1

    k : (k : Kernel) × (before specs ss i ≡ Some k) × ((slice_get ss i >>= λ s. effect k s) ≡ Some did.0)
    k = bind_is (before specs ss i) (λ k. slice_get ss i >>= λ s. effect k s) did.0 did.1

    s : (s : Step) × (slice_get ss i ≡ Some s) × (effect k.0 s ≡ Some did.0)
    s = bind_is (slice_get ss i) (λ s. effect k.0 s) did.0 k.2

    got : told r did.0 ≡ Some a
    got = ap (λ z. z >>= answer_in r) did.2 ∙ seen.2

    by_step : OwnStep r s.0 → IsOwnAnswer specs ss r i a
    by_step (OwnStep.makes d step) =
        own_seen specs ss r i a seen.0 did.0 d (s.1 ∙ ap (λ (z : Step). Some z) step) seen.1 did.2 got
        (call_seen k.0 r d did.0 (ap (effect k.0) (sym step) ∙ s.2))
    by_step (OwnStep.takes step) =
        let x = bind_is (taking k.0 r) _ did.0 (ap (effect k.0) (sym step) ∙ s.2) in
        absurd (none-some a (sym (ap (told r) (sym (same_Some (unseen (taken k.0 r x.0)) did.0 x.2))) ∙ got))
    by_step (OwnStep.collects step) =
        let x = bind_is (collecting k.0 r) _ did.0 (ap (effect k.0) (sym step) ∙ s.2) in
        let is = collecting_is k.0 r x.0 x.1 in
        let busy = busy_at task specs ss r plain follows i k.0 x.0.process x.0.call k.1 is.process
        (finished_in x.0.process.state x.0.call x.0.answer is.done) in
        absurd (both_ways (is_slow c) quick (ap is_slow (same_Some c x.0.call (sym next ∙ busy.0)) ∙ busy.1))
    by_step (OwnStep.others other) = absurd (none-some a (sym (other_told r k.0 s.0 did.0 other s.2) ∙ got))
