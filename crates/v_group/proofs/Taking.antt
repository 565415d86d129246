-- Where a process made the call that it is in, and where it took what it received.
use Rattle.std.proofs.Common.{◌≡◌, ℕ, zero, suc, ◌<◌, ◌≤◌, true, false, List, ◌++◌, length, Option, Some, None, option_to_list, refl, sym, ap, subst, ◌∙◌, inl, inr, arith}
use Rattle.std.specs.Prelude.{find}
use Rattle.std.proofs.lemmas.Bool.{both_ways, cases_lt}
use Rattle.std.proofs.lemmas.List.{append-nil}
use Rattle.std.proofs.lemmas.Option.{same_Some, none-some}
use Rattle.vk_types.specs.Types.{Answer, Call, Pid, Process, ProcessSpec, State, Step}
use Rattle.vk_base.specs.declared.call.Call.TheVariants as calls
use Rattle.vk_base.specs.declared.kernel.State.TheVariants as states
use Rattle.vk_base.specs.declared.step.Step.TheVariants as steps
use Rattle.vk_base.specs.Kernel.{Kernel}
use Rattle.vk_base.specs.Settings.{is_process}
use Rattle.vk_base.specs.Steps.{effect}
use Rattle.vk_base.proofs.PidLemmas.{same_pid_self}
use Rattle.v_laws.specs.Places.{before, process_at}
use Rattle.v_laws.proofs.PlaceLemmas.{before_first}
use Rattle.v_laws.proofs.SoundLemmas.{initial_ready}
use Rattle.v_pages.specs.Followed.{FollowsTask, answers_before, calls_before}
use Rattle.v_pages.proofs.Calling.{outcome_of, told}
use Rattle.v_pages.proofs.Own.{OwnStep, other_told, own_step, which_step}
use Rattle.v_pages.proofs.Touched.{Touched, is_waiting, touched}
use Rattle.v_pages.proofs.Turns.{finishing_waits}
use Rattle.v_group.proofs.Stepping.{CallEnd, IsPlainTask, call_ends, collect_call, finish_call, goes_call, in_call, other_keeps, own_call, own_collect, own_not, own_take, ready_when, take_call}
use Rattle.v_group.proofs.Timeline.{Earlier, IsStepOf, answers_on, earlier, may_call, no_answer, process_there, sound_of, turn_at}

-- What comes of its own call, at a place.
call_here : (task : List Answer → Option Call) (specs : List ProcessSpec) (ss : List Step) (r : Pid) → IsPlainTask task →
    FollowsTask task specs ss r → (i : ℕ) (p y : Process) (s : IsStepOf specs ss r i p y) (c : Call) → s.step ≡ steps.Call r c →
    (p.state ≡ states.Ready) × CallEnd r p c s.did y
call_here task specs ss r plain follows i p y s c step =
    let may = may_call task specs ss r i p y follows s c (own_call r s.step c step) in (
      ready_when task (answers_before specs ss r i) (length (calls_before ss r i)) p.state
          (turn_at task specs ss r plain follows i s.kernel p s.at s.there) may.0,
      call_ends s.kernel r p c s.did y s.there s.left (plain (answers_before specs ss r i) c may.1)
          (outcome_of s.kernel r p c s.did s.there (ap (effect s.kernel) (sym step) ∙ s.does)),
    )

told_nothing : (specs : List ProcessSpec) (ss : List Step) (r : Pid) (i : ℕ) (p y : Process) (s : IsStepOf specs ss r i p y) →
    told r s.did ≡ None → answers_before specs ss r (suc i) ≡ answers_before specs ss r i
told_nothing specs ss r i p y s none =
    answers_on specs ss r i p y s ∙ ap (λ o. answers_before specs ss r i ++ option_to_list o) none
    ∙ append-nil (answers_before specs ss r i)

-- Where the call was made.
pub record IsCalledSince (specs : List ProcessSpec) (ss : List Step) (r : Pid) (i : ℕ) (p : Process) (c : Call) : Type 0 where
  pub place : ℕ
  pub earlier : place < i
  pub was : Process
  pub now : Process
  pub step : IsStepOf specs ss r place was now
  pub is : step.step ≡ steps.Call r c
  pub ready : was.state ≡ states.Ready
  pub blocked : now.state ≡ states.Blocked c
  pub front : answers_before specs ss r place ≡ answers_before specs ss r i
  pub sends : p.sends ≡ now.sends

called_later : (specs : List ProcessSpec) (ss : List Step) (r : Pid) (i : ℕ) (x p : Process) (c : Call) → p.sends ≡ x.sends →
    answers_before specs ss r (suc i) ≡ answers_before specs ss r i → IsCalledSince specs ss r i x c → IsCalledSince specs ss r (suc i) p c
called_later specs ss r i x p c sends same s =
    let less = s.earlier in
    record {
      place = s.place;
      earlier = omega arith;
      was = s.was;
      now = s.now;
      step = s.step;
      is = s.is;
      ready = s.ready;
      blocked = s.blocked;
      front = s.front ∙ sym same;
      sends = sends ∙ s.sends;
    }

called_by : (specs : List ProcessSpec) (ss : List Step) (r : Pid) (i : ℕ) (x y : Process) (s : IsStepOf specs ss r i x y) (c d : Call) →
    s.step ≡ steps.Call r d → x.state ≡ states.Ready → in_call y.state ≡ Some c → CallEnd r x d s.did y →
    IsCalledSince specs ss r (suc i) y c
called_by specs ss r i x y s c d step ready call (CallEnd.waits none blocked slow) =
    let same : d ≡ c = same_Some d c (ap in_call (sym blocked) ∙ call) in
    record {
      place = i;
      earlier = omega arith;
      was = x;
      now = y;
      step = s;
      is = step ∙ ap (λ z. steps.Call r z) same;
      ready = ready;
      blocked = blocked ∙ ap (λ z. states.Blocked z) same;
      front = sym (told_nothing specs ss r i x y s none);
      sends = refl;
    }
called_by specs ss r i x y s c d step ready call (CallEnd.at_once a some quick same) =
    absurd (none-some c (ap in_call (sym ready ∙ sym same) ∙ call))

abbrev CalledAt : List ProcessSpec → List Step → Pid → Call → ℕ → Type 0
CalledAt specs ss r c i = (k : Kernel) (p : Process) → before specs ss i ≡ Some k → k.procs r ≡ Some p → in_call p.state ≡ Some c →
    IsCalledSince specs ss r i p c

called_step : (task : List Answer → Option Call) (specs : List ProcessSpec) (ss : List Step) (r : Pid) → IsPlainTask task →
    FollowsTask task specs ss r → (i : ℕ) (x y : Process) (s : IsStepOf specs ss r i x y) (c : Call) → OwnStep r s.step →
    in_call y.state ≡ Some c → CalledAt specs ss r c i → IsCalledSince specs ss r (suc i) y c
called_step task specs ss r plain follows i x y s c (OwnStep.makes d step) call so_far =
    let h = call_here task specs ss r plain follows i x y s d step in called_by specs ss r i x y s c d step h.0 call h.1
called_step task specs ss r plain follows i x y s c (OwnStep.takes step) call so_far =
    let t = own_take s.kernel r s.did x y s.there s.left (ap (effect s.kernel) (sym step) ∙ s.does) in
    called_later specs ss r i x y c (ap (λ (z : Process). z.sends) (sym t.after)) (told_nothing specs ss r i x y s t.unseen)
    (so_far s.kernel x s.at s.there (t.call ∙ sym (take_call s.kernel r s.did x y t) ∙ call))
called_step task specs ss r plain follows i x y s c (OwnStep.collects step) call so_far =
    let d = own_collect s.kernel r s.did x y s.there s.left (ap (effect s.kernel) (sym step) ∙ s.does) in
    absurd (none-some c (sym (collect_call r s.did x y d) ∙ call))
called_step task specs ss r plain follows i x y s c (OwnStep.others other) call so_far =
    let sound = sound_of specs ss r i x y s in
    let keeps = other_keeps s.kernel r s.step s.did x y other s.there s.left s.does
    (touched s.kernel s.step s.did sound s.does r x y s.there s.left) in
    called_later specs ss r i x y c keeps.1 (told_nothing specs ss r i x y s (other_told r s.kernel s.step s.did other s.does))
    (so_far s.kernel x s.at s.there (sym keeps.0 ∙ call))

called_over : (task : List Answer → Option Call) (specs : List ProcessSpec) (ss : List Step) (r : Pid) → IsPlainTask task →
    FollowsTask task specs ss r → (i : ℕ) (y : Process) (c : Call) → Earlier specs ss r i y → in_call y.state ≡ Some c →
    CalledAt specs ss r c i → IsCalledSince specs ss r (suc i) y c
called_over task specs ss r plain follows i y c (Earlier.stepped x s) call so_far =
    called_step task specs ss r plain follows i x y s c (which_step r s.step) call so_far
called_over task specs ss r plain follows i y c (Earlier.idle k at there none) call so_far =
    called_later specs ss r i y y c refl (no_answer specs ss r i k at none) (so_far k y at there call)

not_at_first : (specs : List ProcessSpec) (ss : List Step) (r : Pid) (k : Kernel) (p : Process) → before specs ss 0 ≡ Some k →
    k.procs r ≡ Some p → p.state ≡ states.Ready
not_at_first specs ss r k p at there =
    initial_ready (find (is_process r) specs) p (ap (λ (z : Kernel). z.procs r) (before_first specs ss k at) ∙ there)

pub called_since : (task : List Answer → Option Call) (specs : List ProcessSpec) (ss : List Step) (r : Pid) → IsPlainTask task →
    FollowsTask task specs ss r → (c : Call) (i : ℕ) → CalledAt specs ss r c i
called_since task specs ss r plain follows c zero k p at there call =
    absurd (none-some c (ap in_call (sym (not_at_first specs ss r k p at there)) ∙ call))
called_since task specs ss r plain follows c (suc i) k p at there call =
    called_over task specs ss r plain follows i p c (earlier specs ss r i k p at there) call
    (called_since task specs ss r plain follows c i)

-- Where it took what it received: it is since as it was left there.
abbrev pub done_in : State → Option Call
done_in (states.Done c a) = Some c
done_in t = None

pub record IsTakenSince (specs : List ProcessSpec) (ss : List Step) (r : Pid) (i : ℕ) (p : Process) : Type 0 where
  pub place : ℕ
  pub earlier : place < i
  pub was : Process
  pub step : IsStepOf specs ss r place was p
  pub is : step.step ≡ steps.Take r
  pub still : (z : ℕ) → place < z → z ≤ i → process_at specs ss z r ≡ Some p
  pub front : answers_before specs ss r place ≡ answers_before specs ss r i

done_call : (t : State) (c : Call) → done_in t ≡ Some c → in_call t ≡ Some c
done_call states.Ready c e = absurd (none-some c e)
done_call (states.Blocked d) c e = absurd (none-some c e)
done_call (states.Done d a) c e = e

receive_not_waiting : (t : State) (start count : ℕ) → is_waiting t ≡ true → in_call t ≡ Some (calls.ReceiveSegment start count) → ⊥
receive_not_waiting states.Ready start count w e = both_ways false refl w
receive_not_waiting (states.Blocked c) start count w e =
    both_ways (is_waiting (states.Blocked c))
    (ap (λ x. is_waiting (states.Blocked x)) (same_Some c (calls.ReceiveSegment start count) e)) w
receive_not_waiting (states.Done c a) start count w e = both_ways false refl w

taken_later : (specs : List ProcessSpec) (ss : List Step) (r : Pid) (i : ℕ) (x p : Process) → x ≡ p →
    process_at specs ss (suc i) r ≡ Some p → answers_before specs ss r (suc i) ≡ answers_before specs ss r i →
    IsTakenSince specs ss r i x → IsTakenSince specs ss r (suc i) p
taken_later specs ss r i x p same now quiet s = subst (IsTakenSince specs ss r (suc i)) same (longer (now ∙ ap (λ q. Some q) (sym same)))
  where
    up_to_here : process_at specs ss (suc i) r ≡ Some x → (z : ℕ) → s.place < z → z ≤ suc i → process_at specs ss z r ≡ Some x
    up_to_here last z more less = elim (cases_lt z (suc i)) [
      | inl below ↦ s.still z more (omega arith)
      | inr there ↦ let one : z ≡ suc i = omega arith in ap (λ n. process_at specs ss n r) one ∙ last
    ]

    longer : process_at specs ss (suc i) r ≡ Some x → IsTakenSince specs ss r (suc i) x
    longer last =
        let less = s.earlier in
        record {
          place = s.place;
          earlier = omega arith;
          was = s.was;
          step = s.step;
          is = s.is;
          still = up_to_here last;
          front = s.front ∙ sym quiet;
        }

abbrev TakenAt : List ProcessSpec → List Step → Pid → ℕ → Type 0
TakenAt specs ss r i = (k : Kernel) (p : Process) (start count : ℕ) → before specs ss i ≡ Some k → k.procs r ≡ Some p →
    done_in p.state ≡ Some (calls.ReceiveSegment start count) → IsTakenSince specs ss r i p

not_by_call : (specs : List ProcessSpec) (ss : List Step) (r : Pid) (i : ℕ) (x y : Process) (s : IsStepOf specs ss r i x y) (c d : Call) →
    x.state ≡ states.Ready → done_in y.state ≡ Some c → CallEnd r x d s.did y → ⊥
not_by_call specs ss r i x y s c d ready done (CallEnd.waits none blocked slow) = none-some c (ap done_in (sym blocked) ∙ done)
not_by_call specs ss r i x y s c d ready done (CallEnd.at_once a some quick same) =
    none-some c (ap done_in (sym ready ∙ sym same) ∙ done)

taken_other : (specs : List ProcessSpec) (ss : List Step) (r : Pid) (i : ℕ) (x y : Process) (s : IsStepOf specs ss r i x y)
    (start count : ℕ) → own_step r s.step ≡ false → done_in y.state ≡ Some (calls.ReceiveSegment start count) →
    process_at specs ss (suc i) r ≡ Some y → TakenAt specs ss r i → Touched s.kernel s.step r x y → IsTakenSince specs ss r (suc i) y
taken_other specs ss r i x y s start count other done now so_far (Touched.rests same) =
    taken_later specs ss r i x y (sym same) now
    (told_nothing specs ss r i x y s (other_told r s.kernel s.step s.did other s.does))
    (so_far s.kernel x start count s.at s.there (ap (λ (z : Process). done_in z.state) (sym same) ∙ done))
taken_other specs ss r i x y s start count other done now so_far (Touched.makes c step idle none) =
    absurd (own_not r s.step (steps.Call r c) step other (same_pid_self r))
taken_other specs ss r i x y s start count other done now so_far (Touched.takes step idle none) =
    absurd (own_not r s.step (steps.Take r) step other (same_pid_self r))
taken_other specs ss r i x y s start count other done now so_far (Touched.collects step idle none) =
    absurd (own_not r s.step (steps.Collect r) step other (same_pid_self r))
taken_other specs ss r i x y s start count other done now so_far (Touched.finishes step over) =
    let does = ap (effect s.kernel) (sym step) ∙ s.does in
    absurd (receive_not_waiting x.state start count (finishing_waits s.kernel r s.did x s.there does)
    (sym (finish_call s.kernel r s.did x y s.there s.left does).0 ∙ done_call y.state (calls.ReceiveSegment start count) done))
taken_other specs ss r i x y s start count other done now so_far (Touched.waits w none kept on stays) =
    absurd (receive_not_waiting x.state start count w
    (sym (goes_call x y on).0 ∙ done_call y.state (calls.ReceiveSegment start count) done))

taken_step : (task : List Answer → Option Call) (specs : List ProcessSpec) (ss : List Step) (r : Pid) → IsPlainTask task →
    FollowsTask task specs ss r → (i : ℕ) (x y : Process) (s : IsStepOf specs ss r i x y) (start count : ℕ) → OwnStep r s.step →
    done_in y.state ≡ Some (calls.ReceiveSegment start count) → process_at specs ss (suc i) r ≡ Some y → TakenAt specs ss r i →
    IsTakenSince specs ss r (suc i) y
taken_step task specs ss r plain follows i x y s start count (OwnStep.makes d step) done now so_far =
    let h = call_here task specs ss r plain follows i x y s d step in
    absurd (not_by_call specs ss r i x y s (calls.ReceiveSegment start count) d h.0 done h.1)
taken_step task specs ss r plain follows i x y s start count (OwnStep.takes step) done now so_far = record {
  place = i;
  earlier = omega arith;
  was = x;
  step = s;
  is = step;
  still = λ z more less. let same : z ≡ suc i = omega arith in ap (λ n. process_at specs ss n r) same ∙ now;
  front = sym (told_nothing specs ss r i x y s
      (own_take s.kernel r s.did x y s.there s.left (ap (effect s.kernel) (sym step) ∙ s.does)).unseen);
}
taken_step task specs ss r plain follows i x y s start count (OwnStep.collects step) done now so_far =
    let d = own_collect s.kernel r s.did x y s.there s.left (ap (effect s.kernel) (sym step) ∙ s.does) in
    absurd (none-some (calls.ReceiveSegment start count) (ap (λ (z : Process). done_in z.state) d.after ∙ done))
taken_step task specs ss r plain follows i x y s start count (OwnStep.others other) done now so_far =
    let sound = sound_of specs ss r i x y s in
    taken_other specs ss r i x y s start count other done now so_far
    (touched s.kernel s.step s.did sound s.does r x y s.there s.left)

taken_over : (task : List Answer → Option Call) (specs : List ProcessSpec) (ss : List Step) (r : Pid) → IsPlainTask task →
    FollowsTask task specs ss r → (i : ℕ) (y : Process) (start count : ℕ) → Earlier specs ss r i y →
    done_in y.state ≡ Some (calls.ReceiveSegment start count) → process_at specs ss (suc i) r ≡ Some y → TakenAt specs ss r i →
    IsTakenSince specs ss r (suc i) y
taken_over task specs ss r plain follows i y start count (Earlier.stepped x s) done now so_far =
    taken_step task specs ss r plain follows i x y s start count (which_step r s.step) done now so_far
taken_over task specs ss r plain follows i y start count (Earlier.idle k at there none) done now so_far =
    taken_later specs ss r i y y refl now (no_answer specs ss r i k at none) (so_far k y start count at there done)

pub taken_since : (task : List Answer → Option Call) (specs : List ProcessSpec) (ss : List Step) (r : Pid) → IsPlainTask task →
    FollowsTask task specs ss r → (i : ℕ) → TakenAt specs ss r i
taken_since task specs ss r plain follows zero k p start count at there done =
    absurd (none-some (calls.ReceiveSegment start count)
    (ap (λ (z : State). done_in z) (sym (not_at_first specs ss r k p at there)) ∙ done))
taken_since task specs ss r plain follows (suc i) k p start count at there done =
    taken_over task specs ss r plain follows i p start count (earlier specs ss r i k p at there) done
    (process_there specs ss r (suc i) k p at there) (taken_since task specs ss r plain follows i)
