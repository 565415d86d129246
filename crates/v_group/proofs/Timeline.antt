-- A process that follows a task of plain calls, at each place of a run: where it got its last answer, and that it was left alone since.
use Rattle.std.proofs.Common.{◌≡◌, ℕ, zero, suc, ◌+◌, ◌<◌, ◌≤◌, true, false, List, [], ◌∷◌, ◌++◌, length, slice_get, Option, Some, None, option_to_list, refl, sym, ap, subst, ◌∙◌, inl, inr, arith}
use Rattle.std.specs.Prelude.{find}
use Rattle.std.proofs.lemmas.Bool.{both_ways, cases_lt}
use Rattle.std.proofs.lemmas.List.{append-nil, length-append}
use Rattle.std.proofs.lemmas.Option.{same_Some, none-some}
use Rattle.vk_types.specs.Types.{Answer, Call, Pid, Process, ProcessSpec, Step}
use Rattle.vk_base.specs.declared.kernel.State.TheVariants as states
use Rattle.vk_base.specs.declared.step.Step.TheVariants as steps
use Rattle.vk_base.specs.Calls.{Effect}
use Rattle.vk_base.specs.Kernel.{◌>>=◌, Kernel}
use Rattle.vk_base.specs.Settings.{is_process}
use Rattle.vk_base.specs.Steps.{effect}
use Rattle.v_laws.specs.Places.{before, process_at}
use Rattle.v_laws.specs.Sound.{IsSound}
use Rattle.v_laws.proofs.PlaceLemmas.{ComesOfStep, before_first, before_next, before_sound}
use Rattle.v_laws.proofs.SoundLemmas.{initial_ready}
use Rattle.v_pages.specs.Followed.{FollowsTask, answer_at, answer_in, answers_before, call_at, call_by, calls_before, up_to}
use Rattle.v_pages.proofs.Calling.{outcome_of, told}
use Rattle.v_pages.proofs.Collected.{was_there}
use Rattle.v_pages.proofs.Lists.{end_same, front_same, not_empty, up_to_none}
use Rattle.v_pages.proofs.Own.{OwnStep, other_told, which_step}
use Rattle.v_pages.proofs.Places.{answer_here}
use Rattle.v_group.proofs.Stepping.{CallEnd, IsBusy, IsPlainTask, MayCall, Turn, TurnIn, call_ends, in_call, is_quick, is_slow, own_call, own_collect, own_take, quiet, ready_when, turn_next}

-- A step at a place, and what it leaves of a process.
pub record IsStepOf (specs : List ProcessSpec) (ss : List Step) (r : Pid) (i : ℕ) (p y : Process) : Type 0 where
  pub kernel : Kernel
  pub at : before specs ss i ≡ Some kernel
  pub step : Step
  pub is : slice_get ss i ≡ Some step
  pub did : Effect
  pub does : effect kernel step ≡ Some did
  pub there : kernel.procs r ≡ Some p
  pub left : did.after.procs r ≡ Some y

pub sound_of : (specs : List ProcessSpec) (ss : List Step) (r : Pid) (i : ℕ) (p y : Process) (s : IsStepOf specs ss r i p y) →
    IsSound s.kernel
sound_of specs ss r i p y s = before_sound specs ss i s.kernel s.at

pub answers_on : (specs : List ProcessSpec) (ss : List Step) (r : Pid) (i : ℕ) (p y : Process) (s : IsStepOf specs ss r i p y) →
    answers_before specs ss r (suc i) ≡ answers_before specs ss r i ++ option_to_list (told r s.did)
unfolding up_to
answers_on specs ss r i p y s =
    ap (λ o. up_to (answer_at specs ss r) i ++ option_to_list o) (answer_here specs ss r i s.kernel s.step s.did s.at s.is s.does)

calls_on : (specs : List ProcessSpec) (ss : List Step) (r : Pid) (i : ℕ) (p y : Process) (s : IsStepOf specs ss r i p y) →
    length (calls_before ss r (suc i)) ≡ length (calls_before ss r i) + length (option_to_list (call_by r s.step))
unfolding up_to
calls_on specs ss r i p y s =
    length-append (calls_before ss r i) (option_to_list (call_at ss r i))
    ∙ ap (λ o. length (calls_before ss r i) + length (option_to_list (o >>= call_by r))) s.is

pub may_call : (task : List Answer → Option Call) (specs : List ProcessSpec) (ss : List Step) (r : Pid) (i : ℕ) (p y : Process) →
    FollowsTask task specs ss r → (s : IsStepOf specs ss r i p y) →
    MayCall task (answers_before specs ss r i) (length (calls_before ss r i)) (call_by r s.step)
may_call task specs ss r i p y follows s c makes =
    let n = follows i c (ap (λ o. o >>= call_by r) s.is ∙ makes) in (n.answered, n.told)

-- What was before a place where there is a step, or none.
pub data Earlier (specs : List ProcessSpec) (ss : List Step) (r : Pid) (i : ℕ) (y : Process) : Type 0 where
  stepped : (p : Process) → IsStepOf specs ss r i p y → Earlier specs ss r i y
  idle : (k : Kernel) → before specs ss i ≡ Some k → k.procs r ≡ Some y → slice_get ss i ≡ None → Earlier specs ss r i y

earlier_by : (specs : List ProcessSpec) (ss : List Step) (r : Pid) (i : ℕ) (l : Kernel) (y : Process) → ComesOfStep specs ss i l →
    l.procs r ≡ Some y → Earlier specs ss r i y
earlier_by specs ss r i l y n there = elim n.how [
  | inl h ↦
      let later : h.1.after.procs r ≡ Some y = ap (λ (z : Kernel). z.procs r) h.4 ∙ there in
      let x = was_there n.kernel h.0 h.1 r y (before_sound specs ss i n.kernel n.at) h.3 later in
      Earlier.stepped x.0
      (record { kernel = n.kernel; at = n.at; step = h.0; is = h.2; did = h.1; does = h.3; there = x.1; left = later })
  | inr h ↦ Earlier.idle n.kernel n.at (ap (λ (z : Kernel). z.procs r) h.1 ∙ there) h.0
]

pub earlier : (specs : List ProcessSpec) (ss : List Step) (r : Pid) (i : ℕ) (l : Kernel) (y : Process) → before specs ss (suc i) ≡ Some l →
    l.procs r ≡ Some y → Earlier specs ss r i y
earlier specs ss r i l y at there = earlier_by specs ss r i l y (before_next specs ss i l at) there

pub no_answer : (specs : List ProcessSpec) (ss : List Step) (r : Pid) (i : ℕ) (k : Kernel) → before specs ss i ≡ Some k →
    slice_get ss i ≡ None → answers_before specs ss r (suc i) ≡ answers_before specs ss r i
no_answer specs ss r i k at none =
    up_to_none (answer_at specs ss r) i
    (ap (λ o. ((o >>= λ k. slice_get ss i >>= λ s. effect k s) >>= λ (e : Effect). e.seen) >>= answer_in r) at
    ∙ ap (λ o. ((o >>= λ s. effect k s) >>= λ (e : Effect). e.seen) >>= answer_in r) none)

no_call_there : (ss : List Step) (r : Pid) (i : ℕ) → slice_get ss i ≡ None → calls_before ss r (suc i) ≡ calls_before ss r i
no_call_there ss r i none = up_to_none (call_at ss r) i (ap (λ o. o >>= call_by r) none)

-- How it stands at a place.
abbrev pub TurnAt : (List Answer → Option Call) → List ProcessSpec → List Step → Pid → ℕ → Process → Type 0
TurnAt task specs ss r i p = Turn task (answers_before specs ss r i) (length (calls_before ss r i)) p.state

turn_over : (task : List Answer → Option Call) (specs : List ProcessSpec) (ss : List Step) (r : Pid) → IsPlainTask task →
    FollowsTask task specs ss r → (i : ℕ) (y : Process) → Earlier specs ss r i y →
    ((k : Kernel) (p : Process) → before specs ss i ≡ Some k → k.procs r ≡ Some p → TurnAt task specs ss r i p) →
    TurnAt task specs ss r (suc i) y
turn_over task specs ss r plain follows i y (Earlier.stepped p s) so_far =
    let given = answers_before specs ss r i in
    let made = length (calls_before ss r i) in
    subst (λ n. Turn task (answers_before specs ss r (suc i)) n y.state) (sym (calls_on specs ss r i p y s))
    (subst (λ g. Turn task g (made + length (option_to_list (call_by r s.step))) y.state) (sym (answers_on specs ss r i p y s))
    (turn_next task given made s.kernel r s.step s.did p y plain (sound_of specs ss r i p y s) (so_far s.kernel p s.at s.there) s.there
    s.left s.does (may_call task specs ss r i p y follows s)))
turn_over task specs ss r plain follows i y (Earlier.idle k at there none) so_far =
    subst (λ n. Turn task (answers_before specs ss r (suc i)) n y.state) (ap length (sym (no_call_there ss r i none)))
    (subst (λ g. Turn task g (length (calls_before ss r i)) y.state) (sym (no_answer specs ss r i k at none)) (so_far k y at there))

turn_first : (task : List Answer → Option Call) (specs : List ProcessSpec) (ss : List Step) (r : Pid) (p : Process) →
    p.state ≡ states.Ready → TurnAt task specs ss r 0 p
unfolding up_to
turn_first task specs ss r p ready = subst (TurnIn task [] 0) (sym (ap in_call ready)) refl

pub turn_at : (task : List Answer → Option Call) (specs : List ProcessSpec) (ss : List Step) (r : Pid) → IsPlainTask task →
    FollowsTask task specs ss r → (i : ℕ) (k : Kernel) (p : Process) → before specs ss i ≡ Some k → k.procs r ≡ Some p →
    TurnAt task specs ss r i p
turn_at task specs ss r plain follows zero k p at there = turn_first task specs ss r p
    (initial_ready (find (is_process r) specs) p (ap (λ (z : Kernel). z.procs r) (before_first specs ss k at) ∙ there))
turn_at task specs ss r plain follows (suc i) k p at there =
    turn_over task specs ss r plain follows i p (earlier specs ss r i k p at there)
    (λ l x at_l there_x. turn_at task specs ss r plain follows i l x at_l there_x)

-- where it calls, it is ready
pub ready_at : (task : List Answer → Option Call) (specs : List ProcessSpec) (ss : List Step) (r : Pid) → IsPlainTask task →
    FollowsTask task specs ss r → (i : ℕ) (k : Kernel) (p : Process) (c : Call) → before specs ss i ≡ Some k → k.procs r ≡ Some p →
    slice_get ss i ≡ Some (steps.Call r c) → (p.state ≡ states.Ready) × (task (answers_before specs ss r i) ≡ Some c)
ready_at task specs ss r plain follows i k p c at there is =
    let n = follows i c (ap (λ o. o >>= call_by r) is ∙ own_call r (steps.Call r c) c refl) in (
      ready_when task (answers_before specs ss r i) (length (calls_before ss r i)) p.state
          (turn_at task specs ss r plain follows i k p at there) n.answered,
      n.told,
    )

-- Where a ready process got its last answer: it is since as it was left there.
pub record IsSince (specs : List ProcessSpec) (ss : List Step) (r : Pid) (i : ℕ) (p : Process) (g : List Answer) (a : Answer) :
    Type 0 where
  pub place : ℕ
  pub earlier : place < i
  pub was : Process
  pub step : IsStepOf specs ss r place was p
  pub got : told r step.did ≡ Some a
  pub front : answers_before specs ss r place ≡ g
  pub still : (z : ℕ) → place < z → z ≤ i → process_at specs ss z r ≡ Some p

pub process_there : (specs : List ProcessSpec) (ss : List Step) (r : Pid) (i : ℕ) (k : Kernel) (p : Process) → before specs ss i ≡ Some k →
    k.procs r ≡ Some p → process_at specs ss i r ≡ Some p
process_there specs ss r i k p at there = ap (λ (o : Option Kernel). o >>= λ k. k.procs r) at ∙ there

since_here : (specs : List ProcessSpec) (ss : List Step) (r : Pid) (i : ℕ) (x p : Process) (g : List Answer) (a : Answer) →
    (s : IsStepOf specs ss r i x p) (b : Answer) → told r s.did ≡ Some b →
    answers_before specs ss r (suc i) ≡ g ++ a ∷ [] → process_at specs ss (suc i) r ≡ Some p → IsSince specs ss r (suc i) p g a
since_here specs ss r i x p g a s b some e now =
    let whole : answers_before specs ss r i ++ b ∷ [] ≡ g ++ a ∷ [] =
    sym (answers_on specs ss r i x p s ∙ ap (λ o. answers_before specs ss r i ++ option_to_list o) some) ∙ e in
    record {
      place = i;
      earlier = omega arith;
      was = x;
      step = s;
      got = some ∙ ap (λ z. Some z) (end_same (answers_before specs ss r i) g b a whole);
      front = front_same (answers_before specs ss r i) g b a whole;
      still = λ z more less. let same : z ≡ suc i = omega arith in ap (λ n. process_at specs ss n r) same ∙ now;
    }

since_later : (specs : List ProcessSpec) (ss : List Step) (r : Pid) (i : ℕ) (x p : Process) (g : List Answer) (a : Answer) → x ≡ p →
    process_at specs ss (suc i) r ≡ Some p → IsSince specs ss r i x g a → IsSince specs ss r (suc i) p g a
since_later specs ss r i x p g a same now s = subst (λ q. IsSince specs ss r (suc i) q g a) same (longer (now ∙ ap (λ q. Some q) (sym same)))
  where
    up_to_here : (process_at specs ss (suc i) r ≡ Some x) → (z : ℕ) → s.place < z → z ≤ suc i → process_at specs ss z r ≡ Some x
    up_to_here last z more less = elim (cases_lt z (suc i)) [
      | inl below ↦ s.still z more (omega arith)
      | inr there ↦ let one : z ≡ suc i = omega arith in ap (λ n. process_at specs ss n r) one ∙ last
    ]

    longer : process_at specs ss (suc i) r ≡ Some x → IsSince specs ss r (suc i) x g a
    longer last =
        let less = s.earlier in
        record {
          place = s.place;
          earlier = omega arith;
          was = s.was;
          step = s.step;
          got = s.got;
          front = s.front;
          still = up_to_here last;
        }

abbrev SinceAt : List ProcessSpec → List Step → Pid → List Answer → Answer → ℕ → Type 0
SinceAt specs ss r g a i = (k : Kernel) (p : Process) → before specs ss i ≡ Some k → k.procs r ≡ Some p → in_call p.state ≡ None →
    answers_before specs ss r i ≡ g ++ a ∷ [] → IsSince specs ss r i p g a

since_by : (task : List Answer → Option Call) (specs : List ProcessSpec) (ss : List Step) (r : Pid) → IsPlainTask task →
    FollowsTask task specs ss r → (g : List Answer) (a : Answer) (i : ℕ) (x p : Process) (s : IsStepOf specs ss r i x p) (o : Option Answer) →
    told r s.did ≡ o → process_at specs ss (suc i) r ≡ Some p → in_call p.state ≡ None →
    answers_before specs ss r (suc i) ≡ g ++ a ∷ [] → SinceAt specs ss r g a i → IsSince specs ss r (suc i) p g a
since_by task specs ss r plain follows g a i x p s (Some b) some now ready e so_far = since_here specs ss r i x p g a s b some e now
since_by task specs ss r plain follows g a i x p s None none now ready e so_far =
    let given = answers_before specs ss r i in
    let same : x ≡ p = quiet task given (length (calls_before ss r i)) s.kernel r s.step s.did x p plain (sound_of specs ss r i x p s)
    (turn_at task specs ss r plain follows i s.kernel x s.at s.there) s.there s.left s.does (may_call task specs ss r i x p follows s) ready
    none in
    since_later specs ss r i x p g a same now
    (so_far s.kernel x s.at s.there (ap (λ (z : Process). in_call z.state) same ∙ ready)
    (sym (append-nil given) ∙ sym (answers_on specs ss r i x p s ∙ ap (λ o. given ++ option_to_list o) none) ∙ e))

since_over : (task : List Answer → Option Call) (specs : List ProcessSpec) (ss : List Step) (r : Pid) → IsPlainTask task →
    FollowsTask task specs ss r → (g : List Answer) (a : Answer) (i : ℕ) (p : Process) → Earlier specs ss r i p →
    process_at specs ss (suc i) r ≡ Some p → in_call p.state ≡ None → answers_before specs ss r (suc i) ≡ g ++ a ∷ [] →
    SinceAt specs ss r g a i → IsSince specs ss r (suc i) p g a
since_over task specs ss r plain follows g a i p (Earlier.stepped x s) now ready e so_far =
    since_by task specs ss r plain follows g a i x p s (told r s.did) refl now ready e so_far
since_over task specs ss r plain follows g a i p (Earlier.idle k at there none) now ready e so_far =
    since_later specs ss r i p p g a refl now (so_far k p at there ready (sym (no_answer specs ss r i k at none) ∙ e))

pub since : (task : List Answer → Option Call) (specs : List ProcessSpec) (ss : List Step) (r : Pid) → IsPlainTask task →
    FollowsTask task specs ss r → (g : List Answer) (a : Answer) (i : ℕ) → SinceAt specs ss r g a i
unfolding up_to
since task specs ss r plain follows g a zero k p at there ready e = absurd (not_empty g a e)
since task specs ss r plain follows g a (suc i) k p at there ready e =
    since_over task specs ss r plain follows g a i p (earlier specs ss r i k p at there) (process_there specs ss r (suc i) k p at there) ready
    e (since task specs ss r plain follows g a i)

-- An answer that is not given at once was collected.
pub record IsCollectedAt (task : List Answer → Option Call) (specs : List ProcessSpec) (ss : List Step) (r : Pid) (i : ℕ) (p : Process)
    (g : List Answer) (a : Answer) (s : IsSince specs ss r i p g a) : Type 0 where
  pub is : slice_get ss s.place ≡ Some (steps.Collect r)
  pub call : Call
  pub state : s.was.state ≡ states.Done call a
  pub memory : p.memory ≡ s.was.memory
  pub sends : p.sends ≡ s.was.sends
  pub told : task g ≡ Some call
  pub slow : is_slow call ≡ true

-- what a task called for is what the process is in
pub busy_at : (task : List Answer → Option Call) (specs : List ProcessSpec) (ss : List Step) (r : Pid) → IsPlainTask task →
    FollowsTask task specs ss r → (i : ℕ) (k : Kernel) (p : Process) (c : Call) → before specs ss i ≡ Some k → k.procs r ≡ Some p →
    in_call p.state ≡ Some c → (task (answers_before specs ss r i) ≡ Some c) × (is_slow c ≡ true)
busy_at task specs ss r plain follows i k p c at there call =
    let busy : IsBusy task (answers_before specs ss r i) (length (calls_before ss r i)) c =
    subst (TurnIn task (answers_before specs ss r i) (length (calls_before ss r i))) call
    (turn_at task specs ss r plain follows i k p at there) in
    (busy.told, busy.slow)

not_both : {A : Type 0} (o : Option A) (x : A) → o ≡ None → o ≡ Some x → ⊥
not_both o x none some = none-some x (sym none ∙ some)

collected_by : (task : List Answer → Option Call) (specs : List ProcessSpec) (ss : List Step) (r : Pid) → IsPlainTask task →
    FollowsTask task specs ss r → (i : ℕ) (p : Process) (g : List Answer) (a : Answer) → is_quick a ≡ false →
    (s : IsSince specs ss r i p g a) → OwnStep r s.step.step → IsCollectedAt task specs ss r i p g a s
collected_by task specs ss r plain follows i p g a slow s (OwnStep.makes c step) =
    let may = may_call task specs ss r s.place s.was p follows s.step c (own_call r s.step.step c step) in
    absurd (quick_not (call_ends s.step.kernel r s.was c s.step.did p s.step.there s.step.left
    (plain (answers_before specs ss r s.place) c may.1)
    (outcome_of s.step.kernel r s.was c s.step.did s.step.there (ap (effect s.step.kernel) (sym step) ∙ s.step.does))))
  where
    quick_not : {c : Call} → CallEnd r s.was c s.step.did p → ⊥
    quick_not (CallEnd.waits none blocked is_slow) = not_both (told r s.step.did) a none s.got
    quick_not (CallEnd.at_once b some quick same) =
        both_ways (is_quick a) slow (ap is_quick (same_Some a b (sym s.got ∙ some)) ∙ quick)
collected_by task specs ss r plain follows i p g a slow s (OwnStep.takes step) =
    let t = own_take s.step.kernel r s.step.did s.was p s.step.there s.step.left (ap (effect s.step.kernel) (sym step) ∙ s.step.does) in
    absurd (not_both (told r s.step.did) a t.unseen s.got)
collected_by task specs ss r plain follows i p g a slow s (OwnStep.collects step) =
    let c = own_collect s.step.kernel r s.step.did s.was p s.step.there s.step.left (ap (effect s.step.kernel) (sym step) ∙ s.step.does) in
    let busy = busy_at task specs ss r plain follows s.place s.step.kernel s.was c.call s.step.at s.step.there (ap in_call c.state) in
    record {
      is = s.step.is ∙ ap (λ (z : Step). Some z) step;
      call = c.call;
      state = c.state ∙ ap (states.Done c.call) (same_Some c.answer a (sym c.told ∙ s.got));
      memory = ap (λ (z : Process). z.memory) (sym c.after);
      sends = ap (λ (z : Process). z.sends) (sym c.after);
      told = ap task (sym s.front) ∙ busy.0;
      slow = busy.1;
    }
collected_by task specs ss r plain follows i p g a slow s (OwnStep.others other) =
    absurd (not_both (told r s.step.did) a (other_told r s.step.kernel s.step.step s.step.did other s.step.does) s.got)

pub collected_at : (task : List Answer → Option Call) (specs : List ProcessSpec) (ss : List Step) (r : Pid) → IsPlainTask task →
    FollowsTask task specs ss r → (i : ℕ) (p : Process) (g : List Answer) (a : Answer) → is_quick a ≡ false →
    (s : IsSince specs ss r i p g a) → IsCollectedAt task specs ss r i p g a s
collected_at task specs ss r plain follows i p g a slow s =
    collected_by task specs ss r plain follows i p g a slow s (which_step r s.step.step)

-- The answer to a call that is answered at once is got where it is made.
pub record IsMadeAt (specs : List ProcessSpec) (ss : List Step) (r : Pid) (i : ℕ) (p : Process) (g : List Answer) (a : Answer) (c : Call)
    (s : IsSince specs ss r i p g a) : Type 0 where
  pub is : slice_get ss s.place ≡ Some (steps.Call r c)
  pub step : s.step.step ≡ steps.Call r c
  pub ready : s.was.state ≡ states.Ready

made_by : (task : List Answer → Option Call) (specs : List ProcessSpec) (ss : List Step) (r : Pid) → IsPlainTask task →
    FollowsTask task specs ss r → (i : ℕ) (p : Process) (g : List Answer) (a : Answer) (c : Call) → task g ≡ Some c → is_slow c ≡ false →
    (s : IsSince specs ss r i p g a) → OwnStep r s.step.step → IsMadeAt specs ss r i p g a c s
made_by task specs ss r plain follows i p g a c next quick s (OwnStep.makes d step) =
    let may = may_call task specs ss r s.place s.was p follows s.step d (own_call r s.step.step d step) in
    let same : d ≡ c = same_Some d c (sym may.1 ∙ ap task s.front ∙ next) in
    let this : s.step.step ≡ steps.Call r c = step ∙ ap (λ z. steps.Call r z) same in
    record {
      is = s.step.is ∙ ap (λ (z : Step). Some z) this;
      step = this;
      ready = ready_when task (answers_before specs ss r s.place) (length (calls_before ss r s.place)) s.was.state
          (turn_at task specs ss r plain follows s.place s.step.kernel s.was s.step.at s.step.there) may.0;
    }
made_by task specs ss r plain follows i p g a c next quick s (OwnStep.takes step) =
    let t = own_take s.step.kernel r s.step.did s.was p s.step.there s.step.left (ap (effect s.step.kernel) (sym step) ∙ s.step.does) in
    absurd (not_both (told r s.step.did) a t.unseen s.got)
made_by task specs ss r plain follows i p g a c next quick s (OwnStep.collects step) =
    let d = own_collect s.step.kernel r s.step.did s.was p s.step.there s.step.left (ap (effect s.step.kernel) (sym step) ∙ s.step.does) in
    let busy = busy_at task specs ss r plain follows s.place s.step.kernel s.was d.call s.step.at s.step.there (ap in_call d.state) in
    let same : d.call ≡ c = same_Some d.call c (sym busy.0 ∙ ap task s.front ∙ next) in
    absurd (both_ways (is_slow c) quick (ap is_slow (sym same) ∙ busy.1))
made_by task specs ss r plain follows i p g a c next quick s (OwnStep.others other) =
    absurd (not_both (told r s.step.did) a (other_told r s.step.kernel s.step.step s.step.did other s.step.does) s.got)

pub made_at : (task : List Answer → Option Call) (specs : List ProcessSpec) (ss : List Step) (r : Pid) → IsPlainTask task →
    FollowsTask task specs ss r → (i : ℕ) (p : Process) (g : List Answer) (a : Answer) (c : Call) → task g ≡ Some c → is_slow c ≡ false →
    (s : IsSince specs ss r i p g a) → IsMadeAt specs ss r i p g a c s
made_at task specs ss r plain follows i p g a c next quick s =
    made_by task specs ss r plain follows i p g a c next quick s (which_step r s.step.step)
