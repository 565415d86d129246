-- A message arrives once and is taken once, and one of a sender is open at a station.
use Rattle.std.proofs.Common.{◌≡◌, ℕ, suc, ◌<◌, ◌≤◌, Bool, true, false, is_none, List, Some, IsSome, option_map, is_some, slice_get, refl, sym, ap, subst, ◌∙◌, inl, inr, arith}
use Rattle.std.proofs.lemmas.Bool.{both_ways, cases_order, cond-true, eq-eqb, eqb-true}
use Rattle.std.proofs.lemmas.Option.{same_Some, none-some}
use Rattle.vk_types.specs.Types.{Call, Exchange, Message, Name, Pid, Process, ProcessSpec, Stage, Step}
use Rattle.vk_base.specs.declared.answer.Answer.TheVariants as answers
use Rattle.vk_base.specs.declared.call.Call.TheVariants as calls
use Rattle.vk_base.specs.declared.kernel.Stage.TheVariants as stages
use Rattle.vk_base.specs.declared.step.Step.TheVariants as steps
use Rattle.vk_base.specs.Calls.{Effect, unseen, call_refusal, called, forward}
use Rattle.vk_base.specs.Kernel.{◌>>=◌, Kernel, initial_kernel, name_of, same_name, holds_of, is_posted, is_queued, is_at_target, held}
use Rattle.vk_base.specs.Pids.{same_host}
use Rattle.vk_base.specs.Steps.{Run, Taking, effect, only_if, run, arriving, with_arrival, taking, taken}
use Rattle.vk_base.proofs.OptionLemmas.{bind_is, mapped_is}
use Rattle.v_laws.specs.Places.{IsForwardedBetween, before, brought_by, taken_by, taken_at}
use Rattle.v_laws.specs.Reached.{IsReached, saw}
use Rattle.v_laws.specs.Sound.{IsSound, is_settled}
use Rattle.v_laws.proofs.Changes.{StageOn, at_target_not_posted, at_target_not_settled}
use Rattle.v_laws.proofs.Later.{Becomes, ExchangesGoOn, rank, posted_rank, queued_rank, exchange_later, becomes_later, later_self, later_on, after_arrived}
use Rattle.v_laws.proofs.PlaceLemmas.{at_place, before_after, before_sound, step_at, onward, turn_between}
use Rattle.v_laws.proofs.Queues.{taken_was_queued}
use Rattle.v_laws.proofs.ReachedLemmas.{reached_sound}
use Rattle.v_laws.proofs.SoundLemmas.{step_is}
use Rattle.v_laws.proofs.StepLemmas.{IsFit, fit_refusal, arriving_is, taking_is}
use Rattle.v_laws.proofs.Tables.{same_name_self, put_exchange_here}

-- Exchanges go on from place to place.
pub go_on : (specs : List ProcessSpec) (ss : List Step) (i j : ℕ) (k l : Kernel) → i ≤ j → before specs ss i ≡ Some k →
    before specs ss j ≡ Some l → ExchangesGoOn k l
go_on specs ss = onward specs ss ExchangesGoOn (λ k n x at. (x, at, later_self x))
    (λ k l s e so_far sound does n x at.
    let y = so_far n x at in
    let z = exchange_later s l e.after n y.0 sound (step_is l s e sound does) y.1 in
    (z.0, z.1, later_on x y.0 z.0 y.2 (becomes_later l s n y.0 z.0 z.2)))

-- so an exchange is never less far at a later place
pub never_back : (specs : List ProcessSpec) (ss : List Step) (i j : ℕ) (k l : Kernel) (n : Name) (x y : Exchange) → i ≤ j →
    before specs ss i ≡ Some k → before specs ss j ≡ Some l → k.exchanges n ≡ Some x → l.exchanges n ≡ Some y → rank x.stage ≤ rank y.stage
never_back specs ss i j k l n x y up at_i at_j is_x is_y =
    let z = go_on specs ss i j k l up at_i at_j n x is_x in
    subst (λ (w : Exchange). rank x.stage ≤ rank w.stage) (same_Some z.0 y (sym z.1 ∙ is_y)) z.2.rank

-- Arrivals.
queued_there : (k : Kernel) (name : Name) (e : Exchange) → k.exchanges name ≡ Some e →
    (with_arrival k name e).exchanges name ≡ Some (record e { stage = stages.Queued })
queued_there k name e at = after_arrived k name e name e at
    ∙ ap (λ (x : Exchange). Some x) (cond-true (same_name name name) (record e { stage = stages.Queued }) _ (same_name_self name))

arrives_again : (specs : List ProcessSpec) (ss : List Step) (r : Run) (i j : ℕ) (sender : Pid) (number : ℕ) →
    run (initial_kernel specs) ss ≡ Some r → slice_get ss i ≡ Some (steps.Arrive sender number) →
    slice_get ss j ≡ Some (steps.Arrive sender number) → i < j → ⊥
arrives_again specs ss r i j sender number g is_i is_j less =
    let name = name_of sender number in
    let a = step_at specs ss r i (steps.Arrive sender number) g is_i in
    let b = step_at specs ss r j (steps.Arrive sender number) g is_j in
    let x = bind_is (arriving a.kernel name) _ a.did a.does in
    let y = bind_is (arriving b.kernel name) _ b.did b.does in
    let first = arriving_is a.kernel name x.0 x.1 in
    let second = arriving_is b.kernel name y.0 y.1 in
    let after = before_after specs ss i a.kernel (steps.Arrive sender number) a.did a.at is_i a.does in
    let there = ap (λ (e : Effect). e.after.exchanges name) (sym (same_Some _ a.did x.2)) ∙ queued_there a.kernel name x.0 first.is in
    let up = never_back specs ss (suc i) j a.did.after b.kernel name (record x.0 { stage = stages.Queued }) y.0 (omega arith) after b.at
    there second.is in
    let low = posted_rank y.0.stage second.posted in
    absurd (omega arith)

pub arrives_once : (specs : List ProcessSpec) (ss : List Step) (r : Run) (i j : ℕ) (sender : Pid) (number : ℕ) →
    run (initial_kernel specs) ss ≡ Some r → slice_get ss i ≡ Some (steps.Arrive sender number) →
    slice_get ss j ≡ Some (steps.Arrive sender number) → i ≡ j
arrives_once specs ss r i j sender number g is_i is_j = elim (cases_order i j) [
  | inl same ↦ same
  | inr other ↦ elim other [
    | inl less ↦ absurd (arrives_again specs ss r i j sender number g is_i is_j less)
    | inr more ↦ absurd (arrives_again specs ss r j i sender number g is_j is_i more)
  ]
]

-- Takes.
pub record IsTakenAt (specs : List ProcessSpec) (ss : List Step) (i : ℕ) (n : Name) : Type 0 where
  pub kernel : Kernel
  pub at : before specs ss i ≡ Some kernel
  pub receiver : Pid
  pub is : slice_get ss i ≡ Some (steps.Take receiver)
  pub take : Taking
  pub takes : taking kernel receiver ≡ Some take
  pub name : take.name ≡ n

taken_by_is : (k : Kernel) (s : Step) (n : Name) → taken_by k s ≡ Some n →
    (r : Pid) × (t : Taking) × (s ≡ steps.Take r) × (taking k r ≡ Some t) × (t.name ≡ n)
taken_by_is k (steps.Take r) n e = let t = mapped_is (λ (t : Taking). t.name) (taking k r) n e in (r, t.0, refl, t.1, t.2)
taken_by_is k s n e = absurd (none-some n e)

pub taken_at_is : (specs : List ProcessSpec) (ss : List Step) (i : ℕ) (n : Name) → taken_at specs ss i ≡ Some n → IsTakenAt specs ss i n
taken_at_is specs ss i n e =
    let k = bind_is (before specs ss i) _ n e in
    let s = bind_is (slice_get ss i) _ n k.2 in
    let t = taken_by_is k.0 s.0 n s.2 in
    record { kernel = k.0; at = k.1; receiver = t.0; is = s.1 ∙ ap (λ (z : Step). Some z) t.2; take = t.1; takes = t.3; name = t.4 }

-- the exchange before and after
pub record IsTakenOver (specs : List ProcessSpec) (ss : List Step) (i : ℕ) (n : Name) (t : IsTakenAt specs ss i n) : Type 0 where
  pub queued : t.kernel.exchanges n ≡ Some t.take.exchange
  pub low : rank t.take.exchange.stage ≡ 1
  pub after : Kernel
  pub at : before specs ss (suc i) ≡ Some after
  pub there : after.exchanges n ≡ Some (record t.take.exchange { stage = stages.Taken })

taken_there : (k : Kernel) (r : Pid) (t : Taking) → (taken k r t).exchanges t.name ≡ Some (record t.exchange { stage = stages.Taken })
unfolding taken
taken_there k r t = put_exchange_here k.exchanges t.name (record t.exchange { stage = stages.Taken })

pub taken_over : (specs : List ProcessSpec) (ss : List Step) (i : ℕ) (n : Name) (t : IsTakenAt specs ss i n) → IsTakenOver specs ss i n t
taken_over specs ss i n t =
    let is = taking_is t.kernel t.receiver t.take t.takes in
    let after = taken t.kernel t.receiver t.take in
    record {
      queued = ap t.kernel.exchanges (sym t.name) ∙ is.exchange;
      low = queued_rank t.take.exchange.stage (taken_was_queued t.kernel t.receiver t.take t.takes).1;
      after = after;
      at = before_after specs ss i t.kernel (steps.Take t.receiver) (unseen after) t.at t.is
          (ap (λ o. o >>= λ x. Some (unseen (taken t.kernel t.receiver x))) t.takes);
      there = ap after.exchanges (sym t.name) ∙ taken_there t.kernel t.receiver t.take;
    }

-- What makes a message queued that has come to a queue before is a Forward.
queued_by : (k : Kernel) (s : Step) (n : Name) (x y : Exchange) → is_posted x.stage ≡ false → is_queued x.stage ≡ false →
    is_queued y.stage ≡ true → StageOn k s n x y → ⊥
queued_by k s n x y away was now (StageOn.same e) = both_ways (is_queued x.stage) was (sym (ap is_queued e) ∙ now)
queued_by k s n x y away was now (StageOn.taken t is takes name queued e) = both_ways (is_queued x.stage) was queued
queued_by k s n x y away was now (StageOn.replied m is t e) = both_ways (is_queued y.stage) (ap is_queued e) now
queued_by k s n x y away was now (StageOn.replied_segment m dest src count p is at t e) =
    both_ways (is_queued y.stage) (ap is_queued e) now
queued_by k s n x y away was now (StageOn.dropped is t e) = both_ways (is_queued y.stage) (ap is_queued e) now

pub forward_brings : (k : Kernel) (s : Step) (n : Name) (x : Exchange) (p : Process) (m : Message) (to : Pid) →
    s ≡ steps.Call x.at (calls.Forward m n.sender to) → k.procs x.at ≡ Some p → IsFit k x.at p (calls.Forward m n.sender to) →
    held k x.at n.sender ≡ Some n.number → brought_by k s ≡ Some n
forward_brings k s n x p m to is at fit holds =
    ap (brought_by k) is
    ∙ ap (λ o. o >>= λ q. held k x.at n.sender >>= λ number. only_if (is_none (call_refusal k x.at q (calls.Forward m n.sender to)))
    (Some (name_of n.sender number))) at
    ∙ ap (λ o. o >>= λ number. only_if (is_none (call_refusal k x.at p (calls.Forward m n.sender to))) (Some (name_of n.sender number)))
    holds
    ∙ ap (λ o. only_if (is_none o) (Some n)) (fit_refusal k x.at p (calls.Forward m n.sender to) fit)

-- The step is a Forward of the process that holds the message, and is answered ok.
record IsHandedOn (k : Kernel) (s : Step) (e : Effect) (n : Name) : Type 0 where
  holder : Pid
  holds : held k holder n.sender ≡ Some n.number
  message : Message
  to : Pid
  is : s ≡ steps.Call holder (calls.Forward message n.sender to)
  answered : e.seen ≡ saw holder (calls.Forward message n.sender to) answers.Ok

forward_ok : (k : Kernel) (pid : Pid) (c : Call) (m : Message) (from to : Pid) (e : Effect) → forward k pid c m from to ≡ Some e →
    e.seen ≡ saw pid c answers.Ok
forward_ok k pid c m from to e g =
    let number = bind_is (held k pid from) _ e g in
    let x = bind_is (k.exchanges (name_of from number.0)) _ e number.2 in
    ap (λ (y : Effect). y.seen) (sym (same_Some _ e x.2))

forward_answers : (k : Kernel) (s : Step) (e : Effect) (pid : Pid) (p : Process) (m : Message) (from to : Pid) →
    s ≡ steps.Call pid (calls.Forward m from to) → k.procs pid ≡ Some p → IsFit k pid p (calls.Forward m from to) →
    effect k s ≡ Some e → e.seen ≡ saw pid (calls.Forward m from to) answers.Ok
forward_answers k s e pid p m from to is at fit does =
    let c : Call = calls.Forward m from to in
    forward_ok k pid c m from to e
    (ap (called k pid p c) (sym (fit_refusal k pid p c fit))
    ∙ ap (λ o. o >>= λ q. called k pid q c (call_refusal k pid q c)) (sym at) ∙ ap (effect k) (sym is) ∙ does)

became_queued : (k : Kernel) (s : Step) (e : Effect) (n : Name) (x y : Exchange) → is_posted x.stage ≡ false →
    is_queued x.stage ≡ false → is_queued y.stage ≡ true → effect k s ≡ Some e → Becomes k s n x y → IsHandedOn k s e n
became_queued k s e n x y away was now does (Becomes.goes on) = absurd (queued_by k s n x y away was now on.stage)
became_queued k s e n x y away was now does (Becomes.arrives is posted after) = absurd (both_ways (is_posted x.stage) away posted)
became_queued k s e n x y away was now does (Becomes.overtaken number is less live after) =
    absurd (both_ways (is_queued y.stage) (ap (λ (z : Exchange). is_queued z.stage) after) now)
became_queued k s e n x y away was now does (Becomes.forwards p m to is at fit f after) = record {
  holder = x.at;
  holds = f.holds;
  message = m;
  to = to;
  is = is;
  answered = forward_answers k s e x.at p m n.sender to is at fit does;
}

abbrev queued_one : Name → Kernel → Bool
queued_one n k = holds_of (λ (e : Exchange). is_queued e.stage) (k.exchanges n)

ranked_away : (s : Stage) → 1 ≤ rank s → is_posted s ≡ false
ranked_away stages.Posted up = absurd (omega arith)
ranked_away stages.Queued up = refl
ranked_away stages.Taken up = refl
ranked_away (stages.Replied m d b) up = refl
ranked_away stages.Dropped up = refl

-- between two Takes of one message who holds it hands it on
pub taken_between : (specs : List ProcessSpec) (ss : List Step) (i j : ℕ) (n : Name) → taken_at specs ss i ≡ Some n →
    taken_at specs ss j ≡ Some n → i < j → IsForwardedBetween specs ss i j n
taken_between specs ss i j n e f less =
    let a = taken_at_is specs ss i n e in
    let b = taken_at_is specs ss j n f in
    let x = taken_over specs ss i n a in
    let y = taken_over specs ss j n b in
    let taken : Exchange = record a.take.exchange { stage = stages.Taken } in
    let t = turn_between specs ss (queued_one n) (suc i) x.after x.at (ap (holds_of (λ (z : Exchange). is_queued z.stage)) x.there) j
    (omega arith) b.kernel b.at
    (ap (holds_of (λ (z : Exchange). is_queued z.stage)) y.queued ∙ (taken_was_queued b.kernel b.receiver b.take b.takes).1) in
    let low = t.behind in
    let z = go_on specs ss (suc i) t.place x.after t.kernel low x.at t.at n taken x.there in
    let up = z.2.rank in
    let sound = before_sound specs ss t.place t.kernel t.at in
    let w = exchange_later t.step t.kernel t.did.after n z.0 sound (step_is t.kernel t.step t.did sound t.does) z.1 in
    let h = became_queued t.kernel t.step t.did n z.0 w.0 (ranked_away z.0.stage up)
    (sym (ap (holds_of (λ (v : Exchange). is_queued v.stage)) z.1) ∙ t.was)
    (sym (ap (holds_of (λ (v : Exchange). is_queued v.stage)) w.1) ∙ t.now) t.does w.2 in
    record {
      place = t.place;
      behind = omega arith;
      earlier = t.earlier;
      holder = h.holder;
      holds = ap (λ o. o >>= λ k. held k h.holder n.sender) t.at ∙ h.holds;
      message = h.message;
      to = h.to;
      is = t.is ∙ ap (λ (v : Step). Some v) h.is;
      answered = ap (λ o. o >>= λ e. e.seen) (at_place effect specs ss t.place t.kernel t.step t.at t.is ∙ t.does) ∙ h.answered;
    }

-- each Take takes an exchange
pub takes_one : (specs : List ProcessSpec) (ss : List Step) (r : Run) (i : ℕ) (pid : Pid) → run (initial_kernel specs) ss ≡ Some r →
    slice_get ss i ≡ Some (steps.Take pid) → IsSome (taken_at specs ss i)
takes_one specs ss r i pid g is =
    let a = step_at specs ss r i (steps.Take pid) g is in
    let t = bind_is (taking a.kernel pid) _ a.did a.does in
    ap is_some (at_place taken_by specs ss i a.kernel (steps.Take pid) a.at is)
    ∙ ap (λ o. is_some (option_map (λ (t : Taking). t.name) o)) t.1

-- One at a station.
settled_apart : (k : Kernel) (sender : Pid) (m n : ℕ) (x y : Exchange) → IsSound k → k.exchanges (name_of sender m) ≡ Some x →
    k.exchanges (name_of sender n) ≡ Some y → is_at_target x.stage ≡ true → is_at_target y.stage ≡ true →
    same_host x.target y.target ≡ true → m < n → ⊥
settled_apart k sender m n x y sound at_x at_y live_x live_y near less = both_ways (is_settled x.stage)
    (at_target_not_settled x.stage live_x) (sound.settled sender m n x y at_x at_y less near refl (at_target_not_posted y.stage live_y))

pub one_open : (k : Kernel) (sender : Pid) (m n : ℕ) (x y : Exchange) → IsReached k → k.exchanges (name_of sender m) ≡ Some x →
    k.exchanges (name_of sender n) ≡ Some y → is_at_target x.stage ≡ true → is_at_target y.stage ≡ true →
    same_host x.target y.target ≡ true → m ≡ n
one_open k sender m n x y reached at_x at_y live_x live_y near = elim (cases_order m n) [
  | inl same ↦ same
  | inr other ↦ elim other [
    | inl less ↦ absurd (settled_apart k sender m n x y (reached_sound k reached) at_x at_y live_x live_y near less)
    | inr more ↦ absurd (settled_apart k sender n m y x (reached_sound k reached) at_y at_x live_y live_x
        (eq-eqb y.target.host x.target.host (sym (eqb-true x.target.host y.target.host near))) more)
  ]
]
