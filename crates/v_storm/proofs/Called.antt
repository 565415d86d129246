-- What a process of the station is answered at a call and at a collect, and what it does then.
use Rattle.std.proofs.Common.{◌≡◌, ℕ, ◌+◌, ◌≤◌, true, false, cond, not, List, [], ◌∷◌, fold, length, drop, Option, Some, None, is_some, refl, sym, ap, subst, ◌∙◌, arith}
use Rattle.std.proofs.lemmas.Bool.{cond-false, le-leb, le-ltb}
use Rattle.std.proofs.lemmas.List.{length-drop, length-take}
use Rattle.std.proofs.lemmas.Option.{none-some, same_Some}
use Rattle.std.specs.Prelude.{nat_lt}
use Rattle.vk_types.specs.Types.{Answer, Call, EventAnswer, Exchange, Message, Pid, Process, Refusal, State, Step}
use Rattle.vk_base.specs.declared.answer.Answer.TheVariants as answers
use Rattle.vk_base.specs.declared.answer.Refusal.TheVariants as refusals
use Rattle.vk_base.specs.declared.call.Call.TheVariants as calls
use Rattle.vk_base.specs.declared.event.EventAnswer.TheVariants as given
use Rattle.vk_base.specs.declared.kernel.Stage.TheVariants as stages
use Rattle.vk_base.specs.declared.kernel.State.TheVariants as states
use Rattle.vk_base.specs.declared.step.Step.TheVariants as steps
use Rattle.vk_base.specs.Calls.{Effect, answered, call_refusal, called, is_own, sent}
use Rattle.vk_base.specs.Kernel.{◌>>=◌, Kernel, finished_call, held, is_ready, name_of, with_stage, with_state}
use Rattle.vk_base.specs.Ranges.{bytes_in, range_of, with_bytes}
use Rattle.vk_base.specs.Steps.{Collecting, after_effect, collecting, effect, next}
use Rattle.v_laws.proofs.StepLemmas.{fit_refusal}
use Rattle.v_laws.proofs.Tables.{put_process_here}
use Rattle.v_lawful.proofs.Bytes.{bytes_in_bytes}
use Rattle.vk_rules.specs.CallOutcomes.{effect_answer}
use Rattle.vk_rules.specs.Observed.{is_not_yet}
use Rattle.vk_rules.specs.Rounds.{list_if}
use Rattle.vk_wire.specs.Fields.{IsBytes}
use Rattle.v_storm.proofs.Views.{IsFor, IsPlain, IsPlainState, IsPlainView, IsReceived, IsWaited}
use Rattle.v_storm.proofs.Doing.{Does, doing}

-- the answers that a process may be told
abbrev pub IsAnswerTo : Call → Answer → Type 0
IsAnswerTo (calls.ReceiveSegment start count) a = IsReceived a
IsAnswerTo (calls.Load start count) a = (bytes : List ℕ) × (a ≡ answers.Loaded bytes) × (length bytes ≡ count) × IsBytes bytes
IsAnswerTo c a = Unit {0}

-- the range of a receive and of a load lies in a memory of 1,024 bytes
abbrev pub LiesInMemory : Call → Type 0
LiesInMemory (calls.ReceiveSegment start count) = start + count ≤ 1024
LiesInMemory (calls.Load start count) = (start + count ≤ 1024) × (count ≤ 1024)
LiesInMemory c = Unit {0}

-- the process is there, and may call
pub record MayCall (k : Kernel) (pid : Pid) (p : Process) : Type 0 where
  pub at : k.procs pid ≡ Some p
  pub alive : p.alive ≡ true
  pub ready : p.state ≡ states.Ready
  pub size : length p.memory ≡ 1024
  pub bytes : IsBytes p.memory

pub data IsCallMade (c : Call) (pid : Pid) (a : EventAnswer) (k : Kernel) : Type 0 where
  Begins : a ≡ given.Begun → IsWaited c → Does k pid (Some c) → IsCallMade c pid a k
  Tells : (x : Answer) → a ≡ given.Answered x → IsAnswerTo c x → Does k pid None → IsCallMade c pid a k
  Tells_nothing : a ≡ given.Answered (answers.Refused refusals.NotYet) → Does k pid None → IsCallMade c pid a k

-- The process as it was.
still : (k : Kernel) (pid : Pid) (p : Process) → MayCall k pid p → Does k pid None
still k pid p may = record { process = p; at = may.at; does = ap doing may.ready }

-- Refusals.
fit_within : (k : Kernel) (pid : Pid) (p : Process) (start count : ℕ) → MayCall k pid p → start + count ≤ 1024 →
    is_own p start count ≡ true
fit_within k pid p start count may within =
    let size = may.size in le-leb (start + count) (length p.memory) (omega (arith, size, within))

receive_fits : (k : Kernel) (pid : Pid) (p : Process) (start count : ℕ) → MayCall k pid p → start + count ≤ 1024 →
    call_refusal k pid p (calls.ReceiveSegment start count) ≡ None
receive_fits k pid p start count may within =
    let own = fit_within k pid p start count may within in
    fit_refusal k pid p (calls.ReceiveSegment start count) (record {
      alive = may.alive;
      ready = ap is_ready may.ready;
      rest = cond-false (not (is_own p start count)) (Some refusals.BadRange) None (ap not own);
    })

load_fits : (k : Kernel) (pid : Pid) (p : Process) (start count : ℕ) → MayCall k pid p → start + count ≤ 1024 → count ≤ 1024 →
    call_refusal k pid p (calls.Load start count) ≡ None
load_fits k pid p start count may within few =
    let own = fit_within k pid p start count may within in
    fit_refusal k pid p (calls.Load start count) (record {
      alive = may.alive;
      ready = ap is_ready may.ready;
      rest = cond-false (nat_lt 1024 count) (Some refusals.TooLong) (cond (not (is_own p start count)) (Some refusals.BadRange) None)
          (le-ltb 1024 count few)
          ∙ cond-false (not (is_own p start count)) (Some refusals.BadRange) None (ap not own);
    })

refused_answers : (k : Kernel) (pid : Pid) (p : Process) (c : Call) (why : Refusal) → MayCall k pid p → IsPlain c → LiesInMemory c →
    call_refusal k pid p c ≡ Some why → IsAnswerTo c (answers.Refused why)
refused_answers k pid p (calls.ReceiveSegment start count) why may plain within is =
    absurd (none-some why (sym (receive_fits k pid p start count may within) ∙ is))
refused_answers k pid p (calls.Load start count) why may plain within is =
    absurd (none-some why (sym (load_fits k pid p start count may within.0 within.1) ∙ is))
refused_answers k pid p (calls.Send target m) why may plain within is = tt
refused_answers k pid p (calls.Reply m to) why may plain within is = tt
refused_answers k pid p (calls.ReplySegment m to dest src count) why may plain within is = tt
refused_answers k pid p (calls.Store start bytes) why may plain within is = tt
refused_answers k pid p c why may plain within is = absurd plain

-- What is accepted.
sent_called : (k : Kernel) (pid : Pid) (p : Process) (target : Pid) (m : Message) → Does (sent k pid p target m) pid (Some (calls.Send target m))
unfolding sent
sent_called k pid p target m = record {
  process = record p { state = states.Blocked (calls.Send target m); sends = p.sends + 1 };
  at = put_process_here k.procs pid (record p { state = states.Blocked (calls.Send target m); sends = p.sends + 1 });
  does = refl;
}

abbrev IsReplied : Kernel → Pid → Call → Option Effect → Type 0
IsReplied k pid c o = IsCallMade c pid (effect_answer o) (after_effect k o)

replied_by : (k : Kernel) (pid : Pid) (c : Call) (to : Pid) (m : Message) (dest : ℕ) (bytes : List ℕ) (p : Process) → MayCall k pid p →
    ((a : Answer) → IsAnswerTo c a) → (held_at : Option ℕ) (e : (number : ℕ) → Option Exchange) →
    IsReplied k pid c
    (held_at >>= λ number. e number >>= λ x. Some (answered (with_stage k (name_of to number) x (stages.Replied m dest bytes)) pid c answers.Ok))
replied_by k pid c to m dest bytes p may any None e = Tells_nothing refl (still k pid p may)
replied_by k pid c to m dest bytes p may any (Some number) e = by_exchange (e number)
  where
    by_exchange : (x : Option Exchange) →
        IsReplied k pid c (x >>= λ x. Some (answered (with_stage k (name_of to number) x (stages.Replied m dest bytes)) pid c answers.Ok))
    by_exchange None = Tells_nothing refl (still k pid p may)
    by_exchange (Some x) =
        Tells answers.Ok refl (any answers.Ok) (record { process = p; at = may.at; does = ap doing may.ready })

loaded_bytes : (start count : ℕ) (memory : List ℕ) → length memory ≡ 1024 → start + count ≤ 1024 →
    length (bytes_in (range_of start count) memory) ≡ count
loaded_bytes start count memory size within =
    let taken = length-take count (drop start memory) in
    let left = length-drop start memory in
    omega (arith, taken, left, size, within)

accepted_is : (k : Kernel) (pid : Pid) (p : Process) (c : Call) → MayCall k pid p → IsPlain c → LiesInMemory c →
    IsReplied k pid c (called k pid p c None)
accepted_is k pid p (calls.Send target m) may plain within = Begins refl plain (sent_called k pid p target m)
accepted_is k pid p (calls.ReceiveSegment start count) may plain within = Begins refl tt (record {
  process = record p { state = states.Blocked (calls.ReceiveSegment start count) };
  at = put_process_here k.procs pid (record p { state = states.Blocked (calls.ReceiveSegment start count) });
  does = refl;
})
accepted_is k pid p (calls.Reply m to) may plain within =
    replied_by k pid (calls.Reply m to) to m 0 [] p may (λ a. tt) (held k pid to) (λ number. k.exchanges (name_of to number))
accepted_is k pid p (calls.ReplySegment m to dest src count) may plain within =
    replied_by k pid (calls.ReplySegment m to dest src count) to m dest (bytes_in (range_of src count) p.memory) p may (λ a. tt)
    (held k pid to) (λ number. k.exchanges (name_of to number))
accepted_is k pid p (calls.Load start count) may plain within =
    let bytes = bytes_in (range_of start count) p.memory in
    Tells (answers.Loaded bytes) refl
    (bytes, refl, loaded_bytes start count p.memory may.size within.0, bytes_in_bytes start count p.memory may.bytes)
    (still k pid p may)
accepted_is k pid p (calls.Store start bytes) may plain within = Tells answers.Ok refl tt (record {
  process = record p { memory = with_bytes p.memory start bytes };
  at = put_process_here k.procs pid (record p { memory = with_bytes p.memory start bytes });
  does = ap doing may.ready;
})
accepted_is k pid p c may plain within = absurd plain

called_by : (k : Kernel) (pid : Pid) (p : Process) (c : Call) (why : Option Refusal) → MayCall k pid p → IsPlain c → LiesInMemory c →
    call_refusal k pid p c ≡ why → IsReplied k pid c (called k pid p c why)
called_by k pid p c None may plain within is = accepted_is k pid p c may plain within
called_by k pid p c (Some why) may plain within is =
    Tells (answers.Refused why) refl (refused_answers k pid p c why may plain within is) (still k pid p may)

pub called_is : (k : Kernel) (pid : Pid) (p : Process) (c : Call) → MayCall k pid p → IsPlain c → LiesInMemory c →
    IsCallMade c pid (effect_answer (effect k (steps.Call pid c))) (after_effect k (effect k (steps.Call pid c)))
called_is k pid p c may plain within =
    subst (IsReplied k pid c) (sym (ap (λ (o : Option Process). o >>= λ q. called k pid q c (call_refusal k pid q c)) may.at))
    (called_by k pid p c (call_refusal k pid p c) may plain within refl)

-- Collects.
pub data IsCollected (c : Call) (pid : Pid) (a : EventAnswer) (k : Kernel) : Type 0 where
  Comes_early : a ≡ given.Answered (answers.Refused refusals.NotYet) → Does k pid (Some c) → IsCollected c pid a k
  Ends : (x : Answer) → a ≡ given.Answered x → is_not_yet x ≡ false → IsAnswerTo c x → Does k pid None → IsCollected c pid a k

abbrev collected_by : Kernel → Pid → Process → Option (Call × Answer) → Option Effect
collected_by k pid p done = (done >>= λ done. Some (let d : Collecting = record { process = p; call = done.0; answer = done.1 } in d))
    >>= λ d. Some (answered (with_state k pid d.process states.Ready) pid d.call d.answer)

effect_by : (k : Kernel) (pid : Pid) (p : Process) → k.procs pid ≡ Some p →
    effect k (steps.Collect pid) ≡ collected_by k pid p (finished_call p.state)
unfolding collecting
effect_by k pid p at =
    ap (λ (o : Option Process). (o >>= λ q. finished_call q.state >>= λ done.
    Some (let d : Collecting = record { process = q; call = done.0; answer = done.1 } in d))
    >>= λ d. Some (answered (with_state k pid d.process states.Ready) pid d.call d.answer)) at

not_yet_received : (x : Answer) → IsReceived x → is_not_yet x ≡ false
not_yet_received (answers.ReceivedSegment from m count) is = refl
not_yet_received x is = absurd is

done_answers : (c : Call) (x : Answer) → IsWaited c → IsFor c x → (is_not_yet x ≡ false) × IsAnswerTo c x
done_answers (calls.Send target m) x waited for = (for, tt)
done_answers (calls.ReceiveSegment start count) x waited for = (not_yet_received x for, for)
done_answers c x waited for = absurd waited

abbrev IsOver : Kernel → Pid → Call → Option Effect → Type 0
IsOver k pid c o = IsCollected c pid (effect_answer o) (after_effect k o)

over_by : (k : Kernel) (pid : Pid) (p : Process) (c : Call) (s : State) → k.procs pid ≡ Some p → IsPlainState s → p.state ≡ s →
    doing s ≡ Some c → IsOver k pid c (collected_by k pid p (finished_call s))
over_by k pid p c states.Ready at plain same does = absurd (none-some c does)
over_by k pid p c (states.Blocked d) at plain same does =
    Comes_early refl (record { process = p; at = at; does = ap doing same ∙ does })
over_by k pid p c (states.Done d x) at plain same does =
    let told = done_answers d x plain.0 plain.1 in
    subst (λ z. IsCollected z pid (given.Answered x) (with_state k pid p states.Ready)) (same_Some d c does)
    (Ends x refl told.0 told.1 (record {
      process = record p { state = states.Ready };
      at = put_process_here k.procs pid (record p { state = states.Ready });
      does = refl;
    }))

pub collected_is : (host : ℕ) (k : Kernel) (pid : Pid) (p : Process) (c : Call) → IsPlainView host k → k.procs pid ≡ Some p →
    doing p.state ≡ Some c →
    IsCollected c pid (effect_answer (effect k (steps.Collect pid))) (after_effect k (effect k (steps.Collect pid)))
collected_is host k pid p c v at does =
    subst (IsOver k pid c) (sym (effect_by k pid p at)) (over_by k pid p c p.state at (v.states pid p at) refl does)

-- a step that is made where it is allowed
pub made_where : (k : Kernel) (s : Step) → fold next k (list_if (is_some (effect k s)) (s ∷ [])) ≡ after_effect k (effect k s)
made_where k s = by (effect k s) refl
  where
    by : (o : Option Effect) → effect k s ≡ o → fold next k (list_if (is_some o) (s ∷ [])) ≡ after_effect k o
    by None is = refl
    by (Some e) is = ap (after_effect k) is
