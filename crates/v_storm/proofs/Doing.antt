-- What a process of the station does: steps that are no call and no collect do not begin or end a call that is to be collected.
use Rattle.std.proofs.Common.{◌≡◌, ℕ, List, [], ◌∷◌, fold, Option, Some, None, refl, sym, ap, subst, ◌∙◌, inl, inr}
use Rattle.std.proofs.lemmas.Bool.{cases_Bool}
use Rattle.std.proofs.lemmas.Option.{none-some, same_Some}
use Rattle.vk_types.specs.Types.{Answer, Call, Exchange, Message, Name, Pid, Process, State, Step}
use Rattle.vk_base.specs.declared.answer.Answer.TheVariants as answers
use Rattle.vk_base.specs.declared.call.Call.TheVariants as calls
use Rattle.vk_base.specs.declared.kernel.State.TheVariants as states
use Rattle.vk_base.specs.declared.step.Step.TheVariants as steps
use Rattle.vk_base.specs.Calls.{Effect}
use Rattle.vk_base.specs.Kernel.{Kernel, ended, name_of, put_process, receiving, sending, with_state}
use Rattle.vk_base.specs.Pids.{same_pid}
use Rattle.vk_base.specs.Ranges.{with_bytes}
use Rattle.vk_base.specs.Steps.{Finishing, Taking, after_effect, arriving, effect, failing, finished, finishing, next, received, taken, taking, with_arrival, with_part}
use Rattle.vk_base.proofs.OptionLemmas.{bind_is}
use Rattle.v_laws.proofs.StepLemmas.{IsNoCall, failing_is, finishing_is, taking_is}
use Rattle.v_laws.proofs.Tables.{same_pid_is, put_process_at, put_process_other}
use Rattle.vk_rules.specs.Each.{Each}
use Rattle.v_storm.proofs.Views.{IsPlainState, IsPlainView}
use Rattle.v_storm.proofs.Steps.{rare_never, step_plain}

-- the call that it began last and has not collected
abbrev pub doing : State → Option Call
doing states.Ready = None
doing (states.Blocked c) = Some c
doing (states.Done c a) = Some c

-- steps that are no call and no collect
abbrev pub IsQuiet : Step → Type 0
IsQuiet (steps.Call pid c) = ⊥
IsQuiet (steps.Collect pid) = ⊥
IsQuiet s = Unit {0}

pub quiet_no_call : (s : Step) → IsQuiet s → IsNoCall s
quiet_no_call (steps.Call pid c) quiet = quiet
quiet_no_call s quiet = tt

-- the process is there, and is in this call or in none
pub record Does (k : Kernel) (pid : Pid) (o : Option Call) : Type 0 where
  pub process : Process
  pub at : k.procs pid ≡ Some process
  pub does : doing process.state ≡ o

-- one process changes, whose call stays
put_does : (k : Kernel) (q : Pid) (x y : Process) (pid : Pid) (o : Option Call) → k.procs q ≡ Some x → doing y.state ≡ doing x.state →
    Does k pid o → (l : Kernel) → l.procs ≡ put_process k.procs q y → Does l pid o
put_does k q x y pid o at same d l is = elim (cases_Bool (same_pid pid q)) [
  | inl t ↦ record {
    process = y;
    at = ap (λ (f : Pid → Option Process). f pid) is ∙ put_process_at k.procs q y pid t;
    does =
        let one : x ≡ d.process = same_Some x d.process (sym at ∙ ap k.procs (sym (same_pid_is pid q t)) ∙ d.at) in
        same ∙ ap (λ (z : Process). doing z.state) one ∙ d.does;
  }
  | inr f ↦ record {
    process = d.process;
    at = ap (λ (g : Pid → Option Process). g pid) is ∙ put_process_other k.procs q y pid f ∙ d.at;
    does = d.does;
  }
]

ended_does : (s : State) (a : Answer) → doing (ended s a) ≡ doing s
ended_does states.Ready a = refl
ended_does (states.Blocked c) a = refl
ended_does (states.Done c b) a = refl

received_does : (s : State) (c : Call) → IsPlainState s → receiving s ≡ Some c → Some c ≡ doing s
received_does states.Ready c plain is = absurd (none-some c is)
received_does (states.Done d a) c plain is = absurd (none-some c is)
received_does (states.Blocked (calls.Send target m)) c plain is = absurd (none-some c is)
received_does (states.Blocked (calls.ReceiveSegment start count)) c plain is = sym is
received_does (states.Blocked d) c plain is = absurd plain

sent_does : (s : State) (target : Pid) (m : Message) → IsPlainState s → sending s ≡ Some (target, m) →
    Some (calls.Send target m) ≡ doing s
sent_does states.Ready target m plain is = absurd (none-some (target, m) is)
sent_does (states.Done d a) target m plain is = absurd (none-some (target, m) is)
sent_does (states.Blocked (calls.Send q x)) target m plain is =
    ap (λ (z : Pid × Message). Some (calls.Send z.0 z.1)) (sym (same_Some (q, x) (target, m) is))
sent_does (states.Blocked (calls.ReceiveSegment start count)) target m plain is = absurd (none-some (target, m) is)
sent_does (states.Blocked d) target m plain is = absurd plain

taken_does : (host : ℕ) (k : Kernel) (r : Pid) (t : Taking) (pid : Pid) (o : Option Call) → IsPlainView host k → taking k r ≡ Some t →
    Does k pid o → Does (taken k r t) pid o
unfolding taken
taken_does host k r t pid o v g d =
    let is = taking_is k r t g in
    put_does k r t.process
    (record t.process {
      memory = with_part t.call t.exchange t.process.memory;
      state = states.Done t.call (received t.call t.name.sender t.exchange);
    }) pid o is.process (received_does t.process.state t.call (v.states r t.process is.process) is.call) d (taken k r t) refl

finished_does : (host : ℕ) (k : Kernel) (s : Pid) (f : Finishing) (pid : Pid) (o : Option Call) → IsPlainView host k →
    finishing k s ≡ Some f → Does k pid o → Does (finished k s f) pid o
finished_does host k s f pid o v g d =
    let is = finishing_is k s f g in
    put_does k s f.process
    (record f.process {
      memory = with_bytes f.process.memory f.dest f.bytes;
      state = states.Done (calls.Send f.target f.message) (answers.Replied f.reply);
    }) pid o is.process (sent_does f.process.state f.target f.message (v.states s f.process is.process) is.send) d (finished k s f) refl

as_does : (pid : Pid) (o : Option Call) (x e : Effect) → Some x ≡ Some e → Does x.after pid o → Does e.after pid o
as_does pid o x e g d = subst (λ (z : Effect). Does z.after pid o) (same_Some x e g) d

arrived_does : (k : Kernel) (name : Name) (e : Exchange) (pid : Pid) (o : Option Call) →
    Does k pid o → Does (with_arrival k name e) pid o
unfolding with_arrival
arrived_does k name e pid o d = record { process = d.process; at = d.at; does = d.does }

step_does : (host : ℕ) (k : Kernel) (s : Step) (e : Effect) (pid : Pid) (o : Option Call) → IsQuiet s → IsPlainView host k →
    effect k s ≡ Some e → Does k pid o → Does e.after pid o
step_does host k (steps.Call q c) e pid o quiet v g d = absurd quiet
step_does host k (steps.Collect q) e pid o quiet v g d = absurd quiet
step_does host k (steps.Arrive sender number) e pid o quiet v g d =
    let x = bind_is (arriving k (name_of sender number)) _ e g in
    as_does pid o _ e x.2 (arrived_does k (name_of sender number) x.0 pid o d)
step_does host k (steps.Take r) e pid o quiet v g d =
    let t = bind_is (taking k r) _ e g in as_does pid o _ e t.2 (taken_does host k r t.0 pid o v t.1 d)
step_does host k (steps.Finish s) e pid o quiet v g d =
    let f = bind_is (finishing k s) _ e g in as_does pid o _ e f.2 (finished_does host k s f.0 pid o v f.1 d)
step_does host k (steps.Fail s why) e pid o quiet v g d =
    let f = bind_is (failing k s why) _ e g in
    as_does pid o _ e f.2
    (put_does k s f.0.0 (record f.0.0 { state = ended f.0.0.state (answers.Refused f.0.1) }) pid o (failing_is k s why f.0 f.1).process
    (ended_does f.0.0.state (answers.Refused f.0.1)) d (with_state k s f.0.0 (ended f.0.0.state (answers.Refused f.0.1))) refl)
step_does host k (steps.OpenMove sender number moving) e pid o quiet v g d =
    absurd (rare_never host k (steps.OpenMove sender number moving) e tt v g)
step_does host k (steps.Copy sender number moving offset count) e pid o quiet v g d =
    absurd (rare_never host k (steps.Copy sender number moving offset count) e tt v g)
step_does host k (steps.End r why) e pid o quiet v g d = absurd (rare_never host k (steps.End r why) e tt v g)
step_does host k (steps.Hear asker number q) e pid o quiet v g d = absurd (rare_never host k (steps.Hear asker number q) e tt v g)
step_does host k (steps.Found asker q) e pid o quiet v g d = absurd (rare_never host k (steps.Found asker q) e tt v g)
step_does host k (steps.Lost asker) e pid o quiet v g d = absurd (rare_never host k (steps.Lost asker) e tt v g)

next_does : (host : ℕ) (k : Kernel) (s : Step) (x : Option Effect) (pid : Pid) (o : Option Call) → effect k s ≡ x → IsQuiet s →
    IsPlainView host k → Does k pid o → Does (after_effect k x) pid o
next_does host k s None pid o is quiet v d = d
next_does host k s (Some e) pid o is quiet v d = step_does host k s e pid o quiet v is d

next_view : (host : ℕ) (k : Kernel) (s : Step) (x : Option Effect) → effect k s ≡ x → IsQuiet s → IsPlainView host k →
    IsPlainView host (after_effect k x)
next_view host k s None is quiet v = v
next_view host k s (Some e) is quiet v = step_plain host k s e (quiet_no_call s quiet) v is

pub steps_do : (host : ℕ) (k : Kernel) (ss : List Step) (pid : Pid) (o : Option Call) → Each IsQuiet ss → IsPlainView host k →
    Does k pid o → Does (fold next k ss) pid o
steps_do host k [] pid o quiet v d = d
steps_do host k (s ∷ ss) pid o quiet v d =
    steps_do host (next k s) ss pid o quiet.1 (next_view host k s (effect k s) refl quiet.0 v)
    (next_does host k s (effect k s) pid o refl quiet.0 v d)
