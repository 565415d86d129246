-- A process over one step, where it makes plain calls alone: it is ready, or in a call that it made last.
use Rattle.std.proofs.Common.{◌≡◌, ℕ, ◌+◌, Bool, true, false, List, [], ◌∷◌, ◌++◌, length, Option, Some, None, option_to_list, refl, sym, ap, subst, ◌∙◌, arith}
use Rattle.std.proofs.lemmas.Bool.{both_ways, cond-true}
use Rattle.std.proofs.lemmas.List.{append-nil, length-append}
use Rattle.std.proofs.lemmas.Option.{same_Some, none-some}
use Rattle.v_whole.proofs.Traced.{finished_is}
use Rattle.vk_types.specs.Types.{Answer, Call, Message, Pid, Process, State, Step}
use Rattle.vk_base.specs.declared.answer.Answer.TheVariants as answers
use Rattle.vk_base.specs.declared.call.Call.TheVariants as calls
use Rattle.vk_base.specs.declared.kernel.State.TheVariants as states
use Rattle.vk_base.specs.declared.step.Step.TheVariants as steps
use Rattle.vk_base.specs.Calls.{Effect, answered as seen_answered, exited, replied, sent, unseen}
use Rattle.vk_base.specs.Kernel.{Kernel, ended, finished_call, receiving, sending, with_memory, with_state}
use Rattle.vk_base.specs.Pids.{same_pid}
use Rattle.vk_base.specs.Ranges.{range_of, bytes_in, with_bytes}
use Rattle.vk_base.specs.Steps.{Taking, collecting, effect, finishing, received, taken, taking, with_part}
use Rattle.vk_base.proofs.OptionLemmas.{bind_is}
use Rattle.vk_base.proofs.PidLemmas.{same_pid_self}
use Rattle.v_laws.specs.Sound.{IsSound}
use Rattle.v_laws.proofs.StepLemmas.{collecting_is, finishing_is, taking_is}
use Rattle.v_laws.proofs.Tables.{put_process_here}
use Rattle.v_pages.specs.Followed.{call_by}
use Rattle.v_pages.proofs.Calling.{CallOutcome, exited_ready, outcome_of, own_told, replied_same, told}
use Rattle.v_pages.proofs.Own.{OwnStep, other_call, other_told, own_step, which_step}
use Rattle.v_pages.proofs.Touched.{ProcessGoesOn, Touched, is_waiting, touched}
use Rattle.v_pages.proofs.Turns.{after_take}

-- neither a Forward, nor a move, nor what has to do with names, nor a receive without a segment
abbrev pub is_plain : Call → Bool
is_plain (calls.Send target m) = true
is_plain (calls.ReceiveSegment start count) = true
is_plain (calls.Reply m to) = true
is_plain (calls.ReplySegment m to dest src count) = true
is_plain (calls.Load start count) = true
is_plain (calls.Store start bytes) = true
is_plain calls.Exit = true
is_plain c = false

-- a plain call in which a process waits, and the answer of one that is answered at once
abbrev pub is_slow : Call → Bool
is_slow (calls.Send target m) = true
is_slow (calls.ReceiveSegment start count) = true
is_slow c = false

abbrev pub is_quick : Answer → Bool
is_quick answers.Ok = true
is_quick (answers.Loaded bytes) = true
is_quick (answers.Refused why) = true
is_quick a = false

-- the call that a process made and that it has not collected
abbrev pub in_call : State → Option Call
in_call states.Ready = None
in_call (states.Blocked c) = Some c
in_call (states.Done c a) = Some c

ended_call : (t : State) (a : Answer) → in_call (ended t a) ≡ in_call t
ended_call states.Ready a = refl
ended_call (states.Blocked c) a = refl
ended_call (states.Done c b) a = refl

pub waiting_call : (t : State) → is_waiting t ≡ true → in_call t ≡ None → ⊥
waiting_call states.Ready w e = both_ways false refl w
waiting_call (states.Blocked c) w e = none-some c (sym e)
waiting_call (states.Done c a) w e = none-some c (sym e)

pub sending_call : (t : State) (target : Pid) (m : Message) → sending t ≡ Some (target, m) → in_call t ≡ Some (calls.Send target m)
sending_call states.Ready target m e = absurd (none-some (target, m) e)
sending_call (states.Blocked (calls.Send q n)) target m e =
    let same = same_Some (q, n) (target, m) e in
    λ j. Some (calls.Send (ap (λ (z : Pid × Message). z.0) same j) (ap (λ (z : Pid × Message). z.1) same j))
sending_call (states.Blocked c) target m e = absurd (none-some (target, m) e)
sending_call (states.Done c a) target m e = absurd (none-some (target, m) e)

receiving_call : (t : State) (c : Call) → receiving t ≡ Some c → in_call t ≡ Some c
receiving_call states.Ready c e = absurd (none-some c e)
receiving_call (states.Blocked calls.Receive) c e = e
receiving_call (states.Blocked (calls.ReceiveSegment start count)) c e = e
receiving_call (states.Blocked d) c e = absurd (none-some c e)
receiving_call (states.Done d a) c e = absurd (none-some c e)

-- What comes of a plain call of a ready process: it waits in it, or it is answered at once.
pub data CallEnd (r : Pid) (p : Process) (c : Call) (e : Effect) (y : Process) : Type 0 where
  waits : told r e ≡ None → y.state ≡ states.Blocked c → is_slow c ≡ true → CallEnd r p c e y
  at_once : (a : Answer) → told r e ≡ Some a → is_quick a ≡ true → y.state ≡ p.state → CallEnd r p c e y

same_end : (k : Kernel) (r : Pid) (p : Process) (c : Call) (a : Answer) (e : Effect) (y : Process) → k.procs r ≡ Some p →
    e.after.procs r ≡ Some y → is_quick a ≡ true → seen_answered k r c a ≡ e → CallEnd r p c e y
same_end k r p c a e y at later quick same =
    CallEnd.at_once a (own_told r c a e (ap (λ (x : Effect). x.seen) (sym same))) quick
    (ap (λ (z : Process). z.state)
    (same_Some y p (sym later ∙ ap (λ (x : Effect). x.after.procs r) (sym same) ∙ at)))

replied_end : (k : Kernel) (r : Pid) (p : Process) (c : Call) (to : Pid) (m : Message) (dest : ℕ) (bytes : List ℕ) (e : Effect)
    (y : Process) → k.procs r ≡ Some p → e.after.procs r ≡ Some y → replied k r c to m dest bytes ≡ Some e → CallEnd r p c e y
replied_end k r p c to m dest bytes e y at later g =
    let x = replied_same k r c to m dest bytes e g in
    CallEnd.at_once answers.Ok (own_told r c answers.Ok e x.1) refl
    (ap (λ (z : Process). z.state) (same_Some y p (sym later ∙ x.0 ∙ at)))

blocked_end : (k : Kernel) (r : Pid) (p : Process) (c : Call) (e : Effect) (y : Process) → e.after.procs r ≡ Some y → is_slow c ≡ true →
    unseen (with_state k r p (states.Blocked c)) ≡ e → CallEnd r p c e y
blocked_end k r p c e y later slow same =
    CallEnd.waits (ap (told r) (sym same))
    (ap (λ (z : Process). z.state)
    (same_Some y (record p { state = states.Blocked c })
    (sym later ∙ ap (λ (x : Effect). x.after.procs r) (sym same) ∙ put_process_here k.procs r (record p { state = states.Blocked c }))))
    slow

sent_end : (k : Kernel) (r : Pid) (p : Process) (target : Pid) (m : Message) (e : Effect) (y : Process) → e.after.procs r ≡ Some y →
    unseen (sent k r p target m) ≡ e → CallEnd r p (calls.Send target m) e y
unfolding sent
sent_end k r p target m e y later same =
    let now = record p { state = states.Blocked (calls.Send target m); sends = p.sends + 1 } in
    CallEnd.waits (ap (told r) (sym same))
    (ap (λ (z : Process). z.state)
    (same_Some y now (sym later ∙ ap (λ (x : Effect). x.after.procs r) (sym same) ∙ put_process_here k.procs r now)))
    refl

pub call_ends : (k : Kernel) (r : Pid) (p : Process) (c : Call) (e : Effect) (y : Process) → k.procs r ≡ Some p →
    e.after.procs r ≡ Some y → is_plain c ≡ true → CallOutcome k r p c e → CallEnd r p c e y
call_ends k r p c e y at later plain (CallOutcome.refused why bars same) =
    same_end k r p c (answers.Refused why) e y at later refl same
call_ends k r p (calls.Send target m) e y at later plain (CallOutcome.allowed fit g) =
    sent_end k r p target m e y later (same_Some (unseen (sent k r p target m)) e g)
call_ends k r p (calls.ReceiveSegment start count) e y at later plain (CallOutcome.allowed fit g) =
    blocked_end k r p (calls.ReceiveSegment start count) e y later refl
    (same_Some (unseen (with_state k r p (states.Blocked (calls.ReceiveSegment start count)))) e g)
call_ends k r p (calls.Reply m to) e y at later plain (CallOutcome.allowed fit g) =
    replied_end k r p (calls.Reply m to) to m 0 [] e y at later g
call_ends k r p (calls.ReplySegment m to dest src count) e y at later plain (CallOutcome.allowed fit g) =
    replied_end k r p (calls.ReplySegment m to dest src count) to m dest (bytes_in (range_of src count) p.memory) e y at later g
call_ends k r p (calls.Load start count) e y at later plain (CallOutcome.allowed fit g) =
    same_end k r p (calls.Load start count) (answers.Loaded (bytes_in (range_of start count) p.memory)) e y at later refl
    (same_Some (seen_answered k r (calls.Load start count) (answers.Loaded (bytes_in (range_of start count) p.memory))) e g)
call_ends k r p (calls.Store start bytes) e y at later plain (CallOutcome.allowed fit g) =
    let c : Call = calls.Store start bytes in
    let now = record p { memory = with_bytes p.memory start bytes } in
    let same = same_Some (seen_answered (with_memory k r p (with_bytes p.memory start bytes)) r c answers.Ok) e g in
    CallEnd.at_once answers.Ok (own_told r c answers.Ok e (ap (λ (x : Effect). x.seen) (sym same))) refl
    (ap (λ (z : Process). z.state)
    (same_Some y now (sym later ∙ ap (λ (x : Effect). x.after.procs r) (sym same) ∙ put_process_here k.procs r now)))
call_ends k r p calls.Exit e y at later plain (CallOutcome.allowed fit g) =
    let same = same_Some (seen_answered (exited k r p) r calls.Exit answers.Ok) e g in
    CallEnd.at_once answers.Ok (own_told r calls.Exit answers.Ok e (ap (λ (x : Effect). x.seen) (sym same))) refl
    (exited_ready k r p y (ap (λ (x : Effect). x.after.procs r) same ∙ later))
call_ends k r p c e y at later plain (CallOutcome.allowed fit g) = absurd (both_ways false refl plain)

-- Where a process stands in its task: it is ready and all its calls were answered, or it is in its last call, which is the task's.
pub record IsBusy (task : List Answer → Option Call) (given : List Answer) (made : ℕ) (c : Call) : Type 0 where
  pub more : made ≡ length given + 1
  pub told : task given ≡ Some c
  pub slow : is_slow c ≡ true

abbrev pub TurnIn : (List Answer → Option Call) → List Answer → ℕ → Option Call → Type 0
TurnIn task given made None = made ≡ length given
TurnIn task given made (Some c) = IsBusy task given made c

abbrev pub Turn : (List Answer → Option Call) → List Answer → ℕ → State → Type 0
Turn task given made t = TurnIn task given made (in_call t)

pub ready_when : (task : List Answer → Option Call) (given : List Answer) (made : ℕ) (t : State) → Turn task given made t →
    length given ≡ made → t ≡ states.Ready
ready_when task given made states.Ready turn same = refl
ready_when task given made (states.Blocked c) turn same = let more = turn.more in absurd (omega arith)
ready_when task given made (states.Done c a) turn same = let more = turn.more in absurd (omega arith)

-- Steps that are not its own leave it in its call.
pub finish_call : (k : Kernel) (r : Pid) (e : Effect) (p y : Process) → k.procs r ≡ Some p → e.after.procs r ≡ Some y →
    effect k (steps.Finish r) ≡ Some e → (in_call y.state ≡ in_call p.state) × (y.sends ≡ p.sends) × (in_call y.state ≡ None → ⊥)
finish_call k r e p y at later does =
    let f = bind_is (finishing k r) _ e does in
    let is = finishing_is k r f.0 f.1 in
    let own : p ≡ f.0.process = same_Some p f.0.process (sym at ∙ is.process) in
    let c : Call = calls.Send f.0.target f.0.message in
    let now = record f.0.process {
      memory = with_bytes f.0.process.memory f.0.dest f.0.bytes;
      state = states.Done c (answers.Replied f.0.reply);
    } in
    let new : y ≡ now = same_Some y now (sym later ∙ ap (λ (x : Effect). x.after.procs r) (sym (same_Some _ e f.2))
    ∙ put_process_here k.procs r now) in
    let call : in_call y.state ≡ Some c = ap (λ (z : Process). in_call z.state) new in (
      call ∙ sym (sending_call p.state f.0.target f.0.message (ap (λ (z : Process). sending z.state) own ∙ is.send)),
      ap (λ (z : Process). z.sends) (new ∙ ap (λ (z : Process). record z {
        memory = with_bytes z.memory f.0.dest f.0.bytes;
        state = states.Done c (answers.Replied f.0.reply);
      }) (sym own)),
      λ none. none-some c (sym none ∙ call),
    )

pub own_not : (r : Pid) (s t : Step) → s ≡ t → own_step r s ≡ false → own_step r t ≡ true → ⊥
own_not r s t same other own = both_ways (own_step r s) other (ap (own_step r) same ∙ own)

pub goes_call : (p y : Process) → ProcessGoesOn p y → (in_call y.state ≡ in_call p.state) × (y.sends ≡ p.sends)
goes_call p y (ProcessGoesOn.still same sends) = (ap in_call same, sends)
goes_call p y (ProcessGoesOn.over a same sends) = (ap in_call same ∙ ended_call p.state a, sends)

-- A Take, and a Collect, of its own.
pub record IsOwnTake (k : Kernel) (r : Pid) (e : Effect) (p y : Process) : Type 0 where
  pub take : Taking
  pub takes : taking k r ≡ Some take
  pub own : take.process ≡ p
  pub after : record p {
    memory = with_part take.call take.exchange p.memory;
    state = states.Done take.call (received take.call take.name.sender take.exchange);
  } ≡ y
  pub call : in_call p.state ≡ Some take.call
  pub unseen : told r e ≡ None

pub own_take : (k : Kernel) (r : Pid) (e : Effect) (p y : Process) → k.procs r ≡ Some p → e.after.procs r ≡ Some y →
    effect k (steps.Take r) ≡ Some e → IsOwnTake k r e p y
own_take k r e p y at later does =
    let t = bind_is (taking k r) _ e does in
    let is = taking_is k r t.0 t.1 in
    let same = same_Some (unseen (taken k r t.0)) e t.2 in
    let own : t.0.process ≡ p = same_Some t.0.process p (sym is.process ∙ at) in
    record {
      take = t.0;
      takes = t.1;
      own = own;
      after = ap (λ (z : Process). record z {
        memory = with_part t.0.call t.0.exchange z.memory;
        state = states.Done t.0.call (received t.0.call t.0.name.sender t.0.exchange);
      }) (sym own) ∙ after_take k r t.0 y (ap (λ (x : Effect). x.after.procs r) same ∙ later);
      call = receiving_call p.state t.0.call (ap (λ (z : Process). receiving z.state) (sym own) ∙ is.call);
      unseen = ap (told r) (sym same);
    }

pub take_call : (k : Kernel) (r : Pid) (e : Effect) (p y : Process) (t : IsOwnTake k r e p y) →
    in_call y.state ≡ Some t.take.call
take_call k r e p y t = ap (λ (z : Process). in_call z.state) (sym t.after)

pub record IsOwnCollect (r : Pid) (e : Effect) (p y : Process) : Type 0 where
  pub call : Call
  pub answer : Answer
  pub state : p.state ≡ states.Done call answer
  pub after : record p { state = states.Ready } ≡ y
  pub told : told r e ≡ Some answer

pub own_collect : (k : Kernel) (r : Pid) (e : Effect) (p y : Process) → k.procs r ≡ Some p → e.after.procs r ≡ Some y →
    effect k (steps.Collect r) ≡ Some e → IsOwnCollect r e p y
own_collect k r e p y at later does =
    let d = bind_is (collecting k r) _ e does in
    let is = collecting_is k r d.0 d.1 in
    let own : d.0.process ≡ p = same_Some d.0.process p (sym is.process ∙ at) in
    let same = same_Some (seen_answered (with_state k r d.0.process states.Ready) r d.0.call d.0.answer) e d.2 in
    record {
      call = d.0.call;
      answer = d.0.answer;
      state = finished_is p.state d.0.call d.0.answer (ap (λ (z : Process). finished_call z.state) (sym own) ∙ is.done);
      after = ap (λ (z : Process). record z { state = states.Ready }) (sym own)
          ∙ same_Some (record d.0.process { state = states.Ready }) y
          (sym (put_process_here k.procs r (record d.0.process { state = states.Ready }))
          ∙ ap (λ (x : Effect). x.after.procs r) same ∙ later);
      told = own_told r d.0.call d.0.answer e (ap (λ (x : Effect). x.seen) (sym same));
    }

pub collect_call : (r : Pid) (e : Effect) (p y : Process) (c : IsOwnCollect r e p y) → in_call y.state ≡ None
collect_call r e p y c = ap (λ (z : Process). in_call z.state) (sym c.after)

-- Its own call.
pub own_call : (r : Pid) (s : Step) (c : Call) → s ≡ steps.Call r c → call_by r s ≡ Some c
own_call r s c step = ap (call_by r) step ∙ cond-true (same_pid r r) (Some c) None (same_pid_self r)

quiet_call : (r : Pid) (p : Process) (c : Call) (e : Effect) (y : Process) → in_call y.state ≡ None → told r e ≡ None →
    CallEnd r p c e y → p ≡ y
quiet_call r p c e y ready none (CallEnd.waits unseen call slow) = absurd (none-some c (sym ready ∙ ap in_call call))
quiet_call r p c e y ready none (CallEnd.at_once a some quick same) = absurd (none-some a (sym none ∙ some))

-- What is done by others.
pub other_keeps : (k : Kernel) (r : Pid) (s : Step) (e : Effect) (p y : Process) → own_step r s ≡ false → k.procs r ≡ Some p →
    e.after.procs r ≡ Some y → effect k s ≡ Some e → Touched k s r p y →
    (in_call y.state ≡ in_call p.state) × (y.sends ≡ p.sends)
other_keeps k r s e p y other at later does (Touched.rests same) =
    (ap (λ (z : Process). in_call z.state) same, ap (λ (z : Process). z.sends) same)
other_keeps k r s e p y other at later does (Touched.makes c step idle none) =
    absurd (own_not r s (steps.Call r c) step other (same_pid_self r))
other_keeps k r s e p y other at later does (Touched.takes step idle none) =
    absurd (own_not r s (steps.Take r) step other (same_pid_self r))
other_keeps k r s e p y other at later does (Touched.collects step idle none) =
    absurd (own_not r s (steps.Collect r) step other (same_pid_self r))
other_keeps k r s e p y other at later does (Touched.finishes step over) =
    let f = finish_call k r e p y at later (ap (effect k) (sym step) ∙ does) in (f.0, f.1)
other_keeps k r s e p y other at later does (Touched.waits w none kept on stays) = goes_call p y on

pub other_same : (k : Kernel) (r : Pid) (s : Step) (e : Effect) (p y : Process) → own_step r s ≡ false → k.procs r ≡ Some p →
    e.after.procs r ≡ Some y → effect k s ≡ Some e → in_call y.state ≡ None → Touched k s r p y → p ≡ y
other_same k r s e p y other at later does ready (Touched.rests same) = sym same
other_same k r s e p y other at later does ready (Touched.makes c step idle none) =
    absurd (own_not r s (steps.Call r c) step other (same_pid_self r))
other_same k r s e p y other at later does ready (Touched.takes step idle none) =
    absurd (own_not r s (steps.Take r) step other (same_pid_self r))
other_same k r s e p y other at later does ready (Touched.collects step idle none) =
    absurd (own_not r s (steps.Collect r) step other (same_pid_self r))
other_same k r s e p y other at later does ready (Touched.finishes step over) =
    absurd ((finish_call k r e p y at later (ap (effect k) (sym step) ∙ does)).2 ready)
other_same k r s e p y other at later does ready (Touched.waits w none kept on stays) =
    absurd (waiting_call p.state w (sym (goes_call p y on).0 ∙ ready))

-- After any step.
abbrev pub IsPlainTask : (List Answer → Option Call) → Type 0
IsPlainTask task = (given : List Answer) (c : Call) → task given ≡ Some c → is_plain c ≡ true

abbrev pub MayCall : (List Answer → Option Call) → List Answer → ℕ → Option Call → Type 0
MayCall task given made o = (c : Call) → o ≡ Some c → (length given ≡ made) × (task given ≡ Some c)

abbrev pub TurnNext : (List Answer → Option Call) → List Answer → ℕ → Option Call → Option Answer → Process → Type 0
TurnNext task given made c a y = Turn task (given ++ option_to_list a) (made + length (option_to_list c)) y.state

turn_by : (task : List Answer → Option Call) (given : List Answer) (made : ℕ) (c d : Option Call) (a b : Option Answer) (y : Process) →
    c ≡ d → a ≡ b → TurnNext task given made d b y → TurnNext task given made c a y
turn_by task given made c d a b y cd ab next =
    subst (λ z. TurnNext task given made z a y) (sym cd) (subst (λ z. TurnNext task given made d z y) (sym ab) next)

call_turn : (task : List Answer → Option Call) (given : List Answer) (made : ℕ) (r : Pid) (p : Process) (c : Call) (e : Effect)
    (y : Process) → length given ≡ made → task given ≡ Some c → p.state ≡ states.Ready → CallEnd r p c e y →
    TurnNext task given made (Some c) (told r e) y
call_turn task given made r p c e y count next ready (CallEnd.waits none call slow) =
    let size = length-append given [] in
    turn_by task given made (Some c) (Some c) (told r e) None y refl none
    (subst (TurnIn task (given ++ []) (made + 1)) (sym (ap in_call call))
    (record { more = omega arith; told = ap task (append-nil given) ∙ next; slow = slow }))
call_turn task given made r p c e y count next ready (CallEnd.at_once a some quick same) =
    let size = length-append given (a ∷ []) in
    let more : made + 1 ≡ length (given ++ a ∷ []) = omega arith in
    turn_by task given made (Some c) (Some c) (told r e) (Some a) y refl some
    (subst (TurnIn task (given ++ a ∷ []) (made + 1)) (sym (ap in_call (same ∙ ready))) more)

still_turn : (task : List Answer → Option Call) (given : List Answer) (made : ℕ) (p y : Process) → in_call y.state ≡ in_call p.state →
    Turn task given made p.state → TurnNext task given made None None y
still_turn task given made p y same turn =
    let none : made ≡ made + 0 = omega arith in
    subst (TurnIn task (given ++ []) (made + 0)) (sym same)
    (subst (λ n. TurnIn task (given ++ []) n (in_call p.state)) none
    (subst (λ g. TurnIn task g made (in_call p.state)) (sym (append-nil given)) turn))

collect_turn : (task : List Answer → Option Call) (given : List Answer) (made : ℕ) (r : Pid) (e : Effect) (p y : Process) →
    Turn task given made p.state → IsOwnCollect r e p y → TurnNext task given made None (told r e) y
collect_turn task given made r e p y turn c =
    let busy : IsBusy task given made c.call = subst (TurnIn task given made) (ap in_call c.state) turn in
    let one = busy.more in
    let size = length-append given (c.answer ∷ []) in
    let more : made + 0 ≡ length (given ++ c.answer ∷ []) = omega arith in
    turn_by task given made None None (told r e) (Some c.answer) y refl c.told
    (subst (TurnIn task (given ++ c.answer ∷ []) (made + 0)) (sym (collect_call r e p y c)) more)

next_step : (task : List Answer → Option Call) (given : List Answer) (made : ℕ) (k : Kernel) (r : Pid) (s : Step) (e : Effect)
    (p y : Process) → OwnStep r s → IsPlainTask task → IsSound k → Turn task given made p.state → k.procs r ≡ Some p →
    e.after.procs r ≡ Some y → effect k s ≡ Some e → MayCall task given made (call_by r s) →
    TurnNext task given made (call_by r s) (told r e) y
next_step task given made k r s e p y (OwnStep.makes c step) plain sound turn at later does may =
    let calls : call_by r s ≡ Some c = own_call r s c step in
    let called = may c calls in
    let ready = ready_when task given made p.state turn called.0 in
    turn_by task given made (call_by r s) (Some c) (told r e) (told r e) y calls refl
    (call_turn task given made r p c e y called.0 called.1 ready
    (call_ends k r p c e y at later (plain given c called.1) (outcome_of k r p c e at (ap (effect k) (sym step) ∙ does))))
next_step task given made k r s e p y (OwnStep.takes step) plain sound turn at later does may =
    let t = own_take k r e p y at later (ap (effect k) (sym step) ∙ does) in
    turn_by task given made (call_by r s) None (told r e) None y (ap (call_by r) step) t.unseen
    (still_turn task given made p y (take_call k r e p y t ∙ sym t.call) turn)
next_step task given made k r s e p y (OwnStep.collects step) plain sound turn at later does may =
    turn_by task given made (call_by r s) None (told r e) (told r e) y (ap (call_by r) step) refl
    (collect_turn task given made r e p y turn (own_collect k r e p y at later (ap (effect k) (sym step) ∙ does)))
next_step task given made k r s e p y (OwnStep.others other) plain sound turn at later does may =
    turn_by task given made (call_by r s) None (told r e) None y (other_call r s other) (other_told r k s e other does)
    (still_turn task given made p y
    (other_keeps k r s e p y other at later does (touched k s e sound does r p y at later)).0 turn)

pub turn_next : (task : List Answer → Option Call) (given : List Answer) (made : ℕ) (k : Kernel) (r : Pid) (s : Step) (e : Effect)
    (p y : Process) → IsPlainTask task → IsSound k → Turn task given made p.state → k.procs r ≡ Some p →
    e.after.procs r ≡ Some y → effect k s ≡ Some e → MayCall task given made (call_by r s) →
    TurnNext task given made (call_by r s) (told r e) y
turn_next task given made k r s e p y plain sound turn at later does may =
    next_step task given made k r s e p y (which_step r s) plain sound turn at later does may

-- A process that is ready after a step that told it nothing was left as it was.
quiet_step : (task : List Answer → Option Call) (given : List Answer) (made : ℕ) (k : Kernel) (r : Pid) (s : Step) (e : Effect)
    (p y : Process) → OwnStep r s → IsPlainTask task → IsSound k → Turn task given made p.state → k.procs r ≡ Some p →
    e.after.procs r ≡ Some y → effect k s ≡ Some e → MayCall task given made (call_by r s) → in_call y.state ≡ None → told r e ≡ None →
    p ≡ y
quiet_step task given made k r s e p y (OwnStep.makes c step) plain sound turn at later does may ready none =
    let called = may c (own_call r s c step) in
    quiet_call r p c e y ready none
    (call_ends k r p c e y at later (plain given c called.1) (outcome_of k r p c e at (ap (effect k) (sym step) ∙ does)))
quiet_step task given made k r s e p y (OwnStep.takes step) plain sound turn at later does may ready none =
    let t = own_take k r e p y at later (ap (effect k) (sym step) ∙ does) in
    absurd (none-some t.take.call (sym ready ∙ take_call k r e p y t))
quiet_step task given made k r s e p y (OwnStep.collects step) plain sound turn at later does may ready none =
    let c = own_collect k r e p y at later (ap (effect k) (sym step) ∙ does) in
    absurd (none-some c.answer (sym none ∙ c.told))
quiet_step task given made k r s e p y (OwnStep.others other) plain sound turn at later does may ready none =
    other_same k r s e p y other at later does ready (touched k s e sound does r p y at later)

pub quiet : (task : List Answer → Option Call) (given : List Answer) (made : ℕ) (k : Kernel) (r : Pid) (s : Step) (e : Effect)
    (p y : Process) → IsPlainTask task → IsSound k → Turn task given made p.state → k.procs r ≡ Some p →
    e.after.procs r ≡ Some y → effect k s ≡ Some e → MayCall task given made (call_by r s) → in_call y.state ≡ None → told r e ≡ None →
    p ≡ y
quiet task given made k r s e p y plain sound turn at later does may ready none =
    quiet_step task given made k r s e p y (which_step r s) plain sound turn at later does may ready none
