-- What each step does to a process: each way in which one changes, with what the step found.
use Rattle.std.proofs.Common.{◌≡◌, ℕ, ◌+◌, true, false, ◌==◌, length, List, [], take, drop, not, nat_lt, is_none, option_map, Option, Some, None, refl, sym, ap, subst, subst₂, ◌∙◌, inl, inr}
use Rattle.std.proofs.lemmas.Bool.{cases_Bool, or_cases, eqb-true, cond-true, cond-false, cond_both}
use Rattle.std.proofs.lemmas.Option.{same_Some}
use Rattle.vk_types.specs.Types.{Answer, Call, Direction, Ending, Exchange, Message, Move, Name, Pid, Process, Refusal, Scope, Step}
use Rattle.vk_base.specs.declared.answer.Answer.TheVariants as answers
use Rattle.vk_base.specs.declared.answer.Refusal.TheVariants as refusals
use Rattle.vk_base.specs.declared.call.Call.TheVariants as calls
use Rattle.vk_base.specs.declared.kernel.Direction.TheVariants as directions
use Rattle.vk_base.specs.declared.kernel.State.TheVariants as states
use Rattle.vk_base.specs.declared.step.Step.TheVariants as steps
use Rattle.vk_base.specs.Calls.{Effect, accepted, called, call_refusal, sent, sent_exchange, replied, forward, forwarded, copied_at_once, begin_move, new_move, move_begun, is_at_once, get_pid, found_at_once, lookup_begun, exited, released, is_bereft, may_write, is_granted, is_own}
use Rattle.vk_base.specs.Kernel.{◌>>=◌, Kernel, name_of, is_ready, receiving, ended, held, held_exchange, put_process, with_memory}
use Rattle.vk_base.specs.Pids.{same_pid, same_host}
use Rattle.vk_base.specs.Ranges.{range_of, bytes_in, with_bytes}
use Rattle.vk_base.specs.Steps.{effect, Taking, taking, taken, received, with_part, arriving, with_arrival, Finishing, finishing, failing, opening_move, move_opened, Copying, copying, copied, ending, hearing, asking, finding, Collecting, collecting}
use Rattle.vk_base.proofs.OptionLemmas.{bind_is, mapped_is}
use Rattle.v_laws.specs.Moves.{move_call}
use Rattle.v_laws.proofs.MoveSteps.{called_bytes, in_move, pushed, with_copy}
use Rattle.v_laws.proofs.Options.{of_either, some_not_none}
use Rattle.v_laws.proofs.SoundMoves.{with_no_bytes}
use Rattle.v_laws.proofs.StepLemmas.{IsFit, fit_is, four_tests, taking_is, finishing_is, failing_is, copying_is, ending_is, asking_is, finding_is, collecting_is}
use Rattle.v_laws.proofs.Tables.{same_pid_is, put_process_at, put_process_other, put_exchange_here, lookup_here}

-- a call of it is over
abbrev pub ended_with : Process → Answer → Process
ended_with p a = record p { state = ended p.state a }

-- the move that it begins
abbrev pub called_move : Pid → Process → Direction → ℕ → ℕ → ℕ → Move
called_move pid p d dest src count = new_move pid d dest src count (called_bytes d p src count)

-- it has what it takes, and the reply that it waited for
abbrev pub with_message : Taking → Process
with_message t = record t.process {
  memory = with_part t.call t.exchange t.process.memory;
  state = states.Done t.call (received t.call t.name.sender t.exchange);
}

abbrev pub with_reply : Finishing → Process
with_reply f = record f.process {
  memory = with_bytes f.process.memory f.dest f.bytes;
  state = states.Done (calls.Send f.target f.message) (answers.Replied f.reply);
}

pub data Touch (k : Kernel) (s : Step) (l : Kernel) (q : Pid) (p after : Process) : Type 0 where
  rests : after ≡ p → Touch k s l q p after
  -- a call of its own that is answered at once
  stores : (c : Call) (memory : List ℕ) → s ≡ steps.Call q c → is_ready p.state ≡ true → after ≡ record p { memory = memory } →
      Touch k s l q p after
  exits : s ≡ steps.Call q calls.Exit → is_ready p.state ≡ true → after ≡ record p { alive = false } → Touch k s l q p after
  -- a call in which it waits
  sends : (target : Pid) (m : Message) → s ≡ steps.Call q (calls.Send target m) → is_ready p.state ≡ true →
      after ≡ record p { state = states.Blocked (calls.Send target m); sends = p.sends + 1 } →
      l.exchanges (name_of q (p.sends + 1)) ≡ Some (sent_exchange q p target m) → Touch k s l q p after
  receives : (c : Call) → s ≡ steps.Call q c → is_ready p.state ≡ true → receiving (states.Blocked c) ≡ Some c →
      after ≡ record p { state = states.Blocked c } → Touch k s l q p after
  asks : (logical : ℕ) (scope : Scope) → s ≡ steps.Call q (calls.GetPid logical scope) → is_ready p.state ≡ true →
      after ≡ record p { state = states.Blocked (calls.GetPid logical scope); lookups = p.lookups + 1 } →
      l.lookups q (p.lookups + 1) ≡ Some (record { logical = logical; candidates = [] }) → Touch k s l q p after
  moves : (partner : Pid) (d : Direction) (dest src count number : ℕ) (e : Exchange) →
      s ≡ steps.Call q (move_call d partner dest src count) → is_ready p.state ≡ true → is_at_once q partner count ≡ false →
      held k q partner ≡ Some number → k.exchanges (name_of partner number) ≡ Some e →
      after ≡ in_move p (called_move q p d dest src count) (name_of partner number) (length e.moves + 1) →
      l.exchanges (name_of partner number) ≡ Some (pushed e (called_move q p d dest src count)) → Touch k s l q p after
  -- a call of another process of its station: it holds the message of this one, or exits
  given : (pid : Pid) (dest src count number : ℕ) (memory : List ℕ) → s ≡ steps.Call pid (calls.MoveTo q dest src count) →
      held k pid q ≡ Some number → same_host pid q ≡ true → after ≡ record p { memory = memory } →
      ((n : Name) → l.exchanges n ≡ k.exchanges n) → Touch k s l q p after
  bereft : (pid : Pid) → s ≡ steps.Call pid calls.Exit → is_bereft k pid q p ≡ true →
      after ≡ ended_with p (answers.Refused refusals.NoProcess) → Touch k s l q p after
  -- what a call comes to
  takes : (t : Taking) → s ≡ steps.Take q → taking k q ≡ Some t → p ≡ t.process → after ≡ with_message t → Touch k s l q p after
  finishes : (f : Finishing) → s ≡ steps.Finish q → finishing k q ≡ Some f → p ≡ f.process → after ≡ with_reply f → Touch k s l q p after
  fails : (why : Ending) (f : Process × Refusal) → s ≡ steps.Fail q why → failing k q why ≡ Some f → p ≡ f.0 →
      after ≡ ended_with p (answers.Refused f.1) → Touch k s l q p after
  writes : (n : Name) (number offset count : ℕ) (c : Copying) → s ≡ steps.Copy n.sender n.number number offset count →
      copying k n number offset count ≡ Some c → c.pid ≡ q → p ≡ c.process → after ≡ with_copy offset count c →
      l.exchanges n ≡ Some (record c.exchange { done = c.exchange.done + count }) → Touch k s l q p after
  ends : (why : Ending) (x : Process × Answer) → s ≡ steps.End q why → ending k q why ≡ Some x → p ≡ x.0 → after ≡ ended_with p x.1 →
      Touch k s l q p after
  finds : (pid : Pid) → s ≡ steps.Found q pid → finding k q pid ≡ Some p → after ≡ ended_with p (answers.Found pid) → Touch k s l q p after
  loses : s ≡ steps.Lost q → asking k q ≡ Some p → after ≡ ended_with p (answers.Refused refusals.NotFound) → Touch k s l q p after
  collects : (d : Collecting) → s ≡ steps.Collect q → collecting k q ≡ Some d → p ≡ d.process → after ≡ record p { state = states.Ready } →
      Touch k s l q p after

pub record HadTouch (k : Kernel) (s : Step) (l : Kernel) (q : Pid) (after : Process) : Type 0 where
  pub process : Process
  pub is : k.procs q ≡ Some process
  pub on : Touch k s l q process after

abbrev pub AllTouch : Kernel → Step → Kernel → Type 0
AllTouch k s l = (q : Pid) (after : Process) → l.procs q ≡ Some after → HadTouch k s l q after

-- Changes.
self_touch : (k : Kernel) (s : Step) (l : Kernel) → ((q : Pid) → l.procs q ≡ k.procs q) → AllTouch k s l
self_touch k s l same q p at = record { process = p; is = sym (same q) ∙ at; on = Touch.rests refl }

put_touch : (k : Kernel) (s : Step) (l : Kernel) (pid : Pid) (p after : Process) → k.procs pid ≡ Some p →
    ((q : Pid) → l.procs q ≡ put_process k.procs pid after q) → Touch k s l pid p after → AllTouch k s l
put_touch k s l pid p after at is on q x at_x = elim (cases_Bool (same_pid q pid)) [
  | inl t ↦
      let same : after ≡ x = same_Some after x (sym (is q ∙ put_process_at k.procs pid after q t) ∙ at_x) in
      record {
        process = p;
        is = ap k.procs (same_pid_is q pid t) ∙ at;
        on = subst₂ (λ z y. Touch k s l z p y) (sym (same_pid_is q pid t)) same on;
      }
  | inr f ↦ record { process = x; is = sym (put_process_other k.procs pid after q f) ∙ sym (is q) ∙ at_x; on = Touch.rests refl }
]

by_effect : (k : Kernel) (s : Step) (f e : Effect) → Some f ≡ Some e → AllTouch k s f.after → AllTouch k s e.after
by_effect k s f e g on = subst (λ (y : Effect). AllTouch k s y.after) (same_Some f e g) on

self_effect : (k : Kernel) (s : Step) (f e : Effect) → Some f ≡ Some e → ((q : Pid) → f.after.procs q ≡ k.procs q) → AllTouch k s e.after
self_effect k s f e g same = by_effect k s f e g (self_touch k s f.after same)

put_effect : (k : Kernel) (s : Step) (f e : Effect) → Some f ≡ Some e → (pid : Pid) (p after : Process) → k.procs pid ≡ Some p →
    ((q : Pid) → f.after.procs q ≡ put_process k.procs pid after q) → Touch k s f.after pid p after → AllTouch k s e.after
put_effect k s f e g pid p after at is on = by_effect k s f e g (put_touch k s f.after pid p after at is on)

-- Calls.
sent_touch : (k : Kernel) (pid : Pid) (p : Process) (target : Pid) (m : Message) → k.procs pid ≡ Some p → is_ready p.state ≡ true →
    AllTouch k (steps.Call pid (calls.Send target m)) (sent k pid p target m)
unfolding sent
sent_touch k pid p target m at ready =
    put_touch k (steps.Call pid (calls.Send target m)) (sent k pid p target m) pid p
    (record p { state = states.Blocked (calls.Send target m); sends = p.sends + 1 }) at (λ q. refl)
    (Touch.sends target m refl ready refl (put_exchange_here k.exchanges (name_of pid (p.sends + 1)) (sent_exchange pid p target m)))

replied_touch : (k : Kernel) (s : Step) (pid : Pid) (c : Call) (to : Pid) (m : Message) (dest : ℕ) (bytes : List ℕ) (e : Effect) →
    replied k pid c to m dest bytes ≡ Some e → AllTouch k s e.after
replied_touch k s pid c to m dest bytes e g =
    let number = bind_is (held k pid to) _ e g in
    let a = bind_is (k.exchanges (name_of to number.0)) _ e number.2 in
    self_effect k s _ e a.2 (λ q. refl)

forwarded_touch : (k : Kernel) (s : Step) (pid : Pid) (c : Call) (m : Message) (from to : Pid) (e : Effect) →
    forward k pid c m from to ≡ Some e → AllTouch k s e.after
unfolding forwarded
forwarded_touch k s pid c m from to e g =
    let number = bind_is (held k pid from) _ e g in
    let a = bind_is (k.exchanges (name_of from number.0)) _ e number.2 in
    self_effect k s _ e a.2 (λ q. refl)

at_once_touch : (k : Kernel) (s : Step) (pid : Pid) (c : Call) (into : Pid) (dest : ℕ) (bytes : List ℕ) (e : Effect) →
    ((q : Process) (l : Kernel) → k.procs into ≡ Some q → ((n : Name) → l.exchanges n ≡ k.exchanges n) →
    Touch k s l into q (record q { memory = with_bytes q.memory dest bytes })) → copied_at_once k pid c into dest bytes ≡ Some e →
    AllTouch k s e.after
unfolding copied_at_once
at_once_touch k s pid c into dest bytes e on g =
    let q = bind_is (k.procs into) _ e g in
    let memory = with_bytes q.0.memory dest bytes in
    put_effect k s _ e q.2 into q.0 (record q.0 { memory = memory }) q.1 (λ z. refl) (on q.0 (with_memory k into q.0 memory) q.1 (λ n. refl))

begun_touch : (k : Kernel) (pid : Pid) (p : Process) (partner : Pid) (d : Direction) (dest src count : ℕ) (e : Effect) →
    k.procs pid ≡ Some p → is_ready p.state ≡ true → is_at_once pid partner count ≡ false →
    begin_move k pid p (move_call d partner dest src count) partner (called_move pid p d dest src count) ≡ Some e →
    AllTouch k (steps.Call pid (move_call d partner dest src count)) e.after
unfolding move_begun
begun_touch k pid p partner d dest src count e at ready later g =
    let m = called_move pid p d dest src count in
    let number = bind_is (held k pid partner) _ e g in
    let n = name_of partner number.0 in
    let a = bind_is (k.exchanges n) _ e number.2 in
    put_effect k (steps.Call pid (move_call d partner dest src count)) _ e a.2 pid p (in_move p m n (length a.0.moves + 1)) at (λ q. refl)
    (Touch.moves partner d dest src count number.0 a.0 refl ready later number.1 a.1 refl (put_exchange_here k.exchanges n (pushed a.0 m)))

got_touch : (k : Kernel) (pid : Pid) (p : Process) (logical : ℕ) (scope : Scope) (o : Option Pid) → k.procs pid ≡ Some p →
    is_ready p.state ≡ true →
    AllTouch k (steps.Call pid (calls.GetPid logical scope)) (get_pid k pid p (calls.GetPid logical scope) logical o).after
unfolding lookup_begun
got_touch k pid p logical scope None at ready =
    let c : Call = calls.GetPid logical scope in
    put_touch k (steps.Call pid c) (lookup_begun k pid p c logical) pid p
    (record p { state = states.Blocked c; lookups = p.lookups + 1 }) at (λ q. refl)
    (Touch.asks logical scope refl ready refl (lookup_here k.lookups pid (p.lookups + 1) (record { logical = logical; candidates = [] })))
got_touch k pid p logical scope (Some q) at ready = self_touch k (steps.Call pid (calls.GetPid logical scope)) k (λ z. refl)

exited_touch : (k : Kernel) (pid : Pid) (p : Process) → k.procs pid ≡ Some p → is_ready p.state ≡ true →
    AllTouch k (steps.Call pid calls.Exit) (exited k pid p)
unfolding exited
exited_touch k pid p at ready q x at_x =
    let s : Step = steps.Call pid calls.Exit in
    let dead : Option Process = Some (record p { alive = false }) in
    let left : Option Process = option_map (released k pid q) (k.procs q) in
    elim (cases_Bool (same_pid q pid)) [
      | inl t ↦
          let own : q ≡ pid = same_pid_is q pid t in
          let same : record p { alive = false } ≡ x = same_Some _ x (sym (cond-true (same_pid q pid) dead left t) ∙ at_x) in
          record {
            process = p;
            is = ap k.procs own ∙ at;
            on = Touch.exits (ap (λ (z : Pid). steps.Call z calls.Exit) (sym own)) ready (sym same);
          }
      | inr f ↦
          let y = mapped_is (released k pid q) (k.procs q) x (sym (cond-false (same_pid q pid) dead left f) ∙ at_x) in
          record {
            process = y.0;
            is = y.1;
            on = subst (Touch k s (exited k pid p) q y.0) y.2
                (cond_both (is_bereft k pid q y.0) (ended_with y.0 (answers.Refused refusals.NoProcess)) y.0
                (Touch k s (exited k pid p) q y.0) (λ t. Touch.bereft pid refl t refl) (λ g. Touch.rests refl));
          }
    ]

moved_to : (k : Kernel) (pid : Pid) (p : Process) (partner : Pid) (dest src count : ℕ) (e : Effect) → k.procs pid ≡ Some p →
    IsFit k pid p (calls.MoveTo partner dest src count) → accepted k pid p (calls.MoveTo partner dest src count) ≡ Some e →
    AllTouch k (steps.Call pid (calls.MoveTo partner dest src count)) e.after
moved_to k pid p partner dest src count e at fit g =
    let c : Call = calls.MoveTo partner dest src count in
    let s : Step = steps.Call pid c in
    let bytes = bytes_in (range_of src count) p.memory in
    let tests = four_tests (nat_lt 65536 count) (is_none (held k pid partner)) (not (may_write (held_exchange k pid partner)))
    (is_granted (held_exchange k pid partner) dest count) (is_own p src count) refusals.TooLong refusals.NotAwaiting refusals.NoAccess
    refusals.BadRange fit.rest in
    let number = some_not_none (held k pid partner) tests.0 in
    of_either (λ (y : Effect). AllTouch k s y.after) (is_at_once pid partner count) (copied_at_once k pid c partner dest bytes)
    (begin_move k pid p c partner (called_move pid p directions.To dest src count)) e
    (λ once. at_once_touch k s pid c partner dest bytes e (λ q l at_q same. elim (or_cases (same_host pid partner) (count == 0) once) [
      | inl near ↦ Touch.given pid dest src count number.0 (with_bytes q.memory dest bytes) refl number.1 near refl same
      | inr none ↦
          let empty : bytes ≡ [] = ap (λ n. take n (drop src p.memory)) (eqb-true count 0 none) in
          Touch.rests (ap (λ m. record q { memory = m }) (ap (with_bytes q.memory dest) empty ∙ with_no_bytes q.memory dest))
    ]))
    (λ later. begun_touch k pid p partner directions.To dest src count e at fit.ready later) g

moved_from : (k : Kernel) (pid : Pid) (p : Process) (partner : Pid) (dest src count : ℕ) (e : Effect) → k.procs pid ≡ Some p →
    is_ready p.state ≡ true → accepted k pid p (calls.MoveFrom partner dest src count) ≡ Some e →
    AllTouch k (steps.Call pid (calls.MoveFrom partner dest src count)) e.after
moved_from k pid p partner dest src count e at ready g =
    let c : Call = calls.MoveFrom partner dest src count in
    let s : Step = steps.Call pid c in
    of_either (λ (y : Effect). AllTouch k s y.after) (is_at_once pid partner count)
    (k.procs partner >>= λ q. copied_at_once k pid c pid dest (bytes_in (range_of src count) q.memory))
    (begin_move k pid p c partner (called_move pid p directions.From dest src count)) e
    (λ once f. let q = bind_is (k.procs partner) _ e f in
    at_once_touch k s pid c pid dest (bytes_in (range_of src count) q.0.memory) e (λ z l at_z same.
    let still : is_ready z.state ≡ true = ap (λ (w : Process). is_ready w.state) (same_Some z p (sym at_z ∙ at)) ∙ ready in
    Touch.stores c _ refl still refl) q.2)
    (λ later. begun_touch k pid p partner directions.From dest src count e at ready later) g

accepted_touch : (k : Kernel) (pid : Pid) (p : Process) (c : Call) (e : Effect) → k.procs pid ≡ Some p → IsFit k pid p c →
    accepted k pid p c ≡ Some e → AllTouch k (steps.Call pid c) e.after
accepted_touch k pid p (calls.Send target m) e at fit g =
    by_effect k (steps.Call pid (calls.Send target m)) _ e g (sent_touch k pid p target m at fit.ready)
accepted_touch k pid p calls.Receive e at fit g =
    put_effect k (steps.Call pid calls.Receive) _ e g pid p (record p { state = states.Blocked calls.Receive }) at (λ q. refl)
    (Touch.receives calls.Receive refl fit.ready refl refl)
accepted_touch k pid p (calls.ReceiveSegment start count) e at fit g =
    put_effect k (steps.Call pid (calls.ReceiveSegment start count)) _ e g pid p
    (record p { state = states.Blocked (calls.ReceiveSegment start count) }) at (λ q. refl)
    (Touch.receives (calls.ReceiveSegment start count) refl fit.ready refl refl)
accepted_touch k pid p (calls.Reply m to) e at fit g =
    replied_touch k (steps.Call pid (calls.Reply m to)) pid (calls.Reply m to) to m 0 [] e g
accepted_touch k pid p (calls.ReplySegment m to dest src count) e at fit g =
    replied_touch k (steps.Call pid (calls.ReplySegment m to dest src count)) pid (calls.ReplySegment m to dest src count) to m dest
    (bytes_in (range_of src count) p.memory) e g
accepted_touch k pid p (calls.Forward m from to) e at fit g =
    forwarded_touch k (steps.Call pid (calls.Forward m from to)) pid (calls.Forward m from to) m from to e g
accepted_touch k pid p (calls.MoveTo partner dest src count) e at fit g = moved_to k pid p partner dest src count e at fit g
accepted_touch k pid p (calls.MoveFrom partner dest src count) e at fit g = moved_from k pid p partner dest src count e at fit.ready g
accepted_touch k pid p (calls.SetPid logical q scope) e at fit g =
    self_effect k (steps.Call pid (calls.SetPid logical q scope)) _ e g (λ q. refl)
accepted_touch k pid p (calls.GetPid logical scope) e at fit g =
    by_effect k (steps.Call pid (calls.GetPid logical scope)) _ e g
    (got_touch k pid p logical scope (found_at_once k pid logical scope) at fit.ready)
accepted_touch k pid p (calls.Load start count) e at fit g = self_effect k (steps.Call pid (calls.Load start count)) _ e g (λ q. refl)
accepted_touch k pid p (calls.Store start bytes) e at fit g =
    put_effect k (steps.Call pid (calls.Store start bytes)) _ e g pid p (record p { memory = with_bytes p.memory start bytes }) at
    (λ q. refl) (Touch.stores (calls.Store start bytes) _ refl fit.ready refl)
accepted_touch k pid p calls.Exit e at fit g = by_effect k (steps.Call pid calls.Exit) _ e g (exited_touch k pid p at fit.ready)

called_touch : (k : Kernel) (pid : Pid) (p : Process) (c : Call) (why : Option Refusal) (e : Effect) → k.procs pid ≡ Some p →
    call_refusal k pid p c ≡ why → called k pid p c why ≡ Some e → AllTouch k (steps.Call pid c) e.after
called_touch k pid p c None e at fine g = accepted_touch k pid p c e at (fit_is k pid p c fine) g
called_touch k pid p c (Some why) e at fine g = self_effect k (steps.Call pid c) _ e g (λ q. refl)

-- All steps.
pub all_touch : (k : Kernel) (s : Step) (e : Effect) → effect k s ≡ Some e → AllTouch k s e.after
unfolding with_arrival taken move_opened copied
all_touch k (steps.Call pid c) e g =
    let p = bind_is (k.procs pid) _ e g in called_touch k pid p.0 c (call_refusal k pid p.0 c) e p.1 refl p.2
all_touch k (steps.Arrive sender number) e g =
    let x = bind_is (arriving k (name_of sender number)) _ e g in
    self_effect k (steps.Arrive sender number) _ e x.2 (λ q. refl)
all_touch k (steps.Take r) e g =
    let t = bind_is (taking k r) _ e g in
    put_effect k (steps.Take r) _ e t.2 r t.0.process (with_message t.0) (taking_is k r t.0 t.1).process (λ q. refl)
    (Touch.takes t.0 refl t.1 refl refl)
all_touch k (steps.Finish s) e g =
    let f = bind_is (finishing k s) _ e g in
    put_effect k (steps.Finish s) _ e f.2 s f.0.process (with_reply f.0) (finishing_is k s f.0 f.1).process (λ q. refl)
    (Touch.finishes f.0 refl f.1 refl refl)
all_touch k (steps.Fail s why) e g =
    let f = bind_is (failing k s why) _ e g in
    put_effect k (steps.Fail s why) _ e f.2 s f.0.0 (ended_with f.0.0 (answers.Refused f.0.1)) (failing_is k s why f.0 f.1).process
    (λ q. refl) (Touch.fails why f.0 refl f.1 refl refl)
all_touch k (steps.OpenMove sender number moving) e g =
    let o = bind_is (opening_move k (name_of sender number) moving) _ e g in
    self_effect k (steps.OpenMove sender number moving) _ e o.2 (λ q. refl)
all_touch k (steps.Copy sender number moving offset count) e g =
    let n = name_of sender number in
    let c = bind_is (copying k n moving offset count) _ e g in
    put_effect k (steps.Copy sender number moving offset count) _ e c.2 c.0.pid c.0.process (with_copy offset count c.0)
    (copying_is k n moving offset count c.0 c.1).process (λ q. refl)
    (Touch.writes n moving offset count c.0 refl c.1 refl refl refl
    (put_exchange_here k.exchanges n (record c.0.exchange { done = c.0.exchange.done + count })))
all_touch k (steps.End r why) e g =
    let x = bind_is (ending k r why) _ e g in
    put_effect k (steps.End r why) _ e x.2 r x.0.0 (ended_with x.0.0 x.0.1) (ending_is k r why x.0 x.1).process (λ q. refl)
    (Touch.ends why x.0 refl x.1 refl refl)
all_touch k (steps.Hear asker number pid) e g =
    let x = bind_is (hearing k asker number pid) _ e g in
    self_effect k (steps.Hear asker number pid) _ e x.2 (λ q. refl)
all_touch k (steps.Found asker pid) e g =
    let p = bind_is (finding k asker pid) _ e g in
    put_effect k (steps.Found asker pid) _ e p.2 asker p.0 (ended_with p.0 (answers.Found pid)) (finding_is k asker pid p.0 p.1).asks.process
    (λ q. refl) (Touch.finds pid refl p.1 refl)
all_touch k (steps.Lost asker) e g =
    let p = bind_is (asking k asker) _ e g in
    put_effect k (steps.Lost asker) _ e p.2 asker p.0 (ended_with p.0 (answers.Refused refusals.NotFound)) (asking_is k asker p.0 p.1).process
    (λ q. refl) (Touch.loses refl p.1 refl)
all_touch k (steps.Collect pid) e g =
    let d = bind_is (collecting k pid) _ e g in
    put_effect k (steps.Collect pid) _ e d.2 pid d.0.process (record d.0.process { state = states.Ready })
    (collecting_is k pid d.0 d.1).process (λ q. refl) (Touch.collects d.0 refl d.1 refl refl)
