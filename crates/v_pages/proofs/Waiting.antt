-- While a sender waits for a page server nothing writes into its memory.
use Rattle.std.proofs.Common.{◌≡◌, ℕ, zero, suc, ◌+◌, ◌<◌, true, List, [], slice_get, Option, Some, None, option_map, refl, sym, ap, subst, ◌∙◌, inl, inr, arith}
use Rattle.std.specs.Prelude.{find}
use Rattle.std.proofs.lemmas.Bool.{and_parts, both_ways, cases_Bool, eqb-true}
use Rattle.std.proofs.lemmas.Option.{same_Some, none-some}
use Rattle.vk_types.specs.Types.{Direction, Exchange, Message, Name, Pid, Process, ProcessSpec, Step}
use Rattle.vk_base.specs.declared.call.Call.TheVariants as calls
use Rattle.vk_base.specs.declared.kernel.Direction.TheVariants as directions
use Rattle.vk_base.specs.declared.kernel.State.TheVariants as states
use Rattle.vk_base.specs.declared.step.Step.TheVariants as steps
use Rattle.vk_base.specs.Calls.{Effect, forwarded, sent}
use Rattle.vk_base.specs.Kernel.{Kernel, held, holds_of, is_moving, move_of, name_of, put_process, sending, waiting_on}
use Rattle.vk_base.specs.Pids.{same_host, same_pid}
use Rattle.vk_base.specs.Settings.{is_process}
use Rattle.vk_base.specs.Steps.{Copying, effect, is_in_move, same_move, with_arrival, written_process}
use Rattle.vk_base.proofs.OptionLemmas.{bind_is}
use Rattle.v_laws.specs.Moves.{move_call}
use Rattle.v_laws.specs.Places.{before}
use Rattle.v_laws.specs.Sound.{IsSound}
use Rattle.v_laws.proofs.Changes.{ProcessOn, taken_is_at_target}
use Rattle.v_laws.proofs.Held.{holding_is}
use Rattle.v_laws.proofs.MoveLists.{no_move}
use Rattle.v_laws.proofs.MoveSteps.{MoveOn, all_moves, pushed, unstaged}
use Rattle.v_laws.proofs.PlaceLemmas.{ComesOfStep, before_first, before_next, before_sound}
use Rattle.v_laws.proofs.Related.{related_after}
use Rattle.v_laws.proofs.SoundCalls.{IsSoundStep}
use Rattle.v_laws.proofs.SoundLemmas.{initial_ready, step_is}
use Rattle.v_laws.proofs.States.{moving_sends_none}
use Rattle.v_laws.proofs.StepLemmas.{copying_is, only_if_is, opening_is, waiting_is}
use Rattle.v_laws.proofs.Tables.{same_pid_is, put_process_at, put_process_other}
use Rattle.v_pages.proofs.Collected.{was_there}
use Rattle.v_pages.proofs.Staying.{AllAsSent, KeepsAll, KeepsEach, as_sent, everywhere, gives_away, never_hands}
use Rattle.v_pages.proofs.Touched.{Kept, Touched, is_waiting, near_target, sending_waits, touched}

-- No exchange with a page server has a move.
abbrev NoMoves : Kernel → Pid → Type 0
NoMoves k r = (n : Name) (e : Exchange) → k.exchanges n ≡ Some e → e.target ≡ r → e.moves ≡ []

call_moves : (d : Direction) (partner : Pid) (dest src count : ℕ) → gives_away (move_call d partner dest src count) ≡ true
call_moves directions.To partner dest src count = refl
call_moves directions.From partner dest src count = refl

none_after : (k l : Kernel) (s : Step) (r : Pid) (n : Name) (y : Exchange) → KeepsAll r s → AllAsSent k r → NoMoves k r →
    (o p : Option Exchange) → k.exchanges n ≡ o → p ≡ Some y → y.target ≡ r → MoveOn k s l n o p → y.moves ≡ []
none_after k l s r n y not own none None p at now target (MoveOn.stays same alone place) =
    absurd (none-some (unstaged y) (sym same ∙ ap (option_map unstaged) now))
none_after k l s r n y not own none (Some x) p at now target (MoveOn.stays same alone place) =
    let one : unstaged y ≡ unstaged x = same_Some (unstaged y) (unstaged x) (ap (option_map unstaged) (sym now) ∙ same) in
    ap (λ (z : Exchange). z.moves) one ∙ none n x at (ap (λ (z : Exchange). z.target) (sym one) ∙ target)
none_after k l s r n y not own none o p at now target (MoveOn.begins z was is first opened alone) =
    ap (λ (w : Exchange). w.moves) (same_Some y z (sym now ∙ is)) ∙ first
none_after k l s r n y not own none o p at now target (MoveOn.pushes x m was call is moved) =
    let one : y ≡ pushed x m = same_Some y (pushed x m) (sym now ∙ is) in
    let here = own n x (at ∙ was) (ap (λ (w : Exchange). w.target) (sym one) ∙ target) in
    let c = move_call m.direction n.sender m.dest m.src m.count in
    absurd (both_ways (gives_away c) (not c (call.is ∙ ap (λ q. steps.Call q c) (sym call.holds ∙ here.at)))
    (call_moves m.direction n.sender m.dest m.src m.count))
none_after k l s r n y not own none o p at now target (MoveOn.opens number a step g was is) =
    let one = same_Some y _ (sym now ∙ is) in
    let first = none n a.exchange (at ∙ was) (ap (λ (w : Exchange). w.target) (sym one) ∙ target) in
    absurd (none-some a.move (sym (no_move a.exchange number first) ∙ (opening_is k n number a g).move))
none_after k l s r n y not own none o p at now target (MoveOn.copies number offset count c step g was is memory) =
    let one = same_Some y _ (sym now ∙ is) in
    let first = none n c.exchange (at ∙ was) (ap (λ (w : Exchange). w.target) (sym one) ∙ target) in
    absurd (none-some c.move (sym (no_move c.exchange number first) ∙ (copying_is k n number offset count c g).move))

moves_step : (k : Kernel) (s : Step) (e : Effect) (r : Pid) → IsSound k → effect k s ≡ Some e → KeepsAll r s → AllAsSent k r →
    NoMoves k r → NoMoves e.after r
moves_step k s e r sound does not own none n y at target =
    none_after k e.after s r n y not own none (k.exchanges n) (e.after.exchanges n) refl at target (all_moves k s e sound does n)

no_moves : (specs : List ProcessSpec) (ss : List Step) (r : Pid) → KeepsEach ss r →
    (i : ℕ) (k : Kernel) → before specs ss i ≡ Some k → NoMoves k r
no_moves specs ss r keeps = everywhere specs ss (λ k. NoMoves k r) (λ n e is target. absurd (none-some e is))
    (λ i k s e is at sound does none. moves_step k s e r sound does (keeps i s is)
    (as_sent specs ss r (never_hands ss r keeps) i k at) none)

-- What is copied to a process that waits in a Send is of a move of that Send's exchange.
pub copied_own : (k : Kernel) (s : Pid) (y : Pid × Message) (x : Process) (n : Name) (number : ℕ) (c : Copying) (d : Direction) →
    sending x.state ≡ Some y → written_process k n number c.move.mover d ≡ Some (c.pid, c.process) → c.pid ≡ s → c.process ≡ x →
    n ≡ name_of s x.sends
copied_own k s y x n number c directions.To sends g mine who =
    let p = bind_is (waiting_on k n) _ (c.pid, c.process) g in
    let w = waiting_is k n p.0 p.1 in
    let same = same_Some (n.sender, p.0) (c.pid, c.process) p.2 in
    let sender : n.sender ≡ s = ap (λ (z : Pid × Process). z.0) same ∙ mine in
    let process : p.0 ≡ x = ap (λ (z : Pid × Process). z.1) same ∙ who in
    let last : n.number ≡ x.sends = sym (eqb-true p.0.sends n.number w.last) ∙ ap (λ (z : Process). z.sends) process in
    (λ j. name_of (sender j) (last j))
copied_own k s y x n number c directions.From sends g mine who =
    let p = bind_is (k.procs c.move.mover) _ (c.pid, c.process) g in
    let test = only_if_is (is_in_move n number p.0) (Some (c.move.mover, p.0)) (c.pid, c.process) p.2 in
    let moves = (and_parts (is_moving p.0.state) (holds_of (λ m. same_move m n number) p.0.moving) test.0).0 in
    let process : p.0 ≡ x = ap (λ (z : Pid × Process). z.1) (same_Some (c.move.mover, p.0) (c.pid, c.process) test.1) ∙ who in
    absurd (none-some y (sym (moving_sends_none p.0.state moves) ∙ ap (λ (z : Process). sending z.state) process ∙ sends))

-- so none is copied to one that waits for the server
written_not : (k : Kernel) (r s : Pid) (m : Message) (x : Process) (n : Name) (number : ℕ) (c : Copying) → IsSound k → NoMoves k r →
    k.procs s ≡ Some x → sending x.state ≡ Some (r, m) → k.exchanges n ≡ Some c.exchange → move_of c.exchange number ≡ Some c.move →
    n ≡ name_of s x.sends → ⊥
written_not k r s m x n number c sound none at sends is move name =
    let w = sound.sent s x r m at sends in
    let same : c.exchange ≡ w.exchange = same_Some c.exchange w.exchange (sym is ∙ ap k.exchanges name ∙ w.is) in
    none-some c.move
    (sym (no_move c.exchange number (none n c.exchange is (ap (λ (z : Exchange). z.target) same ∙ w.target))) ∙ move)

moved_not : (k : Kernel) (t : Step) (r s pid : Pid) (m : Message) (x : Process) (dest src count number : ℕ) → IsSound k → KeepsAll r t →
    AllAsSent k r → k.procs s ≡ Some x → sending x.state ≡ Some (r, m) → t ≡ steps.Call pid (calls.MoveTo s dest src count) →
    held k pid s ≡ Some number → same_host pid s ≡ true → ⊥
moved_not k t r s pid m x dest src count number sound not own at sends step holds near =
    let h = holding_is k pid s number holds in
    let w = sound.awaited (name_of s number) h.exchange h.is (near_target k s pid number h sound near)
    (taken_is_at_target h.exchange.stage h.taken) in
    let blocked : x.state ≡ states.Blocked (calls.Send h.exchange.target h.exchange.message) =
    ap (λ (z : Process). z.state) (same_Some x w.process (sym at ∙ w.is)) ∙ w.blocked in
    let same = same_Some (h.exchange.target, h.exchange.message) (r, m) (ap sending (sym blocked) ∙ sends) in
    let here = own (name_of s number) h.exchange h.is (ap (λ (z : Pid × Message). z.0) same) in
    let who : pid ≡ r = sym (same_pid_is h.exchange.at pid h.at) ∙ here.at in
    both_ways true (not (calls.MoveTo s dest src count) (step ∙ ap (λ q. steps.Call q (calls.MoveTo s dest src count)) who)) refl

kept_memory : (k : Kernel) (t : Step) (r s : Pid) (m : Message) (x p : Process) → IsSound k → KeepsAll r t → AllAsSent k r → NoMoves k r →
    k.procs s ≡ Some x → sending x.state ≡ Some (r, m) → Kept k t s x p → p.memory ≡ x.memory
kept_memory k t r s m x p sound not own none at sends (Kept.stays same) = same
kept_memory k t r s m x p sound not own none at sends (Kept.copied_to n number offset count c g mine who) =
    let is = copying_is k n number offset count c g in
    absurd (written_not k r s m x n number c sound none at sends is.exchange is.move
    (copied_own k s (r, m) x n number c c.move.direction sends is.written mine who))
kept_memory k t r s m x p sound not own none at sends (Kept.moved pid dest src count number step holds near) =
    absurd (moved_not k t r s pid m x dest src count number sound not own at sends step holds near)

-- One step back from a sender that waits for r.
pub data Back (t : Step) (s r : Pid) (m : Message) (x p : Process) : Type 0 where
  here : t ≡ steps.Call s (calls.Send r m) → p.sends ≡ x.sends + 1 → p.memory ≡ x.memory → Back t s r m x p
  waited : sending x.state ≡ Some (r, m) → p.sends ≡ x.sends → Back t s r m x p

same_back : (t : Step) (s r : Pid) (m : Message) (x p : Process) → x ≡ p → sending p.state ≡ Some (r, m) → Back t s r m x p
same_back t s r m x p same sends =
    Back.waited (ap (λ (z : Process). sending z.state) same ∙ sends) (ap (λ (z : Process). z.sends) (sym same))

touched_memory : (k : Kernel) (t : Step) (r s : Pid) (m : Message) (x p : Process) → IsSound k → KeepsAll r t → AllAsSent k r →
    NoMoves k r → k.procs s ≡ Some x → sending x.state ≡ Some (r, m) → sending p.state ≡ Some (r, m) → Touched k t s x p →
    p.memory ≡ x.memory
touched_memory k t r s m x p sound not own none at sends now (Touched.rests same) = ap (λ (z : Process). z.memory) same
touched_memory k t r s m x p sound not own none at sends now (Touched.makes c step idle reply) =
    absurd (both_ways (is_waiting x.state) idle (sending_waits x.state (r, m) sends))
touched_memory k t r s m x p sound not own none at sends now (Touched.takes step idle reply) =
    absurd (both_ways (is_waiting x.state) idle (sending_waits x.state (r, m) sends))
touched_memory k t r s m x p sound not own none at sends now (Touched.collects step idle reply) =
    absurd (both_ways (is_waiting x.state) idle (sending_waits x.state (r, m) sends))
touched_memory k t r s m x p sound not own none at sends now (Touched.finishes step over) = absurd (none-some (r, m) (sym over ∙ now))
touched_memory k t r s m x p sound not own none at sends now (Touched.waits w reply kept on stays) =
    kept_memory k t r s m x p sound not own none at sends kept

sent_procs : (k : Kernel) (pid : Pid) (p : Process) (target : Pid) (m : Message) (q : Pid) →
    (sent k pid p target m).procs q ≡
    put_process k.procs pid (record p { state = states.Blocked (calls.Send target m); sends = p.sends + 1 }) q
unfolding sent
sent_procs k pid p target m q = refl

arrived_procs : (k : Kernel) (n : Name) (e : Exchange) (q : Pid) → (with_arrival k n e).procs q ≡ k.procs q
unfolding with_arrival
arrived_procs k n e q = refl

forwarded_procs : (k : Kernel) (n : Name) (e : Exchange) (m : Message) (to q : Pid) → (forwarded k n e m to).procs q ≡ k.procs q
unfolding forwarded
forwarded_procs k n e m to q = refl

sent_back : (k : Kernel) (t : Step) (l : Kernel) (s r : Pid) (m : Message) (x p : Process) (pid : Pid) (y : Process) (target : Pid)
    (n : Message) → k.procs s ≡ Some x → l.procs s ≡ Some p → sending p.state ≡ Some (r, m) → t ≡ steps.Call pid (calls.Send target n) →
    k.procs pid ≡ Some y → l ≡ sent k pid y target n → Back t s r m x p
sent_back k t l s r m x p pid y target n at now sends step there after = elim (cases_Bool (same_pid s pid)) [
  | inl own ↦
      let who = same_pid_is s pid own in
      let z = record y { state = states.Blocked (calls.Send target n); sends = y.sends + 1 } in
      let new : z ≡ p = same_Some z p (sym (put_process_at k.procs pid z s own) ∙ procs ∙ now) in
      let old : y ≡ x = same_Some y x (sym there ∙ ap k.procs (sym who) ∙ at) in
      let same = same_Some (target, n) (r, m) (ap (λ (w : Process). sending w.state) new ∙ sends) in
      Back.here (step ∙ (λ j. steps.Call (sym who j) (calls.Send (ap (λ (w : Pid × Message). w.0) same j)
      (ap (λ (w : Pid × Message). w.1) same j))))
      (ap (λ (w : Process). w.sends) (sym new) ∙ ap (λ (w : Process). w.sends + 1) old)
      (ap (λ (w : Process). w.memory) (sym new) ∙ ap (λ (w : Process). w.memory) old)
  | inr other ↦
      let z = record y { state = states.Blocked (calls.Send target n); sends = y.sends + 1 } in
      same_back t s r m x p (same_Some x p (sym at ∙ sym (put_process_other k.procs pid z s other) ∙ procs ∙ now)) sends
]
  where
    procs : put_process k.procs pid (record y { state = states.Blocked (calls.Send target n); sends = y.sends + 1 }) s ≡ l.procs s
    procs = sym (sent_procs k pid y target n s) ∙ ap (λ (z : Kernel). z.procs s) (sym after)

pub step_back : (k : Kernel) (t : Step) (l : Kernel) (r s : Pid) (m : Message) (x p : Process) → k.procs s ≡ Some x → l.procs s ≡ Some p →
    sending p.state ≡ Some (r, m) → IsSoundStep t k l → Back t s r m x p
step_back k t l r s m x p at now sends (IsSoundStep.goes on) =
    let y = related_after (ProcessOn t s) (k.procs s) (l.procs s) x (on.processes s) at in
    let later : ProcessOn t s x p = subst (ProcessOn t s x) (same_Some y.0 p (sym y.1 ∙ now)) y.2 in
    Back.waited (later.sent (r, m) sends) later.sends
step_back k t l r s m x p at now sends (IsSoundStep.sends pid y target n is there fit after) =
    sent_back k t l s r m x p pid y target n at now sends is there after
step_back k t l r s m x p at now sends (IsSoundStep.arrives n e is g after) =
    same_back t s r m x p
    (same_Some x p (sym at ∙ sym (arrived_procs k n e s) ∙ ap (λ (z : Kernel). z.procs s) (sym after) ∙ now)) sends
step_back k t l r s m x p at now sends (IsSoundStep.forwards pid y n from to is f) =
    same_back t s r m x p
    (same_Some x p (sym at ∙ sym (forwarded_procs k (name_of from f.number) f.exchange n to s)
    ∙ ap (λ (z : Kernel). z.procs s) (sym f.after) ∙ now)) sends

-- Where the Send was called, and that the memory is as it was there.
pub record IsCalled (specs : List ProcessSpec) (ss : List Step) (i : ℕ) (s r : Pid) (m : Message) (p : Process) : Type 0 where
  pub place : ℕ
  pub earlier : place < i
  pub is : slice_get ss place ≡ Some (steps.Call s (calls.Send r m))
  pub kernel : Kernel
  pub at : before specs ss place ≡ Some kernel
  pub caller : Process
  pub there : kernel.procs s ≡ Some caller
  pub sends : p.sends ≡ caller.sends + 1
  pub memory : p.memory ≡ caller.memory

later_call : (specs : List ProcessSpec) (ss : List Step) (i : ℕ) (s r : Pid) (m : Message) (x p : Process) → p.sends ≡ x.sends →
    p.memory ≡ x.memory → IsCalled specs ss i s r m x → IsCalled specs ss (suc i) s r m p
later_call specs ss i s r m x p sends memory c =
    let earlier = c.earlier in
    record {
      place = c.place;
      earlier = omega arith;
      is = c.is;
      kernel = c.kernel;
      at = c.at;
      caller = c.caller;
      there = c.there;
      sends = sends ∙ c.sends;
      memory = memory ∙ c.memory;
    }

call_by_back : (specs : List ProcessSpec) (ss : List Step) (i : ℕ) (k : Kernel) (t : Step) (s r : Pid) (m : Message) (x p : Process) →
    before specs ss i ≡ Some k → slice_get ss i ≡ Some t → k.procs s ≡ Some x → Back t s r m x p →
    (sending x.state ≡ Some (r, m) → p.memory ≡ x.memory) → (sending x.state ≡ Some (r, m) → IsCalled specs ss i s r m x) →
    IsCalled specs ss (suc i) s r m p
call_by_back specs ss i k t s r m x p at is there (Back.here step sends memory) kept again = record {
  place = i;
  earlier = omega arith;
  is = is ∙ ap (λ (z : Step). Some z) step;
  kernel = k;
  at = at;
  caller = x;
  there = there;
  sends = sends;
  memory = memory;
}
call_by_back specs ss i k t s r m x p at is there (Back.waited still sends) kept again =
    later_call specs ss i s r m x p sends (kept still) (again still)

call_by_next : (specs : List ProcessSpec) (ss : List Step) (i : ℕ) (s r : Pid) (m : Message) (l : Kernel)
    (p : Process) → KeepsEach ss r → ComesOfStep specs ss i l → l.procs s ≡ Some p →
    sending p.state ≡ Some (r, m) →
    ((k : Kernel) (x : Process) → before specs ss i ≡ Some k → k.procs s ≡ Some x → sending x.state ≡ Some (r, m) →
    IsCalled specs ss i s r m x) → IsCalled specs ss (suc i) s r m p
call_by_next specs ss i s r m l p keeps n now sends again = elim n.how [
  | inl h ↦
      let k = n.kernel in
      let sound = before_sound specs ss i k n.at in
      let later : h.1.after.procs s ≡ Some p = ap (λ (z : Kernel). z.procs s) h.4 ∙ now in
      let x = was_there k h.0 h.1 s p sound h.3 later in
      call_by_back specs ss i k h.0 s r m x.0 p n.at h.2 x.1
      (step_back k h.0 h.1.after r s m x.0 p x.1 later sends (step_is k h.0 h.1 sound h.3))
      (λ waited. touched_memory k h.0 r s m x.0 p sound (keeps i h.0 h.2)
      (as_sent specs ss r (never_hands ss r keeps) i k n.at) (no_moves specs ss r keeps i k n.at)
      x.1 waited sends (touched k h.0 h.1 sound h.3 s x.0 p x.1 later))
      (again k x.0 n.at x.1)
  | inr h ↦ later_call specs ss i s r m p p refl refl
      (again n.kernel p n.at (ap (λ (z : Kernel). z.procs s) h.1 ∙ now) sends)
]

pub called_before : (specs : List ProcessSpec) (ss : List Step) (s r : Pid) (m : Message) →
    KeepsEach ss r → (i : ℕ) (k : Kernel) (p : Process) → before specs ss i ≡ Some k →
    k.procs s ≡ Some p → sending p.state ≡ Some (r, m) → IsCalled specs ss i s r m p
called_before specs ss s r m keeps zero k p at there sends =
    absurd (none-some (r, m) (ap sending (sym (initial_ready (find (is_process s) specs) p
    (ap (λ (z : Kernel). z.procs s) (before_first specs ss k at) ∙ there))) ∙ sends))
called_before specs ss s r m keeps (suc i) k p at there sends =
    call_by_next specs ss i s r m k p keeps (before_next specs ss i k at) there sends
    (λ l x at_l there_x still. called_before specs ss s r m keeps i l x at_l there_x still)
