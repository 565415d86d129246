-- Bytes that were moved to a sender stand there as long as it waits, if no process that has its message calls for a move.
use Rattle.std.proofs.Common.{◌≡◌, ℕ, ◌+◌, ◌≤◌, Bool, true, false, ◌==◌, ◌||◌, List, [], take, length, Option, Some, refl, sym, ap, subst, ◌∙◌, inl, inr, arith}
use Rattle.std.proofs.lemmas.Bool.{both_ways, cases_Bool, cases_eq, eqb-true, ltb-true, or_cases, and_parts}
use Rattle.std.proofs.lemmas.List.{take_all}
use Rattle.std.proofs.lemmas.Option.{same_Some, none-some}
use Rattle.vk_types.specs.Types.{Answer, Call, Direction, Exchange, Message, Move, MoveName, Name, Pid, Process, Step}
use Rattle.vk_base.specs.declared.answer.Answer.TheVariants as answers
use Rattle.vk_base.specs.declared.answer.Ending.TheVariants as endings
use Rattle.vk_base.specs.declared.call.Call.TheVariants as calls
use Rattle.vk_base.specs.declared.kernel.Direction.TheVariants as directions
use Rattle.vk_base.specs.declared.kernel.State.TheVariants as states
use Rattle.vk_base.specs.declared.step.Step.TheVariants as steps
use Rattle.vk_base.specs.Calls.{Effect, accepted, begin_move, copied_at_once, is_at_once, move_begun, new_move}
use Rattle.vk_base.specs.Kernel.{◌>>=◌, Kernel, held, holds_of, is_held_by, is_move, is_moving, is_ready, is_taken, move_of, name_of, sending, waiting_on}
use Rattle.vk_base.specs.Pids.{same_host}
use Rattle.vk_base.specs.Ranges.{range_of, bytes_in}
use Rattle.vk_base.specs.Steps.{Copying, copying, effect, ending, is_complete, move_ending, noted_bytes, only_if}
use Rattle.vk_base.proofs.OptionLemmas.{bind_is, mapped_is}
use Rattle.v_laws.specs.Moves.{move_call}
use Rattle.v_laws.specs.Sound.{IsSound}
use Rattle.v_laws.proofs.Changes.{taken_is_at_target}
use Rattle.v_laws.proofs.Held.{holding_is}
use Rattle.v_laws.proofs.Later.{exchange_later}
use Rattle.v_laws.proofs.MoveKept.{RunsMove, AreMovesWritten, move_named}
use Rattle.v_laws.proofs.MoveLists.{move_within, next_is, opened_here, opened_other, pushed_before}
use Rattle.v_laws.proofs.MoveSteps.{IsMoveCall, MoveOn, all_moves, in_move, noted, opened_with, pushed, unstaged}
use Rattle.v_laws.proofs.MoveWritten.{moving_of_move, waits_in}
use Rattle.v_laws.proofs.Options.{of_either, some_that_holds}
use Rattle.v_laws.proofs.ReplyLemmas.{taken_when}
use Rattle.v_laws.proofs.SoundLemmas.{step_is}
use Rattle.v_laws.proofs.StepLemmas.{copying_is, only_if_is, opening_is, waiting_is, IsSenderWaiting}
use Rattle.v_laws.proofs.Tables.{put_process_here, same_pid_is}
use Rattle.v_pages.proofs.Calling.{CallOutcome, outcome_of}
use Rattle.v_pages.proofs.Collected.{was_there}
use Rattle.v_pages.proofs.Staying.{HandsNone, with_on}
use Rattle.v_pages.proofs.Touched.{Kept, Touched, is_waiting, near_target, sending_waits, touched}
use Rattle.v_pages.proofs.Waiting.{Back, copied_own, step_back}

-- nothing is left to be copied of the moves of an exchange
pub record IsExchangeClosed (e : Exchange) : Type 0 where
  pub last : length e.moves ≤ e.opened
  pub done : (m : Move) → move_of e e.opened ≡ Some m → m.count ≤ e.done

-- these bytes stand from this place on in the sender's memory, as long as it waits for its reply
abbrev pub AreThere : Kernel → Name → ℕ → List ℕ → Type 0
AreThere k n dest bytes = (p : Process) → waiting_on k n ≡ Some p → bytes_in (range_of dest (length bytes)) p.memory ≡ bytes

-- and no move changes that
pub record HasBytes (k : Kernel) (n : Name) (dest : ℕ) (bytes : List ℕ) : Type 0 where
  pub exchange : Exchange
  pub is : k.exchanges n ≡ Some exchange
  pub closed : IsExchangeClosed exchange
  pub there : AreThere k n dest bytes

-- the process that took the message calls for no move by this step
abbrev pub MovesNot : Kernel → Step → Name → Type 0
MovesNot k s n = (x : Exchange) (c : Call) → k.exchanges n ≡ Some x → is_taken x.stage ≡ true → s ≡ steps.Call x.at c → is_move c ≡ false

-- Who begins a move has taken the message.
abbrev HeldAs : Kernel → Pid → Name → Type 0
HeldAs k pid n = (number : ℕ) × (held k pid n.sender ≡ Some number) × (name_of n.sender number ≡ n)

begun_name : (k : Kernel) (pid : Pid) (p : Process) (c : Call) (n : Name) (m : Move) (e : Effect) (q : Process) (j : ℕ) →
    begin_move k pid p c n.sender m ≡ Some e → e.after.procs pid ≡ Some q → q.moving ≡ Some (move_named n j) → HeldAs k pid n
unfolding move_begun
begun_name k pid p c n m e q j g at named =
    let number = bind_is (held k pid n.sender) _ e g in
    let x = bind_is (k.exchanges (name_of n.sender number.0)) _ e number.2 in
    let y : Process = record p { state = states.Blocked c; moving = Some (move_named (name_of n.sender number.0) (length x.0.moves + 1)) } in
    let same : y ≡ q =
    same_Some y q (sym (put_process_here k.procs pid y) ∙ ap (λ (z : Effect). z.after.procs pid) (same_Some _ e x.2) ∙ at) in (
      number.0,
      number.1,
      ap (λ (w : MoveName). w.exchange) (same_Some (move_named (name_of n.sender number.0) (length x.0.moves + 1)) (move_named n j)
          (ap (λ (z : Process). z.moving) same ∙ named)),
    )

not_at_once : (a b : Bool) → a ≡ false → b ≡ false → (a || b) ≡ true → ⊥
not_at_once a b f g t = elim (or_cases a b t) [ inl x ↦ both_ways a f x | inr y ↦ both_ways b g y ]

call_named : (k : Kernel) (pid : Pid) (p : Process) (d : Direction) (n : Name) (dest src count : ℕ) (e : Effect) (q : Process) (j : ℕ) →
    same_host pid n.sender ≡ false → (count == 0) ≡ false → accepted k pid p (move_call d n.sender dest src count) ≡ Some e →
    e.after.procs pid ≡ Some q → q.moving ≡ Some (move_named n j) → HeldAs k pid n
call_named k pid p directions.To n dest src count e q j far some g at named =
    let c : Call = calls.MoveTo n.sender dest src count in
    let bytes = bytes_in (range_of src count) p.memory in
    of_either (λ (x : Effect). x.after.procs pid ≡ Some q → HeldAs k pid n) (is_at_once pid n.sender count)
    (copied_at_once k pid c n.sender dest bytes) (begin_move k pid p c n.sender (new_move pid directions.To dest src count bytes)) e
    (λ once f at. absurd (not_at_once (same_host pid n.sender) (count == 0) far some once))
    (λ later f at. begun_name k pid p c n (new_move pid directions.To dest src count bytes) e q j f at named) g at
call_named k pid p directions.From n dest src count e q j far some g at named =
    let c : Call = calls.MoveFrom n.sender dest src count in
    of_either (λ (x : Effect). x.after.procs pid ≡ Some q → HeldAs k pid n) (is_at_once pid n.sender count)
    (k.procs n.sender >>= λ x. copied_at_once k pid c pid dest (bytes_in (range_of src count) x.memory))
    (begin_move k pid p c n.sender (new_move pid directions.From dest src count [])) e
    (λ once f at. absurd (not_at_once (same_host pid n.sender) (count == 0) far some once))
    (λ later f at. begun_name k pid p c n (new_move pid directions.From dest src count []) e q j f at named) g at

outcome_named : (k : Kernel) (n : Name) (x : Exchange) (s : Step) (m : Move) (e : Effect) (j : ℕ) (call : IsMoveCall k s n x m) →
    e.after.procs m.mover ≡ Some (in_move call.caller m n j) →
    CallOutcome k m.mover call.caller (move_call m.direction n.sender m.dest m.src m.count) e → HeldAs k m.mover n
outcome_named k n x s m e j call later (CallOutcome.refused why bars same) =
    let stays : call.caller ≡ in_move call.caller m n j =
    same_Some call.caller (in_move call.caller m n j) (sym call.at ∙ ap (λ (z : Effect). z.after.procs m.mover) same ∙ later) in
    absurd (both_ways (is_ready call.caller.state) (ap (λ (z : Process). is_ready z.state) stays) call.ready)
outcome_named k n x s m e j call later (CallOutcome.allowed fit g) =
    call_named k m.mover call.caller m.direction n m.dest m.src m.count e (in_move call.caller m n j) j call.far call.some g later refl

push_taken : (k : Kernel) (s : Step) (e : Effect) (n : Name) (x : Exchange) (m : Move) (j : ℕ) → effect k s ≡ Some e →
    k.exchanges n ≡ Some x → (call : IsMoveCall k s n x m) → e.after.procs m.mover ≡ Some (in_move call.caller m n j) →
    is_taken x.stage ≡ true
push_taken k s e n x m j does at call later =
    let c = move_call m.direction n.sender m.dest m.src m.count in
    let h = outcome_named k n x s m e j call later (outcome_of k m.mover call.caller c e call.at (ap (effect k) (sym call.is) ∙ does)) in
    let i = holding_is k m.mover n.sender h.0 h.1 in
    ap (λ (z : Exchange). is_taken z.stage) (same_Some x i.exchange (sym at ∙ ap k.exchanges (sym h.2) ∙ i.is)) ∙ i.taken

move_is : (d : Direction) (partner : Pid) (dest src count : ℕ) → is_move (move_call d partner dest src count) ≡ true
move_is directions.To partner dest src count = refl
move_is directions.From partner dest src count = refl

-- What is closed stays closed.
closed_as : (x y : Exchange) → unstaged y ≡ unstaged x → IsExchangeClosed x → IsExchangeClosed y
closed_as x y same closed = out y (subst IsExchangeClosed (sym same) (into x closed))
  where
    into : (z : Exchange) → IsExchangeClosed z → IsExchangeClosed (unstaged z)
    into z c = record { last = c.last; done = c.done }

    out : (z : Exchange) → IsExchangeClosed (unstaged z) → IsExchangeClosed z
    out z c = record { last = c.last; done = c.done }

no_copy : (k : Kernel) (n : Name) (number offset count : ℕ) (c : Copying) → copying k n number offset count ≡ Some c →
    IsExchangeClosed c.exchange → ⊥
no_copy k n number offset count c g closed =
    let is = copying_is k n number offset count c g in
    let next = next_is c.exchange number c.move offset count is.next in
    let at_most = closed.done c.move (ap (move_of c.exchange) next.opened ∙ is.move) in
    let done = next.done in
    let some = next.some in
    let within = next.within in
    omega arith

closed_on : (k : Kernel) (s : Step) (e : Effect) (n : Name) (x : Exchange) (p : Option Exchange) → effect k s ≡ Some e →
    k.exchanges n ≡ Some x → IsExchangeClosed x → MovesNot k s n → MoveOn k s e.after n (Some x) p →
    (y : Exchange) × (p ≡ Some y) × IsExchangeClosed y
closed_on k s e n x p does at closed free (MoveOn.stays same none keeps) =
    let z = mapped_is unstaged p (unstaged x) same in
    (z.0, z.1, closed_as x z.0 z.2 closed)
closed_on k s e n x p does at closed free (MoveOn.begins y was now none first copy) = absurd (none-some x (sym was))
closed_on k s e n x p does at closed free (MoveOn.pushes y m was call now moved) =
    let c = move_call m.direction n.sender m.dest m.src m.count in
    let taken = push_taken k s e n y m (length y.moves + 1) does (at ∙ was) call (moved call.caller call.at) in
    absurd (both_ways (is_move c) (free y c (at ∙ was) taken (call.is ∙ ap (λ q. steps.Call q c) (sym call.holds)))
    (move_is m.direction n.sender m.dest m.src m.count))
closed_on k s e n x p does at closed free (MoveOn.opens number a step g was now) =
    let op = opening_is k n number a g in
    let higher = ltb-true a.exchange.opened number op.later in
    let within = move_within a.exchange number a.move op.move in
    let last = (subst IsExchangeClosed (same_Some x a.exchange was) closed).last in
    absurd (omega arith)
closed_on k s e n x p does at closed free (MoveOn.copies number offset count c step g was now memory) =
    absurd (no_copy k n number offset count c g (subst IsExchangeClosed (same_Some x c.exchange was) closed))

-- What stands there stays there.
kept_memory : (k : Kernel) (s : Step) (n : Name) (x p : Process) (y : Pid × Message) (e : Exchange) → IsSound k → MovesNot k s n →
    k.procs n.sender ≡ Some x → x.sends ≡ n.number → sending x.state ≡ Some y → k.exchanges n ≡ Some e → IsExchangeClosed e →
    Kept k s n.sender x p → p.memory ≡ x.memory
kept_memory k s n x p y e sound free at last sends is closed (Kept.stays same) = same
kept_memory k s n x p y e sound free at last sends is closed (Kept.copied_to m number offset count c g mine who) =
    let cp = copying_is k m number offset count c g in
    let name : m ≡ n = copied_own k n.sender y x m number c c.move.direction sends cp.written mine who ∙ ap (name_of n.sender) last in
    absurd (no_copy k m number offset count c g
    (subst IsExchangeClosed (same_Some e c.exchange (sym is ∙ ap k.exchanges (sym name) ∙ cp.exchange)) closed))
kept_memory k s n x p y e sound free at last sends is closed (Kept.moved pid dest src count number step holds near) =
    let c : Call = calls.MoveTo n.sender dest src count in
    let h = holding_is k pid n.sender number holds in
    let w = sound.awaited (name_of n.sender number) h.exchange h.is (near_target k n.sender pid number h sound near)
    (taken_is_at_target h.exchange.stage h.taken) in
    let same : number ≡ n.number = sym w.last ∙ ap (λ (z : Process). z.sends) (same_Some w.process x (sym w.is ∙ at)) ∙ last in
    absurd (both_ways true (free h.exchange c (ap (λ a. k.exchanges (name_of n.sender a)) (sym same) ∙ h.is) h.taken
    (step ∙ ap (λ q. steps.Call q c) (sym (same_pid_is h.exchange.at pid h.at)))) refl)

touched_memory : (k : Kernel) (s : Step) (n : Name) (x p : Process) (y z : Pid × Message) (e : Exchange) → IsSound k → MovesNot k s n →
    k.procs n.sender ≡ Some x → x.sends ≡ n.number → sending x.state ≡ Some y → sending p.state ≡ Some z → k.exchanges n ≡ Some e →
    IsExchangeClosed e → Touched k s n.sender x p → p.memory ≡ x.memory
touched_memory k s n x p y z e sound free at last sends now is closed (Touched.rests same) = ap (λ (w : Process). w.memory) same
touched_memory k s n x p y z e sound free at last sends now is closed (Touched.makes c step idle none) =
    absurd (both_ways (is_waiting x.state) idle (sending_waits x.state y sends))
touched_memory k s n x p y z e sound free at last sends now is closed (Touched.takes step idle none) =
    absurd (both_ways (is_waiting x.state) idle (sending_waits x.state y sends))
touched_memory k s n x p y z e sound free at last sends now is closed (Touched.collects step idle none) =
    absurd (both_ways (is_waiting x.state) idle (sending_waits x.state y sends))
touched_memory k s n x p y z e sound free at last sends now is closed (Touched.finishes step over) = absurd (none-some z (sym over ∙ now))
touched_memory k s n x p y z e sound free at last sends now is closed (Touched.waits w none kept on stays) =
    kept_memory k s n x p y e sound free at last sends is closed kept

there_by : (k : Kernel) (s : Step) (e : Effect) (n : Name) (dest : ℕ) (bytes : List ℕ) (x p : Process) (w : IsSenderWaiting e.after n p) →
    IsSound k → effect k s ≡ Some e → HasBytes k n dest bytes → MovesNot k s n → k.procs n.sender ≡ Some x →
    Back s n.sender w.target w.message x p → bytes_in (range_of dest (length bytes)) p.memory ≡ bytes
there_by k s e n dest bytes x p w sound does h free at (Back.here step sends memory) =
    let b = sound.begun n h.exchange h.is in
    let most = b.last in
    let number = eqb-true p.sends n.number w.last in
    let same = ap (λ (z : Process). z.sends) (same_Some b.process x (sym b.is ∙ at)) in
    absurd (omega arith)
there_by k s e n dest bytes x p w sound does h free at (Back.waited sends same) =
    let last : x.sends ≡ n.number = sym same ∙ eqb-true p.sends n.number w.last in
    ap (bytes_in (range_of dest (length bytes)))
    (touched_memory k s n x p (w.target, w.message) (w.target, w.message) h.exchange sound free at last sends w.send h.is h.closed
    (touched k s e sound does n.sender x p at w.process))
    ∙ h.there x (waits_in k n x (w.target, w.message) at sends last)

there_on : (k : Kernel) (s : Step) (e : Effect) (n : Name) (dest : ℕ) (bytes : List ℕ) → IsSound k → effect k s ≡ Some e →
    HasBytes k n dest bytes → MovesNot k s n → AreThere e.after n dest bytes
there_on k s e n dest bytes sound does h free p waits =
    let w = waiting_is e.after n p waits in
    let x = was_there k s e n.sender p sound does w.process in
    there_by k s e n dest bytes x.0 p w sound does h free x.1
    (step_back k s e.after w.target n.sender w.message x.0 p x.1 w.process w.send (step_is k s e sound does))

pub bytes_step : (k : Kernel) (s : Step) (e : Effect) (n : Name) (dest : ℕ) (bytes : List ℕ) → IsSound k → effect k s ≡ Some e →
    HasBytes k n dest bytes → MovesNot k s n → HasBytes e.after n dest bytes
bytes_step k s e n dest bytes sound does h free =
    let y = closed_on k s e n h.exchange (e.after.exchanges n) does h.is h.closed free
    (subst (λ o. MoveOn k s e.after n o (e.after.exchanges n)) h.is (all_moves k s e sound does n)) in
    record { exchange = y.0; is = y.1; closed = y.2; there = there_on k s e n dest bytes sound does h free }

-- r holds no message of the sender but this one
abbrev pub HoldsOnly : Kernel → Pid → Pid → ℕ → Type 0
HoldsOnly k r s number = (m : ℕ) (x : Exchange) → k.exchanges (name_of s m) ≡ Some x → is_held_by r x ≡ true → m ≡ number

pub only_step : (k : Kernel) (s : Step) (e : Effect) (r from : Pid) (number : ℕ) → IsSound k → effect k s ≡ Some e →
    (s ≡ steps.Take r → ⊥) → HoldsOnly k r from number → HoldsOnly e.after r from number
only_step k s e r from number sound does none only m y at now =
    elim (cases_Bool (holds_of (is_held_by r) (k.exchanges (name_of from m)))) [
      | inl t ↦ let x = some_that_holds (is_held_by r) (k.exchanges (name_of from m)) t in only m x.0 x.1 x.2
      | inr f ↦ absurd (none (taken_when k s e (name_of from m) r y sound does f at now).step)
    ]

-- r has moved these bytes to the sender of the message that it holds.
pub data IsMoved (k : Kernel) (r s : Pid) (dest : ℕ) (bytes : List ℕ) : Type 0 where
  nothing : bytes ≡ [] → IsMoved k r s dest bytes
  something : (number : ℕ) → HoldsOnly k r s number → (h : HasBytes k (name_of s number) dest bytes) → h.exchange.at ≡ r →
      IsMoved k r s dest bytes

-- a step by which r neither takes, nor hands on, nor calls for a move
pub record IsMild (r : Pid) (s : Step) : Type 0 where
  pub takes : s ≡ steps.Take r → ⊥
  pub hands : HandsNone r s
  pub moves : (c : Call) → s ≡ steps.Call r c → is_move c ≡ false

at_r : (k : Kernel) (s : Step) (r : Pid) (n : Name) (x y : Exchange) (e : Effect) → IsSound k → effect k s ≡ Some e → HandsNone r s →
    k.exchanges n ≡ Some x → x.at ≡ r → e.after.exchanges n ≡ Some y → y.at ≡ r
at_r k s r n x y e sound does hands is at later =
    let z = exchange_later s k e.after n x sound (step_is k s e sound does) is in
    ap (λ (w : Exchange). w.at) (same_Some y z.0 (sym later ∙ z.1))
    ∙ (with_on k s n x x z.0 r hands (record { at = at; shown = refl; far = omega arith }) z.2).at

pub moved_step : (k : Kernel) (s : Step) (e : Effect) (r from : Pid) (dest : ℕ) (bytes : List ℕ) → IsSound k → effect k s ≡ Some e →
    IsMild r s → IsMoved k r from dest bytes → IsMoved e.after r from dest bytes
moved_step k s e r from dest bytes sound does mild (IsMoved.nothing none) = IsMoved.nothing none
moved_step k s e r from dest bytes sound does mild (IsMoved.something number only h at) =
    let n = name_of from number in
    let later = bytes_step k s e n dest bytes sound does h
    (λ x c is taken step. mild.moves c (step ∙ ap (λ q. steps.Call q c)
    (ap (λ (w : Exchange). w.at) (same_Some x h.exchange (sym is ∙ h.is)) ∙ at))) in
    IsMoved.something number (only_step k s e r from number sound does mild.takes only) later
    (at_r k s r n h.exchange later.exchange e sound does mild.hands h.is at later.is)

-- A remote move of these bytes to the sender.
pub record IsMoveOf (k : Kernel) (n : Name) (number dest : ℕ) (bytes : List ℕ) : Type 0 where
  pub exchange : Exchange
  pub is : k.exchanges n ≡ Some exchange
  pub move : Move
  pub at : move_of exchange number ≡ Some move
  pub to : move.direction ≡ directions.To
  pub place : move.dest ≡ dest
  pub whole : move.bytes ≡ bytes

move_on : (k : Kernel) (s : Step) (l : Kernel) (n : Name) (number dest : ℕ) (bytes : List ℕ) (h : IsMoveOf k n number dest bytes)
    (p : Option Exchange) → l.exchanges n ≡ p → MoveOn k s l n (Some h.exchange) p → IsMoveOf l n number dest bytes
move_on k s l n number dest bytes h p is (MoveOn.stays same none keeps) =
    let z = mapped_is unstaged p (unstaged h.exchange) same in
    record {
      exchange = z.0;
      is = is ∙ z.1;
      move = h.move;
      at = ap (λ (e : Exchange). move_of e number) z.2 ∙ h.at;
      to = h.to;
      place = h.place;
      whole = h.whole;
    }
move_on k s l n number dest bytes h p is (MoveOn.begins y was now none first copy) = absurd (none-some h.exchange (sym was))
move_on k s l n number dest bytes h p is (MoveOn.pushes y m was call now moved) =
    let there : move_of y number ≡ Some h.move = ap (λ (e : Exchange). move_of e number) (sym (same_Some h.exchange y was)) ∙ h.at in
    record {
      exchange = pushed y m;
      is = is ∙ now;
      move = h.move;
      at = pushed_before y m number (move_within y number h.move there) ∙ there;
      to = h.to;
      place = h.place;
      whole = h.whole;
    }
move_on k s l n number dest bytes h p is (MoveOn.opens other a step g was now) =
    let there : move_of a.exchange number ≡ Some h.move =
    ap (λ (e : Exchange). move_of e number) (sym (same_Some h.exchange a.exchange was)) ∙ h.at in
    let op = opening_is k n other a g in
    elim (cases_eq number other) [
      | inl same ↦
          let one : h.move ≡ a.move = same_Some h.move a.move (sym there ∙ ap (move_of a.exchange) same ∙ op.move) in
          let to : a.move.direction ≡ directions.To = ap (λ (z : Move). z.direction) (sym one) ∙ h.to in
          record {
            exchange = opened_with a.exchange other (noted a.sender a.move);
            is = is ∙ now;
            move = noted a.sender a.move;
            at = ap (move_of (opened_with a.exchange other (noted a.sender a.move))) same
                ∙ opened_here a.exchange other a.move (noted a.sender a.move) op.move;
            to = to;
            place = ap (λ (z : Move). z.dest) (sym one) ∙ h.place;
            whole = ap (λ d. noted_bytes d a.sender a.move) to ∙ ap (λ (z : Move). z.bytes) (sym one) ∙ h.whole;
          }
      | inr apart ↦ record {
        exchange = opened_with a.exchange other (noted a.sender a.move);
        is = is ∙ now;
        move = h.move;
        at = opened_other a.exchange other number a.move (noted a.sender a.move) op.move apart ∙ there;
        to = h.to;
        place = h.place;
        whole = h.whole;
      }
    ]
move_on k s l n number dest bytes h p is (MoveOn.copies other offset count c step g was now memory) = record {
  exchange = record c.exchange { done = c.exchange.done + count };
  is = is ∙ now;
  move = h.move;
  at = ap (λ (e : Exchange). move_of e number) (sym (same_Some h.exchange c.exchange was)) ∙ h.at;
  to = h.to;
  place = h.place;
  whole = h.whole;
}

-- r is in such a move of the message that it holds
pub record IsMoving (k : Kernel) (r from : Pid) (p : Process) (dest : ℕ) (bytes : List ℕ) : Type 0 where
  pub number : ℕ
  pub only : HoldsOnly k r from number
  pub turn : ℕ
  pub named : p.moving ≡ Some (move_named (name_of from number) turn)
  pub move : IsMoveOf k (name_of from number) turn dest bytes

pub moving_step : (k : Kernel) (s : Step) (e : Effect) (r from : Pid) (p y : Process) (dest : ℕ) (bytes : List ℕ) → IsSound k →
    effect k s ≡ Some e → (s ≡ steps.Take r → ⊥) → y.moving ≡ p.moving → IsMoving k r from p dest bytes →
    IsMoving e.after r from y dest bytes
moving_step k s e r from p y dest bytes sound does none same m =
    let n = name_of from m.number in
    record {
      number = m.number;
      only = only_step k s e r from m.number sound does none m.only;
      turn = m.turn;
      named = same ∙ m.named;
      move = move_on k s e.after n m.turn dest bytes m.move (e.after.exchanges n) refl
          (subst (λ o. MoveOn k s e.after n o (e.after.exchanges n)) m.move.is (all_moves k s e sound does n));
    }

-- A move that ends ok has moved its bytes.
record IsComplete (k : Kernel) (n : Name) (number : ℕ) : Type 0 where
  exchange : Exchange
  is : k.exchanges n ≡ Some exchange
  opened : exchange.opened ≡ number
  move : Move
  at : move_of exchange number ≡ Some move
  done : exchange.done ≡ move.count

complete_is : (k : Kernel) (r : Pid) (p : Process) (n : Name) (number : ℕ) (x : Process × Answer) → k.procs r ≡ Some p →
    p.moving ≡ Some (move_named n number) → ending k r endings.Ok ≡ Some x → IsComplete k n number
unfolding ending
complete_is k r p n number x at named g =
    let q = bind_is (k.procs r) _ x g in
    let m = bind_is (only_if (is_moving q.0.state) q.0.moving) _ x q.2 in
    let a = bind_is (move_ending k m.0 endings.Ok) _ x m.2 in
    let whole = only_if_is (holds_of (λ e. is_complete e m.0.number) (k.exchanges m.0.exchange)) (Some answers.Ok) a.0 a.1 in
    let moves = only_if_is (is_moving q.0.state) q.0.moving m.0 m.1 in
    let same : m.0 ≡ move_named n number = same_Some m.0 (move_named n number)
    (sym moves.1 ∙ ap (λ (z : Process). z.moving) (same_Some q.0 p (sym q.1 ∙ at)) ∙ named) in
    let y = some_that_holds (λ e. is_complete e number) (k.exchanges n)
    (subst (λ (w : MoveName). holds_of (λ e. is_complete e w.number) (k.exchanges w.exchange) ≡ true) same whole.0) in
    let parts = and_parts (y.0.opened == number) (holds_of (λ (m : Move). y.0.done == m.count) (move_of y.0 number)) y.2 in
    let z = some_that_holds (λ (m : Move). y.0.done == m.count) (move_of y.0 number) parts.1 in
    record {
      exchange = y.0;
      is = y.1;
      opened = eqb-true y.0.opened number parts.0;
      move = z.0;
      at = z.1;
      done = eqb-true y.0.done z.0.count z.2;
    }

pub move_ended : (k : Kernel) (r from : Pid) (p : Process) (dest : ℕ) (bytes : List ℕ) (x : Process × Answer) → AreMovesWritten k →
    k.procs r ≡ Some p → is_moving p.state ≡ true → IsMoving k r from p dest bytes → ending k r endings.Ok ≡ Some x →
    IsMoved k r from dest bytes
move_ended k r from p dest bytes x written at moves m g =
    IsMoved.something m.number m.only
    (record { exchange = c.exchange; is = c.is; closed = record { last = last; done = done }; there = λ q waits. stands q waits })
    (ap (λ (e : Exchange). e.at) (same_Some c.exchange w.exchange (sym c.is ∙ w.is)) ∙ w.holds)
  where
    n : Name
    n = name_of from m.number

    c : IsComplete k n m.turn
    c = complete_is k r p n m.turn x at m.named g

    w : RunsMove k r (move_named n m.turn)
    w = written.running r p (move_named n m.turn) at (moving_of_move p.state moves) m.named

    mine : m.move.exchange ≡ c.exchange
    mine = same_Some m.move.exchange c.exchange (sym m.move.is ∙ c.is)

    one : c.move ≡ m.move.move
    one = same_Some c.move m.move.move (sym c.at ∙ ap (λ (e : Exchange). move_of e m.turn) (sym mine) ∙ m.move.at)

    there : move_of c.exchange c.exchange.opened ≡ Some c.move
    there = ap (move_of c.exchange) c.opened ∙ c.at

    last : length c.exchange.moves ≤ c.exchange.opened
    last = let same = ap (λ (e : Exchange). length e.moves) (same_Some c.exchange w.exchange (sym c.is ∙ w.is)) in
        let all = w.last in
        let opened = c.opened in
        omega arith

    done : (z : Move) → move_of c.exchange c.exchange.opened ≡ Some z → z.count ≤ c.exchange.done
    done z is = let same = ap (λ (m : Move). m.count) (same_Some z c.move (sym is ∙ there)) in
        let all = c.done in
        omega arith

    to : c.move.direction ≡ directions.To
    to = ap (λ (z : Move). z.direction) one ∙ m.move.to

    size : length c.move.bytes ≡ c.move.count
    size = ((written.exchanges n c.exchange c.is).each m.turn c.move c.at).to to

    whole : c.move.bytes ≡ bytes
    whole = ap (λ (z : Move). z.bytes) one ∙ m.move.whole

    stands : (q : Process) → waiting_on k n ≡ Some q → bytes_in (range_of dest (length bytes)) q.memory ≡ bytes
    stands q waits =
        let place : dest ≡ c.move.dest = sym (ap (λ (z : Move). z.dest) one ∙ m.move.place) in
        let count : length bytes ≡ c.exchange.done = ap length (sym whole) ∙ size ∙ sym c.done in
        (λ i. bytes_in (range_of (place i) (count i)) q.memory)
        ∙ written.to n q c.exchange c.move waits c.is there to
        ∙ ap (λ d. take d c.move.bytes) c.done
        ∙ take_all c.move.count c.move.bytes (omega (arith, size)) ∙ whole
