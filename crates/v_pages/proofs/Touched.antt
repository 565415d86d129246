-- What a step does to one process: nothing, or it is the process's own call, Take, Collect or Finish, or the process waits.
use Rattle.std.proofs.Common.{◌≡◌, ◌⊎◌, ℕ, Bool, true, false, ◌&&◌, ◌||◌, is_none, is_some, Some, None, refl, sym, ap, subst, ◌∙◌, inl, inr}
use Rattle.std.proofs.lemmas.Bool.{both_ways, or_left, or_right, and_parts, eqb-true, eq-eqb}
use Rattle.std.proofs.lemmas.Option.{same_Some, none-some}
use Rattle.vk_types.specs.Types.{Answer, Call, Direction, Ending, Exchange, Message, MoveName, Name, Pid, Process, Refusal, State, Step}
use Rattle.vk_base.specs.declared.answer.Answer.TheVariants as answers
use Rattle.vk_base.specs.declared.answer.Ending.TheVariants as endings
use Rattle.vk_base.specs.declared.answer.Refusal.TheVariants as refusals
use Rattle.vk_base.specs.declared.call.Call.TheVariants as calls
use Rattle.vk_base.specs.declared.kernel.Direction.TheVariants as directions
use Rattle.vk_base.specs.declared.kernel.State.TheVariants as states
use Rattle.vk_base.specs.declared.step.Step.TheVariants as steps
use Rattle.vk_base.specs.Calls.{Effect, is_bereft, is_message_at}
use Rattle.vk_base.specs.Kernel.{Kernel, name_of, holds_of, is_moving, is_asking, is_ready, ended, sending, held, waiting_on, receiving, finished_call}
use Rattle.vk_base.specs.Pids.{same_host}
use Rattle.vk_base.specs.Steps.{effect, only_if, taken, received, Copying, copying, ending, move_ending, is_complete, written_process, is_in_move, same_move}
use Rattle.vk_base.proofs.OptionLemmas.{bind_is}
use Rattle.v_laws.specs.Moves.{move_call}
use Rattle.v_laws.specs.Sound.{IsSound}
use Rattle.v_laws.proofs.Changes.{taken_is_at_target}
use Rattle.v_laws.proofs.Held.{IsHolding, holding_is}
use Rattle.v_laws.proofs.Options.{some_there}
use Rattle.v_laws.proofs.States.{moving_sends_none}
use Rattle.v_laws.proofs.StepLemmas.{only_if_is, taking_is, failing_is, copying_is, asking_is, finding_is, collecting_is, waiting_is}
use Rattle.v_laws.proofs.Tables.{same_pid_is}
use Rattle.v_laws.proofs.Touch.{Touch, ended_with, all_touch}

-- it waits in a Send, a move or a lookup
abbrev pub is_waiting : State → Bool
is_waiting t = is_some (sending t) || is_moving t || is_asking t

-- it has a reply to collect
abbrev pub is_reply : Answer → Bool
is_reply (answers.Replied m) = true
is_reply a = false

abbrev pub has_reply : State → Bool
has_reply (states.Done c a) = is_reply a
has_reply t = false

-- the memory of a process that waits: it stays, or bytes are written into it by a move
pub data Kept (k : Kernel) (s : Step) (q : Pid) (p after : Process) : Type 0 where
  stays : after.memory ≡ p.memory → Kept k s q p after
  copied_to : (n : Name) (number offset count : ℕ) (c : Copying) → copying k n number offset count ≡ Some c → c.pid ≡ q → c.process ≡ p →
      Kept k s q p after
  moved : (pid : Pid) (dest src count number : ℕ) → s ≡ steps.Call pid (calls.MoveTo q dest src count) → held k pid q ≡ Some number →
      same_host pid q ≡ true → Kept k s q p after

-- the call in which it waits goes on, or is over
pub data ProcessGoesOn (p after : Process) : Type 0 where
  still : after.state ≡ p.state → after.sends ≡ p.sends → ProcessGoesOn p after
  over : (a : Answer) → after.state ≡ ended p.state a → after.sends ≡ p.sends → ProcessGoesOn p after

-- a process that waits in a move stays in it, unless the move ends
abbrev pub StaysIn : Step → Pid → Process → Process → Type 0
StaysIn s q p after = is_moving p.state ≡ true →
    ((after.state ≡ p.state) × (after.moving ≡ p.moving)) ⊎ ((why : Ending) × (s ≡ steps.End q why))

pub data Touched (k : Kernel) (s : Step) (q : Pid) (p after : Process) : Type 0 where
  rests : after ≡ p → Touched k s q p after
  makes : (c : Call) → s ≡ steps.Call q c → is_waiting p.state ≡ false → has_reply after.state ≡ false → Touched k s q p after
  takes : s ≡ steps.Take q → is_waiting p.state ≡ false → has_reply after.state ≡ false → Touched k s q p after
  collects : s ≡ steps.Collect q → is_waiting p.state ≡ false → has_reply after.state ≡ false → Touched k s q p after
  finishes : s ≡ steps.Finish q → sending after.state ≡ None → Touched k s q p after
  waits : is_waiting p.state ≡ true → has_reply after.state ≡ false → Kept k s q p after → ProcessGoesOn p after → StaysIn s q p after →
      Touched k s q p after

abbrev pub AllTouched : Kernel → Step → Kernel → Type 0
AllTouched k s l = (q : Pid) (p after : Process) → k.procs q ≡ Some p → l.procs q ≡ Some after → Touched k s q p after

-- States.
pub ready_idle : (t : State) → is_ready t ≡ true → is_waiting t ≡ false
ready_idle states.Ready e = refl
ready_idle (states.Blocked c) e = absurd (both_ways false refl e)
ready_idle (states.Done c a) e = refl

receiving_idle : (t : State) (c : Call) → receiving t ≡ Some c → is_waiting t ≡ false
receiving_idle states.Ready c e = absurd (none-some c e)
receiving_idle (states.Blocked calls.Receive) c e = refl
receiving_idle (states.Blocked (calls.ReceiveSegment start count)) c e = refl
receiving_idle (states.Blocked d) c e = absurd (none-some c e)
receiving_idle (states.Done d a) c e = absurd (none-some c e)

finished_idle : (t : State) (d : Call × Answer) → finished_call t ≡ Some d → is_waiting t ≡ false
finished_idle states.Ready d e = refl
finished_idle (states.Blocked c) d e = absurd (none-some d e)
finished_idle (states.Done c a) d e = refl

pub ready_no_reply : (t : State) → is_ready t ≡ true → has_reply t ≡ false
ready_no_reply states.Ready e = refl
ready_no_reply (states.Blocked c) e = refl
ready_no_reply (states.Done c a) e = absurd (both_ways false refl e)

waiting_no_reply : (t : State) → is_waiting t ≡ true → has_reply t ≡ false
waiting_no_reply states.Ready e = refl
waiting_no_reply (states.Blocked c) e = refl
waiting_no_reply (states.Done c a) e = absurd (both_ways false refl e)

pub sending_waits : (t : State) (x : Pid × Message) → sending t ≡ Some x → is_waiting t ≡ true
sending_waits t x e = or_left (is_some (sending t) || is_moving t) (is_asking t)
    (or_left (is_some (sending t)) (is_moving t) (ap is_some e))

moving_waits : (t : State) → is_moving t ≡ true → is_waiting t ≡ true
moving_waits t e = or_left (is_some (sending t) || is_moving t) (is_asking t) (or_right (is_some (sending t)) (is_moving t) e)

asking_waits : (t : State) → is_asking t ≡ true → is_waiting t ≡ true
asking_waits t e = or_right (is_some (sending t) || is_moving t) (is_asking t) e

ended_no_reply : (t : State) (a : Answer) → is_waiting t ≡ true → is_reply a ≡ false → has_reply (ended t a) ≡ false
ended_no_reply states.Ready a w f = refl
ended_no_reply (states.Blocked c) a w f = f
ended_no_reply (states.Done c b) a w f = absurd (both_ways false refl w)

-- a call in which it waits is over
ended_on : (k : Kernel) (s : Step) (q : Pid) (p : Process) (a : Answer) → is_waiting p.state ≡ true → is_reply a ≡ false →
    StaysIn s q p (record p { state = ended p.state a }) → Touched k s q p (record p { state = ended p.state a })
ended_on k s q p a w none in_move = Touched.waits w (ended_no_reply p.state a w none) (Kept.stays refl) (ProcessGoesOn.over a refl refl) in_move

-- in a Send or in a lookup it is in no move
send_no_move : (t : State) (x : Pid × Message) → sending t ≡ Some x → is_moving t ≡ true → ⊥
send_no_move t x sends moves = none-some x (sym (moving_sends_none t moves) ∙ sends)

lookup_no_move : (t : State) → is_asking t ≡ true → is_moving t ≡ true → ⊥
lookup_no_move states.Ready asks moves = both_ways false refl asks
lookup_no_move (states.Blocked (calls.GetPid logical scope)) asks moves = both_ways false refl moves
lookup_no_move (states.Blocked c) asks moves = both_ways false refl asks
lookup_no_move (states.Done c a) asks moves = both_ways false refl asks

-- a local partner waits on a local exchange
pub near_target : (k : Kernel) (s pid : Pid) (number : ℕ) (h : IsHolding k pid s number) → IsSound k → same_host pid s ≡ true →
    same_host s h.exchange.target ≡ true
near_target k s pid number h sound near =
    eq-eqb s.host h.exchange.target.host (sym (eqb-true pid.host s.host near)
    ∙ ap (λ (z : Pid). z.host) (sym (same_pid_is h.exchange.at pid h.at))
    ∙ sym (eqb-true h.exchange.target.host h.exchange.at.host (sound.near (name_of s number) h.exchange h.is)))

near_on : (k : Kernel) (s : Step) (pid partner : Pid) (number dest src count : ℕ) (q after : Process) →
    s ≡ steps.Call pid (calls.MoveTo partner dest src count) → IsSound k → held k pid partner ≡ Some number →
    same_host pid partner ≡ true → k.procs partner ≡ Some q → after.state ≡ q.state → after.sends ≡ q.sends → Touched k s partner q after
near_on k s pid partner number dest src count q after step sound holds near at state sends =
    let h = holding_is k pid partner number holds in
    let w = sound.awaited (name_of partner number) h.exchange h.is (near_target k partner pid number h sound near)
    (taken_is_at_target h.exchange.stage h.taken) in
    let blocked : q.state ≡ states.Blocked (calls.Send h.exchange.target h.exchange.message) =
    ap (λ (z : Process). z.state) (same_Some q w.process (sym at ∙ w.is)) ∙ w.blocked in
    Touched.waits (ap is_waiting blocked) (ap has_reply (state ∙ blocked))
    (Kept.moved pid dest src count number step holds near) (ProcessGoesOn.still state sends)
    (λ moves. absurd (send_no_move q.state (h.exchange.target, h.exchange.message) (ap sending blocked) moves))

in_send : (k : Kernel) (pid q : Pid) (w : Process) → is_bereft k pid q w ≡ true → (x : Pid × Message) × (sending w.state ≡ Some x)
in_send k pid q w t =
    let parts = and_parts (same_host q pid && is_some (sending w.state)) (holds_of (is_message_at pid) (k.exchanges (name_of q w.sends))) t in
    some_there (sending w.state) (and_parts (same_host q pid) (is_some (sending w.state)) parts.0).1

-- What a step found.
received_no_reply : (c : Call) (sender : Pid) (x : Exchange) → is_reply (received c sender x) ≡ false
received_no_reply (calls.ReceiveSegment start count) sender x = refl
received_no_reply c sender x = refl

-- bytes are copied to a process that waits
written_waits : (k : Kernel) (n : Name) (number : ℕ) (mover : Pid) (d : Direction) (w : Pid × Process) →
    written_process k n number mover d ≡ Some w → is_waiting w.1.state ≡ true
written_waits k n number mover directions.To w g =
    let p = bind_is (waiting_on k n) _ w g in
    let is = waiting_is k n p.0 p.1 in
    ap (λ (z : Pid × Process). is_waiting z.1.state) (sym (same_Some _ w p.2))
    ∙ sending_waits p.0.state (is.target, is.message) is.send
written_waits k n number mover directions.From w g =
    let p = bind_is (k.procs mover) _ w g in
    let test = only_if_is (is_in_move n number p.0) (Some (mover, p.0)) w p.2 in
    let moves = (and_parts (is_moving p.0.state) (holds_of (λ m. same_move m n number) p.0.moving) test.0).0 in
    ap (λ (z : Pid × Process). is_waiting z.1.state) (sym (same_Some _ w test.1)) ∙ moving_waits p.0.state moves

ending_no_reply : (k : Kernel) (m : MoveName) (why : Ending) (a : Answer) → move_ending k m why ≡ Some a → is_reply a ≡ false
ending_no_reply k m endings.Ok a g =
    ap is_reply (sym (same_Some _ a (only_if_is (holds_of (λ e. is_complete e m.number) (k.exchanges m.exchange)) (Some answers.Ok) a g).1))
ending_no_reply k m endings.Gone a g =
    ap is_reply
    (sym (same_Some _ a (only_if_is (is_none (waiting_on k m.exchange)) (Some (answers.Refused refusals.Gone)) a g).1))
ending_no_reply k m endings.TimedOut a g = ap is_reply (sym (same_Some _ a g))
ending_no_reply k m endings.NoProcess a g = absurd (none-some a g)

ended_touched : (k : Kernel) (r : Pid) (why : Ending) (x : Process × Answer) → ending k r why ≡ Some x →
    (is_waiting x.0.state ≡ true) × (is_reply x.1 ≡ false)
unfolding ending
ended_touched k r why x g =
    let p = bind_is (k.procs r) _ x g in
    let m = bind_is (only_if (is_moving p.0.state) p.0.moving) _ x p.2 in
    let a = bind_is (move_ending k m.0 why) _ x m.2 in
    let test = only_if_is (is_moving p.0.state) p.0.moving m.0 m.1 in
    let same = same_Some (p.0, a.0) x a.2 in (
      ap (λ (z : Process × Answer). is_waiting z.0.state) (sym same) ∙ moving_waits p.0.state test.0,
      ap (λ (z : Process × Answer). is_reply z.1) (sym same) ∙ ending_no_reply k m.0 why a.0 a.1,
    )

-- Each way in which a process changes.
makes_on : (k : Kernel) (s : Step) (q : Pid) (p after : Process) (c : Call) {now : Process} → s ≡ steps.Call q c →
    is_ready p.state ≡ true → after ≡ now → has_reply now.state ≡ false → Touched k s q p after
makes_on k s q p after c call ready is none =
    Touched.makes c call (ready_idle p.state ready) (ap (λ (z : Process). has_reply z.state) is ∙ none)

over_on : (k : Kernel) (s : Step) (q : Pid) (p after : Process) (a : Answer) → after ≡ ended_with p a → is_waiting p.state ≡ true →
    is_reply a ≡ false → StaysIn s q p (ended_with p a) → Touched k s q p after
over_on k s q p after a is w none in_move = subst (Touched k s q p) (sym is) (ended_on k s q p a w none in_move)

sender_over : (k : Kernel) (s : Step) (q : Pid) (p after : Process) (why : Refusal) (x : Pid × Message) →
    after ≡ ended_with p (answers.Refused why) → sending p.state ≡ Some x → Touched k s q p after
sender_over k s q p after why x is sends =
    over_on k s q p after (answers.Refused why) is (sending_waits p.state x sends) refl
    (λ moves. absurd (send_no_move p.state x sends moves))

asker_over : (k : Kernel) (s : Step) (q : Pid) (p after : Process) (a : Answer) → after ≡ ended_with p a → is_asking p.state ≡ true →
    is_reply a ≡ false → Touched k s q p after
asker_over k s q p after a is asks none =
    over_on k s q p after a is (asking_waits p.state asks) none (λ moves. absurd (lookup_no_move p.state asks moves))

touched_on : (k : Kernel) (s : Step) (l : Kernel) (q : Pid) (p after : Process) → IsSound k → k.procs q ≡ Some p →
    Touch k s l q p after → Touched k s q p after
touched_on k s l q p after sound at (Touch.rests is) = Touched.rests is
touched_on k s l q p after sound at (Touch.stores c memory call ready is) =
    makes_on k s q p after c call ready is (ready_no_reply p.state ready)
touched_on k s l q p after sound at (Touch.exits call ready is) =
    makes_on k s q p after calls.Exit call ready is (ready_no_reply p.state ready)
touched_on k s l q p after sound at (Touch.sends target m call ready is there) =
    makes_on k s q p after (calls.Send target m) call ready is refl
touched_on k s l q p after sound at (Touch.receives c call ready receives is) = makes_on k s q p after c call ready is refl
touched_on k s l q p after sound at (Touch.asks logical scope call ready is there) =
    makes_on k s q p after (calls.GetPid logical scope) call ready is refl
touched_on k s l q p after sound at (Touch.moves partner d dest src count number e call ready later holds there is now) =
    makes_on k s q p after (move_call d partner dest src count) call ready is refl
touched_on k s l q p after sound at (Touch.given pid dest src count number memory call holds near is same) =
    near_on k s pid q number dest src count p after call sound holds near at (ap (λ (z : Process). z.state) is)
    (ap (λ (z : Process). z.sends) is)
touched_on k s l q p after sound at (Touch.bereft pid call gone is) =
    let x = in_send k pid q p gone in sender_over k s q p after refusals.NoProcess x.0 is x.1
touched_on k s l q p after sound at (Touch.takes t call g same is) =
    Touched.takes call
    (ap (λ (z : Process). is_waiting z.state) same ∙ receiving_idle t.process.state t.call (taking_is k q t g).call)
    (ap (λ (z : Process). has_reply z.state) is ∙ received_no_reply t.call t.name.sender t.exchange)
touched_on k s l q p after sound at (Touch.finishes f call g same is) = Touched.finishes call (ap (λ (z : Process). sending z.state) is)
touched_on k s l q p after sound at (Touch.fails why f call g same is) =
    let of = failing_is k q why f g in
    sender_over k s q p after f.1 of.send is (ap (λ (z : Process). sending z.state) same ∙ of.sends)
touched_on k s l q p after sound at (Touch.writes n number offset count c call g who same is now) =
    let w = written_waits k n number c.move.mover c.move.direction (c.pid, c.process) (copying_is k n number offset count c g).written in
    let state : after.state ≡ p.state = ap (λ (z : Process). z.state) is ∙ ap (λ (z : Process). z.state) (sym same) in
    let moving : after.moving ≡ p.moving = ap (λ (z : Process). z.moving) is ∙ ap (λ (z : Process). z.moving) (sym same) in
    Touched.waits (ap (λ (z : Process). is_waiting z.state) same ∙ w)
    (ap (λ (z : Process). has_reply z.state) is ∙ waiting_no_reply c.process.state w)
    (Kept.copied_to n number offset count c g who (sym same))
    (ProcessGoesOn.still state (ap (λ (z : Process). z.sends) is ∙ ap (λ (z : Process). z.sends) (sym same))) (λ moves. inl (state, moving))
touched_on k s l q p after sound at (Touch.ends why x call g same is) =
    let w = ended_touched k q why x g in
    over_on k s q p after x.1 is (ap (λ (z : Process). is_waiting z.state) same ∙ w.0) w.1 (λ moves. inr (why, call))
touched_on k s l q p after sound at (Touch.finds pid call g is) =
    asker_over k s q p after (answers.Found pid) is (finding_is k q pid p g).asks.asks refl
touched_on k s l q p after sound at (Touch.loses call g is) =
    asker_over k s q p after (answers.Refused refusals.NotFound) is (asking_is k q p g).asks refl
touched_on k s l q p after sound at (Touch.collects d call g same is) =
    Touched.collects call
    (ap (λ (z : Process). is_waiting z.state) same ∙ finished_idle d.process.state (d.call, d.answer) (collecting_is k q d g).done)
    (ap (λ (z : Process). has_reply z.state) is)

pub touched : (k : Kernel) (s : Step) (e : Effect) → IsSound k → effect k s ≡ Some e → AllTouched k s e.after
touched k s e sound g q p after at later =
    let had = all_touch k s e g q after later in
    let same : had.process ≡ p = same_Some had.process p (sym had.is ∙ at) in
    touched_on k s e.after q p after sound at (subst (λ z. Touch k s e.after q z after) same had.on)
