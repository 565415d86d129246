-- A process that is blocked in a move has a partner of another station, and the answer of one that is done is handed out, in every kernel that
-- steps and packets lead to.
use Rattle.std.proofs.Common.{◌≡◌, ℕ, ◌==◌, ◌||◌, not, Bool, true, false, cond, option_map, is_some, List, [], ◌∷◌, fold, find, Option, Some, None, refl, sym, ap, subst, subst₂, ◌∙◌, inl, inr}
use Rattle.std.proofs.lemmas.Bool.{cases_Bool}
use Rattle.std.proofs.lemmas.Option.{same_Some, none-some}
use Rattle.vk_types.specs.Types.{Answer, Call, Direction, Ending, Exchange, MoveName, Pid, Process, ProcessSpec, Refusal, State, Step}
use Rattle.vk_base.specs.declared.answer.Answer.TheVariants as answers
use Rattle.vk_base.specs.declared.answer.Ending.TheVariants as endings
use Rattle.vk_base.specs.declared.answer.Refusal.TheVariants as refusals
use Rattle.vk_base.specs.declared.call.Call.TheVariants as calls
use Rattle.vk_base.specs.declared.event.EventAnswer.TheVariants as events_answered
use Rattle.vk_base.specs.declared.kernel.Direction.TheVariants as directions
use Rattle.vk_base.specs.declared.kernel.State.TheVariants as states
use Rattle.vk_base.specs.declared.step.Step.TheVariants as steps
use Rattle.vk_base.specs.Brought.{brought, found_dead, sender_heard, settled}
use Rattle.vk_base.specs.Calls.{Effect}
unfoldable use Rattle.vk_base.specs.Changes.{change_process}
use Rattle.vk_base.specs.Kernel.{◌>>=◌, Kernel, initial_process, name_of, receiving, ended, is_live, put_process, sending}
use Rattle.vk_base.specs.Packets.{Packet, Send, Reply, Pending, Negative, MoveData, MoveAck, MoveRequest, MoveBytes, MoveNegative, AskPid, TellPid}
use Rattle.vk_base.specs.Pids.{same_host, same_pid}
use Rattle.vk_base.specs.Steps.{after_effect, effect, next, only_if, received, failing, failure, ending, move_ending}
use Rattle.vk_base.proofs.OptionLemmas.{bind_is, mapped_is}
use Rattle.v_laws.proofs.StepLemmas.{only_if_is}
use Rattle.v_laws.proofs.Tables.{same_pid_is, put_process_at, put_process_other}
use Rattle.v_laws.proofs.Touch.{Touch, all_touch}
use Rattle.v_laws.specs.Moves.{move_call}
use Rattle.vk_base.specs.Settings.{Settings, is_process}
use Rattle.vk_rules.specs.Entries.{Input, taken_packet}
use Rattle.vk_rules.specs.Observed.{handed_out}
unfoldable use Rattle.vk_rules.specs.Readings.{reading, reading_after}
use Rattle.vk_rules.specs.Right.{entries_of, entry_of}
use Rattle.vk_rules.specs.View.{after_steps}

-- the partner of a move is far
abbrev pub IsFarCall : Pid → Call → Type 0
IsFarCall q (calls.MoveTo partner dest src count) = same_host q partner ≡ false
IsFarCall q (calls.MoveFrom partner dest src count) = same_host q partner ≡ false
IsFarCall q c = Unit {0}

-- a collect that is answered so hands the answer out: it is not that the collect comes too early
abbrev pub IsHandedOut : Answer → Type 0
IsHandedOut a = is_some (handed_out (events_answered.Answered a)) ≡ true

-- where a process is blocked its call is far, and where it is done its answer is handed out
abbrev pub IsProperState : Pid → State → Type 0
IsProperState q states.Ready = Unit {0}
IsProperState q (states.Blocked c) = IsFarCall q c
IsProperState q (states.Done c a) = IsHandedOut a

pub record AreProper (k : Kernel) : Type 0 where
  pub each : (q : Pid) (p : Process) → k.procs q ≡ Some p → IsProperState q p.state

-- What a step does to a process's state.
data StateOn (q : Pid) (p after : Process) : Type 0 where
  rests : after.state ≡ p.state → StateOn q p after
  goes : IsProperState q after.state → StateOn q p after

ended_by : (q : Pid) (p : Process) (s : State) (a : Answer) → p.state ≡ s → IsHandedOut a → StateOn q p (record p { state = ended s a })
ended_by q p states.Ready a is out = StateOn.rests (sym is)
ended_by q p (states.Blocked c) a is out = StateOn.goes out
ended_by q p (states.Done c b) a is out = StateOn.rests (sym is)

ended_on : (q : Pid) (p : Process) (a : Answer) → IsHandedOut a → StateOn q p (record p { state = ended p.state a })
ended_on q p a out = ended_by q p p.state a refl out

far_partner_by : (a b : Bool) → (a || b) ≡ false → a ≡ false
far_partner_by true b none = none
far_partner_by false b none = refl

move_goes : (q : Pid) (d : Direction) (partner : Pid) (dest src count : ℕ) → same_host q partner ≡ false →
    IsFarCall q (move_call d partner dest src count)
move_goes q directions.To partner dest src count far = far
move_goes q directions.From partner dest src count far = far

receive_goes : (q : Pid) (c : Call) → receiving (states.Blocked c) ≡ Some c → IsFarCall q c
receive_goes q calls.Receive is = tt
receive_goes q (calls.ReceiveSegment start count) is = tt
receive_goes q c is = absurd (none-some c is)

-- What a process is told by a step.
received_out : (c : Call) (sender : Pid) (x : Exchange) → IsHandedOut (received c sender x)
received_out (calls.ReceiveSegment start count) sender x = refl
received_out c sender x = refl

failure_out : (k : Kernel) (x : Exchange) (why : Ending) (r : Refusal) → failure k x why ≡ Some r → IsHandedOut (answers.Refused r)
failure_out k x endings.TimedOut r e = subst (λ z. IsHandedOut (answers.Refused z)) (same_Some refusals.TimedOut r e) refl
failure_out k x endings.NoProcess r e =
    let test = only_if_is (not (is_live (k.procs x.at))) (Some refusals.NoProcess) r e in
    subst (λ z. IsHandedOut (answers.Refused z)) (same_Some refusals.NoProcess r test.1) refl
failure_out k x why r e = absurd (none-some r e)

failing_out : (k : Kernel) (s : Pid) (why : Ending) (f : Process × Refusal) → failing k s why ≡ Some f → IsHandedOut (answers.Refused f.1)
unfolding failing
failing_out k s why f g =
    let p = bind_is (k.procs s) _ f g in
    let e = bind_is (sending p.0.state >>= λ send. k.exchanges (name_of s p.0.sends)) _ f p.2 in
    let r = bind_is (only_if (not (same_host s e.0.target)) (failure k e.0 why)) _ f e.2 in
    let test = only_if_is (not (same_host s e.0.target)) (failure k e.0 why) r.0 r.1 in
    subst (λ (z : Process × Refusal). IsHandedOut (answers.Refused z.1)) (same_Some _ f r.2) (failure_out k e.0 why r.0 test.1)

move_ending_out : (k : Kernel) (n : MoveName) (why : Ending) (a : Answer) → move_ending k n why ≡ Some a → IsHandedOut a
move_ending_out k n endings.Ok a e = subst IsHandedOut (same_Some answers.Ok a (only_if_is _ (Some answers.Ok) a e).1) refl
move_ending_out k n endings.Gone a e =
    let gone = answers.Refused refusals.Gone in subst IsHandedOut (same_Some gone a (only_if_is _ (Some gone) a e).1) refl
move_ending_out k n endings.TimedOut a e = subst IsHandedOut (same_Some (answers.Refused refusals.TimedOut) a e) refl
move_ending_out k n endings.NoProcess a e = absurd (none-some a e)

ending_out : (k : Kernel) (r : Pid) (why : Ending) (x : Process × Answer) → ending k r why ≡ Some x → IsHandedOut x.1
unfolding ending
ending_out k r why x g =
    let p = bind_is (k.procs r) _ x g in
    let m = bind_is (only_if _ p.0.moving) _ x p.2 in
    let a = bind_is (move_ending k m.0 why) _ x m.2 in
    subst (λ (z : Process × Answer). IsHandedOut z.1) (same_Some _ x a.2) (move_ending_out k m.0 why a.0 a.1)

-- it does this afterwards
goes_now : (q : Pid) (p after : Process) {now : State} → after.state ≡ now → IsProperState q now → StateOn q p after
goes_now q p after is proper = StateOn.goes (subst (IsProperState q) (sym is) proper)

state_on : (k : Kernel) (s : Step) (l : Kernel) (q : Pid) (p after : Process) → Touch k s l q p after → StateOn q p after
state_on k s l q p after (Touch.rests is) = StateOn.rests (ap (λ (z : Process). z.state) is)
state_on k s l q p after (Touch.stores c memory call ready is) = StateOn.rests (ap (λ (z : Process). z.state) is)
state_on k s l q p after (Touch.exits call ready is) = StateOn.rests (ap (λ (z : Process). z.state) is)
state_on k s l q p after (Touch.sends target m call ready is there) = goes_now q p after (ap (λ (z : Process). z.state) is) tt
state_on k s l q p after (Touch.receives c call ready receives is) =
    goes_now q p after (ap (λ (z : Process). z.state) is) (receive_goes q c receives)
state_on k s l q p after (Touch.asks logical scope call ready is there) = goes_now q p after (ap (λ (z : Process). z.state) is) tt
state_on k s l q p after (Touch.moves partner d dest src count number e call ready later holds there is now) =
    goes_now q p after (ap (λ (z : Process). z.state) is)
    (move_goes q d partner dest src count (far_partner_by (same_host q partner) (count == 0) later))
state_on k s l q p after (Touch.given pid dest src count number memory call holds near is same) =
    StateOn.rests (ap (λ (z : Process). z.state) is)
state_on k s l q p after (Touch.bereft pid call gone is) =
    subst (StateOn q p) (sym is) (ended_on q p (answers.Refused refusals.NoProcess) refl)
state_on k s l q p after (Touch.takes t call g same is) =
    goes_now q p after (ap (λ (z : Process). z.state) is) (received_out t.call t.name.sender t.exchange)
state_on k s l q p after (Touch.finishes f call g same is) = goes_now q p after (ap (λ (z : Process). z.state) is) refl
state_on k s l q p after (Touch.fails why f call g same is) =
    subst (StateOn q p) (sym is) (ended_on q p (answers.Refused f.1) (failing_out k q why f g))
state_on k s l q p after (Touch.writes n number offset count c call g who same is now) =
    StateOn.rests (ap (λ (z : Process). z.state) is ∙ ap (λ (z : Process). z.state) (sym same))
state_on k s l q p after (Touch.ends why x call g same is) = subst (StateOn q p) (sym is) (ended_on q p x.1 (ending_out k q why x g))
state_on k s l q p after (Touch.finds pid call g is) = subst (StateOn q p) (sym is) (ended_on q p (answers.Found pid) refl)
state_on k s l q p after (Touch.loses call g is) =
    subst (StateOn q p) (sym is) (ended_on q p (answers.Refused refusals.NotFound) refl)
state_on k s l q p after (Touch.collects d call g same is) = goes_now q p after (ap (λ (z : Process). z.state) is) tt

state_after : (q : Pid) (p after : Process) → StateOn q p after → IsProperState q p.state → IsProperState q after.state
state_after q p after (StateOn.rests state) is = subst (IsProperState q) (sym state) is
state_after q p after (StateOn.goes is) old = is

proper_effect : (k : Kernel) (s : Step) (e : Effect) → effect k s ≡ Some e → AreProper k → AreProper e.after
proper_effect k s e g proper = record {
  each = λ q after at.
      let had = all_touch k s e g q after at in
      state_after q had.process after (state_on k s e.after q had.process after had.on) (proper.each q had.process had.is);
}

proper_by : (k : Kernel) (s : Step) (o : Option Effect) → effect k s ≡ o → AreProper k → AreProper (after_effect k o)
proper_by k s None is proper = proper
proper_by k s (Some e) is proper = proper_effect k s e is proper

pub proper_next : (k : Kernel) (s : Step) → AreProper k → AreProper (next k s)
proper_next k s proper = proper_by k s (effect k s) refl proper

proper_fold : (k : Kernel) (ss : List Step) → AreProper k → AreProper (fold next k ss)
proper_fold k [] proper = proper
proper_fold k (s ∷ ss) proper = proper_fold (next k s) ss (proper_next k s proper)

-- What a packet brings changes no state.
heard_states : (number : ℕ) (q : Pid) (o : Option Process) → ((p : Process) → o ≡ Some p → IsProperState q p.state)
    → IsProperState q (sender_heard number o).state
heard_states number q None proper = tt
heard_states number q (Some p) proper = proper p refl

proper_put : (k l : Kernel) (pid : Pid) (after : Process) → ((q : Pid) → l.procs q ≡ put_process k.procs pid after q)
    → IsProperState pid after.state
    → AreProper k → AreProper l
proper_put k l pid after is here proper = record {
  each = λ q x at. elim (cases_Bool (same_pid q pid)) [
    | inl t ↦
        let same : after ≡ x = same_Some after x (sym (is q ∙ put_process_at k.procs pid after q t) ∙ at) in
        subst₂ (λ z (y : Process). IsProperState z y.state) (sym (same_pid_is q pid t)) same here
    | inr f ↦ proper.each q x (sym (put_process_other k.procs pid after q f) ∙ sym (is q) ∙ at)
  ];
}

proper_same : (k l : Kernel) → ((q : Pid) → l.procs q ≡ k.procs q) → AreProper k → AreProper l
proper_same k l same proper = record { each = λ q after at. proper.each q after (sym (same q) ∙ at) }

proper_negative : (k : Kernel) (from : Pid) → AreProper k → AreProper (record k { procs = change_process k.procs from found_dead })
unfolding change_process
proper_negative k from proper = record { each = λ q x at. by q x (same_pid q from) at }
  where
    by : (q : Pid) (x : Process) (b : Bool) → cond b (option_map found_dead (k.procs q)) (k.procs q) ≡ Some x → IsProperState q x.state
    by q x true at =
        let y = mapped_is found_dead (k.procs q) x at in
        subst (λ (z : Process). IsProperState q z.state) y.2 (proper.each q y.0 y.1)
    by q x false at = proper.each q x at

proper_brought : (k : Kernel) (p : Packet) → AreProper k → AreProper (brought k p)
proper_brought k (Send from to number message part) proper =
    proper_put k (brought k (Send from to number message part)) from (sender_heard number (k.procs from)) (λ q. refl)
    (heard_states number from (k.procs from) (λ p is. proper.each from p is)) proper
proper_brought k (Reply from to number message dest bytes) proper = proper_same k _ (λ q. refl) proper
proper_brought k (Pending from to number) proper = proper
proper_brought k (Negative from to number) proper = proper_negative k from proper
proper_brought k (MoveData from to number moving dest total offset bytes) proper = proper_same k _ (λ q. refl) proper
proper_brought k (MoveAck from to number moving received) proper = proper_same k _ (λ q. refl) proper
proper_brought k (MoveRequest from to number moving src total offset) proper = proper_same k _ (λ q. refl) proper
proper_brought k (MoveBytes from to number moving total offset bytes) proper = proper_same k _ (λ q. refl) proper
proper_brought k (MoveNegative from to number moving) proper = proper
proper_brought k (AskPid asker lookup logical) proper = proper_same k _ (λ q. refl) proper
proper_brought k (TellPid found asker lookup) proper = proper_same k _ (λ q. refl) proper

proper_settled : (before : Kernel) (p : Packet) (k : Kernel) → AreProper k → AreProper (settled before p k)
proper_settled before (Send from to number message part) k proper = proper
proper_settled before (Reply from to number message dest bytes) k proper = proper
proper_settled before (Pending from to number) k proper = proper
proper_settled before (Negative from to number) k proper = proper
proper_settled before (MoveData from to number moving dest total offset bytes) k proper = proper
proper_settled before (MoveAck from to number moving received) k proper = proper_same k _ (λ q. refl) proper
proper_settled before (MoveRequest from to number moving src total offset) k proper = proper
proper_settled before (MoveBytes from to number moving total offset bytes) k proper = proper_same k _ (λ q. refl) proper
proper_settled before (MoveNegative from to number moving) k proper = proper
proper_settled before (AskPid asker lookup logical) k proper = proper
proper_settled before (TellPid found asker lookup) k proper = proper

proper_steps : (k : Kernel) (p : Option Packet) (ss : List Step) → AreProper k → AreProper (after_steps k p ss)
proper_steps k None ss proper = proper_fold k ss proper
proper_steps k (Some p) [] proper = proper
proper_steps k (Some p) (s ∷ ss) proper = proper_settled k p _ (proper_fold (brought k p) (s ∷ ss) (proper_brought k p proper))

initial_proper : (q : Pid) (o : Option ProcessSpec) (p : Process) → option_map initial_process o ≡ Some p → IsProperState q p.state
initial_proper q None p e = absurd (none-some p e)
initial_proper q (Some s) p e = subst (λ (z : Process). IsProperState q z.state) (same_Some (initial_process s) p e) tt

-- In the view of every station.
pub proper_view : (c : Settings) (host : ℕ) (is : List Input) → AreProper (reading c host (entries_of c host is)).view
unfolding reading reading_after
proper_view c host [] = record { each = λ q p at. initial_proper q (find (is_process q) c.specs) p at }
proper_view c host (i ∷ is) =
    let r = reading c host (entries_of c host is) in
    let e = entry_of c host (entries_of c host is) i in
    proper_steps r.view (taken_packet e) e.steps (proper_view c host is)
