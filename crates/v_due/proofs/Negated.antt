-- The laws of Negatives and MoveNegatives.
use Rattle.std.proofs.Common.{◌≡◌, ℕ, true, false, cond, ◌==◌, ◌&&◌, not, option_map, List, [], ◌∷◌, Option, Some, None, is_none, is_some, refl, sym, ap, ◌∙◌}
use Rattle.std.proofs.lemmas.Bool.{and_parts, both_ways, cond-true, eq-eqb, eqb-true, not-true, not_from_false}
use Rattle.std.proofs.lemmas.Option.{same_Some}
use Rattle.vk_types.specs.Types.{Call, Message, MoveName, Name, Pid, Process}
use Rattle.vk_base.specs.declared.answer.Answer.TheVariants as answers
use Rattle.vk_base.specs.declared.answer.Ending.TheVariants as endings
use Rattle.vk_base.specs.declared.answer.Refusal.TheVariants as refusals
use Rattle.vk_base.specs.declared.call.Call.TheVariants as calls
use Rattle.vk_base.specs.declared.kernel.State.TheVariants as states
use Rattle.vk_base.specs.declared.step.Step.TheVariants as steps
use Rattle.vk_base.specs.Brought.{brought, found_dead}
use Rattle.vk_base.specs.Changes.{change_process}
use Rattle.vk_base.specs.Kernel.{◌>>=◌, Kernel, blocked_in, holds_of, is_live, is_moving, name_of, sending, waiting_on}
use Rattle.vk_base.specs.Packets.{Packet, Negative, MoveNegative}
use Rattle.vk_base.specs.Pids.{same_pid, same_host}
use Rattle.vk_base.specs.Settings.{Settings}
use Rattle.vk_base.proofs.OptionLemmas.{bind_is}
use Rattle.vk_base.proofs.PidLemmas.{same_pid_self}
use Rattle.vk_base.specs.Steps.{is_in_move, move_ending, next, only_if, same_move}
use Rattle.v_laws.proofs.Options.{some_that_holds, some_there}
use Rattle.v_laws.proofs.StepLemmas.{only_if_is}
use Rattle.v_laws.proofs.Tables.{same_name_is, same_pid_is}
use Rattle.v_sim.specs.AnyView.{IsView}
use Rattle.v_sim.proofs.Puts.{bind_to}
use Rattle.vk_rules.specs.Entries.{Input, taken_packet}
use Rattle.vk_rules.specs.PacketOutcomes.{far_sender, packet_outcome}
use Rattle.vk_rules.specs.Readings.{reading, reading_after}
use Rattle.vk_rules.specs.Right.{right_entry}
use Rattle.vk_rules.specs.View.{after_steps}
use Rattle.vk_rules.specs.Works.{awaits, is_send_to}
use Rattle.v_ages.proofs.Taken.{brought_procs}
use Rattle.v_whole.proofs.AnyEntries.{view_entries}
use Rattle.v_ended.proofs.Calling.{IsSoundView}
use Rattle.v_ended.proofs.Spared.{doing, doing_over, state_of}
use Rattle.v_due.specs.Failures.{reading_behind}
use Rattle.v_due.specs.Negatives.{GoneComesByMoveNegatives, MoveNegativesEndMoves, NegativesEndSends, RemoteSendsFailByNegatives, TakesMoveNegative, TakesNegative}
use Rattle.v_due.proofs.Dues.{cause_of, doing_behind, own_here}
use Rattle.v_due.proofs.Entries.{brings}
use Rattle.v_due.proofs.Packets.{IsMoveNegativeOf, IsNegativeOf}
use Rattle.v_due.proofs.Ticks.{end_over, fail_over}
use Rattle.v_due.proofs.Told.{Cause, Frame, Tick, view_after}

-- Moves that are gone.
gone_by : (c : Settings) (host : ℕ) (is : List Input) (i : Input) (s : Pid) (p : Packet) →
    taken_packet (right_entry c host (reading_behind c host is) i) ≡ Some p → IsMoveNegativeOf (reading_behind c host is).view s p →
    TakesMoveNegative c host is i s
gone_by c host is i s (MoveNegative from to number moving) taken by =
    record {
      from = from;
      number = number;
      moving = moving;
      taken = taken ∙ ap (λ z. Some (MoveNegative from z number moving)) by.0;
      running = ap (λ z. holds_of (is_in_move (name_of from number) moving) ((reading_behind c host is).view.procs z)) (sym by.0) ∙ by.1;
    }
gone_by c host is i s p taken by = absurd by

by_cause : (c : Settings) (host : ℕ) (is : List Input) (i : Input) (s : Pid) → Cause c host (reading_behind c host is) i s refusals.Gone →
    TakesMoveNegative c host is i s
by_cause c host is i s (Tick given_up late) = absurd (both_ways false refl late)
by_cause c host is i s (Frame p taken by) = gone_by c host is i s p taken by

pub gone_comes_by_move_negatives : GoneComesByMoveNegatives
gone_comes_by_move_negatives c host is i s call at refused =
    by_cause c host is i s (cause_of c host is i s call refusals.Gone at refused)

-- A sender of another station waits for nothing in the view.
none_waits : (h : ℕ) (k : Kernel) (name : Name) (o : Option Process) → IsView h k → (name.sender.host == h) ≡ false →
    k.procs name.sender ≡ o → waiting_on k name ≡ None
unfolding waiting_on
none_waits h k name None view far there =
    ap (λ (o : Option Process). o >>= λ p. sending p.state >>= λ s. cond (p.sends == name.number) (Some p) None) there
none_waits h k name (Some p) view far there =
    let ready = view.ready name.sender p (λ e. both_ways (name.sender.host == h) far (eq-eqb name.sender.host h e)) there in
    ap (λ (o : Option Process). o >>= λ p. sending p.state >>= λ s. cond (p.sends == name.number) (Some p) None) there
    ∙ ap (λ x. sending x >>= λ s. cond (p.sends == name.number) (Some p) None) ready

-- the move of a MoveNegative ends as gone
gone_ends : (h : ℕ) (k : Kernel) (m : MoveName) (from : Pid) (number moving : ℕ) → IsView h k → (from.host == h) ≡ false →
    same_move m (name_of from number) moving ≡ true → move_ending k m endings.Gone ≡ Some (answers.Refused refusals.Gone)
gone_ends h k m from number moving view far same =
    let name = same_name_is m.exchange (name_of from number) (and_parts _ (m.number == moving) same).0 in
    let none = ap (waiting_on k) name ∙ none_waits h k (name_of from number) (k.procs from) view far refl in
    cond-true (is_none (waiting_on k m.exchange)) (Some (answers.Refused refusals.Gone)) None (ap (λ o. is_none o) none)

pub move_negatives_end_moves : MoveNegativesEndMoves
unfolding reading reading_after packet_outcome
move_negatives_end_moves c host is i s call at takes =
    let rd = reading_behind c host is in
    let k = rd.view in
    let p : Packet = MoveNegative takes.from s takes.number takes.moving in
    let name = name_of takes.from takes.number in
    let b = brings c host rd i p takes.taken in
    let there = some_that_holds (is_in_move name takes.moving) (k.procs s) takes.running in
    let tests = and_parts (is_moving there.0.state) (holds_of (λ m. same_move m name takes.moving) there.0.moving) there.2 in
    let m = some_that_holds (λ m. same_move m name takes.moving) there.0.moving tests.1 in
    let state = same_Some there.0.state (states.Blocked call) (sym (ap state_of there.1) ∙ doing_behind c host is s call at.waits) in
    let ends = gone_ends host k m.0 takes.from takes.number takes.moving (view_entries c host is at.waits.own) b.away m.2 in
    let over = end_over k s call there.0 m.0 endings.Gone (answers.Refused refusals.Gone) there.1 state tests.0 m.1 ends in
    let one = cond-true (holds_of (is_in_move name takes.moving) (k.procs s)) (steps.End s endings.Gone ∷ []) [] takes.running in
    let e = right_entry c host rd i in
    let same = ap (λ (q : Option Packet). after_steps k q e.steps) takes.taken ∙ ap (λ ss. after_steps k (Some p) ss) (b.steps ∙ one) in
    doing_over ((view_after c host rd i).procs s) call (answers.Refused refusals.Gone) (ap (λ l. doing l s) same ∙ over)

-- Sends without a process.
pub awaited_by : (k : Kernel) (s target : Pid) (number : ℕ) → is_some (far_sender k (name_of s number) target) ≡ true →
    holds_of (λ p. awaits s p target number) (k.procs s) ≡ true
unfolding far_sender
awaited_by k s target number t =
    let w = some_there (far_sender k (name_of s number) target) t in
    let p = bind_is (k.procs s) _ w.0 w.1 in
    let m = bind_is (only_if (awaits s p.0 target number) (sending p.0.state)) _ w.0 p.2 in
    ap (holds_of (λ p. awaits s p target number)) p.1 ∙ (only_if_is (awaits s p.0 target number) (sending p.0.state) m.0 m.1).0

dead_by : (c : Settings) (host : ℕ) (is : List Input) (i : Input) (s : Pid) (p : Packet) →
    taken_packet (right_entry c host (reading_behind c host is) i) ≡ Some p → IsNegativeOf (reading_behind c host is).view s p →
    TakesNegative c host is i s
dead_by c host is i s (Negative from to number) taken by =
    let k = (reading_behind c host is).view in
    record {
      target = from;
      number = number;
      taken = taken ∙ ap (λ z. Some (Negative from z number)) by.0;
      awaited = awaited_by k s from number (ap (λ z. is_some (far_sender k (name_of z number) from)) (sym by.0) ∙ by.1);
    }
dead_by c host is i s p taken by = absurd by

dead_by_cause : (c : Settings) (host : ℕ) (is : List Input) (i : Input) (s : Pid) →
    Cause c host (reading_behind c host is) i s refusals.NoProcess → TakesNegative c host is i s
dead_by_cause c host is i s (Tick given_up late) = absurd (both_ways false refl late)
dead_by_cause c host is i s (Frame p taken by) = dead_by c host is i s p taken by

pub remote_sends_fail_by_negatives : RemoteSendsFailByNegatives
remote_sends_fail_by_negatives c host is i s call at refused =
    dead_by_cause c host is i s (cause_of c host is i s call refusals.NoProcess at refused)

-- The Send in which a process waits, and that its target is dead once the Negative is brought in.
record Waits (k : Kernel) (s target : Pid) (number : ℕ) (call : Call) : Type 0 where
  process : Process
  is : k.procs s ≡ Some process
  message : Message
  state : process.state ≡ states.Blocked (calls.Send target message)
  same : call ≡ calls.Send target message
  remote : same_host s target ≡ false
  last : process.sends ≡ number

waits_in : (k : Kernel) (s target : Pid) (number : ℕ) (call : Call) (p : Process) → k.procs s ≡ Some p → p.state ≡ states.Blocked call →
    awaits s p target number ≡ true → Waits k s target number call
waits_in k s target number call p is state t =
    let parts = and_parts (holds_of (is_send_to s target) (blocked_in p.state)) (p.sends == number) t in
    by_call call state (ap (λ x. holds_of (is_send_to s target) (blocked_in x)) (sym state) ∙ parts.0) (eqb-true p.sends number parts.1)
  where
    by_call : (call : Call) → p.state ≡ states.Blocked call → is_send_to s target call ≡ true → p.sends ≡ number → Waits k s target number call
    by_call (calls.Send to m) state t last =
        let parts = and_parts (same_pid to target) (not (same_host s target)) t in
        let same = ap (λ z. calls.Send z m) (same_pid_is to target parts.0) in
        record {
          process = p;
          is = is;
          message = m;
          state = state ∙ ap (λ z. states.Blocked z) same;
          same = same;
          remote = not-true (same_host s target) parts.1;
          last = last;
        }
    by_call call state t last = absurd (both_ways false refl t)

-- who is found dead is not alive
found_dead_is : (procs : Pid → Option Process) (q : Pid) → is_live (change_process procs q found_dead q) ≡ false
unfolding change_process
found_dead_is procs q =
    ap is_live (cond-true (same_pid q q) (option_map found_dead (procs q)) (procs q) (same_pid_self q)) ∙ none_live (procs q)
  where
    none_live : (o : Option Process) → is_live (option_map found_dead o) ≡ false
    none_live None = refl
    none_live (Some p) = refl

negative_over : (h : ℕ) (k : Kernel) (s target : Pid) (number : ℕ) (call : Call) → IsView h k → s.host ≡ h → Waits k s target number call →
    doing (next (brought k (Negative target s number)) (steps.Fail s endings.NoProcess)) s
    ≡ Some (states.Done call (answers.Refused refusals.NoProcess))
negative_over h k s target number call view here w =
    let l = brought k (Negative target s number) in
    let sent = view.sound.sent s w.process target w.message w.is (ap sending w.state) in
    let far : same_host s sent.exchange.target ≡ false = ap (same_host s) sent.target ∙ w.remote in
    let away : sent.exchange.target.host ≡ h → ⊥ = λ e. both_ways (same_host s sent.exchange.target) far
    (eq-eqb s.host sent.exchange.target.host (here ∙ sym e)) in
    let at : sent.exchange.at ≡ target = view.away (name_of s w.process.sends) sent.exchange sent.is away ∙ sent.target in
    let apart : same_pid s target ≡ false = ap (λ b. b && s.local == target.local) w.remote in
    let dead : is_live (l.procs sent.exchange.at) ≡ false = ap (λ q. is_live (l.procs q)) at ∙ found_dead_is k.procs target in
    fail_over l s target w.message w.process sent.exchange endings.NoProcess refusals.NoProcess
    (brought_procs k (Negative target s number) s apart ∙ w.is) w.state sent.is far
    (cond-true (not (is_live (l.procs sent.exchange.at))) (Some refusals.NoProcess) None (not_from_false _ dead))
    ∙ ap (λ z. Some (states.Done z (answers.Refused refusals.NoProcess))) (sym w.same)

-- the Negative is one of a Send whose exchange is there
waits_far : (k : Kernel) (s target : Pid) (number : ℕ) (p : Process) (m : Message) → IsSoundView k → k.procs s ≡ Some p →
    sending p.state ≡ Some (target, m) → p.sends ≡ number → awaits s p target number ≡ true →
    is_some (far_sender k (name_of s number) target) ≡ true
unfolding far_sender
waits_far k s target number p m sound is sends last t =
    let sent = sound.sent s p target m is sends in
    ap (λ o. is_some o) (bind_to _ (k.procs s) p _ is
    (bind_to _ (only_if (awaits s p target number) (sending p.state)) (target, m) _
    (cond-true (awaits s p target number) (sending p.state) None t ∙ sends)
    (bind_to _ (k.exchanges (name_of s number)) sent.exchange _ (ap (λ n. k.exchanges (name_of s n)) (sym last) ∙ sent.is) refl)))

pub negatives_end_sends : NegativesEndSends
unfolding reading reading_after packet_outcome
negatives_end_sends c host is i s call at takes =
    let rd = reading_behind c host is in
    let k = rd.view in
    let p : Packet = Negative takes.target s takes.number in
    let b = brings c host rd i p takes.taken in
    let view = view_entries c host is at.waits.own in
    let there = some_that_holds (λ p. awaits s p takes.target takes.number) (k.procs s) takes.awaited in
    let state = same_Some there.0.state (states.Blocked call) (sym (ap state_of there.1) ∙ doing_behind c host is s call at.waits) in
    let w = waits_in k s takes.target takes.number call there.0 there.1 state there.2 in
    let awaited = ap (λ (q : Option Process). holds_of (λ p. awaits s p takes.target takes.number) q) (sym w.is) ∙ takes.awaited in
    let far = waits_far k s takes.target takes.number w.process w.message view.sound w.is (ap sending w.state) w.last awaited in
    let one = cond-true (is_some (far_sender k (name_of s takes.number) takes.target)) (steps.Fail s endings.NoProcess ∷ []) [] far in
    let e = right_entry c host rd i in
    let same = ap (λ (q : Option Packet). after_steps k q e.steps) takes.taken ∙ ap (λ ss. after_steps k (Some p) ss) (b.steps ∙ one) in
    doing_over ((view_after c host rd i).procs s) call (answers.Refused refusals.NoProcess)
    (ap (λ l. doing l s) same ∙ negative_over host k s takes.target takes.number call view (own_here c host s at.waits.here) w)
