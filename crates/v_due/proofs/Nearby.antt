-- The laws of Sends within a station.
use Rattle.std.proofs.Common.{◌≡◌, ℕ, true, false, cond, ◌==◌, ◌&&◌, not, List, [], ◌∷◌, length, option_map, Option, Some, None, is_some, refl, sym, ap, subst, ◌∙◌, inl, inr}
use Rattle.std.proofs.lemmas.Bool.{and_from, and_parts, both_ways, cond-true, cond-false, eq-eqb, eqb-true, not-true, not_from_true}
use Rattle.std.proofs.lemmas.Option.{same_Some}
use Rattle.vk_types.specs.Types.{Call, EventAnswer, Exchange, Message, Pid, Process, Refusal, Step}
use Rattle.vk_base.specs.declared.answer.Answer.TheVariants as answers
use Rattle.vk_base.specs.declared.answer.Refusal.TheVariants as refusals
use Rattle.vk_base.specs.declared.call.Call.TheVariants as calls
use Rattle.vk_base.specs.declared.kernel.State.TheVariants as states
use Rattle.vk_base.specs.declared.step.Step.TheVariants as steps
use Rattle.vk_base.specs.Calls.{Effect, answered, call_refusal, call_step, called, exited, is_bereft, is_message_at, released, sent}
use Rattle.vk_base.specs.Kernel.{◌>>=◌, Kernel, blocked_in, ended, finished_call, holds_of, is_at_target, is_live, is_ready, name_of, sending}
use Rattle.vk_base.specs.Messages.{segment_of}
use Rattle.vk_base.specs.Packets.{Packet, Negative}
use Rattle.vk_base.specs.Pids.{same_pid, same_host}
use Rattle.vk_base.specs.Ranges.{lies_in}
use Rattle.vk_base.specs.Settings.{Settings}
use Rattle.vk_base.specs.Steps.{after_effect, next}
use Rattle.vk_base.proofs.OptionLemmas.{bind_is}
use Rattle.vk_base.proofs.PidLemmas.{same_pid_self}
use Rattle.v_laws.proofs.Options.{some_that_holds}
use Rattle.v_laws.proofs.StepLemmas.{fit_is}
use Rattle.v_laws.proofs.Tables.{same_pid_is}
use Rattle.vk_rules.specs.CallOutcomes.{call_outcome, effect_answer, is_ok, seen_answer, steps_behind, take_where}
use Rattle.vk_rules.specs.Each.{Each}
use Rattle.vk_rules.specs.Entries.{Input, Called}
use Rattle.vk_rules.specs.PacketOutcomes.{far_sender}
use Rattle.vk_rules.specs.Readings.{Reading, reading, reading_after}
use Rattle.vk_rules.specs.Right.{answer_to, right_entry}
use Rattle.vk_rules.specs.View.{after_steps}
use Rattle.vk_rules.specs.Works.{awaits, is_send_to}
use Rattle.vk_rules.proofs.Lists.{each_if}
use Rattle.vk_rules.proofs.Taken.{packet_taken}
use Rattle.vk_rules.proofs.OwnEvents.{none_taken}
use Rattle.v_ages.proofs.Outcomes.{behind_no_call}
use Rattle.v_ages.proofs.Taken.{any_each}
use Rattle.v_whole.proofs.AnyEntries.{view_entries}
use Rattle.v_ended.proofs.Calling.{IsSoundView, Bereaves, call_left, ready_other}
use Rattle.v_ended.proofs.Spared.{doing, doing_over, state_of}
use Rattle.v_ended.proofs.Uncollected.{NoCollect}
use Rattle.v_due.specs.Failures.{reading_behind}
use Rattle.v_due.specs.Near.{DeadTargetsAreRefused, ExitsEndNearSends, HolderExits, MaySend, NearSendsFailByExits, OtherSendsBegin, WaitsNear}
use Rattle.v_due.proofs.Dues.{doing_behind, over_doing, own_here}
use Rattle.v_due.proofs.Negated.{awaited_by}
use Rattle.v_due.proofs.Packets.{IsNegativeOf}
use Rattle.v_due.proofs.Refused.{Waits, refuses, steps_told}
use Rattle.v_due.proofs.Told.{Cause, Frame, Tick, refused_elsewhere, view_after, without_frame}

-- The call for a Send.
send_answer : (c : Settings) (host : ℕ) (r : Reading) (s target : Pid) (m : Message) → (may : MaySend r s m) →
    answer_to c host r (Called s (calls.Send target m)) ≡ effect_answer (called r.view s may.process (calls.Send target m)
    (cond (same_host s target && not (is_live (r.view.procs target))) (Some refusals.NoProcess) None))
unfolding call_refusal
send_answer c host r s target m may =
    let k = r.view in
    let d : Call = calls.Send target m in
    let p = may.process in
    let last = cond (same_host s target && not (is_live (k.procs target))) (Some refusals.NoProcess) None in
    ap (λ o. effect_answer (o >>= λ (p : Process). called k s p d (call_refusal k s p d))) may.is
    ∙ ap (λ o. effect_answer (called k s p d o))
    (cond-false (not p.alive) (Some refusals.Dead) _ (not_from_true p.alive may.alive)
    ∙ cond-false (not (is_ready p.state)) (Some refusals.Busy) _ (not_from_true (is_ready p.state) may.ready)
    ∙ cond-false (not (lies_in (segment_of m) (length p.memory))) (Some refusals.BadSegment) last
    (not_from_true (lies_in (segment_of m) (length p.memory)) may.segment))

pub dead_targets_are_refused : DeadTargetsAreRefused
dead_targets_are_refused c host r s target m may dead =
    send_answer c host r s target m may
    ∙ ap (λ b. effect_answer (called r.view s may.process (calls.Send target m) (cond b (Some refusals.NoProcess) None))) dead

pub other_sends_begin : OtherSendsBegin
other_sends_begin c host r s target m may live =
    send_answer c host r s target m may
    ∙ ap (λ b. effect_answer (called r.view s may.process (calls.Send target m) (cond b (Some refusals.NoProcess) None))) live

-- What does not end a Send leaves its sender in it.
send_waits : (s target : Pid) (m : Message) → Waits s (calls.Send target m)
send_waits s target m (steps.Call pid d) none off = both_ways true none refl
send_waits s target m (steps.Arrive sender number) none off = tt
send_waits s target m (steps.Take q) none off = λ same. refl
send_waits s target m (steps.Finish q) none off = λ same. absurd (both_ways (same_pid s q) off same)
send_waits s target m (steps.Fail q why) none off = λ same. absurd (both_ways (same_pid s q) off same)
send_waits s target m (steps.OpenMove sender number moving) none off = tt
send_waits s target m (steps.Copy sender number moving offset count) none off = tt
send_waits s target m (steps.End q why) none off = λ same. absurd (both_ways (same_pid s q) off same)
send_waits s target m (steps.Hear asker number pid) none off = tt
send_waits s target m (steps.Found q pid) none off = λ same. absurd (both_ways (same_pid s q) off same)
send_waits s target m (steps.Lost q) none off = λ same. absurd (both_ways (same_pid s q) off same)
send_waits s target m (steps.Collect q) none off = λ same. refl

-- the steps behind a call refuse nothing, and collect nothing
abbrev IsMute : Pid → Refusal → Step → Type 0
IsMute s why st = (refuses s st why ≡ true → ⊥) × NoCollect st

take_mute : (s : Pid) (why : Refusal) (k : Kernel) (q : Pid) → Each (IsMute s why) (take_where k q)
take_mute s why k q = each_if (IsMute s why) _ (steps.Take q ∷ []) (λ t. ((λ e. both_ways false refl e, refl), tt))

behind_mute : (s : Pid) (why : Refusal) (k : Kernel) (q : Pid) (d : Call) (a : EventAnswer) → Each (IsMute s why) (steps_behind k q d a)
behind_mute s why k q (calls.Send target m) a = each_if (IsMute s why) _ _ (λ t. take_mute s why k target)
behind_mute s why k q calls.Receive a = each_if (IsMute s why) _ _ (λ t. take_mute s why k q)
behind_mute s why k q (calls.ReceiveSegment start count) a = each_if (IsMute s why) _ _ (λ t. take_mute s why k q)
behind_mute s why k q (calls.Reply m to) a = each_if (IsMute s why) _ (steps.Finish to ∷ []) (λ t. ((λ e. both_ways false refl e, refl), tt))
behind_mute s why k q (calls.ReplySegment m to dest src count) a =
    each_if (IsMute s why) _ (steps.Finish to ∷ []) (λ t. ((λ e. both_ways false refl e, refl), tt))
behind_mute s why k q (calls.Forward m from to) a = each_if (IsMute s why) _ _ (λ t. take_mute s why k to)
behind_mute s why k q d a = tt

mute_parts : (s : Pid) (why : Refusal) (ss : List Step) → Each (IsMute s why) ss →
    Each (λ st. refuses s st why ≡ true → ⊥) ss × Each NoCollect ss
mute_parts s why [] mute = (tt, tt)
mute_parts s why (x ∷ xs) mute = let rest = mute_parts s why xs mute.1 in ((mute.0.0, rest.0), (mute.0.1, rest.1))

-- An entry that ends a near Send as without a process.
near_packet : (k : Kernel) (s : Pid) (p : Packet) (target : Pid) (m : Message) → doing k s ≡ Some (states.Blocked (calls.Send target m)) →
    same_host s target ≡ true → IsNegativeOf k s p → ⊥
near_packet k s (Negative from to number) target m at near by =
    let waits = some_that_holds (λ p. awaits s p from number) (k.procs s)
    (awaited_by k s from number (ap (λ z. is_some (far_sender k (name_of z number) from)) (sym by.0) ∙ by.1)) in
    let state = same_Some waits.0.state (states.Blocked (calls.Send target m)) (sym (ap state_of waits.1) ∙ at) in
    let test = and_parts (holds_of (is_send_to s from) (blocked_in waits.0.state)) (waits.0.sends == number) waits.2 in
    let to_it = ap (λ x. holds_of (is_send_to s from) (blocked_in x)) (sym state) ∙ test.0 in
    let parts = and_parts (same_pid target from) (not (same_host s from)) to_it in
    both_ways (same_host s from) (not-true (same_host s from) parts.1) (ap (same_host s) (sym (same_pid_is target from parts.0)) ∙ near)
near_packet k s p target m at near by = by

near_cause : (c : Settings) (host : ℕ) (rd : Reading) (i : Input) (s target : Pid) (m : Message) →
    doing rd.view s ≡ Some (states.Blocked (calls.Send target m)) → same_host s target ≡ true →
    Cause c host rd i s refusals.NoProcess → ⊥
near_cause c host rd i s target m at near (Tick given_up late) = both_ways false refl late
near_cause c host rd i s target m at near (Frame p taken by) = near_packet rd.view s p target m at near by

-- whose exit it was
exit_of : (c : Settings) (host : ℕ) (is : List Input) (q s target : Pid) (m : Message) (d : Call) → WaitsNear c host is s target m →
    Bereaves (reading_behind c host is).view s q d (is_ok (answer_to c host (reading_behind c host is) (Called q d))) →
    HolderExits c host is (Called q d) s
unfolding right_entry
exit_of c host is q s target m d near b =
    let k = (reading_behind c host is).view in
    let first = and_parts (same_host s q && is_some (sending b.process.state))
    (holds_of (is_message_at q) (k.exchanges (name_of s b.process.sends))) b.bereft in
    let x = some_that_holds (is_message_at q) (k.exchanges (name_of s b.process.sends)) first.1 in
    let parts = and_parts (same_pid x.0.at q) (is_at_target x.0.stage) x.2 in
    let here = same_pid_is x.0.at q parts.0 in
    record {
      process = b.process;
      there = b.is;
      exchange = x.0;
      sent = x.1;
      waits = parts.1;
      exits = ap (λ (z : Call). Called q z) b.exit ∙ ap (λ z. Called z calls.Exit) (sym here);
      answered = b.answered;
    }

near_call : (c : Settings) (host : ℕ) (is : List Input) (q s target : Pid) (m : Message) (d : Call) → WaitsNear c host is s target m →
    doing (view_after c host (reading_behind c host is) (Called q d)) s ≡ Some
    (states.Done (calls.Send target m) (answers.Refused refusals.NoProcess)) →
    HolderExits c host is (Called q d) s
unfolding reading_after right_entry call_outcome
near_call c host is q s target m d near over =
    let rd = reading_behind c host is in
    let k = rd.view in
    let call : Call = calls.Send target m in
    let e = right_entry c host rd (Called q d) in
    let a = answer_to c host rd (Called q d) in
    let l = next k (steps.Call q d) in
    let ss = steps_behind l q d a in
    let at = doing_behind c host is s call near.waits in
    let goes = without_frame k s (Called q d) e _ (ap packet_taken (none_taken (Called q d) a refl)) over in
    let mute = mute_parts s refusals.NoProcess ss (behind_mute s refusals.NoProcess l q d a) in
    elim (call_left k s q d (call_step k q d) call at refl) [
      | inr b ↦ exit_of c host is q s target m d near b
      | inl same ↦ absurd (any_each ⊥ (λ st. refuses s st refusals.NoProcess) ss
          (steps_told l s call ss (send_waits s target m) (behind_no_call l q d a) mute.1 (same ∙ at) call refusals.NoProcess goes) mute.0)
    ]

near_entry : (c : Settings) (host : ℕ) (is : List Input) (i : Input) (s target : Pid) (m : Message) → WaitsNear c host is s target m →
    doing (view_after c host (reading_behind c host is) i) s ≡ Some (states.Done (calls.Send target m) (answers.Refused refusals.NoProcess)) →
    HolderExits c host is i s
near_entry c host is (Called q d) s target m near over = near_call c host is q s target m d near over
near_entry c host is i s target m near over =
    let rd = reading_behind c host is in
    let call : Call = calls.Send target m in
    let at = doing_behind c host is s call near.waits in
    absurd (near_cause c host rd i s target m at near.near
    (refused_elsewhere c host rd i s call refusals.NoProcess tt (own_here c host s near.waits.here) (send_waits s target m) at call over))

pub near_sends_fail_by_exits : NearSendsFailByExits
unfolding reading
near_sends_fail_by_exits c host is i s target m near refused =
    let rd = reading_behind c host is in
    near_entry c host is i s target m near
    (over_doing ((view_after c host rd i).procs s) (calls.Send target m) (answers.Refused refusals.NoProcess) refused)

-- The exit ends it.
pub exit_is : (k : Kernel) (q : Pid) (o : Option Effect) → call_step k q calls.Exit ≡ o → is_ok (effect_answer o) ≡ true →
    (p : Process) × (k.procs q ≡ Some p) × (is_ready p.state ≡ true) × (after_effect k o ≡ exited k q p)
exit_is k q None g ok = absurd (both_ways false refl ok)
exit_is k q (Some e) g ok =
    let p = bind_is (k.procs q) _ e g in by_refusal p.0 p.1 (call_refusal k q p.0 calls.Exit) refl p.2
  where
    by_refusal : (p : Process) → k.procs q ≡ Some p → (why : Option Refusal) → call_refusal k q p calls.Exit ≡ why →
        called k q p calls.Exit why ≡ Some e →
        (p : Process) × (k.procs q ≡ Some p) × (is_ready p.state ≡ true) × (e.after ≡ exited k q p)
    by_refusal p is None fits g =
        (p, is, (fit_is k q p calls.Exit fits).ready, sym (ap (λ (x : Effect). x.after) (same_Some _ e g)))
    by_refusal p is (Some why) fits g =
        absurd (both_ways (is_ok (seen_answer e.seen)) (ap (λ (x : Effect). is_ok (seen_answer x.seen)) (sym (same_Some _ e g))) ok)

bereft_over : (k : Kernel) (s q : Pid) (p x : Process) (target : Pid) (m : Message) → k.procs s ≡ Some x →
    x.state ≡ states.Blocked (calls.Send target m) → same_pid s q ≡ false → is_bereft k q s x ≡ true →
    doing (exited k q p) s ≡ Some (states.Done (calls.Send target m) (answers.Refused refusals.NoProcess))
unfolding exited
bereft_over k s q p x target m is state other bereft =
    ap state_of (cond-false (same_pid s q) (Some (record p { alive = false })) (option_map (released k q s) (k.procs s)) other
    ∙ ap (option_map (released k q s)) is)
    ∙ ap (λ (y : Process). Some y.state)
    (cond-true (is_bereft k q s x) (record x { state = ended x.state (answers.Refused refusals.NoProcess) }) x bereft)
    ∙ ap (λ z. Some (ended z (answers.Refused refusals.NoProcess))) state

is_left_alone : (k : Kernel) (s target : Pid) (m : Message) (x : Process) (e : Exchange) → IsSoundView k → k.procs s ≡ Some x →
    x.state ≡ states.Blocked (calls.Send target m) → same_host s target ≡ true → k.exchanges (name_of s x.sends) ≡ Some e →
    is_at_target e.stage ≡ true → is_bereft k e.at s x ≡ true
is_left_alone k s target m x e sound is state near sent at =
    let own = sound.sent s x target m is (ap sending state) in
    let same = same_Some e own.exchange (sym sent ∙ own.is) in
    let place : e.target.host ≡ e.at.host = eqb-true e.target.host e.at.host (sound.near (name_of s x.sends) e sent) in
    let goal_target : e.target ≡ target = ap (λ (z : Exchange). z.target) same ∙ own.target in
    let hosts : same_host s e.at ≡ true =
    eq-eqb s.host e.at.host (eqb-true s.host target.host near ∙ ap (λ (z : Pid). z.host) (sym goal_target) ∙ place) in
    and_from (same_host s e.at && is_some (sending x.state)) (holds_of (is_message_at e.at) (k.exchanges (name_of s x.sends)))
    (and_from (same_host s e.at) (is_some (sending x.state)) hosts (ap (λ y. is_some (sending y)) state))
    (ap (holds_of (is_message_at e.at)) sent ∙ and_from (same_pid e.at e.at) (is_at_target e.stage) (same_pid_self e.at) at)

exit_ends : (c : Settings) (host : ℕ) (is : List Input) (s target : Pid) (m : Message) → WaitsNear c host is s target m →
    (x : Process) → (reading_behind c host is).view.procs s ≡ Some x → (e : Exchange) →
    (reading_behind c host is).view.exchanges (name_of s x.sends) ≡ Some e → is_at_target e.stage ≡ true →
    is_ok (answer_to c host (reading_behind c host is) (Called e.at calls.Exit)) ≡ true →
    doing (view_after c host (reading_behind c host is) (Called e.at calls.Exit)) s
    ≡ Some (states.Done (calls.Send target m) (answers.Refused refusals.NoProcess))
unfolding reading_after right_entry call_outcome
exit_ends c host is s target m near x is_there e sent waits ok =
    let rd = reading_behind c host is in
    let k = rd.view in
    let call : Call = calls.Send target m in
    let at = doing_behind c host is s call near.waits in
    let state = same_Some x.state (states.Blocked call) (sym (ap state_of is_there) ∙ at) in
    let exit = exit_is k e.at (call_step k e.at calls.Exit) refl ok in
    let other = ready_other k s e.at exit.0 call at exit.1 exit.2 in
    let alone = is_left_alone k s target m x e (view_entries c host is near.waits.own).sound is_there state near.near sent waits in
    let a = answer_to c host rd (Called e.at calls.Exit) in
    let entry = right_entry c host rd (Called e.at calls.Exit) in
    let untaken = ap packet_taken (none_taken (Called e.at calls.Exit) a refl) in
    ap (λ (q : Option Packet). doing (after_steps k q entry.steps) s) untaken
    ∙ ap (λ l. doing l s) exit.3
    ∙ bereft_over k s e.at exit.0 x target m is_there state other alone

pub exits_end_near_sends : ExitsEndNearSends
unfolding reading right_entry
exits_end_near_sends c host is i s target m near exits =
    let rd = reading_behind c host is in
    let ok = ap (λ z. is_ok (right_entry c host rd z).answer) (sym exits.exits) ∙ exits.answered in
    let over = exit_ends c host is s target m near exits.process exits.there exits.exchange exits.sent exits.waits ok in
    subst (λ z. ((view_after c host rd z).procs s >>= λ p. finished_call p.state) ≡ Some
    (calls.Send target m, answers.Refused refusals.NoProcess))
    (sym exits.exits)
    (doing_over ((view_after c host rd (Called exits.exchange.at calls.Exit)).procs s) (calls.Send target m)
    (answers.Refused refusals.NoProcess) over)
