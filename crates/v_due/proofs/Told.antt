-- Why a work is over with a refusal: by a tick at which it is given up, or by a packet.
use Rattle.std.proofs.Common.{◌≡◌, ℕ, ◌+◌, Bool, true, false, ◌&&◌, not, List, [], ◌∷◌, fold, Option, Some, None, refl, sym, ap, subst, ◌∙◌}
use Rattle.std.proofs.lemmas.Bool.{and_parts, both_ways}
use Rattle.std.proofs.lemmas.Option.{same_Some, none-some}
use Rattle.std.specs.List.{filter_map}
use Rattle.vk_types.specs.Types.{Answer, Call, Pid, Process, Refusal, State, Step, Times}
use Rattle.vk_base.specs.declared.answer.Answer.TheVariants as answers
use Rattle.vk_base.specs.declared.answer.Ending.TheVariants as endings
use Rattle.vk_base.specs.declared.answer.Refusal.TheVariants as refusals
use Rattle.vk_base.specs.declared.call.Call.TheVariants as calls
use Rattle.vk_base.specs.declared.kernel.State.TheVariants as states
use Rattle.vk_base.specs.declared.step.Step.TheVariants as steps
use Rattle.vk_base.specs.Brought.{brought}
use Rattle.vk_base.specs.Kernel.{◌>>=◌, Kernel, blocked_in, finished_call}
use Rattle.vk_base.specs.Packets.{Packet}
use Rattle.vk_base.specs.Pids.{same_pid, same_host}
use Rattle.vk_base.specs.Settings.{Settings}
use Rattle.vk_base.specs.Steps.{effect, is_allowed, next}
use Rattle.vk_base.proofs.OptionLemmas.{bind_is}
use Rattle.v_laws.proofs.StepLemmas.{only_if_is}
use Rattle.v_laws.proofs.Tables.{same_pid_is}
use Rattle.vk_rules.specs.CallOutcomes.{call_outcome, collect_outcome, failed, failing_step, tick_outcome, work_failure}
use Rattle.vk_rules.specs.Each.{Each}
use Rattle.vk_rules.specs.Entries.{Entry, Input, Called, Collected, Ticked, Delivered, taken_packet}
use Rattle.vk_rules.specs.Frames.{Unsealed, sender_of}
use Rattle.vk_rules.specs.PacketOutcomes.{packet_outcome}
use Rattle.vk_rules.specs.Readings.{Reading, reading_after}
use Rattle.vk_rules.specs.Right.{answer_to, own_pids, right_entry}
use Rattle.vk_rules.specs.Rounds.{list_if}
use Rattle.vk_rules.specs.View.{after_steps}
use Rattle.vk_rules.specs.Works.{is_due, is_unanswered}
use Rattle.vk_rules.proofs.Lists.{each_filter_map}
use Rattle.vk_rules.proofs.Failures.{each_failed}
use Rattle.vk_rules.proofs.Taken.{packet_taken}
use Rattle.vk_rules.proofs.OwnEvents.{none_taken}
use Rattle.v_ages.proofs.Outcomes.{failed_no_call, mild_packet}
use Rattle.v_ages.proofs.Quiet.{NoCall}
use Rattle.v_ages.proofs.Taken.{brought_procs, any_each, settled_procs}
use Rattle.v_whole.specs.Delays.{IsGivenUp}
use Rattle.v_ended.proofs.Calling.{IsSoundView, call_spares}
use Rattle.v_ended.proofs.Spared.{IsAtWork, Passes, after_leaves, doing, state_of}
use Rattle.v_ended.proofs.Uncollected.{NoCollect, packets_collect_none}
use Rattle.v_due.proofs.Entries.{brings, untaken}
use Rattle.v_due.proofs.Packets.{ByPacket, RefusedBy, packet_refuses}
use Rattle.v_due.proofs.Refused.{Waits, refuses, steps_told, work_waits}

abbrev pub view_after : Settings → ℕ → Reading → Input → Kernel
view_after c host rd i = (reading_after c.times rd (right_entry c host rd i)).view

-- a refusal with which works fail at ticks
abbrev pub is_failure : Refusal → Bool
is_failure refusals.TimedOut = true
is_failure refusals.NotFound = true
is_failure why = false

pub data Cause (c : Settings) (host : ℕ) (rd : Reading) (i : Input) (s : Pid) (why : Refusal) : Type 0 where
  Tick : IsGivenUp c.times rd i s → is_failure why ≡ true → Cause c host rd i s why
  Frame : (p : Packet) → taken_packet (right_entry c host rd i) ≡ Some p → RefusedBy rd.view s p why → Cause c host rd i s why

-- who is still blocked is not done
pub never_both : (o : Option State) (c d : Call) (a : Answer) → o ≡ Some (states.Blocked c) → o ≡ Some (states.Done d a) → ⊥
never_both o c d a at is = none-some (d, a) (ap (λ x. x >>= finished_call) (sym at ∙ is))

-- Ticks.
fails_late : (s pid : Pid) (why : Refusal) → refuses s (steps.Fail pid endings.TimedOut) why ≡ true →
    (same_pid s pid ≡ true) × (is_failure why ≡ true)
fails_late s pid refusals.TimedOut t = (t, refl)
fails_late s pid why t = absurd (both_ways false refl t)

ends_late : (s pid : Pid) (why : Refusal) → refuses s (steps.End pid endings.TimedOut) why ≡ true →
    (same_pid s pid ≡ true) × (is_failure why ≡ true)
ends_late s pid refusals.TimedOut t = (t, refl)
ends_late s pid why t = absurd (both_ways false refl t)

lost_late : (s pid : Pid) (why : Refusal) → refuses s (steps.Lost pid) why ≡ true → (same_pid s pid ≡ true) × (is_failure why ≡ true)
lost_late s pid refusals.NotFound t = (t, refl)
lost_late s pid why t = absurd (both_ways false refl t)

failure_late : (s pid : Pid) (c : Call) (st : Step) (why : Refusal) → work_failure pid c ≡ Some st → refuses s st why ≡ true →
    (same_pid s pid ≡ true) × (is_failure why ≡ true)
failure_late s pid (calls.Send target m) st why e t =
    let o = only_if_is (not (same_host pid target)) (Some (steps.Fail pid endings.TimedOut)) st e in
    fails_late s pid why (subst (λ x. refuses s x why ≡ true) (sym (same_Some _ st o.1)) t)
failure_late s pid (calls.MoveTo partner dest src count) st why e t =
    ends_late s pid why (subst (λ x. refuses s x why ≡ true) (sym (same_Some _ st e)) t)
failure_late s pid (calls.MoveFrom partner dest src count) st why e t =
    ends_late s pid why (subst (λ x. refuses s x why ≡ true) (sym (same_Some _ st e)) t)
failure_late s pid (calls.GetPid logical scope) st why e t =
    lost_late s pid why (subst (λ x. refuses s x why ≡ true) (sym (same_Some _ st e)) t)
failure_late s pid c st why e t = absurd (none-some st e)

abbrev GivesUp : Times → Reading → Pid → Refusal → Type 0
GivesUp t rd s why = IsGivenUp t rd Ticked s × (is_failure why ≡ true)

tick_gives_up : (t : Times) (rd : Reading) (s : Pid) (why : Refusal) (pids : List Pid) →
    Each (λ st. refuses s st why ≡ true → GivesUp t rd s why) (filter_map (failed t (rd.now + 1) rd) pids)
tick_gives_up t rd s why pids =
    each_filter_map (λ st. refuses s st why ≡ true → GivesUp t rd s why) (failed t (rd.now + 1) rd) pids (λ pid st e told.
    let o = only_if_is (is_due t (rd.now + 1) (rd.work pid) && is_unanswered t (rd.work pid)) (failing_step rd.view pid) st e in
    let p = bind_is (rd.view.procs pid) _ st o.1 in
    let call = bind_is (blocked_in p.0.state) (work_failure pid) st p.2 in
    let late = failure_late s pid call.0 st why call.2 told in
    let test = and_parts (is_due t (rd.now + 1) (rd.work pid)) (is_unanswered t (rd.work pid)) o.0 in
    (subst (IsGivenUp t rd Ticked) (sym (same_pid_is s pid late.0)) (record { tick = refl; due = test.0; unanswered = test.1 }), late.1))

failure_left : (pid : Pid) (c : Call) (st : Step) → work_failure pid c ≡ Some st → NoCollect st
failure_left pid (calls.Send target m) st e = let o =
    only_if_is (not (same_host pid target)) (Some (steps.Fail pid endings.TimedOut)) st e in subst NoCollect (same_Some _ st o.1) refl
failure_left pid (calls.MoveTo partner dest src count) st e = subst NoCollect (same_Some _ st e) refl
failure_left pid (calls.MoveFrom partner dest src count) st e = subst NoCollect (same_Some _ st e) refl
failure_left pid (calls.GetPid logical scope) st e = subst NoCollect (same_Some _ st e) refl
failure_left pid c st e = absurd (none-some st e)

pub failed_left : (t : Times) (now : ℕ) (rd : Reading) (pids : List Pid) → Each NoCollect (filter_map (failed t now rd) pids)
failed_left t now rd pids = each_failed NoCollect failure_left t now rd pids

-- a collect leaves who is blocked
collect_leaves : (k : Kernel) (s q : Pid) (call : Call) (b : Bool) → doing k s ≡ Some (states.Blocked call) →
    doing (fold next k (list_if b (steps.Collect q ∷ []))) s ≡ doing k s
collect_leaves k s q call false at = refl
collect_leaves k s q call true at =
    after_leaves k s (steps.Collect q) (effect k (steps.Collect q)) refl
    (subst (λ x. Passes s x (steps.Collect q)) (sym at) (λ (t : same_pid s q ≡ true). refl))

-- Packets.
frame_told : (k : Kernel) (s : Pid) (p : Packet) (ss : List Step) (call : Call) (why : Refusal) → Waits s call →
    same_pid s (sender_of p) ≡ false → Each NoCall ss → Each NoCollect ss → Each (ByPacket k s p) ss →
    doing k s ≡ Some (states.Blocked call) →
    (d : Call) → doing (after_steps k (Some p) ss) s ≡ Some (states.Done d (answers.Refused why)) → RefusedBy k s p why
frame_told k s p [] call why work apart none left by at d is = absurd (never_both (doing k s) call d (answers.Refused why) at is)
frame_told k s p (x ∷ xs) call why work apart none left by at d is =
    let l = fold next (brought k p) (x ∷ xs) in
    let came : doing (brought k p) s ≡ Some (states.Blocked call) = ap state_of (brought_procs k p s apart) ∙ at in
    let there : doing l s ≡ Some (states.Done d (answers.Refused why)) =
    sym (ap (λ (procs : Pid → Option Process). state_of (procs s)) (settled_procs k l p)) ∙ is in
    any_each (RefusedBy k s p why) (λ st. refuses s st why) (x ∷ xs) (steps_told (brought k p) s call (x ∷ xs) work none left came d why there)
    (weaker (x ∷ xs) by)
  where
    weaker : (ss : List Step) → Each (ByPacket k s p) ss → Each (λ st. refuses s st why ≡ true → RefusedBy k s p why) ss
    weaker [] by = tt
    weaker (y ∷ ys) by = (by.0 why, weaker ys by.1)

delivered_told : (c : Settings) (host : ℕ) (rd : Reading) (u : Unsealed) (s : Pid) (call : Call) (why : Refusal) → s.host ≡ host →
    Waits s call → doing rd.view s ≡ Some (states.Blocked call) → (o : Option Packet) →
    taken_packet (right_entry c host rd (Delivered u)) ≡ o → (d : Call) →
    doing (after_steps rd.view (taken_packet (right_entry c host rd (Delivered u))) (right_entry c host rd (Delivered u)).steps) s
    ≡ Some (states.Done d (answers.Refused why)) →
    Cause c host rd (Delivered u) s why
delivered_told c host rd u s call why here work at None taken d is =
    let e = right_entry c host rd (Delivered u) in
    let none = untaken c host rd (Delivered u) taken tt in
    let still = ap (λ (q : Option Packet). after_steps rd.view q e.steps) taken ∙ ap (λ ss. after_steps rd.view None ss) none in
    absurd (never_both (doing rd.view s) call d (answers.Refused why) at (sym (ap (λ k. doing k s) still) ∙ is))
delivered_told c host rd u s call why here work at (Some p) taken d is =
    let b = brings c host rd (Delivered u) p taken in
    let e = right_entry c host rd (Delivered u) in
    let same = ap (λ (q : Option Packet). after_steps rd.view q e.steps) taken ∙ ap (λ ss. after_steps rd.view (Some p) ss) b.steps in
    Frame p taken
    (frame_told rd.view s p (packet_outcome host rd p).steps call why work (b.other s here) (mild_packet host rd p (sender_of p) 0).steps
    (packets_collect_none host rd p) (packet_refuses host rd s p) at d (sym (ap (λ k. doing k s) same) ∙ is))

pub without_frame : (k : Kernel) (s : Pid) (i : Input) (e : Entry) (o : Option State) → (taken_packet e ≡ None) →
    doing (after_steps k (taken_packet e) e.steps) s ≡ o → doing (fold next k e.steps) s ≡ o
without_frame k s i e o none is = sym (ap (λ (q : Option Packet). doing (after_steps k q e.steps) s) none) ∙ is

-- Every entry but a call.
abbrev pub IsNoCall : Input → Type 0
IsNoCall (Called pid call) = ⊥
IsNoCall i = Unit {0}

pub refused_elsewhere : (c : Settings) (host : ℕ) (rd : Reading) (i : Input) (s : Pid) (call : Call) (why : Refusal) → IsNoCall i →
    s.host ≡ host → Waits s call → doing rd.view s ≡ Some (states.Blocked call) → (d : Call) →
    doing (view_after c host rd i) s ≡ Some (states.Done d (answers.Refused why)) → Cause c host rd i s why
unfolding reading_after right_entry collect_outcome tick_outcome
refused_elsewhere c host rd (Called pid x) s call why none here waits at d is = absurd none
refused_elsewhere c host rd (Collected pid) s call why none here waits at d is =
    let e = right_entry c host rd (Collected pid) in
    let a = answer_to c host rd (Collected pid) in
    let goes = without_frame rd.view s (Collected pid) e _ (ap packet_taken (none_taken (Collected pid) a refl)) is in
    absurd (never_both (doing rd.view s) call d (answers.Refused why) at
    (sym (collect_leaves rd.view s pid call (is_allowed rd.view (steps.Collect pid)) at) ∙ goes))
refused_elsewhere c host rd Ticked s call why none here waits at d is =
    let ss = filter_map (failed c.times (rd.now + 1) rd) (own_pids c host) in
    let given_up = any_each (GivesUp c.times rd s why) (λ st. refuses s st why) ss
    (steps_told rd.view s call ss waits (failed_no_call c.times (rd.now + 1) rd (own_pids c host))
    (failed_left c.times (rd.now + 1) rd (own_pids c host)) at d why is)
    (tick_gives_up c.times rd s why (own_pids c host)) in
    Tick given_up.0 given_up.1
refused_elsewhere c host rd (Delivered u) s call why none here waits at d is =
    delivered_told c host rd u s call why here waits at (taken_packet (right_entry c host rd (Delivered u))) refl d is

-- Every entry, of a work.
pub refused_by : (c : Settings) (host : ℕ) (rd : Reading) (i : Input) (s : Pid) (why : Refusal) → IsSoundView rd.view → s.host ≡ host →
    (at : IsAtWork rd.view s) → (d : Call) → doing (view_after c host rd i) s ≡ Some (states.Done d (answers.Refused why)) →
    Cause c host rd i s why
unfolding reading_after right_entry call_outcome
refused_by c host rd (Called pid call) s why sound here at d is =
    let e = right_entry c host rd (Called pid call) in
    let a = answer_to c host rd (Called pid call) in
    let goes = without_frame rd.view s (Called pid call) e _ (ap packet_taken (none_taken (Called pid call) a refl)) is in
    absurd (never_both (doing rd.view s) at.call d (answers.Refused why) at.is (sym (call_spares rd.view s pid call sound at) ∙ goes))
refused_by c host rd (Collected pid) s why sound here at d is =
    refused_elsewhere c host rd (Collected pid) s at.call why tt here (work_waits s at.call at.work) at.is d is
refused_by c host rd Ticked s why sound here at d is =
    refused_elsewhere c host rd Ticked s at.call why tt here (work_waits s at.call at.work) at.is d is
refused_by c host rd (Delivered u) s why sound here at d is =
    refused_elsewhere c host rd (Delivered u) s at.call why tt here (work_waits s at.call at.work) at.is d is
