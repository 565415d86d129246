-- Who is blocked behind an entry, and that a move to a partner has more bytes than are acknowledged.
use Rattle.std.proofs.Common.{◌≡◌, ℕ, ◌+◌, true, false, cond, ◌==◌, ◌&&◌, ◌||◌, nat_lt, List, [], ◌∷◌, find, fold, option_map, Option, Some, None, refl, sym, ap, subst, ◌∙◌, inl, inr, ◌⊎◌}
use Rattle.std.proofs.lemmas.Bool.{and_from, and_parts, both_ways, cond-true, cond_both, ltb-true}
use Rattle.std.proofs.lemmas.Option.{same_Some, none-some}
use Rattle.std.specs.List.{list_any}
use Rattle.std.specs.Option.{option_map_or}
use Rattle.vk_types.specs.Types.{Call, Name, Pid, Process, ProcessSpec, State, Step}
use Rattle.vk_base.specs.declared.answer.Ending.TheVariants as endings
use Rattle.vk_base.specs.declared.call.Call.TheVariants as calls
use Rattle.vk_base.specs.declared.kernel.State.TheVariants as states
use Rattle.vk_base.specs.declared.step.Step.TheVariants as steps
use Rattle.vk_base.specs.Brought.{brought}
use Rattle.vk_base.specs.Calls.{call_step}
use Rattle.vk_base.specs.Kernel.{Kernel, blocked_in, initial_process, name_of}
use Rattle.vk_base.specs.Packets.{Packet, Send, Reply, Pending, Negative, MoveData, MoveAck, MoveRequest, MoveBytes, MoveNegative, AskPid, TellPid}
use Rattle.vk_base.specs.Pids.{same_pid}
use Rattle.vk_base.specs.Settings.{Settings, is_process}
use Rattle.vk_base.specs.Steps.{is_allowed, next, only_if}
use Rattle.vk_base.proofs.OptionLemmas.{bind_is}
use Rattle.v_laws.proofs.StepLemmas.{only_if_is}
use Rattle.v_laws.proofs.Tables.{same_pid_is}
use Rattle.vk_rules.specs.CallOutcomes.{call_outcome, collect_outcome, effect_answer, steps_behind, tick_outcome}
use Rattle.vk_rules.specs.Each.{Each}
use Rattle.vk_rules.specs.Entries.{Entry, Input, Called, Collected, Ticked, Delivered, is_begun, taken_packet}
use Rattle.vk_rules.specs.Frames.{Frame, Unsealed, frames_of, sender_of}
use Rattle.vk_rules.specs.PacketOutcomes.{ack_outcome, packet_outcome, restarts_at, running_to}
use Rattle.vk_rules.specs.Readings.{Reading, reading, reading_after}
use Rattle.vk_rules.specs.Right.{answer_to, own_pids, right_entry}
use Rattle.vk_rules.specs.Rounds.{Outcome, list_if, nothing, only_packets, only_steps, round}
use Rattle.vk_rules.specs.View.{after_steps, first_view}
use Rattle.vk_rules.specs.Works.{Work, acknowledged_by, begins, count_of_move, is_of_round, move_count, moves_to, restarts, work_after}
use Rattle.vk_rules.proofs.Lists.{each_if, each_weaker}
use Rattle.vk_rules.proofs.Taken.{outcome_by, packet_taken}
use Rattle.vk_rules.proofs.OwnEvents.{none_taken}
use Rattle.v_ages.proofs.Outcomes.{behind_no_call, failed_no_call, mild_packet}
use Rattle.v_ages.proofs.Quiet.{NoCall}
use Rattle.v_ages.proofs.Sent.{IsRound, round_is}
use Rattle.v_ages.proofs.Taken.{brought_procs, any_each, settled_procs}
use Rattle.v_ended.proofs.Spared.{doing, state_of}
use Rattle.v_due.specs.Failures.{reading_behind}
use Rattle.v_due.proofs.Entries.{brings, untaken}
use Rattle.v_due.proofs.Told.{view_after}
use Rattle.v_due.proofs.Waits.{Before, Begun, Blocked, HasBytes, HasMore, IsCalm, call_starts, some_bytes, steps_calm}

-- An entry that takes no frame.
without_frame : (k : Kernel) (e : Entry) (r : Pid) (o : Option State) → taken_packet e ≡ None →
    doing (after_steps k (taken_packet e) e.steps) r ≡ o → doing (fold next k e.steps) r ≡ o
without_frame k e r o none is = sym (ap (λ (q : Option Packet). doing (after_steps k q e.steps) r) none) ∙ is

-- One that takes one.
frame_calm : (k : Kernel) (p : Packet) (ss : List Step) (r : Pid) → same_pid r (sender_of p) ≡ false → Each NoCall ss →
    IsCalm k (after_steps k (Some p) ss) r
frame_calm k p [] r apart none = λ c at. at
frame_calm k p (s ∷ ss) r apart none = λ c at.
    let l = fold next (brought k p) (s ∷ ss) in
    let there = sym (ap (λ (procs : Pid → Option Process). state_of (procs r)) (settled_procs k l p)) ∙ at in
    sym (ap state_of (brought_procs k p r apart)) ∙ steps_calm (brought k p) r (s ∷ ss) none c there

delivered_calm : (c : Settings) (host : ℕ) (rd : Reading) (u : Unsealed) (r : Pid) → r.host ≡ host → (o : Option Packet) →
    taken_packet (right_entry c host rd (Delivered u)) ≡ o →
    IsCalm rd.view (after_steps rd.view (taken_packet (right_entry c host rd (Delivered u))) (right_entry c host rd (Delivered u)).steps) r
delivered_calm c host rd u r here None taken =
    let e = right_entry c host rd (Delivered u) in
    let none = untaken c host rd (Delivered u) taken tt in
    let still = ap (λ (q : Option Packet). after_steps rd.view q e.steps) taken ∙ ap (λ ss. after_steps rd.view None ss) none in
    λ call at. sym (ap (λ k. doing k r) still) ∙ at
delivered_calm c host rd u r here (Some p) taken =
    let b = brings c host rd (Delivered u) p taken in
    let e = right_entry c host rd (Delivered u) in
    let same = ap (λ (q : Option Packet). after_steps rd.view q e.steps) taken ∙ ap (λ ss. after_steps rd.view (Some p) ss) b.steps in
    λ call at. frame_calm rd.view p (packet_outcome host rd p).steps r (b.other r here) (mild_packet host rd p (sender_of p) 0).steps call
    (sym (ap (λ k. doing k r) same) ∙ at)

-- Blocked behind an entry: before it, or begun in it.
abbrev pub WasBlocked : Settings → ℕ → Reading → Input → Pid → Call → Type 0
WasBlocked c host rd i r call =
    (doing rd.view r ≡ Some (states.Blocked call)) ⊎ ((begins r (right_entry c host rd i) ≡ true) × HasBytes call)

started : (c : Settings) (host : ℕ) (rd : Reading) (q : Pid) (d : Call) (r : Pid) (call : Call) →
    Blocked rd.view q d (is_begun (effect_answer (call_step rd.view q d))) r call → WasBlocked c host rd (Called q d) r call
unfolding right_entry
started c host rd q d r call (Before at) = inl at
started c host rd q d r call (Begun same is begun bytes) = inr (and_from (same_pid q r) _ same begun, bytes)

pub was_blocked : (c : Settings) (host : ℕ) (rd : Reading) (i : Input) (r : Pid) (call : Call) → r.host ≡ host →
    doing (view_after c host rd i) r ≡ Some (states.Blocked call) → WasBlocked c host rd i r call
unfolding reading_after right_entry call_outcome collect_outcome tick_outcome
was_blocked c host rd (Called q d) r call here at =
    let e = right_entry c host rd (Called q d) in
    let a = answer_to c host rd (Called q d) in
    let l = next rd.view (steps.Call q d) in
    let goes = without_frame rd.view e r _ (ap packet_taken (none_taken (Called q d) a refl)) at in
    started c host rd q d r call (call_starts rd.view q d (call_step rd.view q d) r call refl
    (steps_calm l r (steps_behind l q d a) (behind_no_call l q d a) call goes))
was_blocked c host rd (Collected q) r call here at =
    let e = right_entry c host rd (Collected q) in
    let a = answer_to c host rd (Collected q) in
    let goes = without_frame rd.view e r _ (ap packet_taken (none_taken (Collected q) a refl)) at in
    inl (steps_calm rd.view r _ (each_if NoCall (is_allowed rd.view (steps.Collect q)) (steps.Collect q ∷ []) (λ t. (refl, tt))) call goes)
was_blocked c host rd Ticked r call here at =
    inl (steps_calm rd.view r _ (failed_no_call c.times (rd.now + 1) rd (own_pids c host)) call at)
was_blocked c host rd (Delivered u) r call here at =
    inl (delivered_calm c host rd u r here (taken_packet (right_entry c host rd (Delivered u))) refl call at)

-- The rounds of an entry are those of its packets.
pub frames_any : (r : Pid) (host stamp number event output : ℕ) (ps : List Packet) →
    list_any (λ (f : Frame). is_of_round r f.packet) (frames_of host stamp number event output ps) ≡ list_any (is_of_round r) ps
frames_any r host stamp number event output [] = refl
frames_any r host stamp number event output (p ∷ ps) = ap (λ b. is_of_round r p || b) (frames_any r host stamp number event (output + 1) ps)

-- What a packet that starts a move anew acknowledges.
ack_more : (k : Kernel) (w : Work) (to r : Pid) (received : ℕ) (q : Process) (call : Call) → q.state ≡ states.Blocked call →
    list_any (is_of_round r) (ack_outcome k w to received q).packets ≡ true → HasMore received call
ack_more k w to r received q call state =
    cond_both (received == move_count q) (only_steps (steps.End to endings.Ok ∷ []))
    (only_packets (list_if (restarts_at w received (move_count q)) (round k (record w { acknowledged = received }) to)))
    (λ (o : Outcome). list_any (is_of_round r) o.packets ≡ true → HasMore received call)
    (λ t is. absurd (both_ways false refl is))
    (λ f. cond_both (restarts_at w received (move_count q)) (round k (record w { acknowledged = received }) to) []
    (λ ps. list_any (is_of_round r) ps ≡ true → HasMore received call)
    (λ t is. below call (ap (λ x. nat_lt received (option_map_or count_of_move (blocked_in x) 0)) (sym state)
    ∙ (and_parts (nat_lt w.acknowledged received) (nat_lt received (move_count q))
    (and_parts (nat_lt w.acknowledged received && nat_lt received (move_count q)) _ t).0).1))
    (λ n is. absurd (both_ways false refl is)))
  where
    below : (call : Call) → nat_lt received (count_of_move call) ≡ true → HasMore received call
    below (calls.MoveTo partner dest src count) t = ltb-true received count t
    below call t = tt

-- the packets of a MoveAck are of the mover that it is for
ack_own : (k : Kernel) (w : Work) (to r : Pid) (received : ℕ) (q : Process) →
    list_any (is_of_round r) (ack_outcome k w to received q).packets ≡ true → same_pid to r ≡ true
ack_own k w to r received q =
    cond_both (received == move_count q) (only_steps (steps.End to endings.Ok ∷ []))
    (only_packets (list_if (restarts_at w received (move_count q)) (round k (record w { acknowledged = received }) to)))
    (λ (o : Outcome). list_any (is_of_round r) o.packets ≡ true → same_pid to r ≡ true)
    (λ t is. absurd (both_ways false refl is))
    (λ f is. any_each (same_pid to r ≡ true) (is_of_round r) _ is
    (each_if (λ p. is_of_round r p ≡ true → same_pid to r ≡ true) (restarts_at w received (move_count q)) _
    (λ t. each_weaker (IsRound k to r 0) (λ p. is_of_round r p ≡ true → same_pid to r ≡ true) (round k (record w { acknowledged = received }) to)
    (round_is k (record w { acknowledged = received }) to r 0) (λ p x. x.of))))

ack_fits : (k : Kernel) (w : Work) (to r : Pid) (name : Name) (moving received : ℕ) (o : Option Process) (call : Call) →
    running_to k to name moving ≡ o → doing k r ≡ Some (states.Blocked call) →
    list_any (is_of_round r) (option_map_or (ack_outcome k w to received) o nothing).packets ≡ true → HasMore received call
ack_fits k w to r name moving received None call runs at is = absurd (both_ways false refl is)
ack_fits k w to r name moving received (Some q) call runs at is =
    let p = bind_is (k.procs to) (λ (p : Process). only_if (moves_to p name moving) (Some p)) q runs in
    let test = only_if_is (moves_to p.0 name moving) (Some p.0) q p.2 in
    let there : k.procs to ≡ Some q = p.1 ∙ test.1 in
    let same = same_pid_is to r (ack_own k w to r received q is) in
    ack_more k w to r received q call
    (same_Some q.state (states.Blocked call) (sym (ap state_of there) ∙ ap (doing k) same ∙ at)) is

packet_fits : (host : ℕ) (rd : Reading) (r : Pid) (p : Packet) (call : Call) → doing rd.view r ≡ Some (states.Blocked call) → HasBytes call →
    list_any (is_of_round r) (packet_outcome host rd p).packets ≡ true → HasMore (acknowledged_by (Some p)) call
unfolding packet_outcome
packet_fits host rd r (MoveAck from to number moving received) call at bytes is =
    ack_fits rd.view (rd.work to) to r (name_of from number) moving received (running_to rd.view to (name_of from number) moving) call refl at is
packet_fits host rd r (Send from to n m part) call at bytes is = bytes
packet_fits host rd r (Reply from to n m dest bs) call at bytes is = bytes
packet_fits host rd r (Pending from to n) call at bytes is = bytes
packet_fits host rd r (Negative from to n) call at bytes is = bytes
packet_fits host rd r (MoveData from to n moving dest total offset bs) call at bytes is = bytes
packet_fits host rd r (MoveRequest from to n moving src total offset) call at bytes is = bytes
packet_fits host rd r (MoveBytes from to n moving total offset bs) call at bytes is = bytes
packet_fits host rd r (MoveNegative from to n moving) call at bytes is = bytes
packet_fits host rd r (AskPid asker lookup logical) call at bytes is = bytes
packet_fits host rd r (TellPid found asker lookup) call at bytes is = bytes

-- a packet that starts the work anew
outcome_fits : (host stamp number event : ℕ) (rd : Reading) (r : Pid) (o : Option Frame) (call : Call) →
    doing rd.view r ≡ Some (states.Blocked call) →
    HasBytes call → list_any (λ (f : Frame). is_of_round r f.packet) (frames_of host stamp number event 1 (outcome_by host rd o).packets) ≡ true →
    HasMore (acknowledged_by (packet_taken o)) call
outcome_fits host stamp number event rd r None call at bytes is = bytes
outcome_fits host stamp number event rd r (Some f) call at bytes is =
    packet_fits host rd r f.packet call at bytes
    (sym (frames_any r host stamp number event 1 (packet_outcome host rd f.packet).packets) ∙ is)

restart_fits : (c : Settings) (host : ℕ) (rd : Reading) (i : Input) (r : Pid) (call : Call) → doing rd.view r ≡ Some (states.Blocked call) →
    HasBytes call → restarts r (right_entry c host rd i) ≡ true → HasMore (acknowledged_by (taken_packet (right_entry c host rd i))) call
unfolding right_entry
restart_fits c host rd (Called q d) r call at bytes is = absurd (both_ways false refl is)
restart_fits c host rd (Collected q) r call at bytes is = absurd (both_ways false refl is)
restart_fits c host rd Ticked r call at bytes is = absurd (both_ways false refl is)
restart_fits c host rd (Delivered u) r call at bytes is = outcome_fits host _ _ _ rd r _ call at bytes is

-- Behind an entry there are more bytes than are acknowledged.
work_fits : (c : Settings) (host : ℕ) (rd : Reading) (i : Input) (r : Pid) (call : Call) → WasBlocked c host rd i r call →
    (doing rd.view r ≡ Some (states.Blocked call) → HasMore (rd.work r).acknowledged call) →
    HasMore (work_after rd.view r (right_entry c host rd i) (rd.work r)).acknowledged call
unfolding work_after
work_fits c host rd i r call (inr begun) before =
    subst (λ n. HasMore n call) (sym (cond-true (begins r (right_entry c host rd i)) 0 _ begun.0)) begun.1
work_fits c host rd i r call (inl at) before =
    let e = right_entry c host rd i in
    let bytes = some_bytes (rd.work r).acknowledged call (before at) in
    cond_both (begins r e) 0 (cond (restarts r e) (acknowledged_by (taken_packet e)) (rd.work r).acknowledged) (λ n. HasMore n call)
    (λ t. bytes)
    (λ f. cond_both (restarts r e) (acknowledged_by (taken_packet e)) (rd.work r).acknowledged (λ n. HasMore n call)
    (λ t. restart_fits c host rd i r call at bytes t) (λ g. before at))

-- nobody is blocked at first
pub first_free : (c : Settings) (host : ℕ) (r : Pid) (call : Call) → doing (first_view c.specs) r ≡ Some (states.Blocked call) → ⊥
first_free c host r call at = none (find (is_process r) c.specs) at
  where
    none : (o : Option ProcessSpec) → state_of (option_map initial_process o) ≡ Some (states.Blocked call) → ⊥
    none None at = none-some (states.Blocked call) at
    none (Some x) at = none-some call (ap blocked_in (same_Some states.Ready (states.Blocked call) at))

pub more_behind : (c : Settings) (host : ℕ) (is : List Input) (r : Pid) (call : Call) → r.host ≡ host →
    doing (reading_behind c host is).view r ≡ Some (states.Blocked call) → HasMore ((reading_behind c host is).work r).acknowledged call
unfolding reading reading_after
more_behind c host [] r call here at = absurd (first_free c host r call at)
more_behind c host (i ∷ is) r call here at =
    let rd = reading_behind c host is in
    work_fits c host rd i r call (was_blocked c host rd i r call here at) (more_behind c host is r call here)
