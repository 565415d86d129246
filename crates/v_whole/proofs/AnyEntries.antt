-- Every right entry keeps what holds of a view, whatever frame it took.
use Rattle.std.proofs.Common.{◌≡◌, if◌then◌else◌, ℕ, ◌+◌, ◌^◌, ◌<◌, Bool, true, false, ◌==◌, ◌&&◌, not, nat_lt, List, [], ◌∷◌, ◌++◌, fold, length, Option, Some, None, is_none, option_map, refl, sym, ap, subst, ◌∙◌, inl, inr}
use Rattle.std.proofs.lemmas.Bool.{cases_eq, both_ways, and_parts, cond_both, eqb-true, eq-eqb, ltb-true}
use Rattle.std.proofs.lemmas.Option.{same_Some, none-some}
use Rattle.std.specs.List.{filter_map, list_all}
use Rattle.std.specs.Option.{option_map_or}
use Rattle.vk_types.specs.Types.{Call, EventAnswer, Message, Name, Pid, Process, Step, Times}
use Rattle.vk_base.specs.declared.answer.Ending.TheVariants as endings
use Rattle.vk_base.specs.declared.call.Call.TheVariants as calls
use Rattle.vk_base.specs.declared.step.Step.TheVariants as steps
use Rattle.vk_base.specs.Brought.{brought}
use Rattle.vk_base.specs.Calls.{Effect}
use Rattle.vk_base.specs.Kernel.{Kernel, name_of, holds_of, is_live, blocked_in}
use Rattle.vk_base.specs.Packets.{Packet, Send, Reply, Pending, Negative, MoveData, MoveAck, MoveRequest, MoveBytes, MoveNegative, AskPid, TellPid}
use Rattle.vk_base.specs.Pids.{same_host}
use Rattle.vk_base.specs.Settings.{Settings, pool_of}
use Rattle.vk_base.specs.Steps.{after_effect, effect, first_of, is_allowed, next}
use Rattle.vk_base.proofs.OptionLemmas.{bind_is}
use Rattle.v_laws.proofs.Options.{some_that_holds}
use Rattle.v_laws.proofs.StepLemmas.{only_if_is}
use Rattle.vk_packet.specs.Rules.{is_number}
use Rattle.v_sim.specs.AnyView.{Comes, IsView}
use Rattle.v_sim.specs.Agreement.{target_of}
use Rattle.v_sim.proofs.AnyLeft.{view_settled}
use Rattle.v_sim.proofs.AnyStep.{IsOwnStep, view_initial, view_own}
use Rattle.v_sim.proofs.AnyView.{view_brought}
use Rattle.vk_rules.specs.Aliens.{Alien, alien_of, arrival_in, as_arrival, place_for, slots_after}
use Rattle.vk_rules.specs.CallOutcomes.{call_outcome, collect_outcome, failed, steps_behind, take_where, tick_outcome, is_ok, work_failure}
use Rattle.vk_rules.specs.Entries.{Input, Called, Collected, Ticked, Delivered, is_frame_taken, taken_packet}
use Rattle.vk_rules.specs.Frames.{Frame, Framed, Headed, Noise, sender_of}
use Rattle.vk_rules.specs.PacketOutcomes.{FarSender, ack_outcome, bytes_outcome, data_outcome, far_sender, far_partner, found_there, is_later, is_next_piece, is_same, may_be_read, may_be_written, no_sender, opens_move, packet_outcome, request_outcome, restarts_at, running_from, running_to, send_outcome, takes_reply, told_asker}
use Rattle.vk_rules.specs.Readings.{Reading, reading, reading_after}
use Rattle.vk_rules.specs.Right.{entries_of, answer_to, own_pids, right_entry}
use Rattle.vk_rules.specs.Rounds.{Outcome, list_if, nothing, only_packets, only_steps, round}
use Rattle.vk_rules.specs.View.{after_steps}
use Rattle.vk_rules.specs.Works.{is_due, is_last, is_unanswered, move_count, shows_gap}
use Rattle.vk_rules.specs.Each.{Each}
use Rattle.vk_rules.proofs.Lists.{each_append, each_if, each_filter_map}
use Rattle.v_ages.specs.Apart.{in_slot}
use Rattle.v_ages.proofs.Histories.{aged_start, at_replicate}
use Rattle.v_ages.proofs.Keen.{Came, New, Old, IsKeen, IsOwn, came_from, keen_entry}
use Rattle.v_ages.proofs.Tame.{NotArrive, behind_not_arrive, failed_not_arrive, no_arrivals, tame_packet}
use Rattle.v_ages.proofs.Outcomes.{outcome_if, outcome_or}
use Rattle.v_whole.specs.EveryFrame.{IsKeptAt, IsOwnInput, AreOwnInputs}
use Rattle.v_whole.proofs.AnyKept.{kept_brought, kept_next, kept_sent_here, kept_settled}
use Rattle.v_whole.proofs.Packets.{awaiting_is}
use Rattle.v_whole.proofs.Taken.{IsTakenFrame, taken_frame_is, none_taken}

-- Steps of the station.
view_by : (h : ℕ) (k : Kernel) (s : Step) (o : Option Effect) → IsOwnStep h s → effect k s ≡ o → IsView h k → IsView h (after_effect k o)
view_by h k s None own e view = view
view_by h k s (Some x) own e view = view_own h k s x view own e

-- the view holds, and what is to a process of the station stays so
abbrev pub HoldsOn : ℕ → Kernel → Kernel → Type 0
HoldsOn h k l = IsView h l × ((n : Name) → IsKeptAt h k n → IsKeptAt h l n)

pub still : (h : ℕ) (k : Kernel) → IsView h k → HoldsOn h k k
still h k view = (view, λ n was. was)

pub view_fold : (h : ℕ) (k : Kernel) (ss : List Step) → Each (IsOwnStep h) ss → IsView h k → HoldsOn h k (fold next k ss)
view_fold h k [] own view = still h k view
view_fold h k (s ∷ ss) own view =
    let rest = view_fold h (next k s) ss own.1 (view_by h k s (effect k s) own.0 refl view) in
    (rest.0, λ n was. rest.1 n (kept_next h k s n view was))

view_steps : (h : ℕ) (k : Kernel) (p : Packet) (ss : List Step) → Each (IsOwnStep h) ss → IsView h k → Comes h k p →
    HoldsOn h k (after_steps k (Some p) ss)
view_steps h k p [] own view comes = still h k view
view_steps h k p (s ∷ ss) own view comes =
    let inner = view_fold h (brought k p) (s ∷ ss) own (view_brought h k p view comes) in
    let last = fold next (brought k p) (s ∷ ss) in
    (view_settled h k last p inner.0, λ n was. kept_settled h k last p n (inner.1 n (kept_brought h k p n comes was)))

-- Packets.
abbrev ViewOf : ℕ → Kernel → Packet → Outcome → Type 0
ViewOf h k p o = HoldsOn h k (after_steps k (Some p) o.steps)

view_if : (h : ℕ) (k : Kernel) (p : Packet) (b : Bool) (s : Step) → IsView h k → IsOwnStep h s → (b ≡ true → Comes h k p) →
    HoldsOn h k (after_steps k (Some p) (list_if b (s ∷ [])))
view_if h k p b s view own comes =
    cond_both b (s ∷ []) [] (λ ss. HoldsOn h k (after_steps k (Some p) ss)) (λ t. view_steps h k p (s ∷ []) (own, tt) view (comes t))
    (λ f. still h k view)

pub own_take : (h : ℕ) (k : Kernel) (r : Pid) → Each (IsOwnStep h) (take_where k r)
own_take h k r = each_if (IsOwnStep h) _ (steps.Take r ∷ []) (λ t. (tt, tt))

pub first_of_numbers : (number : ℕ) → list_all is_number (number ∷ []) ≡ true → 0 < number
first_of_numbers number t =
    let one = and_parts (is_number number) true t in
    ltb-true 0 number (and_parts (nat_lt 0 number) (nat_lt number (2 ^ 63)) one.0).0

send_view : (h : ℕ) (r : Reading) (p : Packet) (from to : Pid) (number : ℕ) → IsView h r.view → Comes h r.view p →
    ViewOf h r.view p (send_outcome r p (name_of from number) to)
send_view h r p from to number view comes =
    outcome_if (ViewOf h r.view p) (holds_of (is_later number) (alien_of r.slots from)) _ _ (λ t. still h r.view view) (λ t.
    outcome_if (ViewOf h r.view p) (holds_of (is_same number) (alien_of r.slots from)) _ _ (λ t. still h r.view view) (λ t.
    outcome_if (ViewOf h r.view p) (not (is_live (r.view.procs to))) _ _ (λ t. still h r.view view) (λ t.
    outcome_if (ViewOf h r.view p) (is_none (place_for r.slots from)) _ _ (λ t. still h r.view view) (λ t.
    view_steps h r.view p (steps.Arrive from number ∷ take_where (after_steps r.view (Some p) (steps.Arrive from number ∷ [])) to)
    (tt, own_take h _ to) view comes))))

-- the exchange of a process that waits in its Send is to the target of that Send
sent_to : (h : ℕ) (l : Kernel) (from to : Pid) (number : ℕ) (w : FarSender) → IsView h l → far_sender l (name_of to number) from ≡ Some w →
    target_of (l.exchanges (name_of to number)) ≡ Some from
sent_to h l from to number w view e =
    let a = awaiting_is l to number from w e in
    let s = view.sound.sent to w.process a.target w.message a.process a.sends in
    ap (λ i. target_of (l.exchanges (name_of to i))) (sym a.last) ∙ ap target_of s.is ∙ ap (λ z. Some z) (s.target ∙ a.to_is)

packet_view : (h : ℕ) (r : Reading) (p : Packet) → IsTakenFrame h p → IsView h r.view → ViewOf h r.view p (packet_outcome h r p)
unfolding packet_outcome
packet_view h r (Send from to number m part) taken view =
    send_view h r (Send from to number m part) from to number view (record {
      here = taken.here to refl;
      far = λ e. both_ways (from.host == h) taken.far (eq-eqb from.host h e);
      first = first_of_numbers number taken.numbers;
    })
packet_view h r (Reply from to number m dest bytes) taken view =
    view_if h r.view (Reply from to number m dest bytes) _ (steps.Finish to) view (taken.here to refl) (λ t.
    let w = some_that_holds (takes_reply dest bytes) (far_sender r.view (name_of to number) from) t in
    record {
      far = λ e. both_ways (from.host == h) taken.far (eq-eqb from.host h e);
      target = sent_to h r.view from to number w.0 view w.1;
    })
packet_view h r (Pending from to number) taken view = still h r.view view
packet_view h r (Negative from to number) taken view =
    view_if h r.view (Negative from to number) _ (steps.Fail to endings.NoProcess) view (taken.here to refl)
    (λ t e. both_ways (from.host == h) taken.far (eq-eqb from.host h e))
packet_view h r (MoveNegative from to number moving) taken view =
    view_if h r.view (MoveNegative from to number moving) _ (steps.End to endings.Gone) view (taken.here to refl) (λ t. tt)
packet_view h r (AskPid asker lookup logical) taken view =
    outcome_or (ViewOf h r.view (AskPid asker lookup logical)) (told_asker asker lookup) (found_there (r.view.names h) logical) nothing
    (λ pid e. view_steps h r.view (AskPid asker lookup logical) (steps.Hear asker lookup pid ∷ []) (tt, tt) view tt) (still h r.view view)
packet_view h r (TellPid found asker lookup) taken view =
    view_if h r.view (TellPid found asker lookup) _ (steps.Found asker found) view (taken.here asker refl) (λ t. tt)
packet_view h r (MoveAck from to number moving got) taken view =
    let p : Packet = MoveAck from to number moving got in
    outcome_or (ViewOf h r.view p) (ack_outcome r.view (r.work to) to got) (running_to r.view to (name_of from number) moving) nothing
    (λ q e. outcome_if (ViewOf h r.view p) (got == move_count q) (only_steps (steps.End to endings.Ok ∷ []))
    (only_packets (list_if (restarts_at (r.work to) got (move_count q)) (round r.view (record (r.work to) { acknowledged = got }) to)))
    (λ t. view_steps h r.view p (steps.End to endings.Ok ∷ []) (taken.here to refl, tt) view tt) (λ f. still h r.view view))
    (still h r.view view)
packet_view h r (MoveData from to number moving dest total offset bytes) taken view =
    let p : Packet = MoveData from to number moving dest total offset bytes in
    outcome_or (ViewOf h r.view p)
    (λ (w : FarSender).
    if may_be_written dest total w then data_outcome (name_of to number) from moving total offset bytes w.exchange else nothing)
    (far_partner r.view (name_of to number) from) (no_sender r.view (name_of to number) from moving)
    (λ w e. outcome_if (ViewOf h r.view p) (may_be_written dest total w)
    (data_outcome (name_of to number) from moving total offset bytes w.exchange) nothing
    (λ t.
    let opener = opens_move w.exchange (name_of to number) moving in
    let copy = list_if (is_next_piece w.exchange moving offset) (steps.Copy to number moving offset (length bytes) ∷ []) in
    view_steps h r.view p (opener ++ copy)
    (each_append (IsOwnStep h) opener copy (each_if (IsOwnStep h) _ (steps.OpenMove to number moving ∷ []) (λ t. (tt, tt)))
    (each_if (IsOwnStep h) _ (steps.Copy to number moving offset (length bytes) ∷ []) (λ t. (tt, tt)))) view tt)
    (λ f. still h r.view view)) (still h r.view view)
packet_view h r (MoveRequest from to number moving src total offset) taken view =
    let p : Packet = MoveRequest from to number moving src total offset in
    outcome_or (ViewOf h r.view p)
    (λ (w : FarSender).
    if may_be_read src total w then request_outcome (name_of to number) from moving src total offset w else nothing)
    (far_partner r.view (name_of to number) from) (no_sender r.view (name_of to number) from moving)
    (λ w e. outcome_if (ViewOf h r.view p) (may_be_read src total w)
    (request_outcome (name_of to number) from moving src total offset w) nothing
    (λ t. view_steps h r.view p (opens_move w.exchange (name_of to number) moving)
    (each_if (IsOwnStep h) _ (steps.OpenMove to number moving ∷ []) (λ t. (tt, tt))) view tt)
    (λ f. still h r.view view)) (still h r.view view)
packet_view h r (MoveBytes from to number moving total offset bytes) taken view =
    let p : Packet = MoveBytes from to number moving total offset bytes in
    let copy : Step = steps.Copy from number moving offset (length bytes) in
    let ends = list_if (is_last total offset bytes) (steps.End to endings.Ok ∷ []) in
    outcome_or (ViewOf h r.view p) (λ (q : Process). bytes_outcome r.view (r.work to) to (name_of from number) moving total offset bytes)
    (running_from r.view to (name_of from number) moving total) nothing
    (λ q e. outcome_if (ViewOf h r.view p) (offset == (r.work to).received) (only_steps (copy ∷ ends))
    (only_packets (list_if (shows_gap (r.work to).received total offset bytes && (r.work to).fresh) (round r.view (r.work to) to)))
    (λ t. view_steps h r.view p (copy ∷ ends)
    (tt, each_if (IsOwnStep h) _ (steps.End to endings.Ok ∷ []) (λ t. (taken.here to refl, tt))) view tt)
    (λ f. still h r.view view)) (still h r.view view)

-- Calls and ticks.
own_behind : (h : ℕ) (k : Kernel) (pid : Pid) (c : Call) (a : EventAnswer) → pid.host ≡ h → Each (IsOwnStep h) (steps_behind k pid c a)
own_behind h k pid (calls.Send target m) a here = each_if (IsOwnStep h) _ _ (λ t. own_take h k target)
own_behind h k pid calls.Receive a here = each_if (IsOwnStep h) _ _ (λ t. own_take h k pid)
own_behind h k pid (calls.ReceiveSegment start count) a here = each_if (IsOwnStep h) _ _ (λ t. own_take h k pid)
own_behind h k pid (calls.Reply m to) a here =
    each_if (IsOwnStep h) (is_ok a && same_host pid to) (steps.Finish to ∷ [])
    (λ t. (sym (eqb-true pid.host to.host (and_parts (is_ok a) (same_host pid to) t).1) ∙ here, tt))
own_behind h k pid (calls.ReplySegment m to dest src count) a here =
    each_if (IsOwnStep h) (is_ok a && same_host pid to) (steps.Finish to ∷ [])
    (λ t. (sym (eqb-true pid.host to.host (and_parts (is_ok a) (same_host pid to) t).1) ∙ here, tt))
own_behind h k pid (calls.Forward m from to) a here = each_if (IsOwnStep h) _ _ (λ t. own_take h k to)
own_behind h k pid (calls.MoveTo partner dest src count) a here = tt
own_behind h k pid (calls.MoveFrom partner dest src count) a here = tt
own_behind h k pid (calls.SetPid logical q scope) a here = tt
own_behind h k pid (calls.GetPid logical scope) a here = tt
own_behind h k pid (calls.Load start count) a here = tt
own_behind h k pid (calls.Store start bytes) a here = tt
own_behind h k pid calls.Exit a here = tt

failure_own : (h : ℕ) (pid : Pid) (c : Call) (s : Step) → pid.host ≡ h → work_failure pid c ≡ Some s → IsOwnStep h s
failure_own h pid (calls.Send target m) s here e = subst (IsOwnStep h) (same_Some (steps.Fail pid endings.TimedOut) s
    (only_if_is (not (same_host pid target)) (Some (steps.Fail pid endings.TimedOut)) s e).1) here
failure_own h pid (calls.MoveTo partner dest src count) s here e =
    subst (IsOwnStep h) (same_Some (steps.End pid endings.TimedOut) s e) here
failure_own h pid (calls.MoveFrom partner dest src count) s here e =
    subst (IsOwnStep h) (same_Some (steps.End pid endings.TimedOut) s e) here
failure_own h pid (calls.GetPid logical scope) s here e = subst (IsOwnStep h) (same_Some (steps.Lost pid) s e) here
failure_own h pid calls.Receive s here e = absurd (none-some s e)
failure_own h pid (calls.ReceiveSegment start count) s here e = absurd (none-some s e)
failure_own h pid (calls.Reply m q) s here e = absurd (none-some s e)
failure_own h pid (calls.ReplySegment m q dest src count) s here e = absurd (none-some s e)
failure_own h pid (calls.Forward m one q) s here e = absurd (none-some s e)
failure_own h pid (calls.SetPid logical q scope) s here e = absurd (none-some s e)
failure_own h pid (calls.Load start count) s here e = absurd (none-some s e)
failure_own h pid (calls.Store start bytes) s here e = absurd (none-some s e)
failure_own h pid calls.Exit s here e = absurd (none-some s e)

failed_own : (h : ℕ) (t : Times) (now : ℕ) (r : Reading) (pids : List Pid) → IsView h r.view →
    Each (IsOwnStep h) (filter_map (failed t now r) pids)
failed_own h t now r pids view = each_filter_map (IsOwnStep h) (failed t now r) pids (λ pid s e.
    let o = only_if_is (is_due t now (r.work pid) && is_unanswered t (r.work pid)) _ s e in
    let p = bind_is (r.view.procs pid) _ s o.1 in
    let c = bind_is (blocked_in p.0.state) _ s p.2 in
    elim (cases_eq pid.host h) [
      | inl here ↦ failure_own h pid c.0 s here c.2
      | inr apart ↦ absurd (none-some c.0 (sym (ap blocked_in (view.ready pid p.0 apart p.1)) ∙ c.1))
    ])

no_frame : (h : ℕ) (r : Reading) (b : Bool) → IsView h r.view → (let o : Option Frame = if b then None else None in
    HoldsOn h r.view (after_steps r.view (option_map (λ (f : Frame). f.packet) o)
    (option_map_or (λ (f : Frame). packet_outcome h r f.packet) o nothing).steps))
no_frame h r true view = still h r.view view
no_frame h r false view = still h r.view view

pub view_input : (c : Settings) (h : ℕ) (r : Reading) (i : Input) → IsOwnInput h i → IsView h r.view →
    HoldsOn h r.view (after_steps r.view (taken_packet (right_entry c h r i)) (right_entry c h r i).steps)
unfolding right_entry call_outcome collect_outcome tick_outcome
view_input c h r (Called pid call) own view =
    let k = r.view in
    let a = answer_to c h r (Called pid call) in
    let ss : List Step = steps.Call pid call ∷ steps_behind (next k (steps.Call pid call)) pid call a in
    subst (λ t. HoldsOn h k (after_steps k t ss)) (sym (none_taken (is_frame_taken a)))
    (view_fold h k ss (own, own_behind h (next k (steps.Call pid call)) pid call a own) view)
view_input c h r (Collected pid) own view =
    let k = r.view in
    let ss : List Step = list_if (is_allowed k (steps.Collect pid)) (steps.Collect pid ∷ []) in
    subst (λ t. HoldsOn h k (after_steps k t ss)) (sym (none_taken (is_frame_taken (answer_to c h r (Collected pid)))))
    (view_fold h k ss (each_if (IsOwnStep h) _ (steps.Collect pid ∷ []) (λ t. (own, tt))) view)
view_input c h r Ticked own view =
    view_fold h r.view (filter_map (failed c.times (r.now + 1) r) (own_pids c h)) (failed_own h c.times (r.now + 1) r (own_pids c h) view)
    view
view_input c h r (Delivered Noise) own view = still h r.view view
view_input c h r (Delivered (Headed hd)) own view = no_frame h r _ view
view_input c h r (Delivered (Framed hd p)) own view =
    let f : Frame = record { header = hd; packet = p } in
    cond_both (is_frame_taken (answer_to c h r (Delivered (Framed hd p)))) (Some f) None
    (λ o. HoldsOn h r.view (after_steps r.view (option_map (λ (f : Frame). f.packet) o)
    (option_map_or (λ (f : Frame). packet_outcome h r f.packet) o nothing).steps))
    (λ t. packet_view h r p (taken_frame_is h r.now c.times.life hd p t) view) (λ n. still h r.view view)

-- What arrives is to a process of the station.
abbrev CameOf : ℕ → Kernel → Packet → Outcome → Type 0
CameOf h k p o = (n : Name) → first_of (filter_map as_arrival o.steps) ≡ Some n → IsKeptAt h (after_steps k (Some p) o.steps) n

arrival_came : (h : ℕ) (r : Reading) (from to : Pid) (number : ℕ) (m : Message) (part : List ℕ) → IsView h r.view →
    (comes : Comes h r.view (Send from to number m part)) →
    CameOf h r.view (Send from to number m part) (send_outcome r (Send from to number m part) (name_of from number) to)
arrival_came h r from to number m part view comes =
    let p : Packet = Send from to number m part in
    let k = r.view in
    let P : Outcome → Type 0 = CameOf h k p in
    outcome_if P (holds_of (is_later number) (alien_of r.slots from)) _ _ (λ t n e. absurd (none-some n e)) (λ t.
    outcome_if P (holds_of (is_same number) (alien_of r.slots from)) _ _ (λ t n e. absurd (none-some n e)) (λ t.
    outcome_if P (not (is_live (k.procs to))) _ _ (λ t n e. absurd (none-some n e)) (λ t.
    outcome_if P (is_none (place_for r.slots from)) _ _ (λ t n e. absurd (none-some n e)) (λ t n e.
    let takes = take_where (after_steps k (Some p) (steps.Arrive from number ∷ [])) to in
    let inner = view_fold h (brought k p) (steps.Arrive from number ∷ takes) (tt, own_take h _ to) (view_brought h k p view comes) in
    subst (IsKeptAt h (fold next (brought k p) (steps.Arrive from number ∷ takes))) (same_Some (name_of from number) n e)
    (inner.1 (name_of from number) (kept_sent_here h k from to number m part comes.here))))))

packet_came : (h : ℕ) (r : Reading) (p : Packet) → IsTakenFrame h p → IsView h r.view → CameOf h r.view p (packet_outcome h r p)
unfolding packet_outcome
packet_came h r (Send from to number m part) taken view =
    arrival_came h r from to number m part view (record {
      here = taken.here to refl;
      far = λ e. both_ways (from.host == h) taken.far (eq-eqb from.host h e);
      first = first_of_numbers number taken.numbers;
    })
packet_came h r p taken view = λ n e.
    absurd (none-some n (sym (no_arrivals (packet_outcome h r p).steps (tame_packet h r p (sender_of p) refl).steps) ∙ e))

input_came : (c : Settings) (h : ℕ) (r : Reading) (i : Input) → IsView h r.view → (n : Name) →
    first_of (filter_map as_arrival (right_entry c h r i).steps) ≡ Some n →
    IsKeptAt h (after_steps r.view (taken_packet (right_entry c h r i)) (right_entry c h r i).steps) n
unfolding right_entry call_outcome collect_outcome tick_outcome
input_came c h r (Called pid call) view n e =
    let behind = steps_behind (next r.view (steps.Call pid call)) pid call (answer_to c h r (Called pid call)) in
    absurd (none-some n (sym (no_arrivals (steps.Call pid call ∷ behind) (refl, behind_not_arrive _ pid call _)) ∙ e))
input_came c h r (Collected pid) view n e =
    absurd (none-some n (sym (no_arrivals (list_if (is_allowed r.view (steps.Collect pid)) (steps.Collect pid ∷ []))
    (each_if NotArrive _ (steps.Collect pid ∷ []) (λ t. (refl, tt)))) ∙ e))
input_came c h r Ticked view n e =
    absurd (none-some n (sym (no_arrivals (filter_map (failed c.times (r.now + 1) r) (own_pids c h))
    (failed_not_arrive c.times (r.now + 1) r (own_pids c h))) ∙ e))
input_came c h r (Delivered Noise) view n e = absurd (none-some n e)
input_came c h r (Delivered (Headed hd)) view n e = no_arrival (is_frame_taken (answer_to c h r (Delivered (Headed hd)))) e
  where
    no_arrival : (b : Bool) → (let o : Option Frame = if b then None else None in
        first_of (filter_map as_arrival (option_map_or (λ (f : Frame). packet_outcome h r f.packet) o nothing).steps) ≡ Some n →
        IsKeptAt h (after_steps r.view (option_map (λ (f : Frame). f.packet) o)
        (option_map_or (λ (f : Frame). packet_outcome h r f.packet) o nothing).steps) n)
    no_arrival true e = absurd (none-some n e)
    no_arrival false e = absurd (none-some n e)
input_came c h r (Delivered (Framed hd p)) view n e =
    let f : Frame = record { header = hd; packet = p } in
    cond_both (is_frame_taken (answer_to c h r (Delivered (Framed hd p)))) (Some f) None
    (λ o. first_of (filter_map as_arrival (option_map_or (λ (f : Frame). packet_outcome h r f.packet) o nothing).steps) ≡ Some n →
    IsKeptAt h (after_steps r.view (option_map (λ (f : Frame). f.packet) o)
    (option_map_or (λ (f : Frame). packet_outcome h r f.packet) o nothing).steps) n)
    (λ t. packet_came h r p (taken_frame_is h r.now c.times.life hd p t) view n) (λ t e. absurd (none-some n e)) e

pub view_entries : (c : Settings) (h : ℕ) (is : List Input) → AreOwnInputs h is → IsView h (reading c h (entries_of c h is)).view
unfolding reading reading_after
view_entries c h [] own = view_initial h c.specs
view_entries c h (i ∷ is) own = (view_input c h (reading c h (entries_of c h is)) i own.0 (view_entries c h is own.1)).0

-- The aliens.
pub own_input : (h : ℕ) (i : Input) → IsOwnInput h i → IsOwn h i
own_input h (Called pid call) own = own
own_input h (Collected pid) own = tt
own_input h Ticked own = tt
own_input h (Delivered o) own = tt

pub keen_entries : (c : Settings) (h : ℕ) (is : List Input) → AreOwnInputs h is → IsKeen h (reading c h (entries_of c h is))
unfolding reading
keen_entries c h [] own = (aged_start c).keen h
keen_entries c h (i ∷ is) own =
    keen_entry c h (reading c h (entries_of c h is)) i (own_input h i own.0) (keen_entries c h is own.1)

-- Their exchanges.
abbrev pub AllKept : ℕ → Reading → Type 0
AllKept h r = (i : ℕ) (a : Alien) → in_slot r.slots i ≡ Some a → IsKeptAt h r.view a.name

kept_entry : (c : Settings) (h : ℕ) (r : Reading) (i : Input) → IsOwnInput h i → IsView h r.view → AllKept h r →
    AllKept h (reading_after c.times r (right_entry c h r i))
unfolding reading_after slots_after
kept_entry c h r i own view all place b at =
    let e = right_entry c h r i in
    let on = view_input c h r i own view in
    by_origin (came_from c.times e r.slots (arrival_in e) place b at)
  where
    by_origin : Came c.times (right_entry c h r i) (in_slot r.slots place) (arrival_in (right_entry c h r i)) b →
        IsKeptAt h (after_steps r.view (taken_packet (right_entry c h r i)) (right_entry c h r i).steps) b.name
    by_origin (New name came is none) =
        subst (IsKeptAt h (after_steps r.view (taken_packet (right_entry c h r i)) (right_entry c h r i).steps)) (sym is)
        (input_came c h r i view name came)
    by_origin (Old old) =
        subst (IsKeptAt h (after_steps r.view (taken_packet (right_entry c h r i)) (right_entry c h r i).steps))
        (sym (ap (λ (z : Alien). z.name) old.is))
        ((view_input c h r i own view).1 old.alien.name (all place old.alien old.was))

pub kept_entries : (c : Settings) (h : ℕ) (is : List Input) → AreOwnInputs h is → AllKept h (reading c h (entries_of c h is))
unfolding reading
kept_entries c h [] own = λ i a at. absurd (none-some a (sym (at_replicate (pool_of c h) i) ∙ at))
kept_entries c h (i ∷ is) own =
    kept_entry c h (reading c h (entries_of c h is)) i own.0 (view_entries c h is own.1) (kept_entries c h is own.1)
