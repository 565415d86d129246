-- What an entry does to a process that is blocked in its work, and the law.
use Rattle.std.proofs.Common.{◌≡◌, ℕ, Bool, true, false, option_map, List, [], ◌∷◌, ◌++◌, fold, Option, Some, None, refl, sym, ap, subst, ◌∙◌, inl, inr, ◌⊎◌}
use Rattle.std.proofs.lemmas.Bool.{both_ways, cond_both}
use Rattle.std.proofs.lemmas.Option.{same_Some, none-some}
use Rattle.std.specs.List.{list_any}
use Rattle.vk_types.specs.Types.{Call, EventAnswer, Move, Pid, Process, Refusal, State, Step}
use Rattle.vk_base.specs.declared.call.Call.TheVariants as calls
use Rattle.vk_base.specs.declared.kernel.Direction.TheVariants as directions
use Rattle.vk_base.specs.declared.kernel.State.TheVariants as states
use Rattle.vk_base.specs.declared.step.Step.TheVariants as steps
use Rattle.vk_base.specs.Brought.{brought, settled, sender_heard, found_dead}
use Rattle.vk_base.specs.Calls.{Effect, accepted, called, call_refusal, call_step, sent, copied_at_once, begin_move, new_move, move_begun, is_at_once, get_pid, found_at_once, lookup_begun}
use Rattle.vk_base.specs.Changes.{change_process}
use Rattle.vk_base.specs.Kernel.{◌>>=◌, Kernel, name_of, held, put_process}
use Rattle.vk_base.specs.Packets.{Packet, Send, Reply, Pending, Negative, MoveData, MoveAck, MoveRequest, MoveBytes, MoveNegative, AskPid, TellPid}
use Rattle.vk_base.specs.Pids.{same_pid}
use Rattle.vk_base.specs.Ranges.{range_of, bytes_in}
use Rattle.vk_base.specs.Settings.{Settings}
use Rattle.vk_base.specs.Steps.{is_allowed, next, after_effect}
use Rattle.vk_base.proofs.OptionLemmas.{bind_is}
use Rattle.v_laws.proofs.Options.{of_either}
use Rattle.v_laws.proofs.Tables.{same_pid_is, put_process_here}
use Rattle.vk_rules.specs.CallOutcomes.{call_outcome, collect_outcome, tick_outcome, effect_answer, seen_answer, steps_behind}
use Rattle.vk_rules.specs.Each.{Each}
use Rattle.vk_rules.specs.Entries.{Entry, Input, Called, Collected, Ticked, Delivered, is_tick, is_delivery, is_begun, taken_frame, taken_in, taken_packet}
use Rattle.vk_rules.specs.Frames.{Frame, Unsealed, sender_of}
use Rattle.vk_rules.specs.PacketOutcomes.{packet_outcome}
use Rattle.vk_rules.specs.Readings.{Reading, reading, reading_after}
use Rattle.vk_rules.specs.Right.{answer_to, entries_of, entry_of, right_entry}
use Rattle.vk_rules.specs.View.{after_steps}
use Rattle.vk_rules.proofs.Lists.{each_if}
use Rattle.vk_rules.proofs.Taken.{outcome_by, packet_taken}
use Rattle.vk_rules.proofs.OwnEvents.{none_taken}
use Rattle.v_ages.proofs.Outcomes.{mild_packet}
use Rattle.v_ages.proofs.Quiet.{NoCall}
use Rattle.v_whole.specs.EveryFrame.{AreOwnInputs}
use Rattle.v_whole.proofs.AnyEntries.{view_entries}
use Rattle.v_ended.specs.Ends.{BeginsWork, IsEndedByFrame, NoTickEnds, StaysBlocked, WorksEndByFrames, blocked_behind, ends, finished_behind, is_work}
use Rattle.v_ended.proofs.Calling.{IsSoundView, call_spares, take_spares}
use Rattle.v_ended.proofs.Ended.{IsOver, LeftOrOver, steps_on}
use Rattle.v_ended.proofs.Spared.{IsAtWork, Spares, blocked_doing, doing, doing_blocked, doing_over, state_of, steps_spare}
use Rattle.v_ended.proofs.Uncollected.{NoCollect, packets_collect_none}

-- What a packet brings in changes no state.
heard_state : (number : ℕ) (o : Option Process) (s : State) → state_of o ≡ Some s → state_of (Some (sender_heard number o)) ≡ state_of o
heard_state number None s is = absurd (none-some s is)
heard_state number (Some p) s is = refl

dead_state : (o : Option Process) → state_of (option_map found_dead o) ≡ state_of o
dead_state None = refl
dead_state (Some p) = refl

heard_keeps : (k : Kernel) (r from : Pid) (number : ℕ) → IsAtWork k r →
    state_of (put_process k.procs from (sender_heard number (k.procs from)) r) ≡ doing k r
unfolding put_process
heard_keeps k r from number at =
    cond_both (same_pid r from) (Some (sender_heard number (k.procs from))) (k.procs r) (λ o. state_of o ≡ doing k r)
    (λ t. subst (λ (q : Pid). state_of (Some (sender_heard number (k.procs q))) ≡ doing k r) (same_pid_is r from t)
    (heard_state number (k.procs r) (states.Blocked at.call) at.is))
    (λ f. refl)

dead_keeps : (k : Kernel) (r from : Pid) → state_of (change_process k.procs from found_dead r) ≡ doing k r
unfolding change_process
dead_keeps k r from =
    cond_both (same_pid r from) (option_map found_dead (k.procs r)) (k.procs r) (λ o. state_of o ≡ doing k r)
    (λ t. dead_state (k.procs r)) (λ f. refl)

brought_keeps : (k : Kernel) (r : Pid) (p : Packet) → IsAtWork k r → doing (brought k p) r ≡ doing k r
brought_keeps k r (Send from to number m part) at = heard_keeps k r from number at
brought_keeps k r (Reply from to number m dest bytes) at = refl
brought_keeps k r (Pending from to number) at = refl
brought_keeps k r (Negative from to number) at = dead_keeps k r from
brought_keeps k r (MoveData from to number moving dest total offset bytes) at = refl
brought_keeps k r (MoveAck from to number moving received) at = refl
brought_keeps k r (MoveRequest from to number moving src total offset) at = refl
brought_keeps k r (MoveBytes from to number moving total offset bytes) at = refl
brought_keeps k r (MoveNegative from to number moving) at = refl
brought_keeps k r (AskPid asker lookup logical) at = refl
brought_keeps k r (TellPid found asker lookup) at = refl

pub settled_keeps : (before k : Kernel) (r : Pid) (p : Packet) → doing (settled before p k) r ≡ doing k r
settled_keeps before k r (Send from to number m part) = refl
settled_keeps before k r (Reply from to number m dest bytes) = refl
settled_keeps before k r (Pending from to number) = refl
settled_keeps before k r (Negative from to number) = refl
settled_keeps before k r (MoveData from to number moving dest total offset bytes) = refl
settled_keeps before k r (MoveAck from to number moving received) = refl
settled_keeps before k r (MoveRequest from to number moving src total offset) = refl
settled_keeps before k r (MoveBytes from to number moving total offset bytes) = refl
settled_keeps before k r (MoveNegative from to number moving) = refl
settled_keeps before k r (AskPid asker lookup logical) = refl
settled_keeps before k r (TellPid found asker lookup) = refl

frame_on : (k : Kernel) (r : Pid) (p : Packet) (ss : List Step) → Each NoCall ss → Each NoCollect ss → (at : IsAtWork k r) →
    LeftOrOver k (after_steps k (Some p) ss) r at.call ss
frame_on k r p [] none left at = inl refl
frame_on k r p (s ∷ ss) none left at =
    let came = brought_keeps k r p at in
    let goes = settled_keeps k (fold next (brought k p) (s ∷ ss)) r p in
    elim (steps_on (brought k p) r at.call (s ∷ ss) at.work none left (came ∙ at.is)) [
      | inl same ↦ inl (goes ∙ same ∙ came)
      | inr over ↦ inr (over.0, (over.1.0, goes ∙ over.1.1))
    ]

-- An entry that takes no frame.

without_frame : (k : Kernel) (r : Pid) (e : Entry) (o : Option State) → is_delivery e.input ≡ false → doing (fold next k e.steps) r ≡ o →
    doing (after_steps k (taken_packet e) e.steps) r ≡ o
without_frame k r e o h is =
    subst (λ f. doing (after_steps k (packet_taken f) e.steps) r ≡ o) (sym (none_taken e.input e.answer h)) is

-- What an entry comes to: it takes a frame and ends the work by a step, or the process does what it did.
pub record Frees (c : Settings) (rd : Reading) (r : Pid) (call : Call) (e : Entry) : Type 0 where
  pub frame : Frame
  pub taken : taken_frame e ≡ Some frame
  pub ended : list_any (ends r) e.steps ≡ true
  pub over : IsOver (reading_after c.times rd e).view r call

abbrev EntryOn : Settings → Reading → Pid → Call → Entry → Type 0
EntryOn c rd r call e = Frees c rd r call e ⊎ (doing (reading_after c.times rd e).view r ≡ doing rd.view r)

delivered_on : (c : Settings) (host : ℕ) (rd : Reading) (u : Unsealed) (r : Pid) (at : IsAtWork rd.view r) (o : Option Frame) →
    taken_in (Delivered u) (answer_to c host rd (Delivered u)) ≡ o → EntryOn c rd r at.call (right_entry c host rd (Delivered u))
unfolding reading_after right_entry
delivered_on c host rd u r at None taken =
    inr (ap (λ o. doing (after_steps rd.view (packet_taken o) (outcome_by host rd o).steps) r) taken)
delivered_on c host rd u r at (Some f) taken =
    let m = mild_packet host rd f.packet (sender_of f.packet) 0 in
    let left = packets_collect_none host rd f.packet in
    let steps_of = λ (o : Option Frame). (outcome_by host rd o).steps in
    let behind = λ (o : Option Frame). after_steps rd.view (packet_taken o) (steps_of o) in
    elim (frame_on rd.view r f.packet (packet_outcome host rd f.packet).steps m.steps left at) [
      | inl same ↦ inr (ap (λ o. doing (behind o) r) taken ∙ same)
      | inr over ↦ inl (record {
        frame = f;
        taken = taken;
        ended = ap (λ o. list_any (ends r) (steps_of o)) taken ∙ over.0;
        over = (over.1.0, ap (λ o. doing (behind o) r) taken ∙ over.1.1);
      })
    ]

entry_on : (c : Settings) (host : ℕ) (rd : Reading) (i : Input) (r : Pid) → IsSoundView rd.view → (at : IsAtWork rd.view r) →
    (is_tick (right_entry c host rd i).input ≡ true → (right_entry c host rd i).steps ≡ []) →
    EntryOn c rd r at.call (right_entry c host rd i)
unfolding reading_after right_entry call_outcome collect_outcome tick_outcome
entry_on c host rd (Called pid call) r sound at none =
    inr (without_frame rd.view r (right_entry c host rd (Called pid call)) _ refl (call_spares rd.view r pid call sound at))
entry_on c host rd (Collected pid) r sound at none =
    let spared = each_if (Spares r) (is_allowed rd.view (steps.Collect pid)) (steps.Collect pid ∷ [])
    (λ t. (record { none = refl; other = refl }, tt)) in
    inr (without_frame rd.view r (right_entry c host rd (Collected pid)) _ refl (steps_spare rd.view r _ spared at))
entry_on c host rd Ticked r sound at none =
    inr (without_frame rd.view r (right_entry c host rd Ticked) _ refl (ap (λ ss. doing (fold next rd.view ss) r) (none refl)))
entry_on c host rd (Delivered u) r sound at none =
    delivered_on c host rd u r at (taken_in (Delivered u) (answer_to c host rd (Delivered u))) refl

-- A work that is begun.
put_blocked : (k : Kernel) (pid : Pid) (p : Process) → state_of (put_process k.procs pid p pid) ≡ Some p.state
put_blocked k pid p = ap state_of (put_process_here k.procs pid p)

abbrev IsBegunAt : Pid → Call → Effect → Type 0
IsBegunAt pid c e = is_begun (seen_answer e.seen) ≡ true → doing e.after pid ≡ Some (states.Blocked c)

by_begun : (pid : Pid) (c : Call) (f e : Effect) → Some f ≡ Some e → IsBegunAt pid c f → IsBegunAt pid c e
by_begun pid c f e g on = subst (IsBegunAt pid c) (same_Some f e g) on

once_begun : (k : Kernel) (pid : Pid) (c d : Call) (into : Pid) (dest : ℕ) (bytes : List ℕ) (e : Effect) →
    copied_at_once k pid c into dest bytes ≡ Some e → IsBegunAt pid d e
unfolding copied_at_once
once_begun k pid c d into dest bytes e g =
    let q = bind_is (k.procs into) _ e g in by_begun pid d _ e q.2 (λ t. absurd (both_ways false refl t))

move_begins : (k : Kernel) (pid : Pid) (p : Process) (c : Call) (partner : Pid) (m : Move) (e : Effect) →
    begin_move k pid p c partner m ≡ Some e → IsBegunAt pid c e
unfolding move_begun
move_begins k pid p c partner m e g =
    let number = bind_is (held k pid partner) _ e g in
    let x = bind_is (k.exchanges (name_of partner number.0)) _ e number.2 in
    by_begun pid c _ e x.2 (λ t. put_blocked k pid _)

got_begins : (k : Kernel) (pid : Pid) (p : Process) (c : Call) (logical : ℕ) (o : Option Pid) → IsBegunAt pid c (get_pid k pid p c logical o)
unfolding lookup_begun
got_begins k pid p c logical None = λ t. put_blocked k pid _
got_begins k pid p c logical (Some q) = λ t. absurd (both_ways false refl t)

accepted_begins : (k : Kernel) (r pid : Pid) (p : Process) (c : Call) (e : Effect) → is_work r c ≡ true → accepted k pid p c ≡ Some e →
    IsBegunAt pid c e
unfolding sent
accepted_begins k r pid p (calls.Send target m) e w g = by_begun pid _ _ e g (λ t. put_blocked k pid _)
accepted_begins k r pid p (calls.MoveTo partner dest src count) e w g =
    let c : Call = calls.MoveTo partner dest src count in
    let bytes = bytes_in (range_of src count) p.memory in
    of_either (IsBegunAt pid c) (is_at_once pid partner count) (copied_at_once k pid c partner dest bytes)
    (begin_move k pid p c partner (new_move pid directions.To dest src count bytes)) e
    (λ once. once_begun k pid c c partner dest bytes e)
    (λ later. move_begins k pid p c partner (new_move pid directions.To dest src count bytes) e) g
accepted_begins k r pid p (calls.MoveFrom partner dest src count) e w g =
    let c : Call = calls.MoveFrom partner dest src count in
    of_either (IsBegunAt pid c) (is_at_once pid partner count)
    (k.procs partner >>= λ q. copied_at_once k pid c pid dest (bytes_in (range_of src count) q.memory))
    (begin_move k pid p c partner (new_move pid directions.From dest src count [])) e
    (λ once h. let q = bind_is (k.procs partner) _ e h in once_begun k pid c c pid dest (bytes_in (range_of src count) q.0.memory) e q.2)
    (λ later. move_begins k pid p c partner (new_move pid directions.From dest src count []) e) g
accepted_begins k r pid p (calls.GetPid logical scope) e w g =
    by_begun pid _ _ e g (got_begins k pid p (calls.GetPid logical scope) logical (found_at_once k pid logical scope))
accepted_begins k r pid p calls.Receive e w g = absurd (both_ways false refl w)
accepted_begins k r pid p (calls.ReceiveSegment start count) e w g = absurd (both_ways false refl w)
accepted_begins k r pid p (calls.Reply m to) e w g = absurd (both_ways false refl w)
accepted_begins k r pid p (calls.ReplySegment m to dest src count) e w g = absurd (both_ways false refl w)
accepted_begins k r pid p (calls.Forward m from to) e w g = absurd (both_ways false refl w)
accepted_begins k r pid p (calls.SetPid logical q scope) e w g = absurd (both_ways false refl w)
accepted_begins k r pid p (calls.Load start count) e w g = absurd (both_ways false refl w)
accepted_begins k r pid p (calls.Store start bytes) e w g = absurd (both_ways false refl w)
accepted_begins k r pid p calls.Exit e w g = absurd (both_ways false refl w)

called_begins : (k : Kernel) (r pid : Pid) (p : Process) (c : Call) (o : Option Refusal) (e : Effect) →
    is_work r c ≡ true → called k pid p c o ≡ Some e → IsBegunAt pid c e
called_begins k r pid p c None e w g = accepted_begins k r pid p c e w g
called_begins k r pid p c (Some why) e w g = by_begun pid c _ e g (λ t. absurd (both_ways false refl t))

call_begins : (k : Kernel) (r : Pid) (c : Call) (o : Option Effect) → is_work r c ≡ true → call_step k r c ≡ o →
    is_begun (effect_answer o) ≡ true → doing (after_effect k o) r ≡ Some (states.Blocked c)
call_begins k r c None w g t = absurd (both_ways false refl t)
call_begins k r c (Some e) w g t =
    let p = bind_is (k.procs r) _ e g in called_begins k r r p.0 c (call_refusal k r p.0 c) e w p.2 t

begun_spares : (l : Kernel) (r pid : Pid) (c : Call) (a : EventAnswer) → is_work r c ≡ true → Each (Spares r) (steps_behind l pid c a)
begun_spares l r pid (calls.Send target m) a w = each_if (Spares r) _ _ (λ t. take_spares l r target)
begun_spares l r pid (calls.MoveTo partner dest src count) a w = tt
begun_spares l r pid (calls.MoveFrom partner dest src count) a w = tt
begun_spares l r pid (calls.GetPid logical scope) a w = tt
begun_spares l r pid calls.Receive a w = absurd (both_ways false refl w)
begun_spares l r pid (calls.ReceiveSegment start count) a w = absurd (both_ways false refl w)
begun_spares l r pid (calls.Reply m to) a w = absurd (both_ways false refl w)
begun_spares l r pid (calls.ReplySegment m to dest src count) a w = absurd (both_ways false refl w)
begun_spares l r pid (calls.Forward m from to) a w = absurd (both_ways false refl w)
begun_spares l r pid (calls.SetPid logical q scope) a w = tt
begun_spares l r pid (calls.Load start count) a w = tt
begun_spares l r pid (calls.Store start bytes) a w = tt
begun_spares l r pid calls.Exit a w = tt

call_entered : (c : Settings) (host : ℕ) (rd : Reading) (r : Pid) (call : Call) → is_work r call ≡ true →
    is_begun (right_entry c host rd (Called r call)).answer ≡ true →
    doing (reading_after c.times rd (right_entry c host rd (Called r call))).view r ≡ Some (states.Blocked call)
unfolding reading_after right_entry call_outcome
call_entered c host rd r call work begun =
    let e = right_entry c host rd (Called r call) in
    let l = next rd.view (steps.Call r call) in
    let behind = steps_behind l r call (effect_answer (call_step rd.view r call)) in
    let called = call_begins rd.view r call (call_step rd.view r call) work refl begun in
    let spared = begun_spares l r r call (effect_answer (call_step rd.view r call)) work in
    let rest = steps_spare l r behind spared (record { call = call; is = called; work = work }) in
    without_frame rd.view r e (Some (states.Blocked call)) refl (rest ∙ called)

entry_begins : (c : Settings) (host : ℕ) (rd : Reading) (i : Input) (r : Pid) (call : Call) → BeginsWork r call (right_entry c host rd i) →
    doing (reading_after c.times rd (right_entry c host rd i)).view r ≡ Some (states.Blocked call)
unfolding right_entry
entry_begins c host rd i r call begins =
    subst (λ (j : Input). is_begun (right_entry c host rd j).answer ≡ true →
    doing (reading_after c.times rd (right_entry c host rd j)).view r ≡ Some (states.Blocked call)) (sym begins.called)
    (call_entered c host rd r call begins.work) begins.begun

-- All entries.
abbrev first_or : Entry → List Entry → Entry
first_or d [] = d
first_or d (x ∷ xs) = x

abbrev rest_of : List Entry → List Entry
rest_of [] = []
rest_of (x ∷ xs) = xs

some_entry : (x : Entry) (xs : List Entry) → [] ≡ x ∷ xs → ⊥
some_entry x xs is = both_ways true (ap has_some is) refl
  where
    has_some : List Entry → Bool
    has_some [] = true
    has_some (y ∷ ys) = false

-- ended, or not yet
abbrev pub Since : Settings → ℕ → Pid → Call → List Entry → List Entry → Type 0
Since c host r call begun later = IsEndedByFrame c host r call begun later ⊎ StaysBlocked c host r call begun later

longer : (c : Settings) (host : ℕ) (r : Pid) (call : Call) (begun : List Entry) (x : Entry) (xs : List Entry) →
    IsEndedByFrame c host r call begun xs → IsEndedByFrame c host r call begun (x ∷ xs)
longer c host r call begun x xs e = record {
  after = x ∷ e.after;
  last = e.last;
  before = e.before;
  is = ap (λ ys. x ∷ ys) e.is;
  blocked = e.blocked;
  frame = e.frame;
  taken = e.taken;
  ended = e.ended;
  answer = e.answer;
  over = e.over;
}

stays_now : (c : Settings) (host : ℕ) (r : Pid) (call : Call) (begun later : List Entry) → StaysBlocked c host r call begun later →
    blocked_behind c host (later ++ begun) r ≡ Some call
stays_now c host r call begun [] stays = stays
stays_now c host r call begun (x ∷ xs) stays = stays.0

-- one entry more, behind those in which it stays blocked
one_more : (c : Settings) (host : ℕ) (es : List Entry) (i : Input) (r : Pid) (call : Call) → IsSoundView (reading c host es).view →
    (is_tick (entry_of c host es i).input ≡ true → (entry_of c host es i).steps ≡ []) → is_work r call ≡ true → (begun xs : List Entry) →
    es ≡ xs ++ begun → StaysBlocked c host r call begun xs → Since c host r call begun (entry_of c host es i ∷ xs)
unfolding reading
one_more c host es i r call sound none work begun xs same stays =
    let x = entry_of c host es i in
    let k = (reading c host es).view in
    let is = blocked_doing (k.procs r) call (ap (λ l. blocked_behind c host l r) same ∙ stays_now c host r call begun xs stays) in
    elim (entry_on c host (reading c host es) i r sound (record { call = call; is = is; work = work }) none) [
      | inl frees ↦ inl (record {
        after = [];
        last = x;
        before = xs;
        is = refl;
        blocked = stays;
        frame = frees.frame;
        taken = frees.taken;
        ended = frees.ended;
        answer = frees.over.0;
        over = ap (λ l. finished_behind c host (x ∷ l) r) (sym same)
            ∙ doing_over ((reading c host (x ∷ es)).view.procs r) call frees.over.0 frees.over.1;
      })
      | inr on ↦
          let now = doing_blocked ((reading c host (x ∷ es)).view.procs r) call (on ∙ is) in
          inr (ap (λ l. blocked_behind c host (x ∷ l) r) (sym same) ∙ now, stays)
    ]

since : (c : Settings) (host : ℕ) (is : List Input) (r : Pid) (call : Call) → AreOwnInputs host is → NoTickEnds (entries_of c host is) →
    (later : List Entry) (e : Entry) (earlier : List Entry) → entries_of c host is ≡ later ++ e ∷ earlier → BeginsWork r call e →
    Since c host r call (e ∷ earlier) later
unfolding reading
since c host [] r call own none [] e earlier same begins = absurd (some_entry e earlier same)
since c host [] r call own none (x ∷ xs) e earlier same begins = absurd (some_entry x (xs ++ e ∷ earlier) same)
since c host (i ∷ is) r call own none [] e earlier same begins =
    let es = entries_of c host is in
    let x = entry_of c host es i in
    let first : e ≡ x = sym (ap (first_or x) same) in
    let now = entry_begins c host (reading c host es) i r call (subst (BeginsWork r call) first begins) in
    inr (ap (λ l. blocked_behind c host l r) (sym same) ∙ doing_blocked ((reading c host (x ∷ es)).view.procs r) call now)
since c host (i ∷ is) r call own none (y ∷ ys) e earlier same begins =
    let es = entries_of c host is in
    let x = entry_of c host es i in
    let first : x ≡ y = ap (first_or x) same in
    let rest : es ≡ ys ++ e ∷ earlier = ap rest_of same in
    elim (since c host is r call own.1 none.1 ys e earlier rest begins) [
      | inl ended ↦ inl (longer c host r call (e ∷ earlier) y ys ended)
      | inr stays ↦
          let view = view_entries c host is own.1 in
          subst (λ z. Since c host r call (e ∷ earlier) (z ∷ ys)) first
          (one_more c host es i r call view.sound none.0 begins.work (e ∷ earlier) ys rest stays)
    ]

pub works_end_by_frames : WorksEndByFrames
works_end_by_frames c host is r own none free later e earlier call same begins =
    elim (since c host is r call own none later e earlier same begins) [
      | inl ended ↦ ended
      | inr stays ↦
          absurd (none-some call (sym free ∙ ap (λ l. blocked_behind c host l r) same
          ∙ stays_now c host r call (e ∷ earlier) later stays))
    ]
