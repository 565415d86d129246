-- How a process stands at its station: behind each event its program and the station agree on which call is to be collected.
use Rattle.std.proofs.Common.{◌≡◌, ℕ, ◌+◌, ◌<◌, ◌≤◌, ◌==◌, ◌&&◌, Bool, true, false, not, List, [], ◌∷◌, ◌++◌, fold, length, Option, Some, None, is_none, option_to_list, if◌then◌else◌, refl, sym, ap, subst, ◌∙◌, length-append, arith, inl, inr}
use Rattle.std.proofs.lemmas.Bool.{cases_Bool, cond-true, cond-false}
use Rattle.std.proofs.lemmas.List.{append-nil}
use Rattle.std.proofs.lemmas.Option.{none-some, same_Some}
use Rattle.vk_types.specs.Types.{Answer, Call, EventAnswer, Name, Pid, Process, Step}
use Rattle.vk_base.specs.declared.answer.Answer.TheVariants as answers
use Rattle.vk_base.specs.declared.answer.Ending.TheVariants as endings
use Rattle.vk_base.specs.declared.answer.Refusal.TheVariants as refusals
use Rattle.vk_base.specs.declared.call.Call.TheVariants as calls
use Rattle.vk_base.specs.declared.event.EventAnswer.TheVariants as told_as
use Rattle.vk_base.specs.declared.step.Step.TheVariants as steps
use Rattle.vk_base.specs.Brought.{brought, found_dead, sender_heard, settled}
unfoldable use Rattle.vk_base.specs.Changes.{change_process}
use Rattle.vk_base.specs.Kernel.{Kernel, holds_of, is_live, name_of}
use Rattle.vk_base.specs.Packets.{Packet, Send, Reply, Pending, Negative}
use Rattle.vk_base.specs.Pids.{same_host}
use Rattle.vk_base.specs.Steps.{after_effect, effect, is_allowed, next}
use Rattle.vk_event.specs.declared.task.Task.{Task}
use Rattle.vk_pages.specs.Programs.{task_call}
use Rattle.vk_rules.specs.Aliens.{alien_of, place_for}
use Rattle.vk_rules.specs.CallOutcomes.{call_outcome, collect_outcome, effect_answer, is_ok, steps_behind, take_where, tick_outcome, work_failure}
use Rattle.vk_rules.specs.Each.{Each}
use Rattle.vk_rules.specs.Entries.{Called, Collected, Delivered, Entry, Ticked, is_begun, is_delivery, taken_in, taken_packet}
use Rattle.vk_rules.specs.Frames.{Frame, Unsealed, answer_to_frame, source_of}
use Rattle.vk_rules.specs.Observed.{handed_out, is_not_yet}
use Rattle.vk_rules.specs.PacketOutcomes.{arrival, is_later, is_same, packet_outcome}
use Rattle.vk_rules.specs.Readings.{Reading, reading_after}
use Rattle.vk_rules.specs.Right.{answer_to, own_pids, right_entry}
use Rattle.vk_rules.specs.Rounds.{Outcome, nothing, only_packets, told_sender}
use Rattle.vk_rules.specs.View.{after_steps}
use Rattle.vk_rules.proofs.Failures.{each_failed}
use Rattle.vk_rules.proofs.Lists.{each_append, each_if}
use Rattle.vk_rules.proofs.Taken.{outcome_by, packet_taken}
use Rattle.v_ages.proofs.Outcomes.{outcome_if}
use Rattle.v_laws.proofs.StepLemmas.{only_if_is}
use Rattle.v_laws.proofs.Tables.{changed_apart, put_process_other}
use Rattle.v_lawful.specs.Sending.{IsInput}
use Rattle.v_lawful.proofs.Brought.{IsForStation}
use Rattle.v_lawful.proofs.Events.{no_packet}
use Rattle.v_lawful.proofs.Taken.{taken_is}
use Rattle.v_lawful.proofs.Bringing.{hosts_apart}
use Rattle.vk_drive.specs.Tasks.{settings}
use Rattle.vk_drive.specs.Told.{is_waiting, told, waits_after}
use Rattle.vk_drive.proofs.Acting.{told_more, waits_more}
use Rattle.v_storm.proofs.Views.{IsOurs, IsPlain, IsPlainPacket, IsPlainView}
use Rattle.v_storm.proofs.Brought.{brought_plain}
use Rattle.v_storm.proofs.Called.{IsCallMade, IsCollected, MayCall, called_is, collected_is, made_where, IsAnswerTo}
use Rattle.v_storm.proofs.Calls.{call_plain}
use Rattle.v_storm.proofs.Doing.{Does, IsQuiet, doing, steps_do}
use Rattle.v_storm.proofs.Entries.{IsPlainInput, taken_plain}
use Rattle.v_storm.proofs.Programs.{IsGoing, going_more}
use Rattle.v_storm.proofs.Serving.{IsGoodCall, requests}

-- the call that is to be collected, where one is
abbrev pub called_last : Task → List EventAnswer → Option Call
called_last t heard = if is_waiting heard then task_call t (told heard) else None

-- The program goes on, and the process is in that call.
pub record StandsInCall (t : Task) (most : ℕ) (heard : List EventAnswer) (k : Kernel) : Type 0 where
  pub going : IsGoing t.kind (told heard)
  pub few : length (told heard) ≤ most
  pub does : Does k t.pid (called_last t heard)

-- nothing was told, and the process waits or not as is said
untold : (t : Task) (most : ℕ) (heard : List EventAnswer) (a : EventAnswer) (k : Kernel) (waits : Bool) → IsGoing t.kind (told heard) →
    length (told heard) ≤ most → handed_out a ≡ None → waits_after (is_waiting heard) a ≡ waits →
    Does k t.pid (if waits then task_call t (told heard) else None) → StandsInCall t (most + 1) (heard ++ a ∷ []) k
untold t most heard a k waits going few none then_waits does =
    let same : told (heard ++ a ∷ []) ≡ told heard =
    told_more heard a ∙ ap (λ o. told heard ++ option_to_list o) none ∙ append-nil (told heard) in
    record {
      going = subst (IsGoing t.kind) (sym same) going;
      few = subst (λ l. length l ≤ most + 1) (sym same) (omega (arith, few));
      does =
          subst (Does k t.pid)
          (sym ((λ i. if (waits_more false heard a ∙ then_waits) i then task_call t (same i) else None))) does;
    }

-- an answer was told
told_one : (t : Task) (most : ℕ) (heard : List EventAnswer) (x : Answer) (c : Call) (k : Kernel) → IsGoing t.kind (told heard) →
    length (told heard) ≤ most → most + 1 < requests → task_call t (told heard) ≡ Some c → is_not_yet x ≡ false →
    IsAnswerTo c x → waits_after (is_waiting heard) (told_as.Answered x) ≡ false → Does k t.pid None →
    StandsInCall t (most + 1) (heard ++ told_as.Answered x ∷ []) k
told_one t most heard x c k going few small called tells for then_waits does =
    let a : EventAnswer = told_as.Answered x in
    let out : handed_out a ≡ Some x = cond-false (is_not_yet x) None (Some x) tells in
    let same : told (heard ++ a ∷ []) ≡ told heard ++ x ∷ [] = told_more heard a ∙ ap (λ o. told heard ++ option_to_list o) out in
    let long = length-append (told heard) (x ∷ []) in
    record {
      going = subst (IsGoing t.kind) (sym same) (going_more t (told heard) c x going (omega (arith, few, small)) called for);
      few = subst (λ l. length l ≤ most + 1) (sym same) (omega (arith, few, long));
      does =
          subst (Does k t.pid)
          (sym (cond-false (is_waiting (heard ++ a ∷ [])) (task_call t (told (heard ++ a ∷ []))) None
          (waits_more false heard a ∙ then_waits))) does;
    }

-- A collect.
collected_on : (t : Task) (most : ℕ) (heard : List EventAnswer) (c : Call) (a : EventAnswer) (k : Kernel) → IsGoing t.kind (told heard) →
    length (told heard) ≤ most → most + 1 < requests → is_waiting heard ≡ true → task_call t (told heard) ≡ Some c →
    IsCollected c t.pid a k → StandsInCall t (most + 1) (heard ++ a ∷ []) k
collected_on t most heard c a k going few small waits called (IsCollected.Comes_early is does) =
    untold t most heard a k true going few (ap handed_out is)
    ((λ i. waits_after (waits i) (is i))) (subst (Does k t.pid) (sym called) does)
collected_on t most heard c a k going few small waits called (IsCollected.Ends x is tells for does) =
    subst (λ z. StandsInCall t (most + 1) (heard ++ z ∷ []) k) (sym is)
    (told_one t most heard x c k going few small called tells for (cond-false (is_not_yet x) (is_waiting heard) false tells) does)

-- A call.
never_waits : (x : Answer) (b : Bool) → b ≡ false → waits_after b (told_as.Answered x) ≡ false
never_waits x b is = by (is_not_yet x)
  where
    by : (t : Bool) → (if t then b else false) ≡ false
    by true = is
    by false = refl

called_on : (t : Task) (most : ℕ) (heard : List EventAnswer) (c : Call) (a : EventAnswer) (k : Kernel) → IsGoing t.kind (told heard) →
    length (told heard) ≤ most → most + 1 < requests → is_waiting heard ≡ false → task_call t (told heard) ≡ Some c →
    IsCallMade c t.pid a k → StandsInCall t (most + 1) (heard ++ a ∷ []) k
called_on t most heard c a k going few small waits called (IsCallMade.Begins is waited does) =
    untold t most heard a k true going few (ap handed_out is) (ap (waits_after (is_waiting heard)) is)
    (subst (Does k t.pid) (sym called) does)
called_on t most heard c a k going few small waits called (IsCallMade.Tells x is for does) =
    subst (λ z. StandsInCall t (most + 1) (heard ++ z ∷ []) k) (sym is) (elim (cases_Bool (is_not_yet x)) [
      | inl early ↦
          untold t most heard (told_as.Answered x) k false going few (cond-true (is_not_yet x) None (Some x) early)
          (never_waits x (is_waiting heard) waits) does
      | inr tells ↦ told_one t most heard x c k going few small called tells for (never_waits x (is_waiting heard) waits) does
    ])
called_on t most heard c a k going few small waits called (IsCallMade.Tells_nothing is does) =
    untold t most heard a k false going few (ap handed_out is)
    (ap (waits_after (is_waiting heard)) is ∙ never_waits (answers.Refused refusals.NotYet) (is_waiting heard) waits)
    does

-- Steps that come with an event.
take_quiet : (k : Kernel) (r : Pid) → Each IsQuiet (take_where k r)
take_quiet k r = each_if IsQuiet (is_allowed k (steps.Take r)) (steps.Take r ∷ []) (λ t. (tt, tt))

behind_quiet : (k : Kernel) (pid : Pid) (c : Call) (a : EventAnswer) → Each IsQuiet (steps_behind k pid c a)
behind_quiet k pid (calls.Send target m) a = each_if IsQuiet (is_begun a && same_host pid target) (take_where k target)
    (λ t. take_quiet k target)
behind_quiet k pid calls.Receive a = each_if IsQuiet (is_begun a) (take_where k pid) (λ t. take_quiet k pid)
behind_quiet k pid (calls.ReceiveSegment start count) a = each_if IsQuiet (is_begun a) (take_where k pid) (λ t. take_quiet k pid)
behind_quiet k pid (calls.Reply m to) a = each_if IsQuiet (is_ok a && same_host pid to) (steps.Finish to ∷ []) (λ t. (tt, tt))
behind_quiet k pid (calls.ReplySegment m to dest src count) a =
    each_if IsQuiet (is_ok a && same_host pid to) (steps.Finish to ∷ []) (λ t. (tt, tt))
behind_quiet k pid (calls.Forward m from to) a = each_if IsQuiet (is_ok a) (take_where k to) (λ t. take_quiet k to)
behind_quiet k pid c a = tt

failure_quiet : (pid : Pid) (c : Call) (s : Step) → work_failure pid c ≡ Some s → IsQuiet s
failure_quiet pid (calls.Send target m) s h =
    let o = only_if_is (not (same_host pid target)) (Some (steps.Fail pid endings.TimedOut)) s h in
    subst IsQuiet (same_Some (steps.Fail pid endings.TimedOut) s o.1) tt
failure_quiet pid (calls.MoveTo partner dest src count) s h = subst IsQuiet (same_Some (steps.End pid endings.TimedOut) s h) tt
failure_quiet pid (calls.MoveFrom partner dest src count) s h = subst IsQuiet (same_Some (steps.End pid endings.TimedOut) s h) tt
failure_quiet pid (calls.GetPid logical scope) s h = subst IsQuiet (same_Some (steps.Lost pid) s h) tt
failure_quiet pid c s h = absurd (none-some s h)

abbrev IsQuietOutcome : Outcome → Type 0
IsQuietOutcome o = Each IsQuiet o.steps

packet_quiet : (host : ℕ) (r : Reading) (p : Packet) → IsPlainPacket p → Each IsQuiet (packet_outcome host r p).steps
unfolding packet_outcome
packet_quiet host r (Send from to number m part) plain =
    let p : Packet = Send from to number m part in
    let name : Name = name_of from number in
    let arrive : List Step = steps.Arrive from number ∷ [] in
    outcome_if IsQuietOutcome (holds_of (is_later number) (alien_of r.slots from)) nothing _ (λ t. tt)
    (λ f. outcome_if IsQuietOutcome (holds_of (is_same number) (alien_of r.slots from))
    (only_packets (told_sender r.view name)) _ (λ t. tt)
    (λ g. outcome_if IsQuietOutcome (not (is_live (r.view.procs to)))
    (only_packets (Negative to from number ∷ [])) _ (λ t. tt)
    (λ h. outcome_if IsQuietOutcome (is_none (place_for r.slots from))
    (only_packets (Pending to from number ∷ [])) (arrival r.view p name to) (λ t. tt)
    (λ i. each_append IsQuiet arrive (take_where (after_steps r.view (Some p) arrive) to) (tt, tt)
    (take_quiet (after_steps r.view (Some p) arrive) to)))))
packet_quiet host r (Reply from to number m dest bytes) plain = each_if IsQuiet _ (steps.Finish to ∷ []) (λ t. (tt, tt))
packet_quiet host r (Pending from to number) plain = tt
packet_quiet host r (Negative from to number) plain = each_if IsQuiet _ (steps.Fail to endings.NoProcess ∷ []) (λ t. (tt, tt))
packet_quiet host r p plain = absurd plain

-- What comes from another station changes no process of this one.

brought_does : (host : ℕ) (k : Kernel) (p : Packet) (pid : Pid) (o : Option Call) → (source_of p == host) ≡ false →
    (pid.host == host) ≡ true → IsPlainPacket p → Does k pid o → Does (brought k p) pid o
brought_does host k (Send from to number m part) pid o far own plain d = record {
  process = d.process;
  at = put_process_other k.procs from (sender_heard number (k.procs from)) pid (hosts_apart host from pid far own) ∙ d.at;
  does = d.does;
}
brought_does host k (Reply from to number m dest bytes) pid o far own plain d =
    record { process = d.process; at = d.at; does = d.does }
brought_does host k (Pending from to number) pid o far own plain d = d
brought_does host k (Negative from to number) pid o far own plain d = record {
  process = d.process;
  at = changed_apart k.procs from found_dead pid (hosts_apart host from pid far own) ∙ d.at;
  does = d.does;
}
brought_does host k p pid o far own plain d = absurd plain

settled_does : (before k : Kernel) (p : Packet) (pid : Pid) (o : Option Call) → IsPlainPacket p → Does k pid o →
    Does (settled before p k) pid o
settled_does before k (Send from to number m part) pid o plain d = d
settled_does before k (Reply from to number m dest bytes) pid o plain d = d
settled_does before k (Pending from to number) pid o plain d = d
settled_does before k (Negative from to number) pid o plain d = d
settled_does before k p pid o plain d = absurd plain

after_does : (host : ℕ) (k : Kernel) (p : Packet) (ss : List Step) (pid : Pid) (o : Option Call) → (source_of p == host) ≡ false →
    (pid.host == host) ≡ true → IsPlainPacket p → Each IsQuiet ss → IsPlainView host k → Does k pid o →
    Does (after_steps k (Some p) ss) pid o
after_does host k p [] pid o far own plain quiet v d = d
after_does host k p (y ∷ ys) pid o far own plain quiet v d =
    settled_does k (fold next (brought k p) (y ∷ ys)) p pid o plain
    (steps_do host (brought k p) (y ∷ ys) pid o quiet (brought_plain host k p far plain v)
    (brought_does host k p pid o far own plain d))

outcome_does : (host : ℕ) (r : Reading) (o : Option Frame) (pid : Pid) (c : Option Call) → (pid.host == host) ≡ true →
    ((f : Frame) → o ≡ Some f → IsForStation host f.packet × IsPlainPacket f.packet) → IsPlainView host r.view → Does r.view pid c →
    Does (after_steps r.view (packet_taken o) (outcome_by host r o).steps) pid c
outcome_does host r None pid c own taken v d = d
outcome_does host r (Some f) pid c own taken v d =
    let t = taken f refl in
    after_does host r.view f.packet _ pid c t.0.far own t.1 (packet_quiet host r f.packet t.1) v d

quiet_does : (r : Reading) (e : Entry) (pid : Pid) (c : Option Call) → is_delivery e.input ≡ false → Does (fold next r.view e.steps) pid c →
    Does (after_steps r.view (taken_packet e) e.steps) pid c
quiet_does r e pid c h d = subst (λ o. Does (after_steps r.view o e.steps) pid c) (sym (no_packet e h)) d

-- A tick, and a delivery.
pub tick_does : (host : ℕ) (r : Reading) (pid : Pid) (c : Option Call) → IsPlainView host r.view → Does r.view pid c →
    Does (reading_after settings.times r (right_entry settings host r Ticked)).view pid c
unfolding reading_after right_entry tick_outcome
tick_does host r pid c v d =
    quiet_does r (right_entry settings host r Ticked) pid c refl
    (steps_do host r.view _ pid c (each_failed IsQuiet failure_quiet settings.times (r.now + 1) r (own_pids settings host)) v d)

pub delivery_does : (host : ℕ) (r : Reading) (o : Unsealed) (pid : Pid) (c : Option Call) → IsInput host (Delivered o) →
    IsPlainInput (Delivered o) → (pid.host == host) ≡ true → IsPlainView host r.view → Does r.view pid c →
    Does (reading_after settings.times r (right_entry settings host r (Delivered o))).view pid c
unfolding reading_after right_entry
delivery_does host r o pid c i plain own v d =
    let a = answer_to_frame host r.now settings.times.life o in
    outcome_does host r (taken_in (Delivered o) a) pid c own
    (λ g is. (taken_is host r.now settings.times.life o g i is, taken_plain a o g plain is)) v d

-- The process's own events.
called_view : (host : ℕ) (r : Reading) (pid : Pid) (c : Call) (o : Option Call) → IsOurs pid → IsPlain c → IsPlainView host r.view →
    Does (after_effect r.view (effect r.view (steps.Call pid c))) pid o →
    Does (reading_after settings.times r (right_entry settings host r (Called pid c))).view pid o
unfolding reading_after right_entry call_outcome
called_view host r pid c o ours plain v d =
    let a = effect_answer (effect r.view (steps.Call pid c)) in
    let after = next r.view (steps.Call pid c) in
    quiet_does r (right_entry settings host r (Called pid c)) pid o refl
    (steps_do host after (steps_behind after pid c a) pid o (behind_quiet after pid c a)
    (call_plain host r.view pid c (effect r.view (steps.Call pid c)) refl ours plain v) d)

collected_view : (host : ℕ) (r : Reading) (pid : Pid) →
    (reading_after settings.times r (right_entry settings host r (Collected pid))).view ≡
    after_effect r.view (effect r.view (steps.Collect pid))
unfolding reading_after right_entry collect_outcome
collected_view host r pid =
    let e = right_entry settings host r (Collected pid) in
    ap (λ o. after_steps r.view o e.steps) (no_packet e refl) ∙ made_where r.view (steps.Collect pid)

-- the same answer, with the view after the whole entry
moved_call : (c : Call) (pid : Pid) (a : EventAnswer) (k l : Kernel) → ((o : Option Call) → Does k pid o → Does l pid o) →
    IsCallMade c pid a k → IsCallMade c pid a l
moved_call c pid a k l on (IsCallMade.Begins is waited does) = IsCallMade.Begins is waited (on (Some c) does)
moved_call c pid a k l on (IsCallMade.Tells x is for does) = IsCallMade.Tells x is for (on None does)
moved_call c pid a k l on (IsCallMade.Tells_nothing is does) = IsCallMade.Tells_nothing is (on None does)

pub call_stands : (host : ℕ) (r : Reading) (t : Task) (most : ℕ) (heard : List EventAnswer) (p : Process)
    (g : IsGoodCall (task_call t (told heard))) →
    IsPlainView host r.view → IsOurs t.pid → StandsInCall t most heard r.view → most + 1 < requests → is_waiting heard ≡ false →
    MayCall r.view t.pid p →
    StandsInCall t (most + 1) (heard ++ answer_to settings host r (Called t.pid g.call) ∷ [])
    (reading_after settings.times r (right_entry settings host r (Called t.pid g.call))).view
call_stands host r t most heard p g v ours s small waits may =
    called_on t most heard g.call _ _ s.going s.few small waits g.is
    (moved_call g.call t.pid _ _ _ (λ o d. called_view host r t.pid g.call o ours g.plain v d)
    (called_is r.view t.pid p g.call may g.plain g.within))

pub collect_stands : (host : ℕ) (r : Reading) (t : Task) (most : ℕ) (heard : List EventAnswer) (c : Call) → IsPlainView host r.view →
    StandsInCall t most heard r.view → most + 1 < requests → is_waiting heard ≡ true → task_call t (told heard) ≡ Some c →
    StandsInCall t (most + 1) (heard ++ answer_to settings host r (Collected t.pid) ∷ [])
    (reading_after settings.times r (right_entry settings host r (Collected t.pid))).view
collect_stands host r t most heard c v s small waits called =
    let d = s.does in
    let does : doing d.process.state ≡ Some c =
    d.does ∙ cond-true (is_waiting heard) (task_call t (told heard)) None waits ∙ called in
    subst (StandsInCall t (most + 1) (heard ++ answer_to settings host r (Collected t.pid) ∷ [])) (sym (collected_view host r t.pid))
    (collected_on t most heard c _ _ s.going s.few small waits called (collected_is host r.view t.pid d.process c v d.at does))
