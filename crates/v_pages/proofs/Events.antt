-- The calls of a process in a history are its calls by the events of the schedule.
use Rattle.std.proofs.Common.{◌≡◌, ℕ, zero, suc, ◌+◌, true, false, List, [], ◌∷◌, ◌++◌, length, take, slice_get, Option, Some, None, option_to_list, refl, sym, ap, ◌∙◌}
use Rattle.std.specs.List.{filter_map}
use Rattle.std.proofs.lemmas.Bool.{both_ways}
use Rattle.std.proofs.lemmas.List.{append-nil}
use Rattle.std.proofs.lemmas.List.Concat.{flat_map-cons}
use Rattle.std.proofs.lemmas.List.Elements.{filter_map-append}
use Rattle.std.proofs.lemmas.Option.{none-some}
use Rattle.vk_types.specs.Types.{Answer, Call, Message, Pid, ProcessSpec, Step}
use Rattle.vk_base.specs.declared.answer.Answer.TheVariants as answers
use Rattle.vk_base.specs.declared.call.Call.TheVariants as calls
use Rattle.vk_base.specs.declared.step.Step.TheVariants as steps
use Rattle.vk_base.specs.Kernel.{◌>>=◌, initial_kernel}
use Rattle.vk_base.specs.Settings.{Settings}
use Rattle.vk_base.specs.Steps.{effect, is_allowed, next, run}
use Rattle.vk_schedule.specs.declared.event.Event.{Event}
use Rattle.vk_schedule.specs.declared.event.Event.TheVariants as events
use Rattle.vk_pages.specs.Servers.{server_call}
use Rattle.vk_rules.specs.CallOutcomes.{call_outcome, collect_outcome, effect_answer, tick_outcome, steps_behind}
use Rattle.vk_rules.specs.Each.{Each}
use Rattle.vk_rules.specs.Entries.{Delivered, taken_in}
use Rattle.vk_rules.specs.Frames.{Frame, Framed, sender_of}
use Rattle.vk_rules.specs.Histories.{Logs, delivered, happened, handed_over, history, logs_after, no_entries}
use Rattle.vk_rules.specs.Observed.{all_steps, steps_in}
use Rattle.vk_rules.specs.PacketOutcomes.{packet_outcome}
use Rattle.vk_rules.specs.Readings.{Reading, reading}
use Rattle.vk_rules.specs.Right.{answer_to, own_pids, right_entry}
use Rattle.vk_rules.specs.Rounds.{nothing}
use Rattle.vk_rules.proofs.Lists.{each_if}
use Rattle.v_ages.proofs.Outcomes.{behind_no_call, failed_no_call, mild_packet}
use Rattle.v_ages.proofs.Quiet.{NoCall, is_call}
use Rattle.v_laws.specs.Places.{seen_at}
use Rattle.v_laws.specs.Reached.{saw}
use Rattle.v_whole.specs.HistoryLaws.{IsSchedule, steps_of}
use Rattle.v_whole.specs.Schedules.{AreOfProcesses}
use Rattle.v_whole.proofs.Histories.{schedules_run}
use Rattle.v_pages.specs.Followed.{FollowsTask, answers_before, call_by, calls_before}
use Rattle.v_pages.specs.PageMap.{is_lawful_write}
use Rattle.v_pages.specs.Requests.{Request, request_at}
use Rattle.v_pages.specs.Written.{IsSentBefore}
use Rattle.v_pages.proofs.Sent.{writes_sent}
use Rattle.v_pages.specs.Scheduled.{FollowsIn, answers_in, call_of, calls_in}
use Rattle.v_pages.specs.Served.{IsServed, IsServedAlone, RepliesToLast}
use Rattle.v_pages.proofs.Seen.{answers_seen, one_mapped, up_to_mapped}
use Rattle.v_pages.proofs.Senders.{requests_served, senders_served}

-- The steps of an event: those of a call begin with it, and no other step is a call.
pub data EventSteps (e : Event) (ss : List Step) : Type 0 where
  begins : (pid : Pid) (c : Call) (rest : List Step) → e ≡ events.Call pid c → ss ≡ steps.Call pid c ∷ rest → Each NoCall rest →
      EventSteps e ss
  quiet : ((r : Pid) → call_of r e ≡ None) → Each NoCall ss → EventSteps e ss

delivered_steps : (c : Settings) (host : ℕ) (r : Reading) (f : Frame) →
    Each NoCall (right_entry c host r (Delivered (Framed f.header f.packet))).steps
unfolding right_entry
delivered_steps c host r f = by_frame (taken_in (Delivered (Framed f.header f.packet)) (answer_to c host r (Delivered
    (Framed f.header f.packet))))
  where
    by_frame : (o : Option Frame) →
        Each NoCall (Rattle.std.specs.Option.option_map_or (λ (f : Frame). packet_outcome host r f.packet) o nothing).steps
    by_frame None = tt
    by_frame (Some g) = (mild_packet host r g.packet (sender_of g.packet) 0).steps

handed_steps : (c : Settings) (logs : Logs) (to : ℕ) (o : Option Frame) → Each NoCall (steps_in (delivered c logs to o))
handed_steps c logs to None = tt
handed_steps c logs to (Some f) = delivered_steps c to (reading c to (logs to)) f

event_steps : (c : Settings) (logs : Logs) (e : Event) → EventSteps e (steps_in (happened c logs e))
unfolding happened right_entry call_outcome collect_outcome tick_outcome
event_steps c logs (events.Call pid call) =
    let r = reading c pid.host (logs pid.host) in
    let a = effect_answer (effect r.view (steps.Call pid call)) in
    let after = next r.view (steps.Call pid call) in
    EventSteps.begins pid call (steps_behind after pid call a) refl refl (behind_no_call after pid call a)
event_steps c logs (events.Collect pid) =
    let r = reading c pid.host (logs pid.host) in
    EventSteps.quiet (λ q. refl) (each_if NoCall (is_allowed r.view (steps.Collect pid)) (steps.Collect pid ∷ []) (λ t. (refl, tt)))
event_steps c logs (events.Tick host) =
    let r = reading c host (logs host) in
    EventSteps.quiet (λ q. refl) (failed_no_call c.times (r.now + 1) r (own_pids c host))
event_steps c logs (events.Deliver to from event output) =
    EventSteps.quiet (λ q. refl) (handed_steps c logs to (handed_over logs to from event output))

-- A call behind steps of which none is a call.
record IsBehind (r : Pid) (ts rest : List Step) (i : ℕ) (call : Call) : Type 0 where
  place : ℕ
  is : (slice_get rest place >>= call_by r) ≡ Some call
  front : take i (ts ++ rest) ≡ ts ++ take place rest

no_call_by : (r : Pid) (s : Step) → is_call s ≡ false → call_by r s ≡ None
no_call_by r (steps.Call pid c) f = absurd (both_ways true f refl)
no_call_by r s f = refl

behind_more : (r : Pid) (t : Step) (ts rest : List Step) (i : ℕ) (call : Call) → IsBehind r ts rest i call →
    IsBehind r (t ∷ ts) rest (suc i) call
behind_more r t ts rest i call b = record { place = b.place; is = b.is; front = ap (λ xs. t ∷ xs) b.front }

behind : (r : Pid) (ts rest : List Step) (i : ℕ) (call : Call) → Each NoCall ts → (slice_get (ts ++ rest) i >>= call_by r) ≡ Some call →
    IsBehind r ts rest i call
behind r [] rest i call none is = record { place = i; is = is; front = refl }
behind r (t ∷ ts) rest zero call none is = absurd (none-some call (sym (no_call_by r t none.0) ∙ is))
behind r (t ∷ ts) rest (suc i) call none is = behind_more r t ts rest i call (behind r ts rest i call none.1 is)

-- The event by which a call is made.
record IsMadeBy (c : Settings) (logs : Logs) (es : List Event) (r : Pid) (i : ℕ) (call : Call) : Type 0 where
  event : ℕ
  is : (slice_get es event >>= call_of r) ≡ Some call
  front : take i (all_steps (history c logs es)) ≡ all_steps (history c logs (take event es))

steps_more : (c : Settings) (logs : Logs) (e : Event) (es : List Event) →
    all_steps (history c logs (e ∷ es)) ≡ steps_in (happened c logs e) ++ all_steps (history c (logs_after logs (happened c logs e)) es)
unfolding history
steps_more c logs e es = flat_map-cons steps_in (happened c logs e) (history c (logs_after logs (happened c logs e)) es)

no_steps : (c : Settings) (logs : Logs) → all_steps (history c logs []) ≡ []
unfolding history
no_steps c logs = refl

made_later : (c : Settings) (logs : Logs) (e : Event) (es : List Event) (r : Pid) (i j : ℕ) (call : Call) →
    take i (steps_in (happened c logs e) ++ all_steps (history c (logs_after logs (happened c logs e)) es)) ≡
    steps_in (happened c logs e) ++ take j (all_steps (history c (logs_after logs (happened c logs e)) es)) →
    IsMadeBy c (logs_after logs (happened c logs e)) es r j call → IsMadeBy c logs (e ∷ es) r i call
made_later c logs e es r i j call front m = record {
  event = suc m.event;
  is = m.is;
  front = ap (take i) (steps_more c logs e es) ∙ front ∙ ap (λ xs. steps_in (happened c logs e) ++ xs) m.front
      ∙ sym (steps_more c logs e (take m.event es));
}

abbrev Later : Settings → Logs → Event → List Event → Pid → Call → Type 0
Later c logs e es r call = (j : ℕ) →
    (slice_get (all_steps (history c (logs_after logs (happened c logs e)) es)) j >>= call_by r) ≡ Some call →
    IsMadeBy c (logs_after logs (happened c logs e)) es r j call

-- behind the steps of an event that is no call
made_quiet : (c : Settings) (logs : Logs) (e : Event) (es : List Event) (r : Pid) (i : ℕ) (call : Call) →
    Each NoCall (steps_in (happened c logs e)) →
    (slice_get (steps_in (happened c logs e) ++ all_steps (history c (logs_after logs
    (happened c logs e)) es)) i >>= call_by r) ≡ Some call →
    Later c logs e es r call → IsMadeBy c logs (e ∷ es) r i call
made_quiet c logs e es r i call none is later =
    let b = behind r (steps_in (happened c logs e)) (all_steps (history c (logs_after logs (happened c logs e)) es)) i call none is in
    made_later c logs e es r i b.place call b.front (later b.place b.is)

-- at or behind the steps of a call
made_call : (c : Settings) (logs : Logs) (e : Event) (es : List Event) (r : Pid) (i : ℕ) (call : Call) (pid : Pid) (d : Call)
    (rest : List Step) → e ≡ events.Call pid d → steps_in (happened c logs e) ≡ steps.Call pid d ∷ rest → Each NoCall rest →
    (slice_get (steps_in (happened c logs e) ++ all_steps (history c (logs_after logs
    (happened c logs e)) es)) i >>= call_by r) ≡ Some call →
    Later c logs e es r call → IsMadeBy c logs (e ∷ es) r i call
made_call c logs e es r zero call pid d rest event all none is later = record {
  event = 0;
  is = ap (call_of r) event
      ∙ sym (ap (λ xs. slice_get (xs ++ all_steps (history c (logs_after logs (happened c logs e)) es)) 0 >>= call_by r) all) ∙ is;
  front = sym (no_steps c logs);
}
made_call c logs e es r (suc i) call pid d rest event all none is later =
    let others = all_steps (history c (logs_after logs (happened c logs e)) es) in
    let b = behind r rest others i call none (sym (ap (λ xs. slice_get (xs ++ others) (suc i) >>= call_by r) all) ∙ is) in
    made_later c logs e es r (suc i) b.place call
    (ap (λ xs. take (suc i) (xs ++ others)) all ∙ ap (λ xs. steps.Call pid d ∷ xs) b.front
    ∙ ap (λ xs. xs ++ take b.place others) (sym all))
    (later b.place b.is)

made_by : (c : Settings) (logs : Logs) (e : Event) (es : List Event) (r : Pid) (i : ℕ) (call : Call) →
    EventSteps e (steps_in (happened c logs e)) →
    (slice_get (steps_in (happened c logs e) ++ all_steps (history c (logs_after logs
    (happened c logs e)) es)) i >>= call_by r) ≡ Some call →
    Later c logs e es r call → IsMadeBy c logs (e ∷ es) r i call
made_by c logs e es r i call (EventSteps.begins pid d rest event all none) is later =
    made_call c logs e es r i call pid d rest event all none is later
made_by c logs e es r i call (EventSteps.quiet not none) is later = made_quiet c logs e es r i call none is later

made : (c : Settings) (es : List Event) (logs : Logs) (r : Pid) (i : ℕ) (call : Call) →
    (slice_get (all_steps (history c logs es)) i >>= call_by r) ≡ Some call → IsMadeBy c logs es r i call
made c [] logs r i call is = absurd (none-some call (sym (nothing_at i) ∙ ap (λ xs. slice_get xs i >>= call_by r) (sym
    (no_steps c logs)) ∙ is))
  where
    nothing_at : (i : ℕ) → (let none : List Step = [] in slice_get none i >>= call_by r) ≡ None
    nothing_at zero = refl
    nothing_at (suc i) = refl
made c (e ∷ es) logs r i call is =
    made_by c logs e es r i call (event_steps c logs e) (ap (λ xs. slice_get xs i >>= call_by r) (sym (steps_more c logs e es)) ∙ is)
    (λ j is_j. made c es (logs_after logs (happened c logs e)) r j call is_j)

-- The calls of events, and of their steps.
no_calls : (r : Pid) (ss : List Step) → Each NoCall ss → filter_map (call_by r) ss ≡ []
no_calls r [] none = refl
no_calls r (s ∷ ss) none = one_mapped (call_by r) s ss
    ∙ ap (λ o. option_to_list o ++ filter_map (call_by r) ss) (no_call_by r s none.0) ∙ no_calls r ss none.1

event_calls : (r : Pid) (e : Event) (ss : List Step) → EventSteps e ss → filter_map (call_by r) ss ≡ option_to_list (call_of r e)
event_calls r e ss (EventSteps.begins pid c rest event all none) =
    ap (filter_map (call_by r)) all ∙ one_mapped (call_by r) (steps.Call pid c) rest
    ∙ ap (λ xs. option_to_list (call_by r (steps.Call pid c)) ++ xs) (no_calls r rest none)
    ∙ append-nil (option_to_list (call_by r (steps.Call pid c))) ∙ ap (λ x. option_to_list (call_of r x)) (sym event)
event_calls r e ss (EventSteps.quiet not none) = no_calls r ss none ∙ ap option_to_list (sym (not r))

calls_same : (c : Settings) (r : Pid) (es : List Event) (logs : Logs) →
    filter_map (call_by r) (all_steps (history c logs es)) ≡ calls_in r es
calls_same c r [] logs = ap (filter_map (call_by r)) (no_steps c logs)
calls_same c r (e ∷ es) logs =
    ap (filter_map (call_by r)) (steps_more c logs e es)
    ∙ filter_map-append (call_by r) (steps_in (happened c logs e)) (all_steps (history c (logs_after logs (happened c logs e)) es))
    ∙ (λ i. event_calls r e (steps_in (happened c logs e)) (event_steps c logs e) i
    ++ calls_same c r es (logs_after logs (happened c logs e)) i)
    ∙ sym (one_mapped (call_of r) e es)

-- Who follows a task by events follows it in the steps of the history.
callers_first : (specs : List ProcessSpec) (es : List Event) (i : ℕ) → AreOfProcesses specs es → AreOfProcesses specs (take i es)
callers_first specs [] zero of = tt
callers_first specs [] (suc i) of = tt
callers_first specs (e ∷ es) zero of = tt
callers_first specs (e ∷ es) (suc i) of = (of.0, callers_first specs es i of.1)

pub follows_on : (task : List Answer → Option Call) (c : Settings) (es : List Event) (r : Pid) → IsSchedule c es → FollowsIn task c es r →
    FollowsTask task c.specs (steps_of c es) r
follows_on task c es r schedule follows i call is =
    let m = made c es no_entries r i call is in
    let next = follows m.event call m.is in
    let first = take m.event es in
    let whole = schedules_run c first schedule.distinct (callers_first c.specs es m.event schedule.callers) in
    let calls : calls_before (steps_of c es) r i ≡ calls_in r first =
    up_to_mapped (call_by r) (steps_of c es) i ∙ ap (filter_map (call_by r)) m.front ∙ calls_same c r first no_entries in
    let answers : answers_before c.specs (steps_of c es) r i ≡ answers_in c r first =
    answers_seen c.specs (steps_of c es) r i _ (ap (run (initial_kernel c.specs)) m.front ∙ whole.run) in
    record { answered = ap length answers ∙ next.answered ∙ ap length (sym calls); told = ap task answers ∙ next.told }

pub requests_served_in : (c : Settings) (es : List Event) (r : Pid) (pages requests i j : ℕ) (s target : Pid) (message reply : Message) →
    IsSchedule c es → FollowsIn (server_call pages requests) c es r → slice_get (steps_of c es) i ≡ Some (steps.Collect s) →
    seen_at c.specs (steps_of c es) i ≡ saw s (calls.Send target message) (answers.Replied reply) →
    RepliesToLast c.specs (steps_of c es) i j s r → IsServed c.specs (steps_of c es) i j s r pages reply
requests_served_in c es r pages requests i j s target message reply schedule follows =
    let whole = schedules_run c es schedule.distinct schedule.callers in
    requests_served c.specs (steps_of c es) _ r pages requests i j s target message reply whole.run
    (follows_on (server_call pages requests) c es r schedule follows)

pub senders_served_in : (c : Settings) (es : List Event) (r : Pid) (pages requests i : ℕ) (s : Pid) (message reply : Message) →
    IsSchedule c es → FollowsIn (server_call pages requests) c es r → slice_get (steps_of c es) i ≡ Some (steps.Collect s) →
    seen_at c.specs (steps_of c es) i ≡ saw s (calls.Send r message) (answers.Replied reply) →
    IsServedAlone c.specs (steps_of c es) i s r pages message reply
senders_served_in c es r pages requests i s message reply schedule follows is sees =
    let whole = schedules_run c es schedule.distinct schedule.callers in
    senders_served c.specs (steps_of c es) _ r pages requests i s message reply whole.run
    (follows_on (server_call pages requests) c es r schedule follows) is sees

pub writes_sent_in : (c : Settings) (es : List Event) (r : Pid) (pages requests i : ℕ) (q : Request) → IsSchedule c es →
    FollowsIn (server_call pages requests) c es r → request_at c.specs (steps_of c es) r i ≡ Some q →
    is_lawful_write pages q.message ≡ true → IsSentBefore c.specs (steps_of c es) i r q
writes_sent_in c es r pages requests i q schedule follows =
    writes_sent c.specs (steps_of c es) r pages requests i q (follows_on (server_call pages requests) c es r schedule follows)
