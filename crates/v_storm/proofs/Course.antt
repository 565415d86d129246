-- A storm so far: its events are lawful, and its processes stand as their programs say.
use Rattle.std.proofs.Common.{◌≡◌, ◌≢◌, ℕ, zero, suc, ◌+◌, ◌-◌, ◌%◌, ◌<◌, ◌≤◌, ◌==◌, Bool, true, false, cond, min, nat_lt, List, [], ◌∷◌, ◌++◌, length, Option, Some, None, refl, sym, ap, subst, ◌∙◌, length-append, arith, inl, inr}
use Rattle.std.proofs.lemmas.Bool.{both_ways, and_parts, and_from, cases_Bool, cond-true, cond-false, cond_both, eqb-true, eq-eqb}
use Rattle.std.proofs.lemmas.List.{append-nil}
use Rattle.std.proofs.lemmas.Option.{none-some}
use Rattle.std.specs.List.{list_all}
use Rattle.vk_types.specs.Types.{Call, EventAnswer, State}
use Rattle.vk_base.specs.declared.kernel.State.TheVariants as states
use Rattle.vk_base.specs.Kernel.{Kernel}
use Rattle.vk_base.specs.Pids.{same_pid}
use Rattle.vk_base.proofs.PidLemmas.{same_pid_self}
use Rattle.vk_cluster.specs.Standing.{logs_of}
use Rattle.vk_cluster.proofs.Logs.{logs_next, with_other}
use Rattle.vk_drive.specs.Driving.{is_of_no_process}
use Rattle.vk_drive.specs.Storms.{Choice, Storm, before_last, call_event, choice, chosen, delivery_choice, delivery_event, delivery_of, process_choice, process_event, tick_choice}
unfoldable use Rattle.vk_drive.specs.Storms.{storm_after}
use Rattle.vk_drive.specs.Tasks.{settings, specs, task_at}
use Rattle.vk_drive.specs.Told.{all_emitted, answered_in, answered_to, emitted_in, is_waiting, told}
use Rattle.vk_drive.proofs.Behind.{answered_more, emitted_more, history_with}
use Rattle.vk_drive.proofs.Chosen.{host_is, process_there, processes_differ, quiet_tells, tick_acts}
use Rattle.vk_drive.proofs.Fronts.{storm_count}
use Rattle.vk_event.specs.declared.task.Task.{Task}
use Rattle.vk_frame.specs.declared.header.Header.{Header}
use Rattle.vk_generator.specs.Numbers.{drawn, next}
use Rattle.vk_pages.specs.Programs.{task_call}
use Rattle.vk_rules.specs.Each.{Each}
use Rattle.vk_rules.specs.Entries.{Called, Collected, Delivered, Entry, Input, Ticked}
use Rattle.vk_rules.specs.Frames.{Frame, Framed}
use Rattle.vk_rules.specs.Histories.{At, Happened, Logs, delivered, emitted, handed_over, history_of, is_output, logs_after}
unfoldable use Rattle.vk_rules.specs.Histories.{happened, history, logs_from}
unfoldable use Rattle.vk_rules.specs.Readings.{reading}
unfoldable use Rattle.vk_rules.specs.Right.{right_entry}
use Rattle.vk_rules.specs.Right.{answer_to, entry_of}
use Rattle.vk_rules.proofs.Lists.{each_append, each_find, each_at}
use Rattle.vk_rules.proofs.OwnEvents.{own_log}
use Rattle.vk_schedule.specs.declared.event.Event.{Event}
use Rattle.vk_schedule.specs.declared.event.Event.TheVariants as events
use Rattle.vk_schedule.specs.Lawful.{IsReadableEvent, has_actors}
use Rattle.v_laws.specs.Sizes.{size_in}
use Rattle.v_lawful.specs.Sending.{IsSendable}
use Rattle.v_lawful.proofs.Schedules.{each_emitted}
use Rattle.v_storm.proofs.Views.{IsPlainPacket}
use Rattle.v_storm.proofs.Called.{MayCall}
use Rattle.v_storm.proofs.Doing.{Does, doing}
use Rattle.v_storm.proofs.Entries.{IsPlainLog, log_none}
use Rattle.v_storm.proofs.Histories.{AreLogs, IsGoodHeader, IsPlainEvent, event_headers, event_log, fine}
use Rattle.v_storm.proofs.Ours.{our_pid}
use Rattle.v_storm.proofs.Programs.{going_calls, going_first}
use Rattle.v_storm.proofs.Serving.{IsGoodCall}
use Rattle.v_storm.proofs.Standing.{StandsInCall, call_stands, called_last, collect_stands, delivery_does, tick_does}

-- the view of the station at which the process at this place is
abbrev pub host_at : ℕ → ℕ
host_at place = (task_at place).pid.host

abbrev pub view_at : Logs → ℕ → Kernel
view_at logs place = (reading settings (host_at place) (logs (host_at place))).view

abbrev pub heard_at : List Event → ℕ → List EventAnswer
heard_at es place = answered_to (task_at place).pid (history_of settings es)

pub record IsLawfulSoFar (es : List Event) : Type 0 where
  pub readable : Each IsReadableEvent es
  pub acts : list_all (has_actors specs) es ≡ true
  pub logs : AreLogs (length es) (logs_of settings es)
  pub headers : Each IsGoodHeader (all_emitted (history_of settings es))
  pub stands : (place : ℕ) → place < 4 → StandsInCall (task_at place) (length es) (heard_at es place) (view_at (logs_of settings es) place)

-- Lists with one more.
all_more : (f : Event → Bool) (es : List Event) (e : Event) → list_all f es ≡ true → f e ≡ true → list_all f (es ++ e ∷ []) ≡ true
all_more f [] e all is = and_from (f e) true is refl
all_more f (x ∷ xs) e all is =
    let parts = and_parts (f x) (list_all f xs) all in
    and_from (f x) (list_all f (xs ++ e ∷ [])) parts.0 (all_more f xs e parts.1 is)

one_longer : (es : List Event) (e : Event) → length (es ++ e ∷ []) ≡ length es + 1
one_longer es e = length-append es (e ∷ [])

-- Standing behind an event of another process or of none.
same_heard : (es : List Event) (e : Event) (place : ℕ) →
    answered_in (task_at place).pid (happened settings (logs_of settings es) e) ≡ [] → heard_at (es ++ e ∷ []) place ≡ heard_at es place
same_heard es e place none =
    let h = happened settings (logs_of settings es) e in
    ap (answered_to (task_at place).pid) (history_with es e h refl)
    ∙ answered_more (history_of settings es) h (task_at place).pid
    ∙ ap (λ l. heard_at es place ++ l) none ∙ append-nil (heard_at es place)

later : (t : Task) (most : ℕ) (heard : List EventAnswer) (k l : Kernel) → StandsInCall t most heard k → Does l t.pid (called_last t heard) →
    StandsInCall t (most + 1) heard l
later t most heard k l s does = let few = s.few in record { going = s.going; few = omega (arith, few); does = does }

-- the view after an event that is none of this process: a tick or a delivery here, or what happens elsewhere
IsSeen : Logs → ℕ → Happened → Type 0
IsSeen logs place h = (o : Option Call) → Does (view_at logs place) (task_at place).pid o →
    Does (view_at (logs_after logs h) place) (task_at place).pid o

elsewhere : (logs : Logs) (place host event : ℕ) (e : Entry) → host_at place ≢ host → IsSeen logs place (At host event e)
unfolding IsSeen
elsewhere logs place host event e apart o d =
    subst (λ es. Does (reading settings (host_at place) es).view (task_at place).pid o) (sym (with_other logs host e (host_at place) apart)) d

here_or_there : (logs : Logs) (place host event : ℕ) (i : Input) →
    (host ≡ host_at place → (o : Option Call) → Does (view_at logs place) (task_at place).pid o →
    Does (reading settings (host_at place) (entry_of settings (host_at place) (logs (host_at place)) i ∷ logs (host_at place))).view
    (task_at place).pid o) →
    IsSeen logs place (At host event (entry_of settings host (logs host) i))
unfolding IsSeen
here_or_there logs place host event i on o d = elim (cases_Bool (host_at place == host)) [
  | inl t ↦
      let same : host ≡ host_at place = sym (eqb-true (host_at place) host t) in
      subst (λ h. Does (reading settings (host_at place) (logs_after logs (At h event (entry_of settings h (logs h) i)) (host_at place))).view
      (task_at place).pid o) (sym same)
      (subst (λ es. Does (reading settings (host_at place) es).view (task_at place).pid o)
      (sym (own_log logs (host_at place) (entry_of settings (host_at place) (logs (host_at place)) i)))
      (on same o d))
  | inr f ↦ elsewhere logs place host event (entry_of settings host (logs host) i)
      (λ same. both_ways (host_at place == host) f (eq-eqb (host_at place) host same)) o d
]

ticked : (most : ℕ) (logs : Logs) (place host event : ℕ) → AreLogs most logs →
    IsSeen logs place (At host event (entry_of settings host (logs host) Ticked))
unfolding reading
ticked most logs place host event are =
    here_or_there logs place host event Ticked
    (λ same o d. tick_does (host_at place) (reading settings (host_at place) (logs (host_at place))) (task_at place).pid o
    (are.each (host_at place)).view d)

came : (most : ℕ) (logs : Logs) (place host event : ℕ) (f : Frame) → AreLogs most logs → IsSendable f.packet → IsPlainPacket f.packet →
    IsSeen logs place (At host event (entry_of settings host (logs host) (Delivered (Framed f.header f.packet))))
unfolding reading
came most logs place host event f are sent plain =
    here_or_there logs place host event (Delivered (Framed f.header f.packet))
    (λ same o d. delivery_does (host_at place) (reading settings (host_at place) (logs (host_at place))) (Framed f.header f.packet)
    (task_at place).pid o sent.packet plain (eq-eqb (host_at place) (host_at place) refl) (are.each (host_at place)).view d)

each_sent : (most : ℕ) (logs : Logs) (from to event output : ℕ) (f : Frame) → AreLogs most logs →
    handed_over logs to from event output ≡ Some f → IsSendable f.packet × IsPlainPacket f.packet
each_sent most logs from to event output f are there = (
  each_find (λ (g : Frame). IsSendable g.packet) (is_output to event output) (emitted (logs from)) f there
      (each_emitted (logs from) (are.each from).sent.entries),
  each_find (λ (g : Frame). IsPlainPacket g.packet) (is_output to event output) (emitted (logs from)) f there (are.each from).frames,
)

came_or_not : (most : ℕ) (logs : Logs) (place to : ℕ) (o : Option Frame) → AreLogs most logs →
    ((f : Frame) → o ≡ Some f → IsSendable f.packet × IsPlainPacket f.packet) → IsSeen logs place (delivered settings logs to o)
unfolding IsSeen
came_or_not most logs place to None are sent o d = d
came_or_not most logs place to (Some f) are sent o d = let s = sent f refl in came most logs place to (length (logs to) + 1) f are s.0 s.1 o d

quiet_seen : (most : ℕ) (logs : Logs) (place : ℕ) (e : Event) → AreLogs most logs → is_of_no_process e ≡ true →
    IsSeen logs place (happened settings logs e)
unfolding happened
quiet_seen most logs place (events.Call pid call) are quiet = absurd (both_ways false refl quiet)
quiet_seen most logs place (events.Collect pid) are quiet = absurd (both_ways false refl quiet)
quiet_seen most logs place (events.Tick host) are quiet = ticked most logs place host _ are
quiet_seen most logs place (events.Deliver to from event output) are quiet =
    came_or_not most logs place to (handed_over logs to from event output) are
    (λ f is. each_sent most logs from to event output f are is)

-- One event more, of which this is known.
record IsFit (es : List Event) (e : Event) : Type 0 where
  readable : IsReadableEvent e
  acts : has_actors specs e ≡ true
  plain : IsPlainEvent e
  stands : AreLogs (length es + 1) (logs_after (logs_of settings es) (happened settings (logs_of settings es) e)) →
      (place : ℕ) → place < 4 →
      StandsInCall (task_at place) (length es + 1) (heard_at (es ++ e ∷ []) place)
      (view_at (logs_after (logs_of settings es) (happened settings (logs_of settings es) e)) place)

more : (es : List Event) (e : Event) → IsLawfulSoFar es → length es < 100000 → IsFit es e → IsLawfulSoFar (es ++ e ∷ [])
more es e so few fit =
    let logs = logs_of settings es in
    let h = happened settings logs e in
    let long = one_longer es e in
    let readable = each_append IsReadableEvent es (e ∷ []) so.readable (fit.readable, tt) in
    let here = event_log (length es) logs e so.logs few fit.readable fit.plain in
    let are : AreLogs (length (es ++ e ∷ [])) (logs_of settings (es ++ e ∷ [])) =
    (subst (λ n. AreLogs n (logs_of settings (es ++ e ∷ []))) (sym long)
    (subst (AreLogs (length es + 1)) (sym (logs_next settings es e)) here)) in
    record {
      readable = readable;
      acts = all_more (has_actors specs) es e so.acts fit.acts;
      logs = are;
      headers =
          subst (Each IsGoodHeader)
          (sym (ap all_emitted (history_with es e h refl) ∙ emitted_more (history_of settings es) h))
          (each_append IsGoodHeader (all_emitted (history_of settings es)) (emitted_in h) so.headers
          (event_headers es e readable (omega (arith, long, few)) fit.readable fit.acts are));
      stands = λ place low.
          subst (λ n. StandsInCall (task_at place) n (heard_at (es ++ e ∷ []) place) (view_at (logs_of settings (es ++ e ∷ [])) place)) (sym long)
          (subst (λ (l : Logs). StandsInCall (task_at place) (length es + 1) (heard_at (es ++ e ∷ []) place) (view_at l place))
          (sym (logs_next settings es e)) (fit.stands here place low));
    }

-- An event of no process.
plain_quiet : (e : Event) → is_of_no_process e ≡ true → IsPlainEvent e
plain_quiet (events.Call pid call) quiet = absurd (both_ways false refl quiet)
plain_quiet e quiet = tt

quiet_fit : (es : List Event) (e : Event) → IsLawfulSoFar es → IsReadableEvent e → has_actors specs e ≡ true → is_of_no_process e ≡ true → IsFit es e
unfolding IsSeen
quiet_fit es e so readable acts quiet = record {
  readable = readable;
  acts = acts;
  plain = plain_quiet e quiet;
  stands = λ after place low.
      let logs = logs_of settings es in
      let s = so.stands place low in
      let heard = same_heard es e place (quiet_tells settings logs e (task_at place).pid quiet) in
      subst (λ l. StandsInCall (task_at place) (length es + 1) l (view_at (logs_after logs (happened settings logs e)) place)) (sym heard)
      (later (task_at place) (length es) (heard_at es place) (view_at logs place) _ s
      (quiet_seen (length es) logs place e so.logs quiet (called_last (task_at place) (heard_at es place)) s.does));
}

-- An event of the process at this place, which is this input of its station.
own_stands : (es : List Event) (place n : ℕ) (i : Input) (e : Event) (most : ℕ) →
    happened settings (logs_of settings es) e ≡
    At (host_at place) n (entry_of settings (host_at place) (logs_of settings es (host_at place)) i) →
    answered_in (task_at place).pid (happened settings (logs_of settings es) e) ≡
    answer_to settings (host_at place) (reading settings (host_at place) (logs_of settings es (host_at place))) i ∷ [] →
    StandsInCall (task_at place) most
    (heard_at es place ++ answer_to settings (host_at place) (reading settings (host_at place) (logs_of settings es (host_at place))) i ∷ [])
    (reading settings (host_at place)
    (entry_of settings (host_at place) (logs_of settings es (host_at place)) i ∷ logs_of settings es (host_at place))).view →
    StandsInCall (task_at place) most (heard_at (es ++ e ∷ []) place)
    (view_at (logs_after (logs_of settings es) (happened settings (logs_of settings es) e)) place)
own_stands es place n i e most is told_one s =
    let logs = logs_of settings es in
    let h = happened settings logs e in
    let entry = entry_of settings (host_at place) (logs (host_at place)) i in
    let a = answer_to settings (host_at place) (reading settings (host_at place) (logs (host_at place))) i in
    let heard : heard_at (es ++ e ∷ []) place ≡ heard_at es place ++ a ∷ [] =
    ap (answered_to (task_at place).pid) (history_with es e h refl)
    ∙ answered_more (history_of settings es) h (task_at place).pid
    ∙ ap (λ l. heard_at es place ++ l) told_one in
    let log : logs_after logs h (host_at place) ≡ entry ∷ logs (host_at place) =
    ap (λ x. logs_after logs x (host_at place)) is ∙ own_log logs (host_at place) entry in
    subst (λ l. StandsInCall (task_at place) most l (view_at (logs_after logs h) place)) (sym heard)
    (subst (λ l. StandsInCall (task_at place) most (heard_at es place ++ a ∷ []) (reading settings (host_at place) l).view) (sym log) s)

other_stands : (es : List Event) (place q n : ℕ) (e : Event) (entry : Entry) → place < 4 → q < 4 → q ≢ place →
    happened settings (logs_of settings es) e ≡ At (host_at place) n entry →
    answered_in (task_at q).pid (happened settings (logs_of settings es) e) ≡ [] →
    StandsInCall (task_at q) (length es) (heard_at es q) (view_at (logs_of settings es) q) →
    StandsInCall (task_at q) (length es + 1) (heard_at (es ++ e ∷ []) q)
    (view_at (logs_after (logs_of settings es) (happened settings (logs_of settings es) e)) q)
unfolding IsSeen
other_stands es place q n e entry low low_q apart is none s =
    let logs = logs_of settings es in
    let away : host_at q ≢ host_at place =
    λ same. let one = host_is place low in let other = host_is q low_q in apart (omega (arith, one, other, same)) in
    subst (λ l. StandsInCall (task_at q) (length es + 1) l (view_at (logs_after logs (happened settings logs e)) q)) (sym (same_heard es e q none))
    (later (task_at q) (length es) (heard_at es q) (view_at logs q) _ s
    (subst (λ h. Does (view_at (logs_after logs h) q) (task_at q).pid (called_last (task_at q) (heard_at es q))) (sym is)
    (elsewhere logs q (host_at place) n entry away (called_last (task_at q) (heard_at es q)) s.does)))

-- what a process may call
may_call : (place : ℕ) → place < 4 → (log : List Entry) → IsPlainLog (host_at place) log →
    (d : Does (reading settings (host_at place) log).view (task_at place).pid None) →
    MayCall (reading settings (host_at place) log).view (task_at place).pid d.process
may_call place low log plain d = record {
  at = d.at;
  alive = plain.view.alive (task_at place).pid d.process (eq-eqb (host_at place) (host_at place) refl) d.at;
  ready = none_ready d.process.state d.does;
  size = plain.sizes.memory (task_at place).pid d.process (eq-eqb (host_at place) (host_at place) refl) d.at ∙ size_is place low;
  bytes = plain.sent.fitting.view.memories (task_at place).pid d.process d.at;
}
  where
    none_ready : (s : State) → doing s ≡ None → s ≡ states.Ready
    none_ready states.Ready is = refl
    none_ready (states.Blocked c) is = absurd (none-some c (sym is))
    none_ready (states.Done c a) is = absurd (none-some c (sym is))

    size_is : (q : ℕ) → q < 4 → size_in specs (task_at q).pid ≡ 1024
    size_is zero few = refl
    size_is (suc zero) few = refl
    size_is (suc (suc zero)) few = refl
    size_is (suc (suc (suc zero))) few = refl
    size_is (suc (suc (suc (suc q)))) few = absurd (omega arith)

collect_fit : (es : List Event) (place : ℕ) (c : Call) → place < 4 → IsLawfulSoFar es → length es < 100000 →
    is_waiting (heard_at es place) ≡ true → task_call (task_at place) (told (heard_at es place)) ≡ Some c →
    IsFit es (events.Collect (task_at place).pid)
unfolding happened right_entry reading
collect_fit es place c low so few waits called =
    let logs = logs_of settings es in
    let t = task_at place in
    let log = logs (host_at place) in
    let r = reading settings (host_at place) log in
    let s = so.stands place low in
    let there = process_there place low in
    let a = answer_to settings (host_at place) r (Collected t.pid) in
    record {
      readable = our_pid t.pid there;
      acts = there;
      plain = tt;
      stands = λ after q low_q. elim (cases_Bool (q == place)) [
        | inl same ↦
            subst (λ p. StandsInCall (task_at p) (length es + 1) (heard_at (es ++ events.Collect t.pid ∷ []) p)
            (view_at (logs_after logs (happened settings logs (events.Collect t.pid))) p)) (sym (eqb-true q place same))
            (own_stands es place (length log + 1) (Collected t.pid) (events.Collect t.pid) (length es + 1) refl
            (cond-true (same_pid t.pid t.pid) (a ∷ []) [] (same_pid_self t.pid))
            (collect_stands (host_at place) r t (length es) (heard_at es place) c (so.logs.each (host_at place)).view s
            (omega (arith, few)) waits called))
        | inr apart ↦
            other_stands es place q (length log + 1) (events.Collect t.pid) (entry_of settings (host_at place) log (Collected t.pid)) low low_q
            (λ e. both_ways (q == place) apart (eq-eqb q place e)) refl
            (cond-false (same_pid t.pid (task_at q).pid) (a ∷ []) []
            (processes_differ place q low low_q (λ e. both_ways (q == place) apart (eq-eqb q place e)))) (so.stands q low_q)
      ];
    }

call_fit : (es : List Event) (place : ℕ) (g : IsGoodCall (task_call (task_at place) (told (heard_at es place)))) → place < 4 →
    IsLawfulSoFar es → length es < 100000 → is_waiting (heard_at es place) ≡ false → IsFit es (events.Call (task_at place).pid g.call)
unfolding happened right_entry reading
call_fit es place g low so few waits =
    let logs = logs_of settings es in
    let t = task_at place in
    let log = logs (host_at place) in
    let r = reading settings (host_at place) log in
    let s = so.stands place low in
    let there = process_there place low in
    let a = answer_to settings (host_at place) r (Called t.pid g.call) in
    let idle : Does r.view t.pid None = record {
      process = s.does.process;
      at = s.does.at;
      does = s.does.does ∙ cond-false (is_waiting (heard_at es place)) (task_call t (told (heard_at es place))) None waits;
    } in
    record {
      readable = (our_pid t.pid there, g.readable);
      acts = there;
      plain = (there, g.plain);
      stands = λ after q low_q. elim (cases_Bool (q == place)) [
        | inl same ↦
            subst (λ p. StandsInCall (task_at p) (length es + 1) (heard_at (es ++ events.Call t.pid g.call ∷ []) p)
            (view_at (logs_after logs (happened settings logs (events.Call t.pid g.call))) p)) (sym (eqb-true q place same))
            (own_stands es place (length log + 1) (Called t.pid g.call) (events.Call t.pid g.call) (length es + 1) refl
            (cond-true (same_pid t.pid t.pid) (a ∷ []) [] (same_pid_self t.pid))
            (call_stands (host_at place) r t (length es) (heard_at es place) idle.process g (so.logs.each (host_at place)).view there s
            (omega (arith, few)) waits (may_call place low log (so.logs.each (host_at place)) idle)))
        | inr apart ↦
            other_stands es place q (length log + 1) (events.Call t.pid g.call)
            (entry_of settings (host_at place) log (Called t.pid g.call)) low low_q
            (λ e. both_ways (q == place) apart (eq-eqb q place e)) refl
            (cond-false (same_pid t.pid (task_at q).pid) (a ∷ []) []
            (processes_differ place q low low_q (λ e. both_ways (q == place) apart (eq-eqb q place e)))) (so.stands q low_q)
      ];
    }

pub next_call : (es : List Event) (place : ℕ) → place < 4 → IsLawfulSoFar es → length es ≤ 100000 →
    IsGoodCall (task_call (task_at place) (told (heard_at es place)))
next_call es place low so few =
    let s = so.stands place low in
    let short = s.few in
    going_calls (task_at place) (told (heard_at es place)) s.going (omega (arith, short, few))

process_fit : (es : List Event) (place : ℕ) → place < 4 → IsLawfulSoFar es → length es < 100000 →
    IsFit es (process_event (task_at place) (heard_at es place))
process_fit es place low so few =
    let t = task_at place in
    let heard = heard_at es place in
    let g = next_call es place low so (omega (arith, few)) in
    elim (cases_Bool (is_waiting heard)) [
      | inl waits ↦
          subst (IsFit es) (sym (cond-true (is_waiting heard) (events.Collect t.pid) (call_event t.pid (task_call t (told heard))) waits))
          (collect_fit es place g.call low so few waits g.is)
      | inr free ↦
          subst (IsFit es)
          (sym (cond-false (is_waiting heard) (events.Collect t.pid) (call_event t.pid (task_call t (told heard))) free
          ∙ ap (call_event t.pid) g.is))
          (call_fit es place g low so few free)
    ]

-- A tick, and a delivery.
tick_fit : (es : List Event) (d : ℕ) → d < 4 → IsLawfulSoFar es → IsFit es (events.Tick (1 + d))
tick_fit es d low so = quiet_fit es (events.Tick (1 + d)) so (omega arith, omega (arith, low)) (tick_acts d low) refl

pub delivery_is : (h : Header) → IsGoodHeader h → delivery_of h ≡ events.Deliver h.destination h.source h.event h.output
delivery_is h good =
    let e : Event = events.Deliver h.destination h.source h.event h.output in
    cond-true (has_actors specs e) e (events.Tick 1) good.acts

header_fit : (es : List Event) (h : Header) → IsLawfulSoFar es → IsGoodHeader h → IsFit es (delivery_of h)
header_fit es h so good =
    subst (IsFit es) (sym (delivery_is h good))
    (quiet_fit es (events.Deliver h.destination h.source h.event h.output) so (good.to, good.from, good.event, good.output) good.acts refl)

delivery_fit : (es : List Event) (fs : List Header) (back : ℕ) (o : Option Header) → before_last fs back ≡ o → IsLawfulSoFar es →
    Each IsGoodHeader fs → IsFit es (delivery_event o)
delivery_fit es fs back None is so good = tick_fit es 0 (omega arith) so
delivery_fit es fs back (Some h) is so good = header_fit es h so (each_at IsGoodHeader fs (length fs - 1 - back) h good is)

-- What is chosen.
choice_fit : (es : List Event) (x : ℕ) → IsLawfulSoFar es → length es < 100000 → IsFit es (choice x (history_of settings es)).event
choice_fit es x so few =
    let hs = history_of settings es in
    let y : ℕ = next x in
    let kind : ℕ = drawn y % 8 in
    let fs = all_emitted hs in
    let late : Choice = cond (nat_lt kind 6) (delivery_choice y fs) (tick_choice y) in
    let none : Choice = chosen y (events.Tick 1) in
    let back : ℕ = drawn (next y) % min 32 (length fs) in
    cond_both (nat_lt kind 3) (process_choice y hs) late (λ (c : Choice). IsFit es c.event)
    (λ t. process_fit es (drawn (next y) % 4) (omega arith) so few)
    (λ f. cond_both (nat_lt kind 6) (delivery_choice y fs) (tick_choice y) (λ (c : Choice). IsFit es c.event)
    (λ t. cond_both (length fs == 0) none (chosen (next y) (delivery_event (before_last fs back))) (λ (c : Choice). IsFit es c.event)
    (λ u. tick_fit es 0 (omega arith) so)
    (λ u. delivery_fit es fs back (before_last fs back) refl so so.headers))
    (λ t. tick_fit es (drawn (next y) % 4) (omega arith) so))

-- Before the first event.
first : IsLawfulSoFar []
unfolding history logs_from reading
first = record {
  readable = tt;
  acts = refl;
  logs = record { each = λ host. log_none host (fine host); short = λ host. omega arith };
  headers = tt;
  stands = λ place low. record { going = going_first place low; few = omega arith; does = first_does place low };
}
  where
    first_does : (place : ℕ) → place < 4 → Does (reading settings (host_at place) []).view (task_at place).pid None
    first_does zero low = record { process = _; at = refl; does = refl }
    first_does (suc zero) low = record { process = _; at = refl; does = refl }
    first_does (suc (suc zero)) low = record { process = _; at = refl; does = refl }
    first_does (suc (suc (suc zero))) low = record { process = _; at = refl; does = refl }
    first_does (suc (suc (suc (suc place)))) low = absurd (omega arith)

pub so_far : (seed count : ℕ) → count ≤ 100000 → IsLawfulSoFar (storm_after seed count).events
unfolding storm_after
so_far seed zero few = first
so_far seed (suc count) few =
    let s : Storm = storm_after seed count in
    let long = storm_count seed count in
    let before = so_far seed count (omega (arith, few)) in
    more s.events (choice s.state (history_of settings s.events)).event before (omega (arith, long, few))
    (choice_fit s.events s.state before (omega (arith, long, few)))
