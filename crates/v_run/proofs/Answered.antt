-- No collect of a schedule whose collects come in time is answered that it is too early: what is seen of its step is what its process sees.
use Rattle.std.proofs.Common.{◌≡◌, ℕ, ◌+◌, Bool, true, Option, Some, None, is_some, List, [], ◌∷◌, ◌++◌, length, cond, option_to_list, refl, sym, ap, ◌∙◌, subst, arith, append_assoc, append-nil, length-append}
use Rattle.std.specs.List.{list_all}
use Rattle.std.proofs.lemmas.Bool.{and_parts}
use Rattle.std.proofs.lemmas.Grind.{flat_map-append}
use Rattle.std.proofs.lemmas.Option.{same_Some}
use Rattle.vk_join.proofs.Joins.{told_entry}
use Rattle.vk_types.specs.Types.{Answer, Call, EventAnswer, Observation, Pid, ProcessSpec, Step}
use Rattle.vk_base.specs.declared.kernel.State.TheVariants as states
use Rattle.vk_base.specs.declared.step.Step.TheVariants as steps
use Rattle.vk_base.specs.Calls.{Effect, answered}
use Rattle.vk_base.specs.Kernel.{◌>>=◌, Kernel, initial_kernel, with_state}
use Rattle.vk_base.specs.Settings.{Settings, has_station}
use Rattle.vk_base.specs.Steps.{Run, collecting, effect, is_allowed}
unfoldable use Rattle.vk_base.specs.Steps.{run}
use Rattle.vk_base.proofs.OptionLemmas.{bind_is}
use Rattle.vk_cluster.proofs.Logs.{history_more, logs_next}
use Rattle.vk_cluster.specs.Standing.{logs_of}
use Rattle.vk_schedule.specs.declared.event.Event.{Event}
use Rattle.vk_schedule.specs.declared.event.Event.TheVariants as scheduled
use Rattle.vk_schedule.specs.Lawful.{has_actors}
unfoldable use Rattle.vk_rules.specs.CallOutcomes.{collect_outcome}
use Rattle.vk_rules.specs.Each.{Each}
use Rattle.vk_rules.specs.Entries.{Collected, Entry}
use Rattle.vk_rules.specs.Frames.{Frame}
use Rattle.vk_rules.specs.Histories.{At, Happened, Logs, Missing, delivered, handed_over, history_of, logs_after, no_entries}
unfoldable use Rattle.vk_rules.specs.Histories.{happened, history, logs_from}
use Rattle.vk_rules.specs.Observed.{all_steps, begun_after, handed_out, no_call, seen_of, steps_in}
unfoldable use Rattle.vk_rules.specs.Observed.{observed}
use Rattle.vk_rules.specs.Readings.{reading}
use Rattle.vk_rules.specs.Right.{entry_of}
unfoldable use Rattle.vk_rules.specs.Right.{right_entry}
use Rattle.vk_rules.proofs.OwnEvents.{own_log}
use Rattle.v_ended.specs.Answered.{ComeInTime, IsInTime}
use Rattle.v_laws.proofs.RunLemmas.{run-append, run_step}
use Rattle.v_whole.proofs.Histories.{schedules_run}
use Rattle.v_whole.specs.Schedules.{AreDistinct, AreOfProcesses, IsOfProcess}
use Rattle.v_run.specs.Ran.{IsAnswered}
use Rattle.v_run.proofs.Room.{actor_of, grows, logs_cut}

-- One collect is seen once.
seen_once : (k : Kernel) (pid : Pid) (e : Effect) → effect k (steps.Collect pid) ≡ Some e → length (option_to_list e.seen) ≡ 1
seen_once k pid e is =
    let d = bind_is (collecting k pid) (λ d. Some (answered (with_state k pid d.process states.Ready) pid d.call d.answer)) e is in
    ap (λ (x : Effect). length (option_to_list x.seen)) (sym (same_Some _ e d.2))

collect_seen : (k : Kernel) (pid : Pid) (t : Run) → run k (steps.Collect pid ∷ []) ≡ Some t → length t.seen ≡ 1
unfolding run
collect_seen k pid t is =
    let e = bind_is (effect k (steps.Collect pid)) (λ (x : Effect). run x.after [] >>= λ (r : Run). Some (record {
      after = r.after;
      seen = option_to_list x.seen ++ r.seen;
    })) t is in
    ap (λ (x : Run). length x.seen) (sym (same_Some _ t (sym (run_step k (steps.Collect pid) e.0 e.1) ∙ is))) ∙ seen_once k pid e.0 e.1

-- What processes see of one event more, where they began these calls last.
abbrev pub last_behind : (Pid → Option Call) → List Happened → Pid → Option Call
last_behind last [] = last
last_behind last (At host event e ∷ hs) = last_behind (begun_after last e.input e.answer) hs
last_behind last (Missing host ∷ hs) = last_behind last hs

pub sees_more : (last : Pid → Option Call) (hs : List Happened) (host event : ℕ) (e : Entry)
    → observed last (hs ++ At host event e ∷ []) ≡ observed last hs ++ option_to_list (seen_of (last_behind last hs) e.input e.answer)
unfolding observed
sees_more last [] host event e = append-nil (option_to_list (seen_of last e.input e.answer))
sees_more last (Missing at ∷ hs) host event e = sees_more last hs host event e
sees_more last (At at number x ∷ hs) host event e =
    let next = begun_after last x.input x.answer in
    ap (λ l. option_to_list (seen_of last x.input x.answer) ++ l) (sees_more next hs host event e)
    ∙ sym (append_assoc (option_to_list (seen_of last x.input x.answer)) (observed next hs)
    (option_to_list (seen_of (last_behind next hs) e.input e.answer)))

abbrev sees_by : (Pid → Option Call) → Pid → Answer → Option Observation
sees_by last pid x = last pid >>= λ c. Some (record { pid = pid; call = c; answer = x })

some_of : (last : Pid → Option Call) (pid : Pid) (a : EventAnswer) → length (option_to_list (seen_of last (Collected pid) a)) ≡ 1
    → is_some (handed_out a) ≡ true
some_of last pid a one = by (handed_out a) one
  where
    by : (o : Option Answer) → length (option_to_list (o >>= sees_by last pid)) ≡ 1 → is_some o ≡ true
    by None one = absurd (cc one)
    by (Some x) one = refl

steps_of_collect : (c : Settings) (h : ℕ) (es : List Entry) (pid : Pid) → is_allowed (reading c h es).view (steps.Collect pid) ≡ true
    → (entry_of c h es (Collected pid)).steps ≡ steps.Collect pid ∷ []
unfolding right_entry collect_outcome
steps_of_collect c h es pid allowed = ap (λ (b : Bool). cond b (steps.Collect pid ∷ []) []) allowed

-- Callers of a schedule's front.
of_front : (specs : List ProcessSpec) (xs ys : List Event) → AreOfProcesses specs (xs ++ ys) → AreOfProcesses specs xs
of_front specs [] ys of = tt
of_front specs (x ∷ xs) ys of = (of.0, of_front specs xs ys of.1)

pub of_actors : (specs : List ProcessSpec) (es : List Event) → list_all (has_actors specs) es ≡ true → AreOfProcesses specs es
of_actors specs [] all = tt
of_actors specs (e ∷ es) all =
    let parts = and_parts (has_actors specs e) (list_all (has_actors specs) es) all in (one e parts.0, of_actors specs es parts.1)
  where
    one : (x : Event) → has_actors specs x ≡ true → IsOfProcess specs x
    one (scheduled.Call pid call) has = has
    one (scheduled.Collect pid) has = tt
    one (scheduled.Tick host) has = tt
    one (scheduled.Deliver to from event output) has = tt

-- a collect behind these events
module _ (c : Settings) (xs : List Event) (pid : Pid) (distinct : AreDistinct c.specs)
    (of : AreOfProcesses c.specs (xs ++ scheduled.Collect pid ∷ [])) where
  abbrev es_before : List Entry
  es_before = logs_of c xs pid.host

  abbrev entry : Entry
  entry = entry_of c pid.host es_before (Collected pid)

  abbrev happens : Happened
  happens = At pid.host (length es_before + 1) entry

  abbrev S : List Step
  S = all_steps (history_of c xs)

  happens_is : happened c (logs_of c xs) (scheduled.Collect pid) ≡ happens
  unfolding happened
  happens_is = refl

  whole_is : history_of c (xs ++ scheduled.Collect pid ∷ []) ≡ history_of c xs ++ happens ∷ []
  whole_is = history_more c xs no_entries (scheduled.Collect pid) ∙ ap (λ h. history_of c xs ++ h ∷ []) happens_is

  steps_are : is_allowed (reading c pid.host es_before).view (steps.Collect pid) ≡ true
      → all_steps (history_of c (xs ++ scheduled.Collect pid ∷ [])) ≡ S ++ steps.Collect pid ∷ []
  steps_are allowed =
      ap all_steps whole_is
      ∙ (flat_map-append steps_in (history_of c xs) (happens ∷ [])
      ∙ ap (λ l. S ++ l) (append-nil entry.steps ∙ steps_of_collect c pid.host es_before pid allowed))

  abbrev last : Pid → Option Call
  last = last_behind no_call (history_of c xs)

  pub collect_sees : is_allowed (reading c pid.host es_before).view (steps.Collect pid) ≡ true
      → length (option_to_list (seen_of last (Collected pid) entry.answer)) ≡ 1
  collect_sees allowed =
      let first = schedules_run c xs distinct (of_front c.specs xs (scheduled.Collect pid ∷ []) of) in
      let second = schedules_run c (xs ++ scheduled.Collect pid ∷ []) distinct of in
      let k0 = initial_kernel c.specs in
      let r : Run = record { after = first.last; seen = observed no_call (history_of c xs) } in
      let more : Run → Option Run = λ (x : Run). run x.after (steps.Collect pid ∷ []) >>= λ (t : Run). Some (record {
        after = t.after;
        seen = x.seen ++ t.seen;
      }) in
      let goes : run k0 (S ++ steps.Collect pid ∷ []) ≡ more r =
      run-append k0 S (steps.Collect pid ∷ []) ∙ ap (λ (o : Option Run). o >>= more) first.run in
      let parts = bind_is (run first.last (steps.Collect pid ∷ [])) (λ (t : Run). Some (record {
        after = t.after;
        seen =
            r.seen ++ t.seen;
      })) _
      (sym goes ∙ (ap (run k0) (sym (steps_are allowed)) ∙ second.run)) in
      let t = parts.0 in
      let one = collect_seen first.last pid t parts.1 in
      let told : List Observation = option_to_list (seen_of last entry.input entry.answer) in
      let same : r.seen ++ t.seen ≡ r.seen ++ told =
      ap (λ (x : Run). x.seen) (same_Some _ _ parts.2)
      ∙ (ap (observed no_call) whole_is ∙ sees_more no_call (history_of c xs) pid.host (length es_before + 1) entry) in
      let count : length r.seen + length t.seen ≡ length r.seen + length told =
      sym (length-append r.seen t.seen) ∙ (ap length same ∙ length-append r.seen told) in
      let all : length told ≡ 1 = omega arith in
      ap (λ i. length (option_to_list (seen_of last i entry.answer))) (sym (told_entry c pid.host es_before (Collected pid))) ∙ all

-- the newest of some entries came in time
came : (c : Settings) (h : ℕ) (later : List Entry) (x : Entry) (es : List Entry) → ComeInTime c h (later ++ x ∷ es)
    → IsInTime c h es x.input
came c h [] x es all = all.0
came c h (y ∷ later) x es all = came c h later x es all.1

-- what is so at each place of a schedule is so of all that happens
each_front : (c : Settings) (P : Happened → Type 0) (before es : List Event)
    → ((xs : List Event) (e : Event) (ys : List Event) → before ++ es ≡ xs ++ e ∷ ys → P (happened c (logs_of c xs) e))
    → Each P (history c (logs_of c before) es)
unfolding history
each_front c P before [] all = tt
each_front c P before (e ∷ es) all =
    let more = before ++ e ∷ [] in
    let same : more ++ es ≡ before ++ (e ∷ es) = append_assoc before (e ∷ []) es in
    let next : logs_of c more ≡ logs_after (logs_of c before) (happened c (logs_of c before) e) = logs_next c before e in (
      all before e es refl,
      subst (λ (l : Logs). Each P (history c l es)) next (each_front c P more es (λ xs x ys is. all xs x ys (sym same ∙ is))),
    )

module _ (c : Settings) (es : List Event) (distinct : AreDistinct c.specs) (actors : list_all (has_actors c.specs) es ≡ true)
    (collected : (h : ℕ) → has_station c.specs h ≡ true → ComeInTime c h (logs_of c es h)) where
  allowed_at : (xs : List Event) (pid : Pid) (ys : List Event) → es ≡ xs ++ scheduled.Collect pid ∷ ys → has_station c.specs pid.host ≡ true
      → is_allowed (reading c pid.host (logs_of c xs pid.host)).view (steps.Collect pid) ≡ true
  unfolding logs_from happened
  allowed_at xs pid ys is there =
      let h = pid.host in
      let x = entry_of c h (logs_of c xs h) (Collected pid) in
      let rest = grows c (logs_after (logs_of c xs) (At h (length (logs_of c xs h) + 1) x)) ys h in
      let all : logs_of c es h ≡ rest.0 ++ x ∷ logs_of c xs h =
      (λ i. ((ap (logs_of c) is ∙ logs_cut c no_entries xs (scheduled.Collect pid ∷ ys)) i) h)
      ∙ (rest.1 ∙ ap (λ l. rest.0 ++ l) (own_log (logs_of c xs) h x)) in
      let it : IsInTime c h (logs_of c xs h) x.input =
      came c h rest.0 x (logs_of c xs h) (subst (ComeInTime c h) all (collected h there)) in
      subst (IsInTime c h (logs_of c xs h)) (told_entry c h (logs_of c xs h) (Collected pid)) it

  pub sees_at : (xs : List Event) (pid : Pid) (ys : List Event) → es ≡ xs ++ scheduled.Collect pid ∷ ys
      → length (option_to_list (seen_of (last_behind no_call (history_of c xs)) (Collected pid)
      (entry_of c pid.host (logs_of c xs pid.host) (Collected pid)).answer)) ≡ 1
  sees_at xs pid ys is =
      let of = of_actors c.specs es actors in
      let station = actor_of c.specs es actors xs (scheduled.Collect pid) ys is in
      let front : AreOfProcesses c.specs (xs ++ scheduled.Collect pid ∷ []) =
      of_front c.specs (xs ++ scheduled.Collect pid ∷ []) ys
      (subst (AreOfProcesses c.specs) (is ∙ sym (append_assoc xs (scheduled.Collect pid ∷ []) ys)) of) in
      collect_sees c xs pid distinct front (allowed_at xs pid ys is station)

  answered_delivered : (logs : Logs) (to : ℕ) (o : Option Frame) → IsAnswered (delivered c logs to o)
  unfolding right_entry
  answered_delivered logs to None = tt
  answered_delivered logs to (Some f) = tt

  answered_at : (xs : List Event) (e : Event) (ys : List Event) → es ≡ xs ++ e ∷ ys → IsAnswered (happened c (logs_of c xs) e)
  unfolding happened right_entry
  answered_at xs (scheduled.Call pid call) ys is = tt
  answered_at xs (scheduled.Collect pid) ys is =
      some_of (last_behind no_call (history_of c xs)) pid (entry_of c pid.host (logs_of c xs pid.host) (Collected pid)).answer (sees_at
      xs pid ys is)
  answered_at xs (scheduled.Tick host) ys is = tt
  answered_at xs (scheduled.Deliver to from event output) ys is =
      answered_delivered (logs_of c xs) to (handed_over (logs_of c xs) to from event output)

  pub all_answered : Each IsAnswered (history_of c es)
  unfolding logs_from
  all_answered = each_front c IsAnswered [] es answered_at
