-- From what a text asks for to what the top call answers.
use Rattle.std.proofs.Common.{◌≡◌, ℕ, ◌<◌, ◌≤◌, Bool, true, false, cond, List, [], ◌∷◌, length, take, Option, Some, None, Result, Ok, Err, ◌⊎◌, inl, inr, refl, ap, subst, sym, ◌∙◌, arith}
use Rattle.std.specs.Io.KnownBytes.{Appends}
use Rattle.std.proofs.lemmas.Bool.{cond-false, cond-true, le-ltb}
use Rattle.std.proofs.lemmas.List.{take_all}
use Rattle.std.proofs.lemmas.List.{append-nil}
use Rattle.vk_edge.specs.Answers.{IsWritten}
use Rattle.vk_schedule.specs.declared.schedule.Schedule.{Schedule}
use Rattle.vk_schedule.specs.declared.schedule.TextRefusal.{TextRefusal}
use Rattle.vk_schedule.specs.declared.schedule.TextRefusal.TheVariants as schedules
use Rattle.vk_schedule.specs.Lawful.{IsLawful}
use Rattle.vk_schedule.specs.Schedule.{HasProcess, front_of, schedule_of, whole}
use Rattle.vk_schedule.proofs.Lawfulness.{only_lawful}
use Rattle.vk_schedule.proofs.Wanted.{bad_line}
use Rattle.vk_rules.specs.Observed.{IsRunOf}
use Rattle.v_trace.specs.Traces as trace_lines
use Rattle.v_trace.specs.Traces.{trace_of}
use Rattle.v_trace.specs.declared.trace.Trace.{Trace}
use Rattle.v_trace.specs.declared.trace.TraceRefusal.{TraceRefusal}
use Rattle.v_trace.specs.declared.trace.TraceRefusal.TheVariants as traces
use Rattle.v_trace.proofs.TraceLines.{bad_behind}
use Rattle.vk_top.proofs.Fronts.{fits_all, fits_before, full_before, refused_within}
use Rattle.vk_top.proofs.Schedules.{front_is_run}
use Rattle.vk_top.proofs.Verdicts.{verdict_holds}
use Rattle.vk_top.specs.Check.{IsNo, IsTooMuch, IsVerdict, IsYes, verdict_of, verdict_text}
use Rattle.vk_join.specs.declared.log.JoinRefusal.{JoinRefusal}
use Rattle.vk_join.specs.declared.log.JoinRefusal.TheVariants as joins
use Rattle.vk_event.specs.declared.node.NodeTexts.{NodeTexts}
use Rattle.vk_event.specs.Nodes.{node_opening, nodes_of}
use Rattle.vk_text.specs.Heads.{head_of}
use Rattle.vk_text.specs.Lines.{lines_of}
use Rattle.vk_text.specs.Openings.{opening_of}
use Rattle.v_trace.specs.Traces.{behind_head}
use Rattle.vk_top.specs.Joins.{HasStray, join_status, nodes_refusal, nodes_status}
use Rattle.vk_top.specs.Statuses.{refused, refused_trace}
use Rattle.vk_top.specs.Report.{front_text, is_cut, output_text, taken_of, written_text}
use Rattle.vk_top.specs.Top.{HasRefused, IsBadAt, IsCut, IsCutShort, IsDone, IsNotARun, IsPart, IsRefusedLate, IsReplayed, IsStrayAt, IsTextOutput, IsToWrite, IsToldWhole, check_output, check_status, replay_output, replay_status, status_of, text_status, verdict_status}
use Rattle.vk_top.specs.Work.{IsAnswered, IsLate, IsRefusal, KeepsLines, IsWork}
use Rattle.vk_top.specs.declared.check.TraceVerdict.{TraceVerdict}
use Rattle.vk_top.specs.declared.check.TraceVerdict.TheVariants as verdicts
use Rattle.vk_report.specs.declared.entry.Form.{Form}
use Rattle.vk_top.specs.declared.status.Status.{Status}
use Rattle.vk_top.specs.declared.status.Status.TheVariants as status
use Rattle.vk_top.specs.declared.replay.Written.{Written}
use Rattle.vk_top.specs.declared.top.TextOutput.{TextOutput}
use Rattle.vk_top.specs.Playing.{IsWrittenOf}
use Rattle.vk_top.specs.declared.words.TextCommand.{TextCommand}
use Rattle.vk_top.specs.declared.words.TextCommand.TheVariants as asked

-- schedules

schedule_is_run : (s : Schedule) → IsLawful s → IsRunOf s.config s.events
schedule_is_run s lawful =
    subst (IsRunOf s.config) (take_all (length s.events) s.events (omega arith)) (front_is_run s (length s.events) lawful)

-- no event of it is refused, or one is
whole_played : (form : Form) (text : List ℕ) (old new : Option (List ℕ)) (s : Schedule) (b : Bool) → length text ≤ 16777216
    → schedule_of text ≡ Ok s → is_cut s ≡ b → cond b status.Limit status.Done ≡ status.Done → Appends old new (written_text form s)
    → IsReplayed form text old new
whole_played form text old new s true small is cut done written = absurd (grind (arith, done))
whole_played form text old new s false small is cut done written = record {
  small = small;
  schedule = s;
  text = is;
  fits = fits_all s cut;
  output = subst (Appends old new) (cond-false (is_cut s) (front_text form (taken_of s) s) (output_text form s) cut) written;
  run = schedule_is_run s (only_lawful text s is);
}

replayed : (form : Form) (text : List ℕ) (old new : Option (List ℕ)) (r : Result Schedule TextRefusal) → length text ≤ 16777216
    → schedule_of text ≡ r → replay_status r ≡ status.Done → Appends old new (replay_output form r) → IsReplayed form text old new
replayed form text old new (Ok s) small is done written = whole_played form text old new s (is_cut s) small is refl done written
replayed form text old new (Err (schedules.BadInput line)) small is done written = absurd (grind (arith, done))
replayed form text old new (Err schedules.Limit) small is done written = absurd (grind (arith, done))
replayed form text old new (Err schedules.NoMemory) small is done written = absurd (grind (arith, done))

cut_short : (form : Form) (text : List ℕ) (old new : Option (List ℕ)) → length text ≤ 16777216 → HasRefused text
    → Appends old new (replay_output form (schedule_of text)) → IsCut form text old new
cut_short form text old new small refused written =
    let s = refused.schedule in
    let front : replay_output form (schedule_of text) ≡ front_text form (taken_of s) s =
    ap (replay_output form) refused.text
    ∙ cond-true (is_cut s) (front_text form (taken_of s) s) (output_text form s) refused.cut in
    record {
      small = small;
      schedule = s;
      text = refused.text;
      count = taken_of s;
      within = refused_within s refused.cut;
      full = full_before s refused.cut;
      first = fits_before s;
      output = subst (Appends old new) front written;
      run = front_is_run s (taken_of s) (only_lawful text s refused.text);
    }

work_by : (form : Form) (text : List ℕ) (w : Written) (b : Bool) → w.is_cut ≡ b → IsWrittenOf form text w
    → IsWork (asked.Replay form) text (record { text = w.text; status = cond b status.Limit status.Done })
work_by form text w true cut is = record {
  late = tt;
  limit = λ limit. record { schedule = is.schedule; text = is.spells; cut = sym is.cut ∙ cut };
  output = is.lines ∙ sym (ap (replay_output form) is.spells);
  status = sym (ap replay_status is.spells ∙ ap (λ b. cond b status.Limit status.Done) (sym is.cut ∙ cut));
}
work_by form text w false cut is = record {
  late = tt;
  limit = λ limit. absurd (grind (arith, limit));
  output = is.lines ∙ sym (ap (replay_output form) is.spells);
  status = sym (ap replay_status is.spells ∙ ap (λ b. cond b status.Limit status.Done) (sym is.cut ∙ cut));
}

-- the work on a schedule of which this is written
pub replay_work : (form : Form) (text : List ℕ) (w : Written) (s : Status) → IsWrittenOf form text w
    → s ≡ cond w.is_cut status.Limit status.Done → IsWork (asked.Replay form) text (record { text = w.text; status = s })
replay_work form text w s is told =
    subst (λ t. IsWork (asked.Replay form) text (record { text = w.text; status = t })) (sym told) (work_by form text w w.is_cut refl is)

cut_not : (b : Bool) (t : Status) → cond b status.Limit status.Done ≡ t → (t ≡ status.Limit) ⊎ (t ≡ status.Done)
cut_not true t is = inl (sym is)
cut_not false t is = inr (sym is)

pub replay_bad : (r : Result Schedule TextRefusal) (line : ℕ) → replay_status r ≡ status.BadInput line → r ≡ Err (schedules.BadInput line)
replay_bad (Ok s) line is = elim (cut_not (is_cut s) (status.BadInput line) is) [
  | inl limit ↦ absurd (grind (arith, limit))
  | inr done ↦ absurd (grind (arith, done))
]
replay_bad (Err (schedules.BadInput n)) line is = grind (arith, is)
replay_bad (Err schedules.Limit) line is = absurd (grind (arith, is))
replay_bad (Err schedules.NoMemory) line is = absurd (grind (arith, is))

replay_no : (r : Result Schedule TextRefusal) (step : ℕ) → replay_status r ≡ status.NotARun step → ⊥
replay_no (Ok s) step is = elim (cut_not (is_cut s) (status.NotARun step) is) [
  | inl limit ↦ grind (arith, limit)
  | inr done ↦ grind (arith, done)
]
replay_no (Err (schedules.BadInput n)) step is = grind (arith, is)
replay_no (Err schedules.Limit) step is = grind (arith, is)
replay_no (Err schedules.NoMemory) step is = grind (arith, is)

-- traces

yes : (text : List ℕ) (t : Trace) (old new : Option (List ℕ)) (v : TraceVerdict) → length text ≤ 16777216 → trace_of text ≡ Ok t
    → IsVerdict t v → verdict_status v ≡ status.Done → Appends old new (verdict_text v) → IsYes text old new
yes text t old new (verdicts.Run m) small is said done written =
    (m, record { small = small; trace = t; text = is; holds = said; output = written })
yes text t old new (verdicts.Refused m) small is said done written = absurd (grind (arith, done))
yes text t old new verdicts.TooMuch small is said done written = absurd (grind (arith, done))

no : (text : List ℕ) (t : Trace) (old new : Option (List ℕ)) (step : ℕ) (v : TraceVerdict) → length text ≤ 16777216 → trace_of text ≡ Ok t
    → IsVerdict t v → verdict_status v ≡ status.NotARun step → Appends old new (verdict_text v) → IsNo text step old new
no text t old new step (verdicts.Run m) small is said refused written = absurd (grind (arith, refused))
no text t old new step (verdicts.Refused m) small is said refused written =
    let same : m ≡ step = grind (arith, refused) in
    subst (λ n. IsNo text n old new) same (record { small = small; trace = t; text = is; holds = said; output = written })
no text t old new step verdicts.TooMuch small is said refused written = absurd (grind (arith, refused))

too_much : (text : List ℕ) (t : Trace) (v : TraceVerdict) → trace_of text ≡ Ok t → IsVerdict t v → verdict_status v ≡ status.Limit
    → IsTooMuch text
too_much text t (verdicts.Run m) is said limit = absurd (grind (arith, limit))
too_much text t (verdicts.Refused m) is said limit = absurd (grind (arith, limit))
too_much text t verdicts.TooMuch is said limit = record { trace = t; text = is; holds = said }

no_line : (v : TraceVerdict) (line : ℕ) → verdict_status v ≡ status.BadInput line → ⊥
no_line (verdicts.Run m) line is = grind (arith, is)
no_line (verdicts.Refused m) line is = grind (arith, is)
no_line verdicts.TooMuch line is = grind (arith, is)

check_yes : (text : List ℕ) (old new : Option (List ℕ)) (r : Result Trace TraceRefusal) → length text ≤ 16777216 → trace_of text ≡ r
    → check_status r ≡ status.Done → Appends old new (check_output r) → IsYes text old new
check_yes text old new (Ok t) small is done written = yes text t old new (verdict_of t) small is (verdict_holds t) done written
check_yes text old new (Err (traces.BadInput n)) small is done written = absurd (grind (arith, done))
check_yes text old new (Err traces.NoMemory) small is done written = absurd (grind (arith, done))

check_no : (text : List ℕ) (old new : Option (List ℕ)) (step : ℕ) (r : Result Trace TraceRefusal) → length text ≤ 16777216
    → trace_of text ≡ r → check_status r ≡ status.NotARun step → Appends old new (check_output r) → IsNo text step old new
check_no text old new step (Ok t) small is refused written =
    no text t old new step (verdict_of t) small is (verdict_holds t) refused written
check_no text old new step (Err (traces.BadInput n)) small is refused written = absurd (grind (arith, refused))
check_no text old new step (Err traces.NoMemory) small is refused written = absurd (grind (arith, refused))

check_bad : (r : Result Trace TraceRefusal) (line : ℕ) → check_status r ≡ status.BadInput line → r ≡ Err (traces.BadInput line)
check_bad (Ok t) line is = absurd (no_line (verdict_of t) line is)
check_bad (Err (traces.BadInput n)) line is = grind (arith, is)
check_bad (Err traces.NoMemory) line is = absurd (grind (arith, is))

check_limit : (text : List ℕ) (r : Result Trace TraceRefusal) → trace_of text ≡ r → check_status r ≡ status.Limit → IsTooMuch text
check_limit text (Ok t) is limit = too_much text t (verdict_of t) is (verdict_holds t) limit
check_limit text (Err (traces.BadInput n)) is limit = absurd (grind (arith, limit))
check_limit text (Err traces.NoMemory) is limit = absurd (grind (arith, limit))

-- node texts

unjoined_stray : (o : Option JoinRefusal) (host event : ℕ) → nodes_status o ≡ status.Stray host event →
    (taken : List ℕ) × (emitted : Option (List ℕ)) × (o ≡ Some (joins.Stray host event taken emitted))
unjoined_stray None host event is = absurd (grind (arith, is))
unjoined_stray (Some (joins.Stray h e taken emitted)) host event is = (taken, emitted, grind (arith, is))
unjoined_stray (Some joins.Limit) host event is = absurd (grind (arith, is))
unjoined_stray (Some joins.NoMemory) host event is = absurd (grind (arith, is))

unjoined_no : (o : Option JoinRefusal) (step : ℕ) → nodes_status o ≡ status.NotARun step → ⊥
unjoined_no None step is = grind (arith, is)
unjoined_no (Some (joins.Stray h e taken emitted)) step is = grind (arith, is)
unjoined_no (Some joins.Limit) step is = grind (arith, is)
unjoined_no (Some joins.NoMemory) step is = grind (arith, is)

unjoined_bad : (o : Option JoinRefusal) (line : ℕ) → nodes_status o ≡ status.BadInput line → ⊥
unjoined_bad None line is = grind (arith, is)
unjoined_bad (Some (joins.Stray h e taken emitted)) line is = grind (arith, is)
unjoined_bad (Some joins.Limit) line is = grind (arith, is)
unjoined_bad (Some joins.NoMemory) line is = grind (arith, is)

join_no : (r : Result NodeTexts TextRefusal) (step : ℕ) → join_status r ≡ status.NotARun step → ⊥
join_no (Ok nodes) step is = unjoined_no (nodes_refusal nodes) step is
join_no (Err (schedules.BadInput n)) step is = grind (arith, is)
join_no (Err schedules.Limit) step is = grind (arith, is)
join_no (Err schedules.NoMemory) step is = grind (arith, is)

pub join_bad : (r : Result NodeTexts TextRefusal) (line : ℕ) → join_status r ≡ status.BadInput line → r ≡ Err (schedules.BadInput line)
join_bad (Ok nodes) line is = absurd (unjoined_bad (nodes_refusal nodes) line is)
join_bad (Err (schedules.BadInput n)) line is = grind (arith, is)
join_bad (Err schedules.Limit) line is = absurd (grind (arith, is))
join_bad (Err schedules.NoMemory) line is = absurd (grind (arith, is))

join_stray : (text : List ℕ) (host event : ℕ) → length text ≤ 16777216 → (r : Result NodeTexts TextRefusal) → nodes_of text ≡ r →
    join_status r ≡ status.Stray host event → HasStray text host event
join_stray text host event small (Ok nodes) is stray =
    let found = unjoined_stray (nodes_refusal nodes) host event stray in
    record { small = small; nodes = nodes; text = is; taken = found.0; emitted = found.1; stray = found.2 }
join_stray text host event small (Err (schedules.BadInput n)) is stray = absurd (grind (arith, stray))
join_stray text host event small (Err schedules.Limit) is stray = absurd (grind (arith, stray))
join_stray text host event small (Err schedules.NoMemory) is stray = absurd (grind (arith, stray))

replay_stray : (r : Result Schedule TextRefusal) (host event : ℕ) → replay_status r ≡ status.Stray host event → ⊥
replay_stray (Ok s) host event is = elim (cut_not (is_cut s) (status.Stray host event) is) [
  | inl limit ↦ grind (arith, limit)
  | inr done ↦ grind (arith, done)
]
replay_stray (Err (schedules.BadInput n)) host event is = grind (arith, is)
replay_stray (Err schedules.Limit) host event is = grind (arith, is)
replay_stray (Err schedules.NoMemory) host event is = grind (arith, is)

no_stray : (v : TraceVerdict) (host event : ℕ) → verdict_status v ≡ status.Stray host event → ⊥
no_stray (verdicts.Run m) host event is = grind (arith, is)
no_stray (verdicts.Refused m) host event is = grind (arith, is)
no_stray verdicts.TooMuch host event is = grind (arith, is)

check_stray : (r : Result Trace TraceRefusal) (host event : ℕ) → check_status r ≡ status.Stray host event → ⊥
check_stray (Ok t) host event is = no_stray (verdict_of t) host event is
check_stray (Err (traces.BadInput n)) host event is = grind (arith, is)
check_stray (Err traces.NoMemory) host event is = grind (arith, is)

-- what a text asks for

done_is : (a : TextCommand) (text output : List ℕ) (old new : Option (List ℕ)) → length text ≤ 16777216 → text_status a text ≡ status.Done
    → IsTextOutput a text output → Appends old new output → IsDone a text old new
done_is (asked.Replay form) text output old new small done is written =
    replayed form text old new (schedule_of text) small refl done (subst (Appends old new) is written)
done_is asked.Check text output old new small done is written =
    check_yes text old new (trace_of text) small refl done (subst (Appends old new) is written)
done_is asked.Join text output old new small done is written = record {
  small = small;
  schedule = is.schedule;
  joined = is.joined;
  output = subst (Appends old new) is.lines written;
}

no_is : (a : TextCommand) (text output : List ℕ) (old new : Option (List ℕ)) (step : ℕ) → length text ≤ 16777216
    → text_status a text ≡ status.NotARun step → IsTextOutput a text output → Appends old new output → IsNotARun a text step old new
no_is (asked.Replay form) text output old new step small refused is written = replay_no (schedule_of text) step refused
no_is asked.Check text output old new step small refused is written =
    check_no text old new step (trace_of text) small refl refused (subst (Appends old new) is written)
no_is asked.Join text output old new step small refused is written = join_no (nodes_of text) step refused

bad_is : (a : TextCommand) (text : List ℕ) (line : ℕ) → length text ≤ 16777216 → text_status a text ≡ status.BadInput line → IsBadAt a text line
bad_is (asked.Replay form) text line small is = record { small = small; bad = replay_bad (schedule_of text) line is }
bad_is asked.Check text line small is = record { small = small; bad = check_bad (trace_of text) line is }
bad_is asked.Join text line small is = record { small = small; bad = join_bad (nodes_of text) line is }

stray_is : (a : TextCommand) (text : List ℕ) (host event : ℕ) → length text ≤ 16777216 → text_status a text ≡ status.Stray host event →
    IsStrayAt a text host event
stray_is (asked.Replay form) text host event small is = replay_stray (schedule_of text) host event is
stray_is asked.Check text host event small is = check_stray (trace_of text) host event is
stray_is asked.Join text host event small is = join_stray text host event small (nodes_of text) refl is

cut_is : (a : TextCommand) (text output : List ℕ) (old new : Option (List ℕ)) → length text ≤ 16777216 → IsRefusedLate a text
    → IsTextOutput a text output → Appends old new output → IsCutShort a text old new
cut_is (asked.Replay form) text output old new small refused is written =
    cut_short form text old new small refused (subst (Appends old new) is written)
cut_is asked.Check text output old new small refused is written = refused
cut_is asked.Join text output old new small refused is written = refused

small_status : (a : TextCommand) (text : List ℕ) → length text ≤ 16777216 → text_status a text ≡ status_of a text
small_status a text small = sym (cond-false _ _ _ (le-ltb 16777216 (length text) small))

-- the answers

pub nothing_more : (o : Option (List ℕ)) → Appends o o []
nothing_more None = tt
nothing_more (Some xs) = sym (append-nil xs)

pub refused_is : (a : TextCommand) (text : List ℕ) (old : Option (List ℕ)) (Unchanged : Type 0) (s : Status) → Unchanged → length text ≤ 16777216
    → IsRefusal a text s → IsAnswered Unchanged a text old old s
refused_is a text old Unchanged (status.BadInput line) same small why = record {
  kinds = (λ is. grind (arith, is), λ is. grind (arith, is), λ is. grind (arith, is), λ is. grind (arith, is));
  done = λ is. absurd (grind (arith, is));
  no = λ step is. absurd (grind (arith, is));
  bad = λ n is. bad_is a text n small (why ∙ is);
  stray = λ host event is. absurd (grind (arith, is));
  limit = λ is. absurd (grind (arith, is));
  memory = λ is. absurd (grind (arith, is));
  writing = λ is. absurd (grind (arith, is));
  complete = inr (inr (sym why ∙ small_status a text small));
  front = inl (nothing_more old);
}
refused_is a text old Unchanged (status.Stray host event) same small why = record {
  kinds = (λ is. grind (arith, is), λ is. grind (arith, is), λ is. grind (arith, is), λ is. grind (arith, is));
  done = λ is. absurd (grind (arith, is));
  no = λ step is. absurd (grind (arith, is));
  bad = λ n is. absurd (grind (arith, is));
  stray = λ h e is. stray_is a text h e small (why ∙ is);
  limit = λ is. absurd (grind (arith, is));
  memory = λ is. absurd (grind (arith, is));
  writing = λ is. absurd (grind (arith, is));
  complete = inr (inr (sym why ∙ small_status a text small));
  front = inl (nothing_more old);
}
refused_is a text old Unchanged status.Limit same small why = record {
  kinds = (λ is. grind (arith, is), λ is. grind (arith, is), λ is. grind (arith, is), λ is. grind (arith, is));
  done = λ is. absurd (grind (arith, is));
  no = λ step is. absurd (grind (arith, is));
  bad = λ n is. absurd (grind (arith, is));
  stray = λ host event is. absurd (grind (arith, is));
  limit = λ is. inl (why.1, same);
  memory = λ is. absurd (grind (arith, is));
  writing = λ is. absurd (grind (arith, is));
  complete = inr (inr (sym why.0 ∙ small_status a text small));
  front = inl (nothing_more old);
}
refused_is a text old Unchanged status.NoMemory same small why = record {
  kinds = (λ is. grind (arith, is), λ is. grind (arith, is), λ is. grind (arith, is), λ is. grind (arith, is));
  done = λ is. absurd (grind (arith, is));
  no = λ step is. absurd (grind (arith, is));
  bad = λ n is. absurd (grind (arith, is));
  stray = λ host event is. absurd (grind (arith, is));
  limit = λ is. absurd (grind (arith, is));
  memory = λ is. why;
  writing = λ is. absurd (grind (arith, is));
  complete = inl refl;
  front = inl (nothing_more old);
}
refused_is a text old Unchanged status.Done same small why = absurd why
refused_is a text old Unchanged (status.NotARun step) same small why = absurd why
refused_is a text old Unchanged status.Usage same small why = absurd why
refused_is a text old Unchanged status.ReadFault same small why = absurd why
refused_is a text old Unchanged status.WriteFault same small why = absurd why
refused_is a text old Unchanged status.CrewFault same small why = absurd why
refused_is a text old Unchanged status.LinkFault same small why = absurd why
refused_is a text old Unchanged status.Waiting same small why = absurd why

-- an answer behind a write is that of the work
late_kinds : (s : Status) → IsLate s
    → ¬ (s ≡ status.Usage) × ¬ (s ≡ status.ReadFault) × ¬ (s ≡ status.WriteFault)
    × ((line : ℕ) → ¬ (s ≡ status.BadInput line)) × ¬ (s ≡ status.NoMemory) × ¬ (s ≡ status.CrewFault) × ¬ (s ≡ status.LinkFault)
    × ((host event : ℕ) → ¬ (s ≡ status.Stray host event))
late_kinds status.Done late =
    (λ is. grind (arith, is), λ is. grind (arith, is), λ is. grind (arith, is), λ line is. grind (arith, is), λ is. grind (arith, is), λ is. grind (arith, is), λ is. grind (arith, is), λ host event is. grind (arith, is))
late_kinds (status.NotARun step) late =
    (λ is. grind (arith, is), λ is. grind (arith, is), λ is. grind (arith, is), λ line is. grind (arith, is), λ is. grind (arith, is), λ is. grind (arith, is), λ is. grind (arith, is), λ host event is. grind (arith, is))
late_kinds status.Limit late =
    (λ is. grind (arith, is), λ is. grind (arith, is), λ is. grind (arith, is), λ line is. grind (arith, is), λ is. grind (arith, is), λ is. grind (arith, is), λ is. grind (arith, is), λ host event is. grind (arith, is))
late_kinds status.Waiting late =
    (λ is. grind (arith, is), λ is. grind (arith, is), λ is. grind (arith, is), λ line is. grind (arith, is), λ is. grind (arith, is), λ is. grind (arith, is), λ is. grind (arith, is), λ host event is. grind (arith, is))
late_kinds status.Usage late = absurd late
late_kinds (status.BadInput line) late = absurd late
late_kinds status.ReadFault late = absurd late
late_kinds status.WriteFault late = absurd late
late_kinds status.NoMemory late = absurd late
late_kinds status.CrewFault late = absurd late
late_kinds status.LinkFault late = absurd late
late_kinds (status.Stray host event) late = absurd late

late_is : (a : TextCommand) (text : List ℕ) (s : Status) → length text ≤ 16777216 → IsLate s → (s ≡ status.Limit → IsRefusedLate a text)
    → s ≡ status_of a text → IsToWrite a text
late_is a text status.Limit small late limit is = inr (small, limit refl)
late_is a text status.Done small late limit is = inl (subst IsToldWhole is tt)
late_is a text (status.NotARun step) small late limit is = inl (subst IsToldWhole is tt)
late_is a text status.Waiting small late limit is = inl (subst IsToldWhole is tt)
late_is a text status.Usage small late limit is = absurd late
late_is a text (status.BadInput line) small late limit is = absurd late
late_is a text status.ReadFault small late limit is = absurd late
late_is a text status.WriteFault small late limit is = absurd late
late_is a text status.NoMemory small late limit is = absurd late
late_is a text status.CrewFault small late limit is = absurd late
late_is a text status.LinkFault small late limit is = absurd late
late_is a text (status.Stray host event) small late limit is = absurd late

all_written : (Unchanged : Type 0) (a : TextCommand) (text output : List ℕ) (old new : Option (List ℕ)) (s : Status) → length text ≤ 16777216
    → s ≡ text_status a text → IsLate s → (s ≡ status.Limit → IsRefusedLate a text) → IsTextOutput a text output → Appends old new output
    → IsPart a text old new → IsAnswered Unchanged a text old new s
all_written Unchanged a text output old new s small same late limit is_output written front =
    let other = late_kinds s late in
    record {
      kinds = (other.0, other.1, other.5, other.6);
      done = λ is. done_is a text output old new small (sym same ∙ is) is_output written;
      no = λ step is. no_is a text output old new step small (sym same ∙ is) is_output written;
      bad = λ line is. absurd (other.3 line is);
      stray = λ host event is. absurd (other.7 host event is);
      limit = λ is. inr (cut_is a text output old new small (limit is) is_output written);
      memory = λ is. absurd (other.4 is);
      writing = λ is. absurd (other.2 is);
      complete = inr (inr (same ∙ small_status a text small));
      front = inr front;
    }

failed_is : (Unchanged : Type 0) (a : TextCommand) (text : List ℕ) (old new : Option (List ℕ)) → IsToWrite a text
    → IsPart a text old new → IsAnswered Unchanged a text old new status.WriteFault
failed_is Unchanged a text old new late front = record {
  kinds = (λ is. grind (arith, is), λ is. grind (arith, is), λ is. grind (arith, is), λ is. grind (arith, is));
  done = λ is. absurd (grind (arith, is));
  no = λ step is. absurd (grind (arith, is));
  bad = λ line is. absurd (grind (arith, is));
  stray = λ host event is. absurd (grind (arith, is));
  limit = λ is. absurd (grind (arith, is));
  memory = λ is. absurd (grind (arith, is));
  writing = λ is. late;
  complete = inr (inl refl);
  front = inr front;
}

part_is : (a : TextCommand) (text : List ℕ) (w : TextOutput) (old new : Option (List ℕ)) (n : ℕ) → length text ≤ 16777216 → IsWork a text w
    → Appends old new (take n w.text.items) → IsPart a text old new
part_is a text w old new n small work some =
    record { small = small; output = w.text.items; asked_for = work.output; count = n; written = some }

pub written_is : (Unchanged : Type 0) (a : TextCommand) (text : List ℕ) (w : TextOutput) (old new : Option (List ℕ)) (s : Status)
    → length text ≤ 16777216 → IsWork a text w → IsWritten w.status status.WriteFault w.text.items old new s
    → (n : ℕ) × Appends old new (take n w.text.items) → IsAnswered Unchanged a text old new s
written_is Unchanged a text w old new s small work (inl (same, written)) (n, some) =
    all_written Unchanged a text w.text.items old new s small (same ∙ work.status) (subst IsLate (sym same) work.late)
    (λ is. work.limit (sym same ∙ is)) work.output written (part_is a text w old new n small work some)
written_is Unchanged a text w old new s small work (inr failed) (n, some) =
    subst (IsAnswered Unchanged a text old new) (sym failed)
    (failed_is Unchanged a text old new
    (late_is a text w.status small work.late work.limit (work.status ∙ small_status a text small))
    (part_is a text w old new n small work some))

-- the empty text is bad in its first line

pub empty_bad : (a : TextCommand) → text_status a [] ≡ status.BadInput 1
unfolding lines_of head_of opening_of behind_head node_opening
empty_bad (asked.Replay form) = refl
empty_bad asked.Check = refl
empty_bad asked.Join = refl

kept_some : (a : TextCommand) (text : List ℕ) → KeepsLines a text → 0 < length text
kept_some a [] kept = absurd (omega (arith, kept 1 (empty_bad a)))
kept_some a (b ∷ bs) kept = omega arith

-- where memory is wanted for a text, no line before the third is refused

refused_behind : (s : Schedule) (refused : Option TextRefusal) (line : ℕ) → whole s refused ≡ Err (schedules.BadInput line) → (text : List ℕ)
    → HasProcess text → (front_of text).refused ≡ refused → 2 < line
refused_behind s None line h text some is = absurd (cc)
refused_behind s (Some why) line h text some is =
    let same : why ≡ schedules.BadInput line = cc in bad_line text line some (is ∙ ap Some same)

pub process_wanted : (form : Form) (text : List ℕ) → HasProcess text → KeepsLines (asked.Replay form) text
process_wanted form text some line bad =
    refused_behind (front_of text).schedule (front_of text).refused line (replay_bad (schedule_of text) line bad) text some refl

replay_keeps : (form : Form) (text : List ℕ) (e : TextRefusal) → e ≡ schedules.NoMemory
    → ((e ≡ schedules.NoMemory) × KeepsLines (asked.Replay form) text) ⊎ (schedule_of text ≡ Err e) → KeepsLines (asked.Replay form) text
replay_keeps form text e is (inl h) line bad = h.1 line bad
replay_keeps form text e is (inr h) line bad =
    let none : schedule_of text ≡ Err (schedules.BadInput line) = replay_bad (schedule_of text) line bad in cc

replay_wanted : (form : Form) (text : List ℕ) (e : TextRefusal) → e ≡ schedules.NoMemory
    → ((e ≡ schedules.NoMemory) × KeepsLines (asked.Replay form) text) ⊎ (schedule_of text ≡ Err e) → 0 < length text
replay_wanted form text e is why = kept_some (asked.Replay form) text (replay_keeps form text e is why)

pub trace_wanted : (text : List ℕ) → trace_lines.KeepsLines text → KeepsLines asked.Check text
trace_wanted text keeps line bad = bad_behind text line keeps (check_bad (trace_of text) line bad)

check_keeps : (text : List ℕ) (e : TraceRefusal) → e ≡ traces.NoMemory
    → ((e ≡ traces.NoMemory) × KeepsLines asked.Check text) ⊎ (trace_of text ≡ Err e) → KeepsLines asked.Check text
check_keeps text e is (inl h) line bad = h.1 line bad
check_keeps text e is (inr h) line bad = let none : trace_of text ≡ Err (traces.BadInput line) = check_bad (trace_of text) line bad in cc

check_wanted : (text : List ℕ) (e : TraceRefusal) → e ≡ traces.NoMemory
    → ((e ≡ traces.NoMemory) × KeepsLines asked.Check text) ⊎ (trace_of text ≡ Err e) → 0 < length text
check_wanted text e is why = kept_some asked.Check text (check_keeps text e is why)

pub check_refused : (text : List ℕ) (e : TraceRefusal)
    → ((e ≡ traces.NoMemory) × KeepsLines asked.Check text) ⊎ (trace_of text ≡ Err e) → IsRefusal asked.Check text (refused_trace e)
check_refused text (traces.BadInput line) (inl wanted) = absurd (grind (arith, wanted.0))
check_refused text (traces.BadInput line) (inr is) = ap check_status is
check_refused text traces.NoMemory why = check_wanted text traces.NoMemory refl why

checked_keeps : (text : List ℕ) (t : Trace) → trace_of text ≡ Ok t → KeepsLines asked.Check text
checked_keeps text t h line bad = let none : trace_of text ≡ Err (traces.BadInput line) = check_bad (trace_of text) line bad in cc

checked_wanted : (text : List ℕ) (t : Trace) → trace_of text ≡ Ok t → 0 < length text
checked_wanted text t is = kept_some asked.Check text (checked_keeps text t is)

-- what is refused once the verdict is known

pub told_by : (text : List ℕ) (t : Trace) (v : TraceVerdict) (s : Status) → trace_of text ≡ Ok t → v ≡ verdict_of t
    → (¬ (v ≡ verdicts.TooMuch) × (s ≡ status.NoMemory)) ⊎ ((v ≡ verdicts.TooMuch) × (s ≡ status.Limit)) → IsRefusal asked.Check text s
told_by text t v s is same (inl h) = subst (IsRefusal asked.Check text) (sym h.1) (checked_wanted text t is)
told_by text t v s is same (inr h) =
    let limit : check_status (trace_of text) ≡ status.Limit = ap check_status is ∙ ap verdict_status (sym same ∙ h.0) in
    subst (IsRefusal asked.Check text) (sym h.1) (limit, inr (check_limit text (trace_of text) refl limit))

-- what is written of a trace, and the answer then
told_late : (s : Status) → IsToldWhole s → IsLate s × ¬ (s ≡ status.Limit)
told_late status.Done told = (tt, λ is. grind (arith, is))
told_late (status.NotARun step) told = (tt, λ is. grind (arith, is))
told_late status.Waiting told = (tt, λ is. grind (arith, is))
told_late status.Usage told = absurd told
told_late (status.BadInput line) told = absurd told
told_late status.ReadFault told = absurd told
told_late status.WriteFault told = absurd told
told_late status.NoMemory told = absurd told
told_late status.CrewFault told = absurd told
told_late status.LinkFault told = absurd told
told_late (status.Stray host event) told = absurd told
told_late status.Limit told = absurd told

pub check_work : (text : List ℕ) (w : TextOutput) (t : Trace) (v : TraceVerdict) → trace_of text ≡ Ok t → v ≡ verdict_of t
    → (w.text.items ≡ verdict_text v) × (w.status ≡ verdict_status v) × IsToldWhole w.status → IsWork asked.Check text w
check_work text w t v is same told =
    let late = told_late w.status told.2 in
    record {
      output = told.0 ∙ ap verdict_text same ∙ ap check_output (sym is);
      status = told.1 ∙ ap verdict_status same ∙ ap check_status (sym is);
      late = late.0;
      limit = late.1;
    }

-- where there are too many events
replay_limited : (form : Form) (text : List ℕ) (e : TextRefusal) → e ≡ schedules.Limit
    → ((e ≡ schedules.NoMemory) × KeepsLines (asked.Replay form) text) ⊎ (schedule_of text ≡ Err e) → IsRefusal (asked.Replay form) text status.Limit
replay_limited form text e is (inl h) = let none : schedules.Limit ≡ schedules.NoMemory = sym is ∙ h.0 in absurd (cc)
replay_limited form text e is (inr h) =
    let limit : schedule_of text ≡ Err schedules.Limit = h ∙ ap Err is in (ap replay_status limit, inr limit)

-- why nothing is written of a schedule
pub replay_refused : (form : Form) (text : List ℕ) (e : TextRefusal)
    → ((e ≡ schedules.NoMemory) × KeepsLines (asked.Replay form) text) ⊎ (schedule_of text ≡ Err e)
    → IsRefusal (asked.Replay form) text (refused e)
replay_refused form text (schedules.BadInput line) (inl wanted) = absurd (grind (arith, wanted.0))
replay_refused form text (schedules.BadInput line) (inr is) = ap replay_status is
replay_refused form text schedules.Limit why = replay_limited form text schedules.Limit refl why
replay_refused form text schedules.NoMemory why = replay_wanted form text schedules.NoMemory refl why
