-- What a cluster shows of the event that it had last, and its lines.
use Rattle.std.proofs.Common.{◌≡◌, ℕ, ◌+◌, Bool, true, false, List, [], ◌∷◌, ◌++◌, length, map, drop, Some, refl, sym, ap, subst, ◌∙◌, append_assoc, arith}
use Rattle.std.specs.Prelude.{slice_get}
use Rattle.std.proofs.lemmas.List.{append-nil, drop_more, length-map}
use Rattle.std.proofs.lemmas.Option.{get_or_from_slice_get, slice_get_within}
use Rattle.vk_types.specs.Types.{EventAnswer, Pid}
use Rattle.vk_base.specs.declared.step.Step.TheVariants as steps
use Rattle.vk_base.specs.Steps.{is_allowed}
use Rattle.vk_base.specs.Settings.{Settings}
use Rattle.vk_cluster.specs.declared.report.Advance.{Advance}
use Rattle.vk_cluster.specs.declared.report.Advance.TheVariants as advances
use Rattle.vk_cluster.specs.declared.report.StepReport.{StepReport}
use Rattle.vk_cluster.specs.Shown.{HasAdvanced, HasReported, IsLastEvent}
use Rattle.vk_cluster.specs.Standing.{TellsReport, logs_of, report_by, step_report}
use Rattle.vk_cluster.specs.Values.{ClusterValue}
use Rattle.vk_cluster.proofs.Shown.{IsReportedEntry, last_is, lawful_entry, reported_entry, reported_missing}
use Rattle.vk_cluster.proofs.Told.{report_told}
use Rattle.vk_schedule.specs.declared.event.Event.{Event}
use Rattle.vk_schedule.specs.declared.event.Event.TheVariants as scheduled
use Rattle.vk_schedule.specs.Spelling.{event_text}
use Rattle.v_trace.specs.Texts.{step_text, step_words}
use Rattle.vk_host.specs.declared.response.Response.{Response}
use Rattle.vk_host.specs.Responses.{answer_of}
use Rattle.vk_host.specs.Sealed.{sealed}
use Rattle.vk_host.specs.Values.{StationValue}
use Rattle.vk_report.specs.declared.entry.Counts.{Counts}
use Rattle.vk_report.specs.declared.entry.Form.{Form}
use Rattle.vk_report.specs.declared.frame.Emitted.{Emitted}
use Rattle.vk_report.specs.declared.entry.Form.TheVariants as forms
use Rattle.vk_report.specs.declared.entry.EventPlace.{EventPlace}
use Rattle.vk_report.specs.Histories.{frames_from, told_lines}
use Rattle.vk_report.specs.Report.{BeginsAs, entry_lines, frame_lines}
use Rattle.vk_report.proofs.Traces.{no_frames}
use Rattle.vk_rules.specs.Entries.{Entry}
use Rattle.vk_rules.specs.CallOutcomes.{call_outcome, collect_outcome}
use Rattle.vk_rules.specs.Histories.{At, Logs, Missing}
use Rattle.vk_rules.specs.Observed.{steps_in}
use Rattle.vk_rules.specs.Readings.{reading}
use Rattle.vk_rules.specs.Right.{right_entry}
use Rattle.vk_rules.specs.Rounds.{list_if}
unfoldable use Rattle.vk_rules.specs.Histories.{happened}
use Rattle.v_lawful.specs.Sending.{IsLawfulEntry}
use Rattle.vk_top.specs.Playing.{IsOwnLine, IsReported, told_entry}
use Rattle.vk_top.specs.Report.{emitted_of, told_of}

-- The lines of the frames of an event, one after another.

pub frames_more : (form : Form) (host own at : ℕ) (es : List Emitted) (e : Emitted) (text whole : List ℕ) → slice_get es at ≡ Some e →
    text ++ frames_from form host own at (drop at es) ≡ whole →
    text ++ frame_lines form host own (at + 1) e ++ frames_from form host own (at + 1) (drop (at + 1) es) ≡ whole
frames_more form host own at es e text whole found so_far =
    append_assoc text (frame_lines form host own (at + 1) e) (frames_from form host own (at + 1) (drop (at + 1) es))
    ∙ ap (λ l. text ++ frames_from form host own at l)
    (ap (λ x. x ∷ drop (at + 1) es) (sym (get_or_from_slice_get es at e e found)) ∙ sym (drop_more es at e (slice_get_within es at e found)))
    ∙ so_far

-- The lines of an entry.

pub entry_told : (form : Form) (s : StationValue) (place : EventPlace) (answer : EventAnswer) (e : Entry) (front mid text : List ℕ) →
    IsLastEvent s answer e → mid ≡ front ++ entry_lines form place answer s.doing.steps →
    text ≡ mid ++ frames_from form place.host place.own 0 (map emitted_of e.frames) → text ≡ front ++ told_lines form (told_entry place e)
entry_told form s place answer e front mid text last entry frames =
    let rest = frames_from form place.host place.own 0 (map emitted_of e.frames) in
    frames ∙ ap (λ l. l ++ rest) entry
    ∙ ap (λ a. front ++ entry_lines form place a s.doing.steps ++ rest) last.shows.answer
    ∙ ap (λ l. front ++ entry_lines form place e.answer l ++ rest) last.shows.steps
    ∙ append_assoc front (entry_lines form place e.answer e.steps) rest

pub trace_told : (form : Form) (s : StationValue) (place : EventPlace) (answer : EventAnswer) (e : Entry) (front mid : List ℕ) →
    form ≡ forms.Trace → IsLastEvent s answer e → mid ≡ front ++ entry_lines form place answer s.doing.steps →
    mid ≡ front ++ told_lines form (told_entry place e)
trace_told form s place answer e front mid is last entry =
    let none : frames_from form place.host place.own 0 (map emitted_of e.frames) ≡ [] =
    ap (λ g. frames_from g place.host place.own 0 (map emitted_of e.frames)) is
    ∙ no_frames place.host place.own 0 (map emitted_of e.frames) in
    entry_told form s place answer e front mid mid last entry (sym (append-nil mid) ∙ ap (λ l. mid ++ l) (sym none))

-- The step of a call or a collect comes first, and is spelled as the event.

collect_first : (b : Bool) (pid : Pid) (line : List ℕ) → line ≡ event_text (scheduled.Collect pid) → BeginsAs line (list_if b (steps.Collect pid ∷ []))
unfolding step_text step_words
collect_first true pid line own = sym own
collect_first false pid line own = tt

own_first : (c : Settings) (logs : Logs) (e : Event) (line : List ℕ) → IsOwnLine line e → BeginsAs line (steps_in (happened c logs e))
unfolding happened right_entry call_outcome collect_outcome step_text step_words
own_first c logs (scheduled.Call pid call) line own = sym own
own_first c logs (scheduled.Collect pid) line own =
    collect_first (is_allowed (reading c pid.host (logs pid.host)).view (steps.Collect pid)) pid line own
own_first c logs (scheduled.Tick host) line own = absurd own
own_first c logs (scheduled.Deliver to from event output) line own = absurd own

-- What is told of the station that acted.
module _ (c : Settings) (es : List Event) (now : ClusterValue) (e : Event) (r : StepReport) (reported : HasReported c es now e r)
    (entry : Entry) (is : happened c (logs_of c es) e ≡ At r.host r.event entry) (place : ℕ) (s : StationValue)
    (found : slice_get now.hosts place ≡ Some s) (here : s.host ≡ r.host) where
  lasts : IsLastEvent s entry.answer entry
  lasts = last_is c es now e r reported entry is place s found here entry.answer refl

  lawful : IsLawfulEntry entry
  lawful = lawful_entry c es now e r reported entry is place s found here

  pub told_is : (form : Form) (before after : Counts) (front text : List ℕ) →
      text ≡ front ++ told_lines form (told_entry (record { number = before.events + 1; host = r.host; own = r.event }) entry) →
      after ≡ record {
        events = before.events + 1;
        steps = before.steps + length s.doing.steps;
        frames = before.frames + length s.frames;
      } → IsReported form before after front text (happened c (logs_of c es) e)
  told_is form before after front text lines counts =
      let many : length s.frames ≡ length entry.frames = ap length lasts.shows.frames ∙ length-map entry.frames sealed in
      subst (IsReported form before after front text) (sym is) (record {
        lines = lines;
        counts =
            counts
            ∙ (λ i. record {
              events = before.events + 1;
              steps = before.steps + length (lasts.shows.steps i);
              frames = before.frames + many i;
            });
        steps = lawful.steps;
        frames = lasts.sends.few;
      })

-- The station in the place that is told of showed the entry.
module _ (c : Settings) (es : List Event) (now : ClusterValue) (e : Event) (a : Advance) (had : HasAdvanced c es now e a) (place : ℕ)
    (given : Response) (is : a ≡ advances.Event place given) (s : StationValue) (found : slice_get now.hosts place ≡ Some s) where
  reported_by : HasReported c es now e (report_by s given)
  reported_by = subst (HasReported c es now e) (report_told now a place given had.report is had.told s found) had.reported

  one : IsReportedEntry (report_by s given) (answer_of s given) (happened c (logs_of c es) e)
  one = reported_entry (report_by s given) (answer_of s given) (happened c (logs_of c es) e) reported_by.next.report refl

  last : IsLastEvent s (answer_of s given) one.entry
  last = last_is c es now e (report_by s given) reported_by one.entry one.is place s found refl (answer_of s given) one.answered

  pub last_advanced : (entry : Entry) × IsLastEvent s (answer_of s given) entry
  last_advanced = (one.entry, last)

  -- the steps that it shows begin with the line of a call or a collect
  pub shown_first : (line : List ℕ) → IsOwnLine line e → BeginsAs line s.doing.steps
  shown_first line own =
      subst (BeginsAs line) (sym last.shows.steps)
      (subst (λ h. BeginsAs line (steps_in h)) one.is (own_first c (logs_of c es) e line own))

  pub told_advanced : (form : Form) (before after : Counts) (front text : List ℕ) →
      ((entry : Entry) → IsLastEvent s (answer_of s given) entry →
      text ≡ front ++ told_lines form (told_entry (record { number = before.events + 1; host = s.host; own = s.events }) entry)) →
      after ≡ record {
        events = before.events + 1;
        steps = before.steps + length s.doing.steps;
        frames = before.frames + length s.frames;
      } → IsReported form before after front text (happened c (logs_of c es) e)
  told_advanced form before after front text lines counts =
      told_is c es now e (report_by s given) reported_by one.entry one.is place s found refl form before after front text
      (lines one.entry last) counts

-- there was nothing to deliver
pub missing_told : (c : Settings) (es : List Event) (now : ClusterValue) (e : Event) (a : Advance) (host : ℕ) → HasAdvanced c es now e a →
    a ≡ advances.Missing host → (form : Form) (before after : Counts) (front text : List ℕ) →
    text ≡ front ++ told_lines form (told_of (before.events + 1) (Missing host)) →
    after ≡ record before { events = before.events + 1 } → IsReported form before after front text (happened c (logs_of c es) e)
missing_told c es now e a host had is form before after front text lines counts =
    let report : had.report ≡ step_report (Missing host) = subst (λ x. TellsReport now x had.report) is had.told in
    let missed : happened c (logs_of c es) e ≡ Missing host =
    reported_missing (step_report (Missing host)) (happened c (logs_of c es) e) (sym report ∙ had.reported.next.report) refl in
    let steps : before.steps ≡ before.steps + 0 = omega arith in
    let frames : before.frames ≡ before.frames + 0 = omega arith in
    subst (IsReported form before after front text) (sym missed) (record {
      lines = lines;
      counts = counts ∙ (λ i. record { events = before.events + 1; steps = steps i; frames = frames i });
      steps = omega arith;
      frames = omega arith;
    })
