-- The lines of frames in a report, by the places that the frames' headers say.
use Rattle.std.proofs.Common.{◌≡◌, ℕ, ◌+◌, List, [], ◌∷◌, ◌++◌, flat_map, length, map, Option, Some, None, refl, sym, ap, subst, ◌∙◌}
use Rattle.vk_base.specs.Settings.{Settings}
use Rattle.vk_cluster.specs.Standing.{logs_of}
use Rattle.vk_cluster.proofs.Logs.{logs_next}
use Rattle.vk_report.specs.declared.entry.Form.TheVariants as forms
use Rattle.vk_report.specs.Histories.{frames_from}
use Rattle.vk_frame.specs.declared.header.Header.{Header}
use Rattle.vk_report.specs.Report.{frame_line}
use Rattle.vk_rules.specs.Entries.{Entry, Input, Called, Collected, Ticked, Delivered}
use Rattle.vk_rules.specs.Right.{entry_of}
use Rattle.vk_rules.specs.Frames.{Frame, Framed}
use Rattle.vk_rules.specs.Histories.{At, Logs, delivered, handed_over, happens_at, logs_after}
unfoldable use Rattle.vk_rules.specs.Histories.{happened}
use Rattle.vk_rules.specs.Laws.{AllRise, HaveHeaders}
use Rattle.vk_rules.proofs.OwnEvents.{own_log}
use Rattle.vk_rules.proofs.Rising.{entries_rise}
use Rattle.vk_schedule.specs.declared.event.Event.{Event}
use Rattle.vk_schedule.specs.declared.event.Event.TheVariants as events
use Rattle.vk_top.specs.Report.{emitted_of}
use Rattle.vk_draw.specs.Frames.{EachFrameHasOneLine, report_line_of}

-- a frame whose header has these numbers
one_line : (host own output : ℕ) (f : Frame) → f.header.source ≡ host → f.header.event ≡ own → f.header.output ≡ output →
    frame_line host own output (emitted_of f) ≡ report_line_of f
one_line host own output f source event number =
    λ i. frame_line (sym source i) (sym event i) (sym number i) (emitted_of f)

-- frames whose headers have the numbers of their event
by_headers : (host stamp number own before : ℕ) (fs : List Frame) → HaveHeaders host stamp number own (before + 1) fs →
    frames_from forms.Report host own before (map emitted_of fs) ≡ flat_map report_line_of fs
by_headers host stamp number own before [] h = refl
by_headers host stamp number own before (f ∷ fs) h =
    let rest = frames_from forms.Report host own (before + 1) (map emitted_of fs) in
    ap (λ (l : List ℕ). l ++ rest)
    (one_line host own (before + 1) f (ap (λ (x : Header). x.source) h.0) (ap (λ (x : Header). x.event) h.0) (ap (λ (x : Header). x.output) h.0))
    ∙ ap (λ l. report_line_of f ++ l) (by_headers host stamp number own (before + 1) fs h.1)

-- the number of an event at its station
same_at : (host own other number : ℕ) (e entry : Entry) → At other number e ≡ At host own entry → (other ≡ host) × (number ≡ own)
same_at host own other number e entry is = (cc, cc)

here_own : (c : Settings) (logs : Logs) (at : ℕ) (i : Input) (host own : ℕ) (entry : Entry) → happens_at c logs at i ≡ At host own entry →
    own ≡ length (logs host) + 1
here_own c logs at i host own entry is =
    let same = same_at host own at (length (logs at) + 1) (entry_of c at (logs at) i) entry is in
    sym same.1 ∙ ap (λ h. length (logs h) + 1) same.0

delivered_own : (c : Settings) (logs : Logs) (to : ℕ) (o : Option Frame) (host own : ℕ) (entry : Entry) →
    delivered c logs to o ≡ At host own entry → own ≡ length (logs host) + 1
delivered_own c logs to None host own entry is = absurd (cc)
delivered_own c logs to (Some f) host own entry is = here_own c logs to (Delivered (Framed f.header f.packet)) host own entry is

event_own : (c : Settings) (logs : Logs) (e : Event) (host own : ℕ) (entry : Entry) → happened c logs e ≡ At host own entry →
    own ≡ length (logs host) + 1
unfolding happened
event_own c logs (events.Call pid call) host own entry is = here_own c logs pid.host (Called pid call) host own entry is
event_own c logs (events.Collect pid) host own entry is = here_own c logs pid.host (Collected pid) host own entry is
event_own c logs (events.Tick at) host own entry is = here_own c logs at Ticked host own entry is
event_own c logs (events.Deliver to from event output) host own entry is =
    delivered_own c logs to (handed_over logs to from event output) host own entry is

pub one_line_each : EachFrameHasOneLine
one_line_each c es e host own entry is =
    let before = logs_of c es host in
    let log : logs_of c (es ++ e ∷ []) host ≡ entry ∷ before =
    ap (λ (l : Logs). l host) (logs_next c es e) ∙ ap (λ h. logs_after (logs_of c es) h host) is ∙ own_log (logs_of c es) host entry in
    let rises = subst (AllRise host) log (entries_rise c (es ++ e ∷ []) host) in
    by_headers host entry.tick entry.number own 0 entry.frames
    (subst (λ n. HaveHeaders host entry.tick entry.number n 1 entry.frames) (sym (event_own c (logs_of c es) e host own entry is)) rises.0.frames)
