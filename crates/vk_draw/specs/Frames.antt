-- The text of the frames of a history.
use Rattle.std.specs.Prelude.{◌≡◌, ℕ, true, List, [], ◌++◌, flat_map, map, Ok}
use Rattle.vk_base.specs.Settings.{Settings}
use Rattle.vk_schedule.specs.declared.event.Event.{Event}
use Rattle.vk_schedule.specs.declared.schedule.Schedule.{Schedule}
use Rattle.vk_schedule.specs.Schedule.{schedule_of}
use Rattle.vk_cluster.specs.Standing.{logs_of}
use Rattle.vk_frame_text.specs.Frames.{frame_line, title_line}
use Rattle.vk_page.specs.Page.{is_plain}
use Rattle.vk_report.specs.declared.entry.Form.TheVariants as forms
use Rattle.vk_report.specs.Histories.{frames_from}
use Rattle.vk_report.specs.Report as reports
use Rattle.vk_rules.specs.Entries.{Entry}
use Rattle.vk_rules.specs.Frames.{Frame}
use Rattle.vk_rules.specs.Histories.{At, Happened, Missing, happened}
use Rattle.vk_top.specs.Report.{emitted_of, history_of_schedule}

-- the line of a frame
abbrev pub line_of : Frame → List ℕ
line_of f = frame_line f.header f.packet

-- those of the frames of what happened
abbrev pub happened_lines : Happened → List ℕ
happened_lines (At host event e) = flat_map line_of e.frames
happened_lines (Missing host) = []

abbrev pub lines_of_history : List Happened → List ℕ
lines_of_history hs = flat_map happened_lines hs

-- the text of the frames of a schedule's history
abbrev pub frames_text : Schedule → List ℕ
frames_text s = title_line ++ lines_of_history (history_of_schedule s)

-- the line of a report for a frame, with the place that its header says, with which its own line begins too
abbrev pub report_line_of : Frame → List ℕ
report_line_of f = reports.frame_line f.header.source f.header.event f.header.output (emitted_of f)

-- Of each event a report has a line for each frame, in the order of the frames' own lines, and with the same place.
abbrev pub EachFrameHasOneLine : Type 0
EachFrameHasOneLine = (c : Settings) (es : List Event) (e : Event) (host own : ℕ) (entry : Entry) →
    happened c (logs_of c es) e ≡ At host own entry →
    frames_from forms.Report host own 0 (map emitted_of entry.frames) ≡ flat_map report_line_of entry.frames

-- Of a text that is read as a schedule all bytes are plain, and so are those of the text of the frames of its history.
abbrev pub ScheduleAndFramesArePlain : Type 0
ScheduleAndFramesArePlain =
    (text : List ℕ) (s : Schedule) → schedule_of text ≡ Ok s → (is_plain text ≡ true) × (is_plain (frames_text s) ≡ true)
