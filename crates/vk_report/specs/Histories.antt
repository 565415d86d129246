-- The report and the trace of a whole history.
use Rattle.std.specs.Prelude.{◌≡◌, ℕ, ◌+◌, List, [], ◌∷◌, ◌++◌, flat_map, Option, Some, None}
use Rattle.vk_types.specs.Types.{EventAnswer, ProcessSpec, Step}
use Rattle.v_trace.specs.Traces.{trace_text}
use Rattle.vk_report.specs.declared.entry.Counts.{Counts}
use Rattle.vk_report.specs.declared.entry.Form.{Form}
use Rattle.vk_report.specs.declared.entry.Form.TheVariants as forms
use Rattle.vk_report.specs.declared.entry.EventPlace.{EventPlace}
use Rattle.vk_report.specs.declared.frame.Emitted.{Emitted}
use Rattle.vk_report.specs.Report.{entry_lines, missing_lines, frame_lines, end_lines, opening_lines}

-- what is told of one entry; a delivery whose frame was never emitted has no answer, so it has no steps and no frames
pub record Told : Type 0 where
  pub place : EventPlace
  pub answer : Option EventAnswer
  pub steps : List Step
  pub frames : List Emitted

-- these frames of an event, of which so many came before
abbrev pub frames_from : Form → ℕ → ℕ → ℕ → List Emitted → List ℕ
frames_from form host own before [] = []
frames_from form host own before (f ∷ fs) = frame_lines form host own (before + 1) f ++ frames_from form host own (before + 1) fs

abbrev pub lines_by : Form → Told → Option EventAnswer → List ℕ
lines_by form t None = missing_lines form t.place.number t.place.host
lines_by form t (Some answer) = entry_lines form t.place answer t.steps ++ frames_from form t.place.host t.place.own 0 t.frames

-- the lines of an entry
abbrev pub told_lines : Form → Told → List ℕ
told_lines form t = lines_by form t t.answer

abbrev pub steps_by : Told → Option EventAnswer → List Step
steps_by t None = []
steps_by t (Some answer) = t.steps

abbrev pub told_steps : Told → List Step
told_steps t = steps_by t t.answer

-- the report of these entries, or their trace
abbrev pub history_text : Form → List ProcessSpec → List Told → Counts → List ℕ
history_text form specs told counts = opening_lines form specs ++ flat_map (told_lines form) told ++ end_lines form counts

-- the trace of a history is that of its steps, in order
abbrev pub TracesAreOfTheirSteps : Type 0
TracesAreOfTheirSteps = (specs : List ProcessSpec) (told : List Told) (counts : Counts) →
    history_text forms.Trace specs told counts ≡ trace_text specs (flat_map told_steps told)
