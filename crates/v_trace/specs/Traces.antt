-- The text of a trace.
use Rattle.std.specs.Prelude.{ℕ, ◌+◌, ◌-◌, ◌<◌, Bool, true, List, [], ◌∷◌, ◌++◌, length, flat_map, codes, Option, Some, None, Result, Ok, Err, if◌then◌else◌}
use Rattle.std.specs.Option.{option_map_or}
use Rattle.vk_types.specs.Types.{ProcessSpec, Step}
use Rattle.vk_base.specs.Settings.{has_process}
use Rattle.vk_base.specs.declared.step.Step.TheVariants as steps
use Rattle.vk_text.specs.Heads.{settings_of, head_of, line_text, head_text}
use Rattle.vk_text.specs.Lines.{lines_of, words_from}
use Rattle.v_trace.specs.Steps.{step_of}
use Rattle.v_trace.specs.Texts.{step_text}
use Rattle.v_trace.specs.declared.trace.Trace.{Trace}
use Rattle.v_trace.specs.declared.trace.TraceRefusal.{TraceRefusal}
use Rattle.v_trace.specs.declared.trace.TraceRefusal.TheVariants as refusals

-- the process that calls or collects is one of these; other steps may name any
abbrev pub has_actor : List ProcessSpec → Step → Bool
has_actor specs (steps.Call pid call) = has_process specs pid
has_actor specs (steps.Collect pid) = has_process specs pid
has_actor specs _ = true

-- the trace with this step behind its own, where it may have it
unfoldable pub with_step : Trace → Option Step → Option Trace
with_step t None = None
with_step t (Some s) = if has_actor t.config.specs s then Some (record t { steps = t.steps ++ s ∷ [] }) else None

-- the number of the line behind the title, the processes and the steps, which have a line each
abbrev pub line_behind : Trace → ℕ
line_behind t = length t.config.specs + length t.steps + 2

-- the trace with the steps of these lines behind its own; the first line that gives no step is the bad one
unfoldable pub with_lines : Trace → List (List ℕ) → Result Trace TraceRefusal
with_lines t [] = Ok t
with_lines t (l ∷ ls) =
    option_map_or (λ more. with_lines more ls) (with_step t (step_of (words_from l 0))) (Err (refusals.BadInput (line_behind t)))

-- the steps behind this head, where there is one
unfoldable pub behind_head : Option (List ProcessSpec × List (List ℕ)) → Result Trace TraceRefusal
behind_head None = Err (refusals.BadInput 1)
behind_head (Some (specs, lines)) = with_lines (record { config = settings_of specs; steps = [] }) lines

-- the trace that the text spells, or the first bad line
abbrev pub trace_of : List ℕ → Result Trace TraceRefusal
trace_of text = behind_head (head_of (codes "vkernel trace 1") (lines_of text))

-- the title, the processes and the steps, each on a line
abbrev pub trace_text : List ProcessSpec → List Step → List ℕ
trace_text specs steps = head_text (codes "vkernel trace 1") specs ++ flat_map (λ s. line_text (step_text s)) steps

-- how many lines are kept: those behind the title, up to the first bad one
abbrev pub kept_lines : Result Trace TraceRefusal → ℕ
kept_lines (Ok t) = length t.config.specs + length t.steps
kept_lines (Err (refusals.BadInput line)) = line - 2
kept_lines (Err refusals.NoMemory) = 0

-- the title stands, and the line behind it is that of a process or a step
abbrev pub KeepsLines : List ℕ → Type 0
KeepsLines text = 0 < kept_lines (trace_of text)
