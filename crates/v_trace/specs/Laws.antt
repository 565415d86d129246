-- Reading is the inverse of writing.
use Rattle.std.specs.Prelude.{◌≡◌, ℕ, ◌↔◌, ◌⊎◌, true, List, [], ◌++◌, codes, Some, None, Ok}
use Rattle.std.specs.List.{AllByRecursion}
use Rattle.vk_types.specs.Types.{Ending, ProcessSpec, Step}
use Rattle.vk_base.specs.Settings.{first_fault}
use Rattle.vk_base.specs.declared.answer.Ending.TheVariants as endings
use Rattle.vk_base.specs.declared.step.Step.TheVariants as steps
use Rattle.vk_text.specs.Heads.{settings_of}
use Rattle.vk_base.specs.Pids.{IsPid}
use Rattle.vk_text.specs.Laws.{IsCount, IsOrdinal, IsReadable}
use Rattle.vk_text.specs.Lines.{words_from}
use Rattle.v_trace.specs.Steps.{step_of}
use Rattle.v_trace.specs.Texts.{step_words, step_text}
use Rattle.v_trace.specs.declared.trace.Trace.{Trace}
use Rattle.v_trace.specs.Traces.{has_actor, trace_of, trace_text}

-- how a Send may fail
abbrev pub IsFailure : Ending → Type 0
IsFailure endings.NoProcess = Unit {0}
IsFailure endings.TimedOut = Unit {0}
IsFailure endings.Ok = ⊥
IsFailure endings.Gone = ⊥

-- how a move may end
abbrev pub IsEnding : Ending → Type 0
IsEnding endings.Ok = Unit {0}
IsEnding endings.TimedOut = Unit {0}
IsEnding endings.Gone = Unit {0}
IsEnding endings.NoProcess = ⊥

-- each field of the step is in its range
abbrev pub IsReadableStep : Step → Type 0
IsReadableStep (steps.Call pid call) = IsPid pid × IsReadable call
IsReadableStep (steps.Arrive sender number) = IsPid sender × IsOrdinal number
IsReadableStep (steps.Take pid) = IsPid pid
IsReadableStep (steps.Finish pid) = IsPid pid
IsReadableStep (steps.Fail pid why) = IsPid pid × IsFailure why
IsReadableStep (steps.OpenMove sender number moving) = IsPid sender × IsOrdinal number × IsOrdinal moving
IsReadableStep (steps.Copy sender number moving offset count) =
    IsPid sender × IsOrdinal number × IsOrdinal moving × IsCount offset × IsCount count
IsReadableStep (steps.End pid why) = IsPid pid × IsEnding why
IsReadableStep (steps.Hear asker number pid) = IsPid asker × IsOrdinal number × IsPid pid
IsReadableStep (steps.Found asker pid) = IsPid asker × IsPid pid
IsReadableStep (steps.Lost asker) = IsPid asker
IsReadableStep (steps.Collect pid) = IsPid pid

-- words read as a step exactly where they are that step's words
abbrev pub StepWordsAreSpelledOnce : Type 0
StepWordsAreSpelledOnce =
    (step : Step) (words : List (List ℕ)) → IsReadableStep step → (step_of words ≡ Some step) ↔ (words ≡ step_words step)

-- a line reads as a step exactly where it is that step's text
abbrev pub StepsAreSpelledOnce : Type 0
StepsAreSpelledOnce =
    (step : Step) (line : List ℕ) → IsReadableStep step → (step_of (words_from line 0) ≡ Some step) ↔ (line ≡ step_text step)

-- a trace of these processes may have this step
abbrev pub IsLawfulStep : List ProcessSpec → Step → Type 0
IsLawfulStep specs step = IsReadableStep step × (has_actor specs step ≡ true)

-- what is written of a trace is read again
abbrev pub TracesReadBack : Type 0
TracesReadBack = (specs : List ProcessSpec) (steps : List Step) →
    AllByRecursion (λ s. IsPid s.pid) specs → first_fault [] specs ≡ None → AllByRecursion (IsLawfulStep specs) steps →
    trace_of (trace_text specs steps) ≡ Ok (record { config = settings_of specs; steps = steps })

-- a text that reads as a trace is its text, but that the last line feed may lack
abbrev pub TracesAreSpelledOnce : Type 0
TracesAreSpelledOnce =
    (text : List ℕ) (t : Trace) → trace_of text ≡ Ok t →
    (text ≡ trace_text t.config.specs t.steps) ⊎ (text ++ codes "\n" ≡ trace_text t.config.specs t.steps)
