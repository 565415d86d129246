-- What is left of a trace's text when its first steps were read.
use Rattle.std.specs.Prelude.{◌≡◌, ℕ, ◌+◌, List, [], ◌∷◌, ◌++◌, length, Option, Some, None, Result, Ok, Err, if◌then◌else◌}
use Rattle.std.specs.Option.{option_map_or}
use Rattle.vk_types.specs.Types.{ProcessSpec, Step}
use Rattle.vk_base.specs.Settings.{Settings}
use Rattle.vk_text.specs.Lines.{lines_of, words_from}
use Rattle.v_trace.specs.Steps.{step_of}
use Rattle.v_trace.specs.Traces.{has_actor, trace_of}
use Rattle.v_trace.specs.declared.trace.Trace.{Trace}
use Rattle.v_trace.specs.declared.trace.TraceRefusal.{TraceRefusal}
use Rattle.v_trace.specs.declared.trace.TraceRefusal.TheVariants as refusals

-- the processes, the steps that are to come, and the number of the bad line behind them, where there is one
pub record Remaining : Type 0 where
  pub config : Settings
  pub steps : List Step
  pub bad : Option ℕ

-- the trace of these steps, where no line is bad
abbrev pub whole : Remaining → Result Trace TraceRefusal
whole r = option_map_or (λ line. Err (refusals.BadInput line)) r.bad (Ok (record { config = r.config; steps = r.steps }))

-- with these steps before its own
abbrev pub behind : List Step → Remaining → Remaining
behind ss r = record r { steps = ss ++ r.steps }

-- the next step is the first of those that were left, and the others are left now; or none is left, and nothing changes
abbrev pub IsNextStep : Remaining → Remaining → Option Step → Type 0
IsNextStep old new None = (old.steps ≡ []) × (new ≡ old)
IsNextStep old new (Some s) = old ≡ behind (s ∷ []) new

-- Of the code alone from here on: no law rests on it.

-- the step, where a trace of these processes may have it
abbrev pub acting : List ProcessSpec → Option Step → Option Step
acting specs None = None
acting specs (Some s) = if has_actor specs s then Some s else None

abbrev pub end_of : Settings → Option ℕ → Remaining
end_of c bad = record { config = c; steps = []; bad = bad }

-- what is left behind so many steps, where the next line has this step or none
abbrev pub left_by : Settings → ℕ → Option Step → Remaining → Remaining
left_by c given None rest = end_of c (Some (length c.specs + given + 2))
left_by c given (Some s) rest = behind (s ∷ []) rest

-- what is left behind so many steps, where these lines are left
unfoldable pub steps_left : Settings → ℕ → List (List ℕ) → Remaining
steps_left c given [] = end_of c None
steps_left c given (l ∷ ls) = left_by c given (acting c.specs (step_of (words_from l 0))) (steps_left c (given + 1) ls)

-- these bytes begin the text of a trace with this configuration and these steps: whatever stands behind them is read as steps behind these
abbrev pub IsReadTo : List ℕ → Settings → List Step → Type 0
IsReadTo text c ss = (more : List ℕ) → trace_of (text ++ more) ≡ whole (behind ss (steps_left c (length ss) (lines_of more)))
