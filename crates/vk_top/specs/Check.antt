-- What `check` says of the steps of a trace, and writes.
use Rattle.std.specs.Prelude.{ℕ, ◌≡◌, ◌+◌, ◌-◌, ◌≤◌, ◌<◌, nat_lt, List, [], ◌∷◌, ◌++◌, length, take, codes, decimal, Option, None, IsSome, ◌↔◌, Ok, if◌then◌else◌}
use Rattle.std.specs.Io.KnownBytes.{Appends}
use Rattle.std.specs.Option.{option_map_or}
use Rattle.vk_types.specs.Types.{ProcessSpec, Step}
use Rattle.vk_base.specs.declared.limits.TheConstants.{INPUT_BYTES}
use Rattle.vk_base.specs.Kernel.{Kernel, initial_kernel}
use Rattle.vk_base.specs.Steps.{effect, run}
use Rattle.v_machine.specs.Apply.{most, notes}
use Rattle.v_trace.specs.Remaining.{Remaining}
use Rattle.v_trace.specs.Traces.{trace_of}
use Rattle.v_trace.specs.declared.trace.Trace.{Trace}
use Rattle.vk_top.specs.declared.check.TraceVerdict.{TraceVerdict}
use Rattle.vk_top.specs.declared.check.TraceVerdict.TheVariants as verdicts

-- the steps are a run of the one-machine kernel
abbrev pub IsRun : List ProcessSpec → List Step → Type 0
IsRun specs steps = IsSome (run (initial_kernel specs) steps)

-- the bytes that steps note for remote moves, as far as they are allowed
abbrev pub noted_from : Kernel → List Step → ℕ
noted_from k [] = 0
noted_from k (s ∷ ss) = option_map_or (λ e. notes k s + noted_from e.after ss) (effect k s) 0

abbrev pub noted_by : List ProcessSpec → List Step → ℕ
noted_by specs steps = noted_from (initial_kernel specs) steps

-- What becomes of steps behind n others that noted so many bytes: the first that is not allowed decides, or the first with which
-- too many bytes would be noted.
unfoldable pub verdict_from : Kernel → ℕ → ℕ → List Step → TraceVerdict
verdict_from k n noted [] = verdicts.Run n
verdict_from k n noted (s ∷ ss) = option_map_or
    (λ e. if nat_lt most (noted + notes k s) then verdicts.TooMuch else verdict_from e.after (n + 1) (noted + notes k s) ss)
    (effect k s) (verdicts.Refused (n + 1))

abbrev pub verdict_of : Trace → TraceVerdict
verdict_of t = verdict_from (initial_kernel t.config.specs) 0 0 t.steps

-- what a verdict says of a trace: its steps are a run, and not too many bytes are noted; or this step is the first that is not allowed,
-- since those before it are a run, and with it they are none; or the first steps, so many, are a run, but note too many bytes
abbrev pub IsVerdict : Trace → TraceVerdict → Type 0
IsVerdict t (verdicts.Run steps) = (steps ≡ length t.steps) × IsRun t.config.specs t.steps × (noted_by t.config.specs t.steps ≤ most)
IsVerdict t (verdicts.Refused step) =
    IsRun t.config.specs (take (step - 1) t.steps) × (noted_by t.config.specs (take (step - 1) t.steps) ≤ most)
    × (run (initial_kernel t.config.specs) (take step t.steps) ≡ None)
IsVerdict t verdicts.TooMuch =
    (count : ℕ) × IsRun t.config.specs (take count t.steps) × (most < noted_by t.config.specs (take count t.steps))

-- exactly that is the verdict which holds
abbrev pub VerdictsAreExact : Type 0
VerdictsAreExact = (t : Trace) (v : TraceVerdict) → (verdict_of t ≡ v) ↔ IsVerdict t v

-- the line that tells it
abbrev pub verdict_text : TraceVerdict → List ℕ
verdict_text (verdicts.Run steps) = codes "yes " ++ decimal steps ++ codes "\n"
verdict_text (verdicts.Refused step) = codes "no " ++ decimal step ++ codes "\n"
verdict_text verdicts.TooMuch = []

-- the input is the text of a trace with this verdict, and its line is written
pub record IsChecked (input : List ℕ) (verdict : TraceVerdict) (old new : Option (List ℕ)) : Type 0 where
  pub small : length input ≤ INPUT_BYTES
  pub trace : Trace
  pub text : trace_of input ≡ Ok trace
  pub holds : IsVerdict trace verdict
  pub output : Appends old new (verdict_text verdict)

-- the steps are a run that notes no more bytes than may be, and `yes` is written with how many they are
abbrev pub IsYes : List ℕ → Option (List ℕ) → Option (List ℕ) → Type 0
IsYes input old new = (steps : ℕ) × IsChecked input (verdicts.Run steps) old new

-- this step, counted from 1, is the first that is not allowed, and `no` is written with it
abbrev pub IsNo : List ℕ → ℕ → Option (List ℕ) → Option (List ℕ) → Type 0
IsNo input step old new = IsChecked input (verdicts.Refused step) old new

-- the first steps of the trace, so many that are all allowed, note too many bytes for remote moves
pub record IsTooMuch (input : List ℕ) : Type 0 where
  pub trace : Trace
  pub text : trace_of input ≡ Ok trace
  pub holds : IsVerdict trace verdicts.TooMuch

-- Of the code alone from here on: no law rests on it.

-- the text is that of this trace, and so is the verdict on it
pub record IsVerdictOf (text : List ℕ) (v : TraceVerdict) : Type 0 where
  pub trace : Trace
  pub spells : trace_of text ≡ Ok trace
  pub verdict : v ≡ verdict_of trace

-- how the reading ends, when no step is left
abbrev pub without_steps : Remaining → Remaining
without_steps r = record r { steps = [] }
