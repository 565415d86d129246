-- How far the checking of a trace has come, of whose text only a front was read. Of the code alone: no law rests on it.
use Rattle.std.specs.Prelude.{ℕ, ◌≡◌, ◌+◌, ◌≤◌, List, [], ◌∷◌, ◌++◌, length, None, Ok, Err, IfOk}
use Rattle.vk_types.specs.Types.{ProcessSpec, Step}
use Rattle.vk_base.specs.Kernel.{Kernel, initial_kernel}
use Rattle.v_machine.specs.Follows.{StandsFor}
use Rattle.v_machine.specs.Tables.{Tables}
use Rattle.v_trace.specs.Remaining.{IsReadTo, Remaining}
use Rattle.v_trace.specs.Traces.{trace_of}
use Rattle.v_trace.specs.declared.trace.TraceRefusal.TheVariants as refusals
use Rattle.vk_top.specs.Check.{verdict_from}
use Rattle.vk_top.specs.declared.check.Found.{Found}
use Rattle.vk_top.specs.declared.check.TraceVerdict.{TraceVerdict}
use Rattle.vk_top.specs.declared.check.TraceVerdict.TheVariants as verdicts
use Rattle.vk_top.specs.declared.checking.Checking.{Checking}

-- Behind n steps the machine stands for a kernel from which the steps that are left have the verdict of all these steps, which stand behind
-- `before` others, from k; and so with any steps behind them.
pub record IsAsFar (k : Kernel) (before noted : ℕ) (steps : List Step) (machine : Tables) (n : ℕ) (left : List Step) : Type 0 where
  pub kernel : Kernel
  pub stands : StandsFor machine kernel
  pub verdict : (later : List Step) → verdict_from k before noted (steps ++ later) ≡ verdict_from kernel n machine.noted (left ++ later)

-- what was found of these steps, behind `before` others: all were allowed, and the machine is behind them; or one of them decides, whatever
-- steps come later
abbrev pub IsFound : Kernel → ℕ → ℕ → List Step → Tables → TraceVerdict → Type 0
IsFound k before noted steps machine (verdicts.Run n) = (n ≡ before + length steps) × IsAsFar k before noted steps machine n []
IsFound k before noted steps machine (verdicts.Refused step) =
    (later : List Step) → verdict_from k before noted (steps ++ later) ≡ verdicts.Refused step
IsFound k before noted steps machine verdicts.TooMuch =
    (later : List Step) → verdict_from k before noted (steps ++ later) ≡ verdicts.TooMuch

-- the same of the first steps of a trace of these processes
abbrev pub IsFoundFirst : List ProcessSpec → List Step → Tables → TraceVerdict → Type 0
IsFoundFirst specs steps machine v = IsFound (initial_kernel specs) 0 0 steps machine v

-- these are the steps that were read, and what was found of them, where memory was not wanting
pub record AreFound (specs : List ProcessSpec) (steps : List Step) (machine : Tables) (found : Found) : Type 0 where
  pub count : found.read ≡ length steps
  pub verdict : IfOk found.verdict (IsFoundFirst specs steps machine)

-- no line is bad of what was left, and its steps were read behind all that were read before
pub record IsCheckedBehind (left : Remaining) (machine : Tables) (before : Found) (s : Checking) : Type 0 where
  pub good : left.bad ≡ None
  pub config : s.config ≡ left.config
  pub found : (specs : List ProcessSpec) (steps : List Step) → AreFound specs steps machine before →
      AreFound specs (steps ++ left.steps) s.machine s.found

-- these bytes begin the text of a trace, whose steps in them were read
pub record HasChecked (text : List ℕ) (s : Checking) : Type 0 where
  pub steps : List Step
  pub read : IsReadTo text s.config steps
  pub few : s.found.read ≤ length text
  pub found : AreFound s.config.specs steps s.machine s.found

-- these bytes are the text of a trace, all of whose steps were read
pub record HasCheckedAll (text : List ℕ) (s : Checking) : Type 0 where
  pub steps : List Step
  pub spells : trace_of text ≡ Ok (record { config = s.config; steps = steps })
  pub found : AreFound s.config.specs steps s.machine s.found

-- this line is the bad one of the text with this piece, and, where a line ends with the piece, whatever follows
pub record IsBadBehind (text piece : List ℕ) (line : ℕ) : Type 0 where
  pub all : trace_of (text ++ piece) ≡ Err (refusals.BadInput line)
  pub more : (front later : List ℕ) → piece ≡ front ++ 10 ∷ [] → trace_of (text ++ piece ++ later) ≡ Err (refusals.BadInput line)
