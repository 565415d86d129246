-- What is answered and written where a scenario is read, run in threads, and what happened is told in a text. `Tells end input output`
-- is what is known of such a text where the run ended so; `asked end input` is what the input asks for then. `Fails s input` is what is
-- known where the run came to no end for the cause that s tells.
use Rattle.std.specs.Prelude.{ℕ, ◌≡◌, ◌+◌, ◌-◌, ◌^◌, ◌≤◌, ◌<◌, ◌⊎◌, min, nat_lt, List, length, take, Option, Result, Ok, Err, if◌then◌else◌}
use Rattle.std.specs.Io.KnownBytes.{Appends}
use Rattle.vk_base.specs.declared.limits.TheConstants.{INPUT_BYTES}
use Rattle.vk_edge.specs.Inputs.{IsReadOver, IsReadWhole, IsReadWithin, IsWanting, OfInput}
use Rattle.vk_event.specs.declared.scenario.Scenario.{Scenario}
use Rattle.vk_schedule.specs.declared.schedule.TextRefusal.{TextRefusal}
use Rattle.v_run.specs.declared.run_end.RunEnd.{RunEnd}
use Rattle.v_run.specs.declared.run_end.RunEnd.TheVariants as ends
use Rattle.vk_top.specs.declared.status.Status.{Status}
use Rattle.vk_top.specs.declared.status.Status.TheVariants as status
use Rattle.vk_top.specs.declared.top.TextOutput.{TextOutput}
use Rattle.vk_top.specs.Statuses.{refused}
use Rattle.vk_top.specs.Top.{IsBehindText, IsEarly}

-- the answer to a run
abbrev pub ended : RunEnd → Status
ended ends.Done = status.Done
ended ends.Limited = status.Limit
ended ends.Waiting = status.Waiting

-- what a scenario asks for, where its run ends so; no text is refused for a limit
abbrev pub scenario_status : RunEnd → Result Scenario TextRefusal → Status
scenario_status end (Ok scenario) = ended end
scenario_status end (Err why) = refused why

-- it is written
pub record IsRan (Tells : RunEnd → List ℕ → List ℕ → Type 0) (end : RunEnd) (input : List ℕ) (old new : Option (List ℕ)) : Type 0 where
  pub output : List ℕ
  pub tells : Tells end input output
  pub written : Appends old new output

-- so many bytes of it are written
pub record IsRanInPart (Tells : RunEnd → List ℕ → List ℕ → Type 0) (input : List ℕ) (old new : Option (List ℕ)) : Type 0 where
  pub end : RunEnd
  pub output : List ℕ
  pub tells : Tells end input output
  pub count : ℕ
  pub written : Appends old new (take count output)

-- the line is the first of the text that is bad, and there are not too many bytes
pub record IsBadScenario (asked : RunEnd → List ℕ → Status) (input : List ℕ) (line : ℕ) : Type 0 where
  pub small : length input ≤ INPUT_BYTES
  pub bad : asked ends.Done input ≡ status.BadInput line

-- what an input asks for
abbrev pub asked_of : (RunEnd → List ℕ → Status) → RunEnd → List ℕ → Status
asked_of asked end input = if nat_lt INPUT_BYTES (length input) then status.Limit else asked end input

-- the input, memory and how the run ended decide the answer, unless a fault is told
abbrev pub IsRunDecided : (RunEnd → List ℕ → Status) → Option (List ℕ) → Status → Type 0
IsRunDecided asked told status.ReadFault = Unit {0}
IsRunDecided asked told status.WriteFault = Unit {0}
IsRunDecided asked told status.CrewFault = Unit {0}
IsRunDecided asked told status.LinkFault = Unit {0}
IsRunDecided asked told status.NoMemory = Unit {0}
IsRunDecided asked told s = OfInput told (λ i. (end : RunEnd) × (s ≡ asked_of asked end i))

-- the answers where a run came to no end, if it was begun
abbrev pub IsFailure : Status → Type 0
IsFailure status.NoMemory = Unit {0}
IsFailure status.CrewFault = Unit {0}
IsFailure status.LinkFault = Unit {0}
IsFailure s = ⊥

-- a count of jobs behind a call of the crew with so many
abbrev pub counted : (before jobs : ℕ) → ℕ
counted before jobs = min (before + jobs) (2 ^ 64 - 1)

-- The crew counted so many jobs before, and now. `Needs input jobs` is that the input is the text of a scenario, for whose run a crew has
-- so many; `Linked` that the run has a link. Crew and link fail only behind such a text. Where the crew failed, no jobs were counted; the
-- link may fail, and memory be wanting, before the crew's call or behind it.
abbrev pub LeavesCrew : (Needs : List ℕ → ℕ → Type 0) (Linked : Type 0) (before now : ℕ) → Status → List ℕ → Type 0
LeavesCrew Needs Linked before now status.CrewFault input = (jobs : ℕ) × Needs input jobs × (now ≡ before)
LeavesCrew Needs Linked before now status.LinkFault input =
    Linked × ((jobs : ℕ) × Needs input jobs × ((now ≡ before) ⊎ (now ≡ counted before jobs)))
LeavesCrew Needs Linked before now status.NoMemory input = (now ≡ before) ⊎ ((jobs : ℕ) × Needs input jobs × (now ≡ counted before jobs))
LeavesCrew Needs Linked before now s input = ⊥

-- What the answer says. `Unread`, `Unwritten` and `Unasked` are that input, output, and crew with wire are as they were; of the input these
-- bytes were left, and are; to the output those were written, and are.
pub record IsThreadedAnswer (Tells : RunEnd → List ℕ → List ℕ → Type 0) (asked : RunEnd → List ℕ → Status) (Fails : Status → List ℕ → Type 0)
    (Unread Unwritten Unasked : Type 0) (left rest old new : Option (List ℕ)) (s : Status) : Type 0 where
  -- Done: all of the input is the text of a scenario, and what happened in its run, whose programs came to their ends, is written.
  pub done : s ≡ status.Done → OfInput left (λ i. IsRan Tells ends.Done i old new)
  -- Limit comes only where a byte too many was read, and then nothing is written, and no crew and no wire is asked; or where the input was
  -- read to its end and its run was limited, and then all that happened is written.
  pub limit : s ≡ status.Limit →
      (IsReadOver left rest × Unwritten × Unasked) ⊎ (IsReadWhole left rest × OfInput left (λ i. IsRan Tells ends.Limited i old new))
  -- Waiting: the same, where processes wait and nothing can happen any more.
  pub waiting : s ≡ status.Waiting → OfInput left (λ i. IsRan Tells ends.Waiting i old new)
  -- At WriteFault a run went well, however it ended, and a front of the text is written.
  pub writing : s ≡ status.WriteFault → OfInput left (λ i. IsRanInPart Tells i old new)
  -- At Done, Waiting, BadInput, WriteFault, CrewFault and LinkFault the input was read to its end.
  pub whole : IsBehindText s → IsReadWhole left rest
  -- BadInput tells the first line of the input that is bad. No crew and no wire is asked.
  pub bad : (line : ℕ) → s ≡ status.BadInput line → OfInput left (λ i. IsBadScenario asked i line) × Unasked
  -- At ReadFault no byte too many was read before, and no crew and no wire is asked.
  pub reading : s ≡ status.ReadFault → IsReadWithin left rest × Unasked
  -- NoMemory comes only before anything was read, or where at least one byte was read and not one too many.
  pub memory : s ≡ status.NoMemory → IsWanting Unread left rest
  -- At CrewFault, LinkFault and NoMemory this is known of input and run.
  pub failed : IsFailure s → OfInput left (Fails s)
  -- Usage, NotARun and Stray do not come.
  pub kinds : ¬ (s ≡ status.Usage) × ((step : ℕ) → ¬ (s ≡ status.NotARun step)) × ((host event : ℕ) → ¬ (s ≡ status.Stray host event))
  -- At BadInput, ReadFault, NoMemory, CrewFault and LinkFault nothing is written.
  pub nothing : IsEarly s → Unwritten
  -- Where no fault is told and memory sufficed, the input decides, and how the run ended.
  pub complete : IsRunDecided asked left s

-- Of the code alone from here on.

-- what is written of a scenario, and the answer then
pub record IsThreadedWork (Tells : RunEnd → List ℕ → List ℕ → Type 0) (asked : RunEnd → List ℕ → Status) (text : List ℕ)
    (w : TextOutput) : Type 0 where
  pub end : RunEnd
  pub tells : Tells end text w.text.items
  pub status : w.status ≡ ended end
  pub asked_for : ended end ≡ asked end text

-- why a text is not run
abbrev pub IsTextRefusal : (RunEnd → List ℕ → Status) → List ℕ → Status → Type 0
IsTextRefusal asked text (status.BadInput line) = asked ends.Done text ≡ status.BadInput line
IsTextRefusal asked text status.NoMemory = 0 < length text
IsTextRefusal asked text s = ⊥

-- why nothing is written of a scenario
abbrev pub IsThreadedRefusal : (RunEnd → List ℕ → Status) → (Status → List ℕ → Type 0) → Type 0 → List ℕ → Status → Type 0
IsThreadedRefusal asked Fails Unasked text (status.BadInput line) = (asked ends.Done text ≡ status.BadInput line) × Unasked
IsThreadedRefusal asked Fails Unasked text status.NoMemory = (0 < length text) × Fails status.NoMemory text
IsThreadedRefusal asked Fails Unasked text status.CrewFault = Fails status.CrewFault text
IsThreadedRefusal asked Fails Unasked text status.LinkFault = Fails status.LinkFault text
IsThreadedRefusal asked Fails Unasked text s = ⊥

-- what the answer to a text says, which was read whole
pub record IsThreadedAnswered (Tells : RunEnd → List ℕ → List ℕ → Type 0) (asked : RunEnd → List ℕ → Status) (Fails : Status → List ℕ → Type 0)
    (Unwritten Unasked : Type 0) (text : List ℕ) (old new : Option (List ℕ)) (s : Status) : Type 0 where
  pub done : s ≡ status.Done → IsRan Tells ends.Done text old new
  pub limit : s ≡ status.Limit → IsRan Tells ends.Limited text old new
  pub waiting : s ≡ status.Waiting → IsRan Tells ends.Waiting text old new
  pub writing : s ≡ status.WriteFault → IsRanInPart Tells text old new
  pub bad : (line : ℕ) → s ≡ status.BadInput line → IsBadScenario asked text line × Unasked
  pub memory : s ≡ status.NoMemory → 0 < length text
  pub failed : IsFailure s → Fails s text
  pub kinds : ¬ (s ≡ status.Usage) × ((step : ℕ) → ¬ (s ≡ status.NotARun step)) × ((host event : ℕ) → ¬ (s ≡ status.Stray host event))
  pub reading : ¬ (s ≡ status.ReadFault)
  pub nothing : IsEarly s → Unwritten
  pub complete : (s ≡ status.NoMemory) ⊎ (s ≡ status.WriteFault) ⊎ (s ≡ status.CrewFault) ⊎ (s ≡ status.LinkFault)
      ⊎ ((end : RunEnd) × (s ≡ asked_of asked end text))
