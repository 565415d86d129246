-- What is answered and written without a runtime, by what the words ask for: something of a text, or a storm, which reads nothing. To the
-- words of `run` and of `node H` the only answer here is that memory is wanting to read them.
use Rattle.std.specs.Prelude.{ℕ, ◌≡◌, ◌⊎◌, List, [], take, Option, Some, None, IsSomeAnd}
use Rattle.clap.specs.Walk.{Text}
use Rattle.std.specs.Io.KnownBytes.{Appends}
use Rattle.vk_edge.specs.Inputs.{IsReadOver, IsReadWhole, IsReadWithin, IsWanting, OfInput}
use Rattle.vk_drive.specs.Storms.{IsStormTooMuch, StormFits, summary_of}
use Rattle.vk_top.specs.declared.status.Status.{Status}
use Rattle.vk_top.specs.declared.status.Status.TheVariants as status
use Rattle.vk_top.specs.declared.words.TextCommand.{TextCommand}
use Rattle.vk_top.specs.declared.words.Invocation.{Invocation}
use Rattle.vk_top.specs.declared.words.Invocation.TheVariants as jobs
use Rattle.vk_top.specs.Storm.{storm_output, storm_status, summary_text}
use Rattle.vk_top.specs.Top.{IsBadAt, IsBehindText, IsCutShort, IsDecided, IsDone, IsEarly, IsNotARun, IsOverLimit, IsPart, IsStrayAt, IsToWrite}
use Rattle.vk_top.specs.Words.{job_of}

-- the words ask for something, and this holds of it and of the input
abbrev pub Asks : List Text → Option (List ℕ) → (Invocation → List ℕ → Type 0) → Type 0
Asks words told Holds = IsSomeAnd (job_of words) (λ j. OfInput told (Holds j))

-- before none of the storm's events its frames hold too many bytes, and its summary is written
pub record IsStormTold (n : ℕ) (old new : Option (List ℕ)) : Type 0 where
  pub fits : StormFits n
  pub output : Appends old new (summary_text (summary_of n))

abbrev pub IsJobDone : Invocation → List ℕ → Option (List ℕ) → Option (List ℕ) → Type 0
IsJobDone (jobs.OfText a) input old new = IsDone a input old new
IsJobDone jobs.Run input old new = ⊥
IsJobDone (jobs.Node host) input old new = ⊥
IsJobDone (jobs.Storm n) input old new = IsStormTold n old new

abbrev pub IsJobNotARun : Invocation → List ℕ → ℕ → Option (List ℕ) → Option (List ℕ) → Type 0
IsJobNotARun (jobs.OfText a) input step old new = IsNotARun a input step old new
IsJobNotARun jobs.Run input step old new = ⊥
IsJobNotARun (jobs.Node host) input step old new = ⊥
IsJobNotARun (jobs.Storm n) input step old new = ⊥

abbrev pub IsJobBadAt : Invocation → List ℕ → ℕ → Type 0
IsJobBadAt (jobs.OfText a) input line = IsBadAt a input line
IsJobBadAt jobs.Run input line = ⊥
IsJobBadAt (jobs.Node host) input line = ⊥
IsJobBadAt (jobs.Storm n) input line = ⊥

abbrev pub IsJobStrayAt : Invocation → List ℕ → ℕ → ℕ → Type 0
IsJobStrayAt (jobs.OfText a) input host event = IsStrayAt a input host event
IsJobStrayAt jobs.Run input host event = ⊥
IsJobStrayAt (jobs.Node own) input host event = ⊥
IsJobStrayAt (jobs.Storm n) input host event = ⊥

abbrev pub IsJobOverLimit : Invocation → List ℕ → Type 0
IsJobOverLimit (jobs.OfText a) input = IsOverLimit a input
IsJobOverLimit jobs.Run input = ⊥
IsJobOverLimit (jobs.Node host) input = ⊥
IsJobOverLimit (jobs.Storm n) input = IsStormTooMuch n

abbrev pub IsJobCutShort : Invocation → List ℕ → Option (List ℕ) → Option (List ℕ) → Type 0
IsJobCutShort (jobs.OfText a) input old new = IsCutShort a input old new
IsJobCutShort jobs.Run input old new = ⊥
IsJobCutShort (jobs.Node host) input old new = ⊥
IsJobCutShort (jobs.Storm n) input old new = ⊥

-- something is to be written
abbrev pub IsJobToWrite : Invocation → List ℕ → Type 0
IsJobToWrite (jobs.OfText a) input = IsToWrite a input
IsJobToWrite jobs.Run input = ⊥
IsJobToWrite (jobs.Node host) input = ⊥
IsJobToWrite (jobs.Storm n) input = StormFits n

-- so many bytes of what is to be written stand behind what stood written
abbrev pub IsJobPart : Invocation → List ℕ → Option (List ℕ) → Option (List ℕ) → Type 0
IsJobPart (jobs.OfText a) input old new = IsPart a input old new
IsJobPart jobs.Run input old new = ⊥
IsJobPart (jobs.Node host) input old new = ⊥
IsJobPart (jobs.Storm n) input old new = (count : ℕ) × Appends old new (take count (storm_output n))

-- nothing is written behind what stood written, or a front of what is asked for
abbrev pub IsFront : List Text → List ℕ → Option (List ℕ) → Option (List ℕ) → Type 0
IsFront words input old new = Appends old new [] ⊎ IsSomeAnd (job_of words) (λ j. IsJobPart j input old new)

-- unless a fault is told, the number and memory decide the answer to a storm
abbrev pub IsStormDecided : ℕ → Status → Type 0
IsStormDecided n status.WriteFault = Unit {0}
IsStormDecided n status.NoMemory = Unit {0}
IsStormDecided n s = s ≡ storm_status n

abbrev pub IsJobDecided : Invocation → Option (List ℕ) → Status → Type 0
IsJobDecided (jobs.OfText a) told s = IsDecided a told s
IsJobDecided jobs.Run told s = s ≡ status.NoMemory
IsJobDecided (jobs.Node host) told s = s ≡ status.NoMemory
IsJobDecided (jobs.Storm n) told s = IsStormDecided n s

-- what the answer to a storm says
pub record IsStormAnswered (Unchanged : Type 0) (n : ℕ) (old new : Option (List ℕ)) (s : Status) : Type 0 where
  pub done : s ≡ status.Done → IsStormTold n old new
  pub limit : s ≡ status.Limit → IsStormTooMuch n × Unchanged
  pub writing : s ≡ status.WriteFault → StormFits n
  pub complete : IsStormDecided n s
  pub kinds : (s ≡ status.Done) ⊎ (s ≡ status.Limit) ⊎ (s ≡ status.WriteFault) ⊎ (s ≡ status.NoMemory)
  pub front : (count : ℕ) × Appends old new (take count (storm_output n))

-- What the answer to these words says. `Unread` and `Unwritten` are that input and output are as they were; of the input these bytes were
-- left, and are; to the output those were written, and are.
pub record IsAloneAnswer (Unread Unwritten : Type 0) (words : List Text) (left rest old new : Option (List ℕ)) (s : Status) : Type 0 where
  -- Usage is answered only where the words ask for nothing that the program does.
  pub usage : s ≡ status.Usage → job_of words ≡ None
  -- For such words there is no other answer, but for want of memory to read them; nothing is read and nothing is written.
  pub useless : job_of words ≡ None → ((s ≡ status.Usage) ⊎ (s ≡ status.NoMemory)) × Unread × Unwritten
  -- Done: all of the input is the text of what is asked for, and that is written; or texts of stations, and a schedule is written that says
  -- the same; or the summary of a storm is.
  pub done : s ≡ status.Done → Asks words left (λ j i. IsJobDone j i old new)
  -- NotARun: `check` is asked for, all of the input is the text of a trace, the step is its first that is not allowed, and that is written.
  pub not_a_run : (step : ℕ) → s ≡ status.NotARun step → Asks words left (λ j i. IsJobNotARun j i step old new)
  -- Where something is asked of a text, at Done, NotARun, BadInput, Stray and WriteFault the input was read to its end.
  pub whole : (a : TextCommand) → job_of words ≡ Some (jobs.OfText a) → IsBehindText s → IsReadWhole left rest
  -- A storm reads nothing.
  pub alone : (n : ℕ) → job_of words ≡ Some (jobs.Storm n) → Unread
  -- BadInput tells the first line of the input that is bad.
  pub bad : (line : ℕ) → s ≡ status.BadInput line → Asks words left (λ j i. IsJobBadAt j i line)
  -- Stray tells the first delivery in texts of stations, by host and event, of bytes that no station emitted for this one.
  pub stray : (host event : ℕ) → s ≡ status.Stray host event → Asks words left (λ j i. IsJobStrayAt j i host event)
  -- Limit comes only where the input has too many bytes, or too many events or noted bytes before any line or step that is refused, or
  -- where before an event of a storm, or by the stations of which texts tell, too many bytes were emitted, and then nothing is written; or
  -- where before an event of a schedule too many bytes were emitted, and then the events before it are written, of which the steps are a
  -- run.
  pub limit : s ≡ status.Limit → Asks words left (λ j i. (IsJobOverLimit j i × Unwritten) ⊎ IsJobCutShort j i old new)
  -- Where something is asked of a text, a byte too many was read then, and nothing is written, or the input was read to its end.
  pub limit_whole : (a : TextCommand) → job_of words ≡ Some (jobs.OfText a) → s ≡ status.Limit →
      (IsReadOver left rest × Unwritten) ⊎ IsReadWhole left rest
  -- At ReadFault no byte too many was read before.
  pub reading : s ≡ status.ReadFault → IsReadWithin left rest
  -- NoMemory comes only before anything was read, or where at least one byte was read and not one too many.
  pub memory : s ≡ status.NoMemory → IsWanting Unread left rest
  -- Where no fault is told and memory sufficed, words and input alone decide.
  pub complete : (j : Invocation) → job_of words ≡ Some j → IsJobDecided j left s
  -- A write is tried only where the input is one that asks for something to be written.
  pub writing : s ≡ status.WriteFault → Asks words left IsJobToWrite
  -- No crew and no link is asked.
  pub crew : ¬ (s ≡ status.CrewFault)
  pub link : ¬ (s ≡ status.LinkFault)
  -- At Usage, BadInput, Stray, ReadFault and NoMemory nothing is written.
  pub nothing : IsEarly s → Unwritten
  -- At every answer what stood written stays in front, and a front of what is asked for is behind it.
  pub front : OfInput left (λ i. IsFront words i old new)
