-- What is answered to a text, and what is written of it.
use Rattle.std.specs.Prelude.{ℕ, ◌≡◌, ◌<◌, ◌≤◌, ◌⊎◌, nat_lt, true, List, [], length, take, Option, Result, Ok, Err, if◌then◌else◌}
use Rattle.std.specs.Io.KnownBytes.{Appends}
use Rattle.vk_base.specs.declared.limits.TheConstants.{INPUT_BYTES}
use Rattle.vk_edge.specs.Inputs.{OfInput}
use Rattle.v_trace.specs.Traces.{trace_of}
use Rattle.v_trace.specs.declared.trace.Trace.{Trace}
use Rattle.v_trace.specs.declared.trace.TraceRefusal.{TraceRefusal}
use Rattle.v_trace.specs.declared.trace.TraceRefusal.TheVariants as traces
use Rattle.vk_cluster.specs.declared.emitted.TheConstants.{LAST_BYTES}
use Rattle.vk_cluster.specs.Standing.{emitted_bytes}
use Rattle.vk_schedule.specs.declared.schedule.Schedule.{Schedule}
use Rattle.vk_schedule.specs.declared.schedule.TextRefusal.{TextRefusal}
use Rattle.vk_schedule.specs.declared.schedule.TextRefusal.TheVariants as schedules
use Rattle.vk_schedule.specs.Schedule.{schedule_of}
use Rattle.vk_rules.specs.Observed.{IsRunOf}
use Rattle.vk_top.specs.declared.check.TraceVerdict.{TraceVerdict}
use Rattle.vk_top.specs.declared.check.TraceVerdict.TheVariants as verdicts
use Rattle.vk_top.specs.declared.status.Status.{Status}
use Rattle.vk_top.specs.declared.status.Status.TheVariants as status
use Rattle.vk_top.specs.declared.words.TextCommand.{TextCommand}
use Rattle.vk_top.specs.declared.words.TextCommand.TheVariants as asked
use Rattle.vk_report.specs.declared.entry.Form.{Form}
use Rattle.vk_event.specs.Nodes.{nodes_of}
use Rattle.vk_top.specs.Joins.{EmitsTooMuch, HasStray, IsJoinOutput, IsJoinWritten, join_status}
use Rattle.vk_top.specs.Check.{IsNo, IsTooMuch, IsYes, verdict_of, verdict_text}
use Rattle.vk_top.specs.Statuses.{refused, refused_trace}
use Rattle.vk_top.specs.Report.{front_text, history_before, is_cut, output_text, written_text}

-- the input is the text of a schedule, and its report or its trace is written; before none of its events the emitted frames hold too many
-- bytes; the steps in it are a run of the one-machine kernel, with exactly the observations of the processes
pub record IsReplayed (form : Form) (input : List ℕ) (old new : Option (List ℕ)) : Type 0 where
  pub small : length input ≤ INPUT_BYTES
  pub schedule : Schedule
  pub text : schedule_of input ≡ Ok schedule
  pub fits : (n : ℕ) → n < length schedule.events → emitted_bytes (history_before n schedule) ≤ LAST_BYTES
  pub output : Appends old new (output_text form schedule)
  pub run : IsRunOf schedule.config schedule.events

-- the input is the text of a schedule; before the event behind so many, and before none earlier, the emitted frames hold too many bytes;
-- the report of those events, or their trace, is written without the last line; their steps are a run, likewise
pub record IsCut (form : Form) (input : List ℕ) (old new : Option (List ℕ)) : Type 0 where
  pub small : length input ≤ INPUT_BYTES
  pub schedule : Schedule
  pub text : schedule_of input ≡ Ok schedule
  pub count : ℕ
  pub within : count < length schedule.events
  pub full : LAST_BYTES < emitted_bytes (history_before count schedule)
  pub first : (n : ℕ) → n < count → emitted_bytes (history_before n schedule) ≤ LAST_BYTES
  pub output : Appends old new (front_text form count schedule)
  pub run : IsRunOf schedule.config (take count schedule.events)

abbrev pub IsDone : TextCommand → List ℕ → Option (List ℕ) → Option (List ℕ) → Type 0
IsDone (asked.Replay form) input old new = IsReplayed form input old new
IsDone asked.Check input old new = IsYes input old new
IsDone asked.Join input old new = IsJoinWritten input old new

abbrev pub IsNotARun : TextCommand → List ℕ → ℕ → Option (List ℕ) → Option (List ℕ) → Type 0
IsNotARun (asked.Replay form) input step old new = ⊥
IsNotARun asked.Check input step old new = IsNo input step old new
IsNotARun asked.Join input step old new = ⊥

-- the event of this host is the first stray delivery of the text
abbrev pub IsStrayAt : TextCommand → List ℕ → ℕ → ℕ → Type 0
IsStrayAt (asked.Replay form) input host event = ⊥
IsStrayAt asked.Check input host event = ⊥
IsStrayAt asked.Join input host event = HasStray input host event

-- the line is the first of the text that is bad
abbrev pub IsBadLine : TextCommand → List ℕ → ℕ → Type 0
IsBadLine (asked.Replay form) input line = schedule_of input ≡ Err (schedules.BadInput line)
IsBadLine asked.Check input line = trace_of input ≡ Err (traces.BadInput line)
IsBadLine asked.Join input line = nodes_of input ≡ Err (schedules.BadInput line)

pub record IsBadAt (a : TextCommand) (input : List ℕ) (line : ℕ) : Type 0 where
  pub small : length input ≤ INPUT_BYTES
  pub bad : IsBadLine a input line

-- there are too many bytes; or too many events in a schedule, or in texts of stations; or a trace that notes too much for remote moves, or
-- stations that emit too much
abbrev pub IsOverLimit : TextCommand → List ℕ → Type 0
IsOverLimit (asked.Replay form) input = (INPUT_BYTES < length input) ⊎ (schedule_of input ≡ Err schedules.Limit)
IsOverLimit asked.Check input = (INPUT_BYTES < length input) ⊎ IsTooMuch input
IsOverLimit asked.Join input = (INPUT_BYTES < length input) ⊎ (nodes_of input ≡ Err schedules.Limit) ⊎ EmitsTooMuch input

-- an event of the schedule is refused, and what comes before it is written
abbrev pub IsCutShort : TextCommand → List ℕ → Option (List ℕ) → Option (List ℕ) → Type 0
IsCutShort (asked.Replay form) input old new = IsCut form input old new
IsCutShort asked.Check input old new = ⊥
IsCutShort asked.Join input old new = ⊥

-- what a schedule asks for; only code can want memory, so that no text has this refusal
abbrev pub replay_status : Result Schedule TextRefusal → Status
replay_status (Ok schedule) = if is_cut schedule then status.Limit else status.Done
replay_status (Err why) = refused why

abbrev pub replay_output : Form → Result Schedule TextRefusal → List ℕ
replay_output form (Ok schedule) = written_text form schedule
replay_output form (Err why) = []

-- what a trace asks for, likewise
abbrev pub verdict_status : TraceVerdict → Status
verdict_status (verdicts.Run steps) = status.Done
verdict_status (verdicts.Refused step) = status.NotARun step
verdict_status verdicts.TooMuch = status.Limit

abbrev pub check_status : Result Trace TraceRefusal → Status
check_status (Ok trace) = verdict_status (verdict_of trace)
check_status (Err why) = refused_trace why

abbrev pub check_output : Result Trace TraceRefusal → List ℕ
check_output (Ok trace) = verdict_text (verdict_of trace)
check_output (Err why) = []

abbrev pub text_status : TextCommand → List ℕ → Status
text_status (asked.Replay form) text = replay_status (schedule_of text)
text_status asked.Check text = check_status (trace_of text)
text_status asked.Join text = join_status (nodes_of text)

-- what is to be written of a text; of texts of stations it is the text of a schedule that says the same
abbrev pub IsTextOutput : TextCommand → List ℕ → List ℕ → Type 0
IsTextOutput (asked.Replay form) text output = output ≡ replay_output form (schedule_of text)
IsTextOutput asked.Check text output = output ≡ check_output (trace_of text)
IsTextOutput asked.Join text output = IsJoinOutput text output

-- what the input asks for where nothing fails
abbrev pub status_of : TextCommand → List ℕ → Status
status_of a input = if nat_lt INPUT_BYTES (length input) then status.Limit else text_status a input

-- so many bytes of what is to be written of the input stand behind what stood written
pub record IsPart (a : TextCommand) (input : List ℕ) (old new : Option (List ℕ)) : Type 0 where
  pub small : length input ≤ INPUT_BYTES
  pub output : List ℕ
  pub asked_for : IsTextOutput a input output
  pub count : ℕ
  pub written : Appends old new (take count output)

-- the answers at which all is written that is asked for
abbrev pub IsToldWhole : Status → Type 0
IsToldWhole status.Done = Unit {0}
IsToldWhole (status.NotARun step) = Unit {0}
IsToldWhole status.Usage = ⊥
IsToldWhole (status.BadInput line) = ⊥
IsToldWhole status.ReadFault = ⊥
IsToldWhole status.WriteFault = ⊥
IsToldWhole status.NoMemory = ⊥
IsToldWhole status.CrewFault = ⊥
IsToldWhole status.Limit = ⊥
IsToldWhole status.LinkFault = ⊥
IsToldWhole (status.Stray host event) = ⊥
IsToldWhole status.Waiting = Unit {0}

-- the input is the text of a schedule of which an event is refused
pub record HasRefused (input : List ℕ) : Type 0 where
  pub schedule : Schedule
  pub text : schedule_of input ≡ Ok schedule
  pub cut : is_cut schedule ≡ true

abbrev pub IsRefusedLate : TextCommand → List ℕ → Type 0
IsRefusedLate (asked.Replay form) input = HasRefused input
IsRefusedLate asked.Check input = ⊥
IsRefusedLate asked.Join input = ⊥

-- the answers that come only behind the end of the input; at Limit and NoMemory it depends on what is over a limit, or wanting
abbrev pub IsBehindText : Status → Type 0
IsBehindText status.Done = Unit {0}
IsBehindText (status.NotARun step) = Unit {0}
IsBehindText (status.BadInput line) = Unit {0}
IsBehindText (status.Stray host event) = Unit {0}
IsBehindText status.Waiting = Unit {0}
IsBehindText status.WriteFault = Unit {0}
IsBehindText status.CrewFault = Unit {0}
IsBehindText status.LinkFault = Unit {0}
IsBehindText status.Usage = ⊥
IsBehindText status.ReadFault = ⊥
IsBehindText status.NoMemory = ⊥
IsBehindText status.Limit = ⊥

-- something is to be written
abbrev pub IsToWrite : TextCommand → List ℕ → Type 0
IsToWrite a input = IsToldWhole (status_of a input) ⊎ ((length input ≤ INPUT_BYTES) × IsRefusedLate a input)

-- the input and memory decide the answer, unless a fault is told
abbrev pub IsDecided : TextCommand → Option (List ℕ) → Status → Type 0
IsDecided a told status.ReadFault = Unit {0}
IsDecided a told status.WriteFault = Unit {0}
IsDecided a told status.NoMemory = Unit {0}
IsDecided a told s = OfInput told (λ i. s ≡ status_of a i)

-- the answers at which nothing is written; at Limit it depends on what is over a limit
abbrev pub IsEarly : Status → Type 0
IsEarly status.Usage = Unit {0}
IsEarly (status.BadInput line) = Unit {0}
IsEarly status.ReadFault = Unit {0}
IsEarly status.NoMemory = Unit {0}
IsEarly status.CrewFault = Unit {0}
IsEarly status.LinkFault = Unit {0}
IsEarly (status.Stray host event) = Unit {0}
IsEarly status.Limit = ⊥
IsEarly status.Waiting = ⊥
IsEarly status.Done = ⊥
IsEarly (status.NotARun step) = ⊥
IsEarly status.WriteFault = ⊥
