-- The storm of a number: its events, each a function of the generator's draws and of the history so far, and what is told of it.
use Rattle.std.specs.Prelude.{ℕ, zero, suc, ◌+◌, ◌-◌, ◌%◌, ◌==◌, ◌<◌, ◌≤◌, min, nat_lt, List, [], ◌∷◌, ◌++◌, length, slice_get, take, Option, Some, None, if◌then◌else◌}
use Rattle.vk_types.specs.Types.{Call, EventAnswer, Pid}
use Rattle.vk_cluster.specs.declared.emitted.TheConstants.{LAST_BYTES}
use Rattle.vk_cluster.specs.Standing.{emitted_bytes}
use Rattle.vk_schedule.specs.declared.event.Event.{Event}
use Rattle.vk_schedule.specs.declared.event.Event.TheVariants as events
use Rattle.vk_schedule.specs.declared.schedule.Schedule.{Schedule}
use Rattle.vk_event.specs.declared.task.Task.{Task}
use Rattle.vk_schedule.specs.Lawful.{has_actors}
use Rattle.vk_frame.specs.declared.header.Header.{Header}
use Rattle.vk_generator.specs.Numbers.{drawn, next}
use Rattle.vk_pages.specs.Programs.{task_call}
use Rattle.vk_rules.specs.Entries.{is_frame_taken}
use Rattle.vk_rules.specs.Histories.{Happened, history_of}
use Rattle.vk_drive.specs.declared.summary.StormSummary.{StormSummary}
use Rattle.vk_drive.specs.Tasks.{settings, specs, task_at}
use Rattle.vk_drive.specs.Told.{all_emitted, answered_to, count_answered, is_old, is_timed_out, is_waiting, tells_answer, told}

-- Once the numbers for an event are drawn: the generator's state, and the event.
pub record Choice : Type 0 where
  pub state : ℕ
  pub event : Event

abbrev pub chosen : ℕ → Event → Choice
chosen x e = record { state = x; event = e }

-- The process collects where its last call is to be collected, else it makes its program's next call. At its program's end it collects,
-- so that this is defined; no storm comes so far (`programs_go_on` of `v_storm`).
abbrev pub call_event : Pid → Option Call → Event
call_event pid (Some call) = events.Call pid call
call_event pid None = events.Collect pid

abbrev pub process_event : Task → List EventAnswer → Event
process_event t heard = if is_waiting heard then events.Collect t.pid else call_event t.pid (task_call t (told heard))

-- The frame comes to the station to which it is addressed. Where that is none of the storm station 1 ticks, so that this is defined; it
-- always is one (`frames_are_for_stations` of `v_storm`).
abbrev pub delivery_of : Header → Event
delivery_of h =
    let delivery = events.Deliver h.destination h.source h.event h.output in
    if has_actors specs delivery then delivery else events.Tick 1

abbrev pub delivery_event : Option Header → Event
delivery_event None = events.Tick 1
delivery_event (Some h) = delivery_of h

-- so many places before the last
abbrev pub before_last : List Header → ℕ → Option Header
before_last hs back = slice_get hs (length hs - 1 - back)

-- By one more draw each: one of the four processes calls or collects; a frame comes, one of the last 32, or of all where those are fewer,
-- and where there is none station 1 ticks without a draw; one of the four stations ticks.
abbrev pub process_choice : ℕ → List Happened → Choice
process_choice x hs = let t = task_at (drawn (next x) % 4) in chosen (next x) (process_event t (answered_to t.pid hs))

abbrev pub delivery_choice : ℕ → List Header → Choice
delivery_choice x fs =
    if length fs == 0 then chosen x (events.Tick 1)
    else chosen (next x) (delivery_event (before_last fs (drawn (next x) % min 32 (length fs))))

abbrev pub tick_choice : ℕ → Choice
tick_choice x = chosen (next x) (events.Tick (1 + drawn (next x) % 4))

-- which of these, by the first draw
abbrev pub choice_by : (kind x : ℕ) → List Happened → Choice
choice_by kind x hs =
    if nat_lt kind 3 then process_choice x hs else if nat_lt kind 6 then delivery_choice x (all_emitted hs) else tick_choice x

-- what comes next in this state of the generator, behind this history
abbrev pub choice : ℕ → List Happened → Choice
choice x hs = choice_by (drawn (next x) % 8) (next x) hs

-- A storm under way: the generator's state, and the events so far.
pub record Storm : Type 0 where
  pub state : ℕ
  pub events : List Event

-- with what was chosen
abbrev pub with_choice : List Event → Choice → Storm
with_choice es c = record { state = c.state; events = es ++ c.event ∷ [] }

abbrev pub one_more : Storm → Storm
one_more s = with_choice s.events (choice s.state (history_of settings s.events))

-- the storm of this seed after so many events
unfoldable pub storm_after : (seed count : ℕ) → Storm
storm_after seed zero = record { state = seed; events = [] }
storm_after seed (suc count) = one_more (storm_after seed count)

-- the schedule of storm n: n events from the seed n
abbrev pub storm_schedule_of : ℕ → Schedule
storm_schedule_of n = record { config = settings; events = (storm_after n n).events }

-- what is told of the storm's history
abbrev pub summary_by : ℕ → List Happened → StormSummary
summary_by n hs = record {
  n = n;
  frames = length (all_emitted hs);
  taken = count_answered is_frame_taken hs;
  old = count_answered is_old hs;
  answers = count_answered tells_answer hs;
  timedout = count_answered is_timed_out hs;
}

abbrev pub summary_of : ℕ → StormSummary
summary_of n = summary_by n (history_of settings (storm_schedule_of n).events)

-- the bytes of the frames that are emitted at the first so many events of a storm
abbrev pub bytes_before : (count n : ℕ) → ℕ
bytes_before count n = emitted_bytes (history_of settings (take count (storm_schedule_of n).events))

-- before none of its events the frames hold too many bytes
abbrev pub StormFits : ℕ → Type 0
StormFits n = (count : ℕ) → count < n → bytes_before count n ≤ LAST_BYTES

-- before one of its events they do
abbrev pub IsStormTooMuch : ℕ → Type 0
IsStormTooMuch n = (count : ℕ) × (count < n) × (LAST_BYTES < bytes_before count n)
