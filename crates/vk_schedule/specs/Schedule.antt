-- The schedule of a text.
use Rattle.std.specs.Prelude.{ℕ, ◌+◌, ◌<◌, nat_lt, List, [], ◌∷◌, ◌++◌, length, codes, bytes_eq, Option, Some, None, Result, Ok, Err, if◌then◌else◌}
use Rattle.vk_types.specs.Types.{ProcessSpec}
use Rattle.vk_base.specs.declared.limits.TheConstants.{EVENTS, LAST_NUMBER, SHORT_NUMBER}
use Rattle.vk_base.specs.Options.{◌>>=◌}
use Rattle.vk_base.specs.Settings.{Settings}
use Rattle.vk_text.specs.Calls.{first_as, ended, call_of}
use Rattle.vk_text.specs.Heads.{settings_of}
use Rattle.vk_text.specs.Lines.{lines_of, words_from}
use Rattle.vk_text.specs.Openings.{line_number, opening_of}
use Rattle.vk_text.specs.Words.{positive_of, station_of, pid_of}
use Rattle.vk_text.specs.declared.opening.OpeningRefusal.{OpeningRefusal}
use Rattle.vk_text.specs.declared.opening.OpeningRefusal.TheVariants as openings
use Rattle.vk_schedule.specs.declared.event.Event.{Event}
use Rattle.vk_schedule.specs.declared.event.Event.TheVariants as events
use Rattle.vk_schedule.specs.declared.schedule.Front.{Front}
use Rattle.vk_schedule.specs.declared.schedule.Schedule.{Schedule}
use Rattle.vk_schedule.specs.declared.schedule.TextRefusal.{TextRefusal}
use Rattle.vk_schedule.specs.declared.schedule.TextRefusal.TheVariants as refusals
use Rattle.vk_schedule.specs.Lawful.{has_actors}

-- `PID CALLTEXT`
unfoldable pub call_event_of : List (List ℕ) → Option Event
call_event_of ws = first_as pid_of ws >>= λ (pid, ws). call_of ws >>= λ call. Some (events.Call pid call)

-- `PID`
unfoldable pub collect_event_of : List (List ℕ) → Option Event
collect_event_of ws = first_as pid_of ws >>= λ (pid, ws). ended ws (events.Collect pid)

-- `H`
unfoldable pub tick_event_of : List (List ℕ) → Option Event
tick_event_of ws = first_as station_of ws >>= λ (host, ws). ended ws (events.Tick host)

-- `TO FROM EVENT OUTPUT`; EVENT is at most 2^63 - 1
unfoldable pub deliver_event_of : List (List ℕ) → Option Event
deliver_event_of ws =
    first_as station_of ws >>= λ (to, ws). first_as station_of ws >>= λ (from, ws).
    first_as (positive_of LAST_NUMBER) ws >>= λ (event, ws). first_as (positive_of SHORT_NUMBER) ws >>= λ (output, ws).
    ended ws (events.Deliver to from event output)

-- the event that these words spell
unfoldable pub event_of : List (List ℕ) → Option Event
event_of [] = None
event_of (w ∷ ws) =
    if bytes_eq w (codes "call") then call_event_of ws
    else if bytes_eq w (codes "collect") then collect_event_of ws
    else if bytes_eq w (codes "tick") then tick_event_of ws
    else if bytes_eq w (codes "deliver") then deliver_event_of ws
    else None

-- the event, where its actors are in the configuration of these processes
abbrev pub acting : List ProcessSpec → Option Event → Option Event
acting specs None = None
acting specs (Some e) = if has_actors specs e then Some e else None

abbrev pub more : Schedule → Event → Schedule
more s e = record s { events = s.events ++ e ∷ [] }

-- the schedule with one event more, or why the line of this number is refused that should have it
abbrev pub with_event : ℕ → Schedule → Option Event → Result Schedule TextRefusal
with_event n s None = Err (refusals.BadInput n)
with_event n s (Some e) = if nat_lt (length s.events) EVENTS then Ok (more s e) else Err refusals.Limit

-- the front ends where a line is refused; where the line has an event, that is one too many
abbrev pub or_end : Schedule → Option Event → Result Schedule TextRefusal → (Schedule → Front) → Front
or_end s event (Ok t) rest = rest t
or_end s event (Err e) rest = record { schedule = s; refused = Some e; beyond = event }

-- the event of the line, where it is one of processes and stations of the schedule
abbrev pub next_event : Schedule → List ℕ → Option Event
next_event s line = acting s.config.specs (event_of (words_from line 0))

-- the schedule with the events of these lines behind its own, of which the first has this number, up to the first line that is refused
unfoldable pub front_from : ℕ → Schedule → List (List ℕ) → Front
front_from n s [] = record { schedule = s; refused = None; beyond = None }
front_from n s (l ∷ ls) = or_end s (next_event s l) (with_event n s (next_event s l)) (λ t. front_from (n + 1) t ls)

-- why a text that does not open is refused
abbrev pub as_text : OpeningRefusal → TextRefusal
as_text (openings.Bad n) = refusals.BadInput n
as_text openings.NoMemory = refusals.NoMemory

abbrev pub without_events : Settings → Schedule
without_events c = record { config = c; events = [] }

-- the line of this number is refused, and nothing is read
abbrev pub unopened : ℕ → Front
unopened n = record { schedule = without_events (settings_of []); refused = Some (refusals.BadInput n); beyond = None }

-- the opening is bad, or the events stand behind it
abbrev pub front_by : List (List ℕ) → Result (Settings × List (List ℕ)) ℕ → Front
front_by lines (Err n) = unopened n
front_by lines (Ok found) = front_from (line_number lines found.1) (without_events found.0) found.1

-- the titles of the two formats
abbrev pub plain_title : List ℕ
plain_title = codes "vkernel 1"

abbrev pub timed_title : List ℕ
timed_title = codes "vkernel 2"

abbrev pub opened : List (List ℕ) → Result (Settings × List (List ℕ)) ℕ
opened lines = opening_of plain_title timed_title lines

-- the schedule of the text up to the first line that is refused
abbrev pub front_of : List ℕ → Front
front_of text = front_by (lines_of text) (opened (lines_of text))

abbrev pub whole : Schedule → Option TextRefusal → Result Schedule TextRefusal
whole s None = Ok s
whole s (Some e) = Err e

-- the text opens with a process
abbrev pub HasProcess : List ℕ → Type 0
HasProcess text = 0 < length (front_of text).schedule.config.specs

-- the schedule that the text spells, or why it spells none
abbrev pub schedule_of : List ℕ → Result Schedule TextRefusal
schedule_of text = let f = front_of text in whole f.schedule f.refused
