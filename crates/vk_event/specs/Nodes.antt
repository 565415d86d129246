-- What the texts of stations tell. Each has the same opening, in format 2, and tells of one station: a line that names it, and lines of its
-- events. The texts stand one directly behind the other.
use Rattle.std.specs.Prelude.{ℕ, ◌+◌, ◌-◌, ◌==◌, ◌&&◌, nat_lt, nat_le, not, Bool, true, List, [], ◌∷◌, ◌++◌, length, take, drop, sum_by, codes, bytes_eq, Option, Some, None, Result, Ok, Err, if◌then◌else◌}
use Rattle.std.specs.List.{list_any}
use Rattle.vk_types.specs.Types.{ProcessSpec, StationEvent}
use Rattle.vk_base.specs.declared.event.StationEvent.TheVariants as events
use Rattle.vk_base.specs.declared.limits.TheConstants.{EVENTS, FRAME_BYTES, HEADER_BYTES}
use Rattle.vk_base.specs.Options.{◌>>=◌}
use Rattle.vk_base.specs.Settings.{Settings, has_process, has_station}
use Rattle.vk_text.specs.Calls.{call_of, ended, first_as}
use Rattle.vk_text.specs.Lines.{lines_of, words_from}
use Rattle.vk_text.specs.Openings.{HasProcesses, line_number, timed_opening}
use Rattle.vk_text.specs.Words.{lower_hex, pid_of, station_of}
use Rattle.vk_schedule.specs.declared.schedule.TextRefusal.{TextRefusal}
use Rattle.vk_schedule.specs.declared.schedule.TextRefusal.TheVariants as refusals
use Rattle.vk_event.specs.declared.node.NodeTexts.{NodeTexts}
use Rattle.vk_schedule.specs.declared.log.StationLog.{StationLog}

-- What lines spell.

-- lower-case hexadecimal of a frame, which has more bytes than a header and at most 1,152
unfoldable pub frame_of : List ℕ → Option (List ℕ)
frame_of word =
    lower_hex word >>= λ bytes. if nat_lt HEADER_BYTES (length bytes) && nat_le (length bytes) FRAME_BYTES then Some bytes else None

-- `PID CALLTEXT`
unfoldable pub own_call_of : List (List ℕ) → Option StationEvent
own_call_of ws = first_as pid_of ws >>= λ (pid, ws). call_of ws >>= λ call. Some (events.Call pid call)

-- `PID`
unfoldable pub own_collect_of : List (List ℕ) → Option StationEvent
own_collect_of ws = first_as pid_of ws >>= λ (pid, ws). ended ws (events.Collect pid)

-- `F`
unfoldable pub delivery_of : List (List ℕ) → Option StationEvent
delivery_of ws = first_as frame_of ws >>= λ (frame, ws). ended ws (events.Deliver frame)

-- the event that these words spell
unfoldable pub station_event_of : List (List ℕ) → Option StationEvent
station_event_of [] = None
station_event_of (w ∷ ws) =
    if bytes_eq w (codes "call") then own_call_of ws
    else if bytes_eq w (codes "collect") then own_collect_of ws
    else if bytes_eq w (codes "tick") then ended ws events.Tick
    else if bytes_eq w (codes "frame") then delivery_of ws
    else None

-- `H`
unfoldable pub named_of : List (List ℕ) → Option ℕ
named_of ws = first_as station_of ws >>= λ (host, ws). ended ws host

-- `station H`
unfoldable pub host_of : List (List ℕ) → Option ℕ
host_of [] = None
host_of (w ∷ ws) = if bytes_eq w (codes "station") then named_of ws else None

-- Whose a line is.

-- who calls or collects is a process of this station, in the configuration
abbrev pub is_own : List ProcessSpec → ℕ → StationEvent → Bool
is_own specs host (events.Call pid call) = pid.host == host && has_process specs pid
is_own specs host (events.Collect pid) = pid.host == host && has_process specs pid
is_own specs host events.Tick = true
is_own specs host (events.Deliver frame) = true

abbrev pub where_own : List ProcessSpec → ℕ → Option StationEvent → Option StationEvent
where_own specs host None = None
where_own specs host (Some e) = if is_own specs host e then Some e else None

-- the event of the line, where it is one of this station
abbrev pub own_event : List ProcessSpec → ℕ → List ℕ → Option StationEvent
own_event specs host line = where_own specs host (station_event_of (words_from line 0))

abbrev pub has_log : List StationLog → ℕ → Bool
has_log logs host = list_any (λ (l : StationLog). l.host == host) logs

-- the station, where it is one of the configuration and has no log yet
abbrev pub where_new : List ProcessSpec → List StationLog → Option ℕ → Option ℕ
where_new specs logs None = None
where_new specs logs (Some host) = if has_station specs host && not (has_log logs host) then Some host else None

-- the station of the line, where it is one of the configuration and has no log yet
abbrev pub new_station : List ProcessSpec → List StationLog → List ℕ → Option ℕ
new_station specs logs line = where_new specs logs (host_of (words_from line 0))

-- The texts, line by line.

-- How far they are read.
pub data Reading : Type 0 where
  -- the logs of some texts, and an opening, of which these lines are left; behind them comes the line of a station
  Opening : List StationLog → List (List ℕ) → Reading
  -- the logs of some texts, and the log so far of the one that is read; behind it may come the title of the next
  Events : List StationLog → StationLog → Reading

-- how many events the logs hold
abbrev pub event_count : List StationLog → ℕ
event_count logs = sum_by (λ (l : StationLog). length l.events) logs

abbrev pub without_own : ℕ → StationLog
without_own host = record { host = host; events = [] }

abbrev pub with_own : StationLog → StationEvent → StationLog
with_own log e = record log { events = log.events ++ e ∷ [] }

-- the title of each text
abbrev pub node_title : List ℕ
node_title = codes "vkernel node 1"

-- behind an opening comes a station
abbrev pub station_read : ℕ → List StationLog → Option ℕ → Result Reading TextRefusal
station_read n logs None = Err (refusals.BadInput n)
station_read n logs (Some host) = Ok (Reading.Events logs (without_own host))

-- a line of an opening is that of the first text
abbrev pub opening_read : ℕ → List StationLog → List ℕ → List (List ℕ) → List ℕ → Result Reading TextRefusal
opening_read n logs due left line = if bytes_eq line due then Ok (Reading.Opening logs left) else Err (refusals.BadInput n)

-- an event stands behind those of the log, where there are not too many in all; a line without one is the title of the next text, which
-- has this opening behind its title
abbrev pub event_read : List (List ℕ) → ℕ → List StationLog → StationLog → List ℕ → Option StationEvent → Result Reading TextRefusal
event_read opening n logs log line (Some e) =
    if nat_lt (event_count logs + length log.events) EVENTS then Ok (Reading.Events logs (with_own log e)) else Err refusals.Limit
event_read opening n logs log line None =
    if bytes_eq line node_title then Ok (Reading.Opening (logs ++ log ∷ []) opening) else Err (refusals.BadInput n)

-- how far they are read with this line, which has this number, where each text has this opening behind its title; or why it is refused
abbrev pub line_read : Settings → List (List ℕ) → ℕ → Reading → List ℕ → Result Reading TextRefusal
line_read c opening n (Reading.Opening logs []) line = station_read n logs (new_station c.specs logs line)
line_read c opening n (Reading.Opening logs (due ∷ left)) line = opening_read n logs due left line
line_read c opening n (Reading.Events logs log) line = event_read opening n logs log line (own_event c.specs log.host line)

abbrev pub then_read : Result Reading TextRefusal → (Reading → Result NodeTexts TextRefusal) → Result NodeTexts TextRefusal
then_read (Ok r) rest = rest r
then_read (Err e) rest = Err e

-- the last text ends behind its station, or the line behind the last is bad, which has this number
abbrev pub all_read : Settings → ℕ → Reading → Result NodeTexts TextRefusal
all_read c n (Reading.Opening logs left) = Err (refusals.BadInput n)
all_read c n (Reading.Events logs log) = Ok (record { config = c; logs = logs ++ log ∷ [] })

-- what the texts tell, where they are read so far and then come these lines, of which the first has this number
unfoldable pub nodes_from : Settings → List (List ℕ) → ℕ → Reading → List (List ℕ) → Result NodeTexts TextRefusal
nodes_from c opening n r [] = all_read c n r
nodes_from c opening n r (l ∷ ls) = then_read (line_read c opening n r l) (λ s. nodes_from c opening (n + 1) s ls)

-- The first text has any opening in format 2.

-- the configuration that the lines begin with, and the lines behind; or the number of the bad line
unfoldable pub node_opening : List (List ℕ) → Result (Settings × List (List ℕ)) ℕ
node_opening [] = Err 1
node_opening (l ∷ ls) = if bytes_eq l node_title then timed_opening ls else Err 1

-- the lines between the title and those that are left
abbrev pub behind_title : List (List ℕ) → List (List ℕ) → List (List ℕ)
behind_title lines left = drop 1 (take (length lines - length left) lines)

abbrev pub nodes_by : List (List ℕ) → Result (Settings × List (List ℕ)) ℕ → Result NodeTexts TextRefusal
nodes_by lines (Err n) = Err (refusals.BadInput n)
nodes_by lines (Ok found) =
    nodes_from found.0 (behind_title lines found.1) (line_number lines found.1) (Reading.Opening [] []) found.1

-- the configuration and the logs that texts of stations tell, or why they are refused
abbrev pub nodes_of : List ℕ → Result NodeTexts TextRefusal
nodes_of text = nodes_by (lines_of text) (node_opening (lines_of text))

-- the first text opens with a process
abbrev pub HasNodeProcess : List ℕ → Type 0
HasNodeProcess text = HasProcesses (node_opening (lines_of text))
