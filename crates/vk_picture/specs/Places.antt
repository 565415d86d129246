-- Where things stand on the page. Whole numbers, of the page's own unit; y grows downwards.
use Rattle.std.specs.Prelude.{ℕ, ◌+◌, ◌*◌, Bool, false, ◌==◌, ◌&&◌, is_none, List, [], ◌∷◌, ◌++◌, find, length, max, min, Some, None, if◌then◌else◌}
use Rattle.std.specs.Option.{option_map_or}
use Rattle.vk_types.specs.Types.{Pid, ProcessSpec}
use Rattle.vk_base.specs.declared.limits.TheConstants.{STEPS}
use Rattle.vk_base.specs.Pids.{same_pid}
use Rattle.vk_picture.specs.declared.picture.Act.{Act}
use Rattle.vk_picture.specs.declared.picture.Act.TheVariants as acts
use Rattle.vk_picture.specs.declared.picture.Column.{Column}
use Rattle.vk_picture.specs.declared.picture.EventRow.{EventRow}

-- Columns.

-- the column of a station, unless the last process was of it too
abbrev pub station_column : ℕ → ℕ → ℕ → List Column
station_column last place host = if host == last then [] else record { host = host; process = None; place = place } ∷ []

abbrev pub place_behind : ℕ → ℕ → ℕ → ℕ
place_behind last place host = if host == last then place else place + 1

-- a column for each station and behind it one for each of its processes, with so many columns before them, the last of this station
abbrev pub columns_of : ℕ → ℕ → List ProcessSpec → List Column
columns_of last place [] = []
columns_of last place (s ∷ ss) =
    station_column last place s.pid.host
    ++ record { host = s.pid.host; process = Some s.pid; place = place_behind last place s.pid.host }
    ∷ columns_of s.pid.host (place_behind last place s.pid.host + 1) ss

-- Places.

-- a column's line
abbrev pub column_x : Column → ℕ
column_x c = 100 + 110 * c.place

abbrev pub is_of_process : Pid → Column → Bool
is_of_process pid c = option_map_or (λ p. same_pid p pid) c.process false

abbrev pub is_of_station : ℕ → Column → Bool
is_of_station host c = c.host == host && is_none c.process

-- that of a process, and of a station
abbrev pub process_x : List Column → Pid → ℕ
process_x columns pid = option_map_or column_x (find (is_of_process pid) columns) 0

abbrev pub station_x : List Column → ℕ → ℕ
station_x columns host = option_map_or column_x (find (is_of_station host) columns) 0

-- where an event stands: a call and a collect on the line of their process, a tick and a delivery on that of their station
abbrev pub act_x : List Column → Act → ℕ
act_x columns (acts.Call pid kind partner) = process_x columns pid
act_x columns (acts.Collect pid) = process_x columns pid
act_x columns (acts.Tick host) = station_x columns host
act_x columns (acts.Deliver to from event output) = station_x columns to

-- the line of an event of this number
abbrev pub row_y : ℕ → ℕ
row_y number = 64 + 26 * number

-- where the lines of columns end
abbrev pub bottom_y : List EventRow → ℕ
bottom_y rows = row_y (length rows + 1)

-- the steps stand behind the last column
abbrev pub steps_x : List Column → ℕ
steps_x columns = 100 + 110 * length columns

-- the most steps of an event
abbrev pub most_steps : ℕ → List EventRow → ℕ
most_steps most [] = most
most_steps most (r ∷ rs) = most_steps (max most (length r.steps)) rs

-- no event has more steps than that many
abbrev pub width_of : List Column → List EventRow → ℕ
width_of columns rows = steps_x columns + 120 * min (most_steps 0 rows) STEPS + 20
