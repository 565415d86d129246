-- Where the code stands in texts of stations. No law rests on it.
use Rattle.std.specs.Prelude.{◌≡◌, ◌⊎◌, ℕ, ◌<◌, true, List, [], length, take, drop, Result, Ok, Err}
use Rattle.vk_base.specs.Settings.{Settings, has_station}
use Rattle.vk_text.specs.Lines.{lines_of}
use Rattle.vk_schedule.specs.declared.schedule.TextRefusal.{TextRefusal}
use Rattle.vk_schedule.specs.declared.schedule.TextRefusal.TheVariants as refusals
use Rattle.vk_schedule.specs.declared.log.StationLog.{StationLog}
use Rattle.vk_event.specs.declared.node_place.Due.{Due}
use Rattle.vk_event.specs.declared.node_place.Due.TheVariants as dues
use Rattle.vk_event.specs.Nodes.{Reading, all_read, line_read, nodes_from}

-- so many lines of the text from a place on
abbrev pub lines_at : List ℕ → ℕ → ℕ → List (List ℕ)
lines_at text at count = take count (lines_of (drop at text))

-- what is left of an opening are lines of the text
abbrev pub reading_by : List ℕ → List StationLog → Due → Reading
reading_by text logs (dues.Opening at left) = Reading.Opening logs (lines_at text at left)
reading_by text logs (dues.Events log) = Reading.Events logs log

-- the log that is read is that of a station
abbrev pub IsOfStation : Settings → Due → Type 0
IsOfStation c (dues.Opening at left) = Unit {0}
IsOfStation c (dues.Events log) = has_station c.specs log.host ≡ true

-- what comes of a line: these logs are whole then, and this is due; or why it is refused
abbrev pub IsRead : Settings → List (List ℕ) → ℕ → Reading → List ℕ → List ℕ → List StationLog → Result Due TextRefusal → Type 0
IsRead c opening n before line text logs (Ok due) =
    (line_read c opening n before line ≡ Ok (reading_by text logs due)) × IsOfStation c due
IsRead c opening n before line text logs (Err e) =
    ((e ≡ refusals.NoMemory) × (0 < length c.specs)) ⊎ (line_read c opening n before line ≡ Err e)

-- what the texts tell, where these logs are whole, this is due and no line is left; or why they are refused
abbrev pub IsEnd : ℕ → List StationLog → Due → Result (List StationLog) TextRefusal → Type 0
IsEnd n logs due (Ok whole) = (c : Settings) (text : List ℕ) →
    all_read c n (reading_by text logs due) ≡ Ok (record { config = c; logs = whole })
IsEnd n logs due (Err e) =
    (c : Settings) (text : List ℕ) → IsOfStation c due →
    ((e ≡ refusals.NoMemory) × (0 < length c.specs)) ⊎ (all_read c n (reading_by text logs due) ≡ Err e)

-- what the texts tell from these lines on, where the station of the first stands; or why they are refused
abbrev pub AreLogs : Settings → List (List ℕ) → ℕ → List (List ℕ) → Result (List StationLog) TextRefusal → Type 0
AreLogs c opening n lines (Ok logs) = nodes_from c opening n (Reading.Opening [] []) lines ≡ Ok (record { config = c; logs = logs })
AreLogs c opening n lines (Err e) =
    ((e ≡ refusals.NoMemory) × (0 < length c.specs)) ⊎ (nodes_from c opening n (Reading.Opening [] []) lines ≡ Err e)
