-- What a station's history makes of it, and what it answers.
use Rattle.std.specs.Prelude.{ℕ, ◌≡◌, ◌≤◌, ◌-◌, ◌/◌, ◌==◌, ◌&&◌, ◌||◌, Bool, true, false, Option, Some, List, [], ◌∷◌, ◌++◌, length, map, nat_le, nat_lt, sum_by}
use Rattle.vk_types.specs.Types.{EventAnswer, Pid, StationEvent}
use Rattle.v_lawful.specs.Sending.{most_packets}
use Rattle.vk_base.specs.declared.event.StationEvent.TheVariants as events
use Rattle.vk_base.specs.declared.limits.TheConstants.{EVENTS, LAST_NUMBER}
use Rattle.vk_base.specs.declared.step.Step.TheVariants as steps
use Rattle.vk_base.specs.Settings.{AreLawful, Settings, has_process, has_station, stations_of}
use Rattle.vk_base.specs.Steps.{is_allowed}
use Rattle.vk_host.specs.Sealed.{sealed}
use Rattle.vk_host.specs.Values.{input_of}
use Rattle.vk_rules.specs.Each.{Each}
use Rattle.vk_rules.specs.Entries.{Entry}
use Rattle.vk_rules.specs.Frames.{number_in, unsealed_of}
use Rattle.vk_rules.specs.Readings.{reading}
use Rattle.vk_rules.specs.Right.{entry_of}
use Rattle.vk_port.specs.declared.station.TheConstants.{EMITTED_BYTES, EVENT_BYTES}

-- A station, as callers see it: its configuration, which station it is, its history, and the room that is left for entries.
pub record StationHistory : Type 0 where
  pub config : Settings
  pub host : ℕ
  pub history : List (ℕ × StationEvent)
  pub spare : ℕ

-- the station before its first event
abbrev pub origin_of : StationHistory → StationHistory
origin_of s = record s { history = []; spare = 0 }

abbrev pub event_of : ℕ × StationEvent → StationEvent
event_of x = x.1

-- the entries of a station after these events, the first of which finds these entries; the newest entry comes first
abbrev pub entries_from : Settings → ℕ → List Entry → List StationEvent → List Entry
entries_from c host entries [] = entries
entries_from c host entries (e ∷ es) = entries_from c host (entry_of c host entries (input_of e) ∷ entries) es

abbrev pub entries_after : Settings → ℕ → List StationEvent → List Entry
entries_after c host es = entries_from c host [] es

-- the entries that a history makes
abbrev pub entries_at : StationHistory → List (ℕ × StationEvent) → List Entry
entries_at o history = entries_after o.config o.host (map event_of history)

-- the entry that an event makes behind a history, and the bytes of its frames
abbrev pub entry_at : StationHistory → List (ℕ × StationEvent) → StationEvent → Entry
entry_at o history e = entry_of o.config o.host (entries_at o history) (input_of e)

abbrev pub frames_at : StationHistory → List (ℕ × StationEvent) → StationEvent → List (List ℕ)
frames_at o history e = map sealed (entry_at o history e).frames

-- how many bytes the frames of an entry have, and those of all entries
abbrev pub bytes_of : Entry → ℕ
bytes_of e = sum_by length (map sealed e.frames)

abbrev pub emitted_bytes : List Entry → ℕ
emitted_bytes es = sum_by bytes_of es

-- each station has its share of the events and of the emitted bytes of a run
abbrev pub most_entries : Settings → ℕ
most_entries c = EVENTS / length (stations_of c.specs)

abbrev pub share_of_bytes : Settings → ℕ
share_of_bytes c = EMITTED_BYTES / length (stations_of c.specs)

-- it brings a frame whose header bears the greatest Lamport number
abbrev pub brings_last_number : StationEvent → Bool
brings_last_number (events.Deliver frame) = number_in (unsealed_of frame) == LAST_NUMBER
brings_last_number e = false

-- The history may not grow any more: its share of entries is used up, or its share of bytes but for the bytes that one event may have.
abbrev pub is_used_up_by : (entries bytes stations : ℕ) → Bool
is_used_up_by entries bytes stations = nat_le (EVENTS / stations) entries || nat_lt (EMITTED_BYTES / stations - EVENT_BYTES) bytes

abbrev pub is_used_up : StationHistory → List (ℕ × StationEvent) → Bool
is_used_up o history = is_used_up_by (length history) (emitted_bytes (entries_at o history)) (length (stations_of o.config.specs))

abbrev pub is_full : StationHistory → List (ℕ × StationEvent) → StationEvent → Bool
is_full o history e = is_used_up o history || brings_last_number e

-- the process is one of the station
abbrev pub is_process_of : StationHistory → Pid → Bool
is_process_of o pid = has_process o.config.specs pid && (pid.host == o.host)

-- the event is one of the station: its process is
abbrev pub is_own : StationHistory → StationEvent → Bool
is_own o (events.Call pid call) = is_process_of o pid
is_own o (events.Collect pid) = is_process_of o pid
is_own o e = true

-- a collect is ready once its process, one of the station, is done; all else is at any time
abbrev pub is_ready : StationHistory → List (ℕ × StationEvent) → StationEvent → Bool
is_ready o history (events.Collect pid) =
    is_process_of o pid && is_allowed (reading o.config o.host (entries_at o history)).view (steps.Collect pid)
is_ready o history e = true

-- the station's tick
abbrev pub tick_of : StationHistory → ℕ
tick_of s = (reading s.config s.host (entries_at s s.history)).now

-- The place for what an event gives: the answer of the last event, `None` before the first; its frames; and for how many there is room.
pub record EntryShown : Type 0 where
  pub answer : Option EventAnswer
  pub frames : List (List ℕ)
  pub room : ℕ

-- what is shown of an entry
abbrev pub entry_shown : ℕ → Entry → EntryShown
entry_shown room e = record { answer = Some e.answer; frames = map sealed e.frames; room = room }

-- how many frames an event may have
abbrev pub most_frames : StationEvent → ℕ
most_frames e = most_packets (input_of e)

-- each entry was made where the history might grow by it
abbrev pub HadRoom : StationHistory → List (ℕ × StationEvent) → Type 0
HadRoom o history =
    (before rest : List (ℕ × StationEvent)) (x : ℕ × StationEvent) → history ≡ before ++ x ∷ rest → is_full o before x.1 ≡ false

-- What is true of every history of a station: its configuration has no fault, and has the station; the events are the station's own; each
-- was entered where there was room, and all are within the station's share.
pub record IsLawfulHistory (o : StationHistory) : Type 0 where
  pub lawful : AreLawful o.config
  pub station : has_station o.config.specs o.host ≡ true
  pub own : Each (λ (x : ℕ × StationEvent). is_own o x.1 ≡ true) o.history
  pub had_room : HadRoom o o.history
  pub entries : length o.history ≤ most_entries o.config
  pub bytes : emitted_bytes (entries_at o o.history) ≤ share_of_bytes o.config
