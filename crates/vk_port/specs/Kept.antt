-- Internal. What a station keeps: its host stands for the entries of its history, and these are within its share.
use Rattle.std.specs.Prelude.{ℕ, ◌≡◌, ◌≤◌, ◌/◌, true, List, [], length}
use Rattle.vk_types.specs.Types.{ProcessSpec, StationEvent}
use Rattle.vk_base.specs.declared.event.StationEvent.TheVariants as events
use Rattle.vk_base.specs.declared.limits.TheConstants.{EVENTS, FRAME_BYTES, STATIONS}
use Rattle.vk_base.specs.Pids.{IsPid}
use Rattle.vk_base.specs.Settings.{AreLawful, Settings, has_station, stations_of}
use Rattle.vk_host.specs.Standing.{StandsAt}
use Rattle.vk_host.specs.Values.{StationValue}
use Rattle.vk_rules.specs.Each.{Each}
use Rattle.vk_rules.specs.Frames.{unsealed_of}
use Rattle.vk_rules.specs.Readings.{reading}
use Rattle.vk_text.specs.Laws.{IsReadable}
use Rattle.v_lawful.specs.Fitting.{IsFitting}
use Rattle.v_lawful.specs.Sending.{IsSentEntry, IsUnsealed}
use Rattle.vk_port.specs.declared.station.TheConstants.{EMITTED_BYTES}
use Rattle.vk_port.specs.Stations.{HadRoom, StationHistory, emitted_bytes, entries_at, is_own}

-- what is seen of the entries that a station keeps: the events with their callers, and the room for more
pub record EntryList : Type 0 where
  pub items : List (ℕ × StationEvent)
  pub spare : ℕ

-- an event that code can hold: numbers, pids, messages and bytes are such
abbrev pub IsHeldEvent : StationEvent → Type 0
IsHeldEvent (events.Call pid call) = IsPid pid × IsReadable call
IsHeldEvent (events.Collect pid) = Unit {0}
IsHeldEvent events.Tick = Unit {0}
IsHeldEvent (events.Deliver frame) = IsUnsealed (unsealed_of frame)

-- What callers see of a station with this configuration and host: with these entries, and before the first.
abbrev pub station_history : Settings → ℕ → EntryList → StationHistory
station_history c host list = record { config = c; host = host; history = list.items; spare = list.spare }

abbrev pub first_history : Settings → ℕ → StationHistory
first_history c host = record { config = c; host = host; history = []; spare = 0 }

-- The host stands for the entries that these events make. So many stations share, and so many bytes were emitted here.
pub record IsStationKept (c : Settings) (host : ℕ) (items : List (ℕ × StationEvent)) (s : StationValue) (stations bytes : ℕ) : Type 0 where
  pub same : s.host ≡ host
  pub lawful : AreLawful c
  pub pids : Each (λ (p : ProcessSpec). IsPid p.pid) c.specs
  pub station : has_station c.specs host ≡ true
  pub count : stations ≡ length (stations_of c.specs)
  pub few_stations : stations ≤ STATIONS
  pub some_station : 1 ≤ stations
  pub stands : StandsAt c (entries_at (first_history c host) items) s
  pub sent : Each IsSentEntry (entries_at (first_history c host) items)
  pub fitting : IsFitting c host (reading c host (entries_at (first_history c host) items))
  pub emitted : bytes ≡ emitted_bytes (entries_at (first_history c host) items)
  pub low : bytes ≤ EMITTED_BYTES / stations
  pub few : length items ≤ EVENTS / stations
  pub own : Each (λ (x : ℕ × StationEvent). is_own (first_history c host) x.1 ≡ true) items
  pub had_room : HadRoom (first_history c host) items

-- a frame that code can hold
abbrev pub IsFrameShort : List ℕ → Type 0
IsFrameShort bytes = length bytes ≤ FRAME_BYTES
