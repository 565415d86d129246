-- Of the code alone: logs that are played again.
use Rattle.std.specs.Prelude.{ℕ, ◌≡◌, ◌⊎◌, ◌<◌, ◌≤◌, List, [], ◌∷◌, ◌++◌, flat_map, length, map, slice_get, take, unwrap_or, Some}
use Rattle.std.specs.Option.{option_map_or}
use Rattle.vk_types.specs.Types.{StationEvent}
use Rattle.vk_base.specs.declared.event.StationEvent.TheVariants as events
use Rattle.vk_base.specs.Options.{◌>>=◌}
use Rattle.vk_base.specs.declared.limits.TheConstants.{EVENTS}
use Rattle.vk_base.specs.Settings.{Settings, stations_of}
use Rattle.vk_cluster.specs.declared.frames.TheConstants.{MOST_BYTES}
use Rattle.vk_cluster.specs.Piles.{pile_of}
use Rattle.vk_cluster.specs.Standing.{AreAt}
use Rattle.vk_join.specs.declared.log.JoinRefusal.{JoinRefusal}
use Rattle.vk_join.specs.declared.log.JoinRefusal.TheVariants as refusals
use Rattle.vk_schedule.specs.declared.log.StationLog.{StationLog}
use Rattle.vk_join.specs.declared.replay.Key.{Key}
use Rattle.vk_join.specs.declared.replay.Position.{Position}
use Rattle.vk_join.specs.declared.replay.Replay.{Replay}
use Rattle.vk_join.specs.Laws.{AreGiven}
use Rattle.vk_join.specs.Logs.{byte_count, entries_at, event_count}
use Rattle.vk_join.specs.Merges.{Turn, turns_behind}

-- all turns, log by log
abbrev pub turns_of : Settings → List StationLog → List Turn
turns_of c logs = flat_map (λ (l : StationLog). turns_behind c l.host [] l.events) logs

-- the turn that a key stands for, among these logs
abbrev pub event_for : List StationLog → Key → StationEvent
event_for logs k = unwrap_or (slice_get logs k.log >>= λ (l : StationLog). slice_get l.events k.at) events.Tick

abbrev pub host_for : List StationLog → Key → ℕ
host_for logs k = option_map_or (λ (l : StationLog). l.host) (slice_get logs k.log) 0

abbrev pub turn_for : List StationLog → Key → Turn
turn_for logs k = record { host = host_for logs k; number = k.number; event = event_for logs k }

-- these logs, and the first events of another one
abbrev pub front_of : List StationLog → StationLog → ℕ → List StationLog
front_of before l at = before ++ record { host = l.host; events = take at l.events } ∷ []

-- The stations of the configuration had the events of these logs, which stand at their places among all.
pub record HasReplayed (c : Settings) (all logs : List StationLog) (r : Replay) : Type 0 where
  pub at : AreAt c (entries_at c logs) r.hosts.items (pile_of r.emitted)
  pub turns : map (turn_for all) r.keys.items ≡ turns_of c logs
  pub bytes : length (pile_of r.emitted).bytes ≡ byte_count c logs
  pub most : byte_count c logs ≤ MOST_BYTES

-- The event of this log is the next that is played: it stands at this position, and all before it were played.
pub record IsNextPlayed (c : Settings) (all : List StationLog) (p : Position) (l : StationLog) (e : StationEvent)
    (r : Replay) : Type 0 where
  pub given : AreGiven c all
  pub few : event_count all ≤ EVENTS
  pub found : slice_get all p.log ≡ Some l
  pub there : slice_get l.events p.at ≡ Some e
  pub station : slice_get (stations_of c.specs) p.place ≡ Some l.host
  pub played : HasReplayed c all (front_of (take p.log all) l p.at) r

-- why logs are not played to their end
abbrev pub IsOverLimit : ℕ → JoinRefusal → Type 0
IsOverLimit bytes e = (e ≡ refusals.NoMemory) ⊎ ((e ≡ refusals.Limit) × (MOST_BYTES < bytes))
