-- Of the code alone: keys of logs, made from their events.
use Rattle.std.specs.Prelude.{ℕ, ◌≡◌, ◌+◌, min, max, List, map}
use Rattle.vk_base.specs.declared.limits.TheConstants.{LAST_NUMBER}
use Rattle.vk_base.specs.Settings.{Settings}
use Rattle.vk_rules.specs.Entries.{Delivered, Input}
use Rattle.vk_rules.specs.Frames.{number_in}
use Rattle.vk_schedule.specs.declared.log.StationLog.{StationLog}
use Rattle.vk_join.specs.declared.replay.Key.{Key}
use Rattle.vk_join.specs.Replays.{turn_for, turns_of}

-- the Lamport number that an input's entry has behind one with that number
abbrev pub number_behind : ℕ → Input → ℕ
number_behind last (Delivered o) = min (max last (number_in o) + 1) LAST_NUMBER
number_behind last i = min (last + 1) LAST_NUMBER

-- The keys stand for all turns of these logs, which stand at their places among all. No number is a matter of the configuration.
abbrev pub AreKeys : List StationLog → List StationLog → List Key → Type 0
AreKeys all logs keys = (c : Settings) → map (turn_for all) keys ≡ turns_of c logs
