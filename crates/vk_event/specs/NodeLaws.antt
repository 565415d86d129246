-- Texts of stations: which logs they tell, how they are spelled, and that reading is the inverse of spelling.
use Rattle.std.specs.Prelude.{◌≡◌, ℕ, ◌<◌, ◌≤◌, ◌⊎◌, true, false, List, [], ◌∷◌, ◌++◌, length, map, flat_map, decimal, codes, Ok}
use Rattle.std.specs.List.{list_all, AllByRecursion}
use Rattle.hex.specs.Hex.{IsBytes, encode_lower}
use Rattle.vk_types.specs.Types.{StationEvent}
use Rattle.vk_base.specs.declared.event.StationEvent.TheVariants as events
use Rattle.vk_base.specs.declared.limits.TheConstants.{EVENTS, FRAME_BYTES, HEADER_BYTES}
use Rattle.vk_base.specs.Pids.{IsPid}
use Rattle.vk_base.specs.Settings.{Settings, has_station, stations_of}
use Rattle.vk_text.specs.Heads.{line_text, process_text}
use Rattle.vk_text.specs.Laws.{IsReadable}
use Rattle.vk_text.specs.Openings.{IsTellable, TellPools, timed_lines, times_text}
use Rattle.vk_text.specs.Spelling.{call_words, joined, pid_text}
use Rattle.vk_event.specs.declared.node.NodeTexts.{NodeTexts}
use Rattle.vk_schedule.specs.declared.log.StationLog.{StationLog}
use Rattle.vk_event.specs.Nodes.{event_count, has_log, is_own, node_title, nodes_of}

-- Which logs there are.

-- more bytes than a header has, and at most 1,152
pub record IsFrame (frame : List ℕ) : Type 0 where
  pub more : HEADER_BYTES < length frame
  pub most : length frame ≤ FRAME_BYTES
  pub bytes : IsBytes frame

-- each field of the event is in its range
abbrev pub IsReadableOwn : StationEvent → Type 0
IsReadableOwn (events.Call pid call) = IsPid pid × IsReadable call
IsReadableOwn (events.Collect pid) = IsPid pid
IsReadableOwn events.Tick = Unit {0}
IsReadableOwn (events.Deliver frame) = IsFrame frame

-- the host is a station of the configuration, and each event is one of it
pub record IsLawfulLog (c : Settings) (l : StationLog) : Type 0 where
  pub station : has_station c.specs l.host ≡ true
  pub ranges : AllByRecursion IsReadableOwn l.events
  pub own : list_all (is_own c.specs l.host) l.events ≡ true

-- no host has two logs
abbrev pub HostsDiffer : List StationLog → Type 0
HostsDiffer [] = Unit {0}
HostsDiffer (l ∷ ls) = (has_log ls l.host ≡ false) × HostsDiffer ls

-- the configuration is one that a text can tell; there is a log; each is one of a station, and no two are of the same; there are not too
-- many events in all
pub record IsLawfulNodes (n : NodeTexts) : Type 0 where
  pub told : IsTellable n.config
  pub some : 0 < length n.logs
  pub logs : AllByRecursion (IsLawfulLog n.config) n.logs
  pub differ : HostsDiffer n.logs
  pub few : event_count n.logs ≤ EVENTS

-- How they are spelled.

-- the words of an event's line
abbrev pub own_words : StationEvent → List (List ℕ)
own_words (events.Call pid call) = codes "call" ∷ pid_text pid ∷ call_words call
own_words (events.Collect pid) = codes "collect" ∷ pid_text pid ∷ []
own_words events.Tick = codes "tick" ∷ []
own_words (events.Deliver frame) = codes "frame" ∷ encode_lower frame ∷ []

abbrev pub own_text : StationEvent → List ℕ
own_text e = joined (own_words e)

abbrev pub station_text : ℕ → List ℕ
station_text host = joined (codes "station" ∷ decimal host ∷ [])

-- the lines of one station's text, behind this opening
abbrev pub log_lines : List (List ℕ) → StationLog → List (List ℕ)
log_lines opening l = opening ++ station_text l.host ∷ map own_text l.events

-- the text that is written of one station
abbrev pub node_text : Settings → ℕ → List StationEvent → List ℕ
node_text c host es = flat_map line_text (timed_lines node_title c ++ station_text host ∷ map own_text es)

-- the lines are an opening of this configuration: the pools that are not 16 stand in it, and others may
abbrev pub IsNodeOpening : Settings → List (List ℕ) → Type 0
IsNodeOpening c opening =
    (pools : List (List ℕ)) × TellPools (stations_of c.specs) c.pools pools
    × (opening ≡ node_title ∷ times_text c.times ∷ (map process_text c.specs ++ pools))

-- the texts of these logs with this opening, one directly behind the other
abbrev pub nodes_text : List (List ℕ) → List StationLog → List ℕ
nodes_text opening logs = flat_map line_text (flat_map (log_lines opening) logs)

-- a configuration and the log of one station
abbrev pub one_log : Settings → ℕ → List StationEvent → NodeTexts
one_log c host es = record { config = c; logs = record { host = host; events = es } ∷ [] }

-- Laws.

-- a text that reads as logs is texts of them, of which all have the same opening, but that the last line feed may lack
abbrev pub NodesAreSpelled : Type 0
NodesAreSpelled =
    (text : List ℕ) (n : NodeTexts) → nodes_of text ≡ Ok n →
    (opening : List (List ℕ)) × IsNodeOpening n.config opening
    × ((text ≡ nodes_text opening n.logs) ⊎ (text ++ codes "\n" ≡ nodes_text opening n.logs))

-- all texts of lawful logs with the same opening read as them
abbrev pub NodesReadBack : Type 0
NodesReadBack =
    (n : NodeTexts) (opening : List (List ℕ)) → IsLawfulNodes n → IsNodeOpening n.config opening →
    nodes_of (nodes_text opening n.logs) ≡ Ok n

-- and no other logs have texts
abbrev pub OnlyLawfulNodesAreRead : Type 0
OnlyLawfulNodesAreRead = (text : List ℕ) (n : NodeTexts) → nodes_of text ≡ Ok n → IsLawfulNodes n
