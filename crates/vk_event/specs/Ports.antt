-- Ports of stations: how their lines are read and spelled, and which scenarios have all that a station needs.
use Rattle.std.specs.Prelude.{◌≡◌, ℕ, ◌+◌, ◌<◌, ◌^◌, ◌==◌, ◌&&◌, nat_lt, Bool, true, List, [], ◌∷◌, length, decimal, codes, bytes_eq, Option, Some, None, if◌then◌else◌}
use Rattle.std.specs.List.{list_all, list_any}
use Rattle.std.specs.Option.{option_map_or}
use Rattle.vk_types.specs.Types.{ProcessSpec}
use Rattle.vk_base.specs.Options.{◌>>=◌}
use Rattle.vk_base.specs.Settings.{has_station}
use Rattle.vk_text.specs.Calls.{first_as, ended}
use Rattle.vk_text.specs.Lines.{lines_of, words_from}
use Rattle.vk_text.specs.Spelling.{joined}
use Rattle.vk_text.specs.Words.{positive_of, station_of}
use Rattle.vk_schedule.specs.Lawful.{IsStation}
use Rattle.vk_event.specs.declared.port.StationPort.{StationPort}
use Rattle.vk_event.specs.declared.port.TheConstants.{PORT}

-- What is read.

-- `H PORT`
unfoldable pub port_fields_of : List (List ℕ) → Option StationPort
port_fields_of ws =
    first_as station_of ws >>= λ (host, ws). first_as (positive_of PORT) ws >>= λ (port, ws). ended ws (record { host = host; port = port })

-- `port H PORT`
unfoldable pub port_of : List (List ℕ) → Option StationPort
port_of [] = None
port_of (w ∷ ws) = if bytes_eq w (codes "port") then port_fields_of ws else None

-- its station is one of these processes, and above this one
abbrev pub may_follow : List ProcessSpec → ℕ → StationPort → Bool
may_follow specs last p = has_station specs p.host && nat_lt last p.host

abbrev pub if_follows : List ProcessSpec → ℕ → StationPort → Option StationPort
if_follows specs last p = if may_follow specs last p then Some p else None

-- the port that the line tells, of a station above this one
abbrev pub port_above : List ProcessSpec → ℕ → List ℕ → Option StationPort
port_above specs last line = port_of (words_from line 0) >>= if_follows specs last

-- this port in front of what was found
abbrev pub with_port : StationPort → List StationPort × List (List ℕ) → List StationPort × List (List ℕ)
with_port p found = (p ∷ found.0, found.1)

-- the ports of rising stations above this one that the lines tell, up to the first line that tells none, and the lines from that one on
unfoldable pub ports_from : List ProcessSpec → ℕ → List (List ℕ) → List StationPort × List (List ℕ)
ports_from specs last [] = ([], [])
ports_from specs last (l ∷ ls) = option_map_or (λ p. with_port p (ports_from specs p.host ls)) (port_above specs last l) ([], l ∷ ls)

-- What is written.

abbrev pub port_words : StationPort → List (List ℕ)
port_words p = codes "port" ∷ decimal p.host ∷ decimal p.port ∷ []

abbrev pub port_text : StationPort → List ℕ
port_text p = joined (port_words p)

-- Which ports there may be.

-- each field is in its range
abbrev pub IsReadablePort : StationPort → Type 0
IsReadablePort p = IsStation p.host × (0 < p.port) × (p.port < 2 ^ 16)

-- ports of stations of these processes, which rise above this one
abbrev pub ArePortsAbove : List ProcessSpec → ℕ → List StationPort → Type 0
ArePortsAbove specs last [] = Unit {0}
ArePortsAbove specs last (p ∷ ps) = IsReadablePort p × (may_follow specs last p ≡ true) × ArePortsAbove specs p.host ps

-- ports of stations of these processes, by rising stations
abbrev pub AreStationPorts : List ProcessSpec → List StationPort → Type 0
AreStationPorts specs ports = ArePortsAbove specs 0 ports

-- What a station needs that runs in a program of its own.

abbrev pub has_port : List StationPort → ℕ → Bool
has_port ports host = list_any (λ p. p.host == host) ports

-- the station of each of these processes has a port
abbrev pub have_ports : List ProcessSpec → List StationPort → Bool
have_ports specs ports = list_all (λ s. has_port ports s.pid.host) specs

-- the host is one of these stations, and each of them has a port
abbrev pub has_all_ports : List ProcessSpec → List StationPort → ℕ → Bool
has_all_ports specs ports host = has_station specs host && have_ports specs ports

-- the number, from 1, of the line that would stand behind the last
abbrev pub line_behind : List ℕ → ℕ
line_behind text = length (lines_of text) + 1
