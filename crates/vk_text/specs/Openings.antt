-- What the texts of schedules and scenarios begin with, in one of two formats. Format 1 is a title and the processes. Format 2
-- is another title, the times, the processes, and behind them pools of stations.
use Rattle.std.specs.Prelude.{◌≡◌, ℕ, ◌+◌, ◌-◌, ◌==◌, ◌<◌, ◌&&◌, ◌⊎◌, Bool, false, List, [], ◌∷◌, ◌++◌, length, map, flat_map, decimal, codes, bytes_eq, Option, Some, None, Result, Ok, Err, if◌then◌else◌}
use Rattle.std.specs.List.{list_all, AllByRecursion}
use Rattle.std.specs.Option.{option_map_or}
use Rattle.vk_types.specs.Types.{ProcessSpec, Times}
use Rattle.vk_base.specs.declared.limits.TheConstants.{INTERVAL, LIFE, POOL, TRIES}
use Rattle.vk_base.specs.Options.{◌>>=◌}
use Rattle.vk_base.specs.Pids.{IsPid}
use Rattle.vk_base.specs.Settings.{AreLawful, Settings, pool_of, stations_of}
use Rattle.vk_text.specs.Calls.{first_as, ended}
use Rattle.vk_text.specs.Heads.{HasNoFeed, line_text, process_of, process_text, processes_from, settings_of, usual_pool, usual_times}
use Rattle.vk_text.specs.Lines.{words_from}
use Rattle.vk_text.specs.Spelling.{joined}
use Rattle.vk_text.specs.Words.{number_of, positive_of, station_of}

-- What is read.

-- `TRIES INTERVAL LIFE`
unfoldable pub times_fields_of : List (List ℕ) → Option Times
times_fields_of ws =
    first_as (positive_of TRIES) ws >>= λ (tries, ws). first_as (positive_of INTERVAL) ws >>= λ (interval, ws).
    first_as (number_of LIFE) ws >>= λ (life, ws). ended ws (record { tries = tries; interval = interval; life = life })

-- `times TRIES INTERVAL LIFE`
unfoldable pub times_of : List (List ℕ) → Option Times
times_of [] = None
times_of (w ∷ ws) = if bytes_eq w (codes "times") then times_fields_of ws else None

-- `HOST POOL`
unfoldable pub pool_fields_of : List (List ℕ) → Option (ℕ × ℕ)
pool_fields_of ws = first_as station_of ws >>= λ (host, ws). first_as (positive_of POOL) ws >>= λ (pool, ws). ended ws (host, pool)

-- `pool HOST POOL`
unfoldable pub pool_line_of : List (List ℕ) → Option (ℕ × ℕ)
pool_line_of [] = None
pool_line_of (w ∷ ws) = if bytes_eq w (codes "pool") then pool_fields_of ws else None

-- the pool that a line tells, where it is that of this station
abbrev pub if_of : ℕ → ℕ × ℕ → Option ℕ
if_of host p = if p.0 == host then Some p.1 else None

-- the pool that the first of these lines tells of the station, and the lines behind
unfoldable pub first_pool : ℕ → List (List ℕ) → Option (ℕ × List (List ℕ))
first_pool host [] = None
first_pool host (l ∷ ls) = pool_line_of (words_from l 0) >>= λ told. if_of host told >>= λ pool. Some (pool, ls)

abbrev pub behind_pool : ℕ → List ℕ × List (List ℕ) → List ℕ × List (List ℕ)
behind_pool pool rest = (pool ∷ rest.0, rest.1)

-- The pools of these stations, in order, and the lines left: each station has the pool of the first line left, where that tells
-- one of it, else 16.
unfoldable pub pools_from : List ℕ → List (List ℕ) → List ℕ × List (List ℕ)
pools_from [] ls = ([], ls)
pools_from (h ∷ hs) ls =
    option_map_or (λ told. behind_pool told.0 (pools_from hs told.1)) (first_pool h ls) (behind_pool usual_pool (pools_from hs ls))

-- the configuration of these processes, and of the pools that the lines behind them tell
abbrev pub with_pools : Times → List ProcessSpec × List (List ℕ) → Settings × List (List ℕ)
with_pools t found =
    let pools = pools_from (stations_of found.0) found.1 in (record { times = t; pools = pools.0; specs = found.0 }, pools.1)

abbrev pub plain_opening : List (List ℕ) → Settings × List (List ℕ)
plain_opening ls = let found = processes_from [] ls in (settings_of found.0, found.1)

abbrev pub timed_opening : List (List ℕ) → Result (Settings × List (List ℕ)) ℕ
timed_opening [] = Err 2
timed_opening (l ∷ ls) = option_map_or (λ t. Ok (with_pools t (processes_from [] ls))) (times_of (words_from l 0)) (Err 2)

-- The configuration that the lines begin with, and the lines behind; or the number of the line that is neither of the two titles,
-- or no times. The first title is that of format 1.
unfoldable pub opening_of : List ℕ → List ℕ → List (List ℕ) → Result (Settings × List (List ℕ)) ℕ
opening_of plain timed [] = Err 1
opening_of plain timed (l ∷ ls) =
    if bytes_eq l plain then Ok (plain_opening ls)
    else if bytes_eq l timed then timed_opening ls
    else Err 1

-- a process stands there
abbrev pub HasProcesses : Result (Settings × List (List ℕ)) ℕ → Type 0
HasProcesses (Ok opened) = 0 < length opened.0.specs
HasProcesses (Err n) = ⊥

-- the number, from 1, of the first of the lines that are left of these
abbrev pub line_number : List (List ℕ) → List (List ℕ) → ℕ
line_number lines left = length lines + 1 - length left

-- What is written.

abbrev pub times_words : Times → List (List ℕ)
times_words t = codes "times" ∷ decimal t.tries ∷ decimal t.interval ∷ decimal t.life ∷ []

abbrev pub times_text : Times → List ℕ
times_text t = joined (times_words t)

abbrev pub pool_words : ℕ → ℕ → List (List ℕ)
pool_words host pool = codes "pool" ∷ decimal host ∷ decimal pool ∷ []

abbrev pub pool_text : ℕ → ℕ → List ℕ
pool_text host pool = joined (pool_words host pool)

-- format 1 tells of it
abbrev pub same_times : Times → Times → Bool
same_times s t = s.tries == t.tries && s.interval == t.interval && s.life == t.life

abbrev pub has_usual_pool : Settings → ℕ → Bool
has_usual_pool c host = pool_of c host == usual_pool

abbrev pub is_usual : Settings → Bool
is_usual c = same_times c.times usual_times && list_all (has_usual_pool c) (stations_of c.specs)

-- the line of a station's pool, where that is not 16
abbrev pub pool_lines : Settings → ℕ → List (List ℕ)
pool_lines c host = if has_usual_pool c host then [] else pool_text host (pool_of c host) ∷ []

abbrev pub timed_lines : List ℕ → Settings → List (List ℕ)
timed_lines title c = title ∷ times_text c.times ∷ (map process_text c.specs ++ flat_map (pool_lines c) (stations_of c.specs))

-- format 1 exactly where the times and all pools are the usual ones
abbrev pub opening_lines : List ℕ → List ℕ → Settings → List (List ℕ)
opening_lines plain timed c = if is_usual c then plain ∷ map process_text c.specs else timed_lines timed c

abbrev pub opening_text : List ℕ → List ℕ → Settings → List ℕ
opening_text plain timed c = flat_map line_text (opening_lines plain timed c)

-- Laws.

-- Lines that tell pools of these stations: each at most one line, in order, and one at least where its pool is not 16.
abbrev pub TellPools : List ℕ → List ℕ → List (List ℕ) → Type 0
TellPools (h ∷ hs) (k ∷ ks) ls =
    ((k ≡ usual_pool) × TellPools hs ks ls) ⊎ ((rest : List (List ℕ)) × (ls ≡ pool_text h k ∷ rest) × TellPools hs ks rest)
TellPools hosts pools ls = (hosts ≡ []) × (pools ≡ []) × (ls ≡ [])

-- The lines are an opening of this configuration. Format 1 has one of each that it tells; format 2 may also tell what is usual.
abbrev pub IsOpening : List ℕ → List ℕ → Settings → List (List ℕ) → Type 0
IsOpening plain timed c ls =
    ((c ≡ settings_of c.specs) × (ls ≡ plain ∷ map process_text c.specs))
    ⊎ ((pools : List (List ℕ)) × TellPools (stations_of c.specs) c.pools pools
    × (ls ≡ timed ∷ times_text c.times ∷ (map process_text c.specs ++ pools)))

-- a configuration that a text can tell
pub record IsTellable (c : Settings) : Type 0 where
  pub lawful : AreLawful c
  pub pids : AllByRecursion (λ p. IsPid p.pid) c.specs

-- the first of these lines, where there is one, tells of no process and of no pool
abbrev pub BeginsNoHead : List (List ℕ) → Type 0
BeginsNoHead [] = Unit {0}
BeginsNoHead (l ∷ ls) = (process_of (words_from l 0) ≡ None) × (pool_line_of (words_from l 0) ≡ None)

-- each opening is read as its configuration, whatever lines stand behind it, unless they begin with a process or a pool more
abbrev pub OpeningsReadBack : Type 0
OpeningsReadBack = (plain timed : List ℕ) (c : Settings) (ls body : List (List ℕ)) →
    bytes_eq timed plain ≡ false → IsTellable c → IsOpening plain timed c ls → BeginsNoHead body →
    opening_of plain timed (ls ++ body) ≡ Ok (c, body)

-- what is read is an opening of a configuration that a text can tell, and the lines behind it
abbrev pub OpeningsAreSpelled : Type 0
OpeningsAreSpelled = (plain timed : List ℕ) (lines body : List (List ℕ)) (c : Settings) →
    opening_of plain timed lines ≡ Ok (c, body) →
    IsTellable c × ((ls : List (List ℕ)) × IsOpening plain timed c ls × (lines ≡ ls ++ body))

-- what is written is an opening
abbrev pub OpeningsAreWritten : Type 0
OpeningsAreWritten = (plain timed : List ℕ) (c : Settings) → AreLawful c → IsOpening plain timed c (opening_lines plain timed c)

-- no line of an opening has a line feed
abbrev pub OpeningsHaveNoFeed : Type 0
OpeningsHaveNoFeed = (plain timed : List ℕ) (c : Settings) (ls : List (List ℕ)) →
    HasNoFeed plain → HasNoFeed timed → IsTellable c → IsOpening plain timed c ls → AllByRecursion HasNoFeed ls
