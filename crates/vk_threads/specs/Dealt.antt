-- Seats that are dealt to ports, and the jobs that have them.
use Rattle.std.specs.Prelude.{ℕ, ◌≡◌, ◌++◌, Bool, true, false, Option, Some, Result, Ok, Err, List, [], ◌∷◌, length, map}
use Rattle.vk_types.specs.Types.{Answer, Call, StationEvent}
use Rattle.turn_cell.specs.Seats.{Cell, IsSeatOf, Sitting, fresh}
use Rattle.vk_hub.specs.declared.event.HubEvent.{HubEvent}
use Rattle.vk_hub.specs.Hubs.{HubLog}
use Rattle.vk_port.specs.Ports.{PortValue, stand_of}
use Rattle.vk_port.specs.Stations.{StationHistory, is_process_of}
use Rattle.vk_rules.specs.Each.{Each}
use Rattle.v_run.specs.Passages.{Pumps, Role, Runs, nowhere}
use Rattle.vk_threads.specs.declared.opening.Site.{Site}
use Rattle.vk_threads.specs.declared.opening.Spare.{Spare}
use Rattle.vk_program.specs.declared.assigned.Assigned.{Assigned}
use Rattle.vk_threads.specs.declared.work.RunJob.{RunJob}
use Rattle.vk_threads.specs.declared.work.RunJob.TheVariants as works
use Rattle.vk_threads.specs.Duties.{ClockDuty}
use Rattle.vk_threads.specs.Ended.{cell_at}
use Rattle.vk_threads.specs.Jobs.{ends_as, ports_of, roles_of}
use Rattle.vk_io.specs.Crews.{AllEnd}
use Rattle.vk_threads.specs.declared.end.End.{End}
use Rattle.vk_threads.specs.declared.record.RunRefusal.{RunRefusal}
use Rattle.vk_threads.specs.declared.record.RunRefusal.TheVariants as refusals
use Rattle.vk_threads.specs.Opened.{count_of, spare_at}

abbrev pub spare_host : Spare → ℕ
spare_host s = s.host

-- the station has a cell among these
abbrev pub HasSite : List Site → ℕ → Type 0
HasSite sites h = (cell : Cell StationHistory) × (cell_at sites h ≡ Some cell)

-- a seat of its station's cell, just made
pub record IsSpare (sites : List Site) (s : Spare) : Type 0 where
  pub cell : Cell StationHistory
  pub there : cell_at sites s.host ≡ Some cell
  pub of : cell.origin.host ≡ s.host
  pub number : ℕ
  pub seat : s.seat ≡ fresh cell number

-- a seat of the hub, just made
abbrev pub IsNewAt : Cell HubLog → Sitting HubLog HubEvent → Type 0
IsNewAt hub seat = (number : ℕ) × (seat ≡ fresh hub number)

-- For each of these stations, as often as it stands there, there is a seat of its own, and one of the hub.
pub record IsStocked (sites : List Site) (hub : Cell HubLog) (spares : List Spare) (hub_seats : List (Sitting HubLog HubEvent))
    (wanted : List ℕ) : Type 0 where
  pub each : Each (IsSpare sites) spares
  pub counts : (h : ℕ) → count_of h (map spare_host spares) ≡ count_of h wanted
  pub at_hub : Each (IsNewAt hub) hub_seats
  pub all : length hub_seats ≡ length wanted

-- there is one for these first of all
abbrev pub AreDue : (List ℕ → Type 0) → List ℕ → Type 0
AreDue Stocked hosts = (rest : List ℕ) × Stocked (hosts ++ rest)

-- it was taken out of the spares
abbrev pub IsTaken : ℕ → List Spare → Sitting StationHistory StationEvent → List Spare → Type 0
IsTaken host old seat new = (front behind : List Spare) × (old ≡ front ++ spare_at host seat ∷ behind) × (new ≡ front ++ behind)

-- A port at this station, with seats that were just made.
pub record IsPort (sites : List Site) (hub : Cell HubLog) (may_tick : Bool) (host : ℕ) (p : PortValue) : Type 0 where
  pub at : p.host ≡ host
  pub cell : cell_at sites host ≡ Some p.station
  pub at_hub : p.hub ≡ hub
  pub seat : IsSeatOf p.station p.seat
  pub hub_seat : IsSeatOf hub p.hub_seat
  pub new : stand_of p ≡ nowhere
  pub ticks : p.ticks ≡ may_tick

abbrev pub ArePorts : List Site → Cell HubLog → Bool → List ℕ → List PortValue → Type 0
ArePorts sites hub may_tick [] [] = Unit {0}
ArePorts sites hub may_tick (h ∷ hs) (p ∷ ps) = IsPort sites hub may_tick h p × ArePorts sites hub may_tick hs ps
ArePorts sites hub may_tick hs ps = ⊥

-- A job with one port, at this station and in this role.
pub record IsJobAt {G P : Type 0} (task : G → List Answer → Option Call) (sites : List Site) (hub : Cell HubLog) (duty : ℕ × Role)
    (w : RunJob G P) : Type 0 where
  pub port : PortValue
  pub ports : ports_of w ≡ port ∷ []
  pub roles : roles_of task w ≡ duty.1 ∷ []
  pub is : IsPort sites hub false duty.0 port

abbrev pub AreJobsAt : {G P : Type 0} → (G → List Answer → Option Call) → List Site → Cell HubLog → List (ℕ × Role) → List (RunJob G P)
    → Type 0
AreJobsAt task sites hub [] [] = Unit {0}
AreJobsAt task sites hub (d ∷ ds) (w ∷ ws) = IsJobAt task sites hub d w × AreJobsAt task sites hub ds ws
AreJobsAt task sites hub ds ws = ⊥

-- what a program's job and the job that delivers at a station are for
abbrev pub runs_by : {G : Type 0} → (G → List Answer → Option Call) → Assigned G → ℕ × Role
runs_by task a = (a.pid.host, Runs a.pid (task a.program))

abbrev pub pumps_at : ℕ → ℕ × Role
pumps_at h = (h, Pumps)

abbrev pub host_of : {G : Type 0} → Assigned G → ℕ
host_of a = a.pid.host

-- the process is one of its station, whose cell is among these
abbrev pub IsOwnAt : {G : Type 0} → List Site → Assigned G → Type 0
IsOwnAt sites a = (cell : Cell StationHistory) → cell_at sites a.pid.host ≡ Some cell → is_process_of cell.origin a.pid ≡ true

-- the stations of all ports: those of the programs, and each station twice, for what delivers there and for the clock
abbrev pub hosts_for : {G : Type 0} → List (Assigned G) → List ℕ → List ℕ
hosts_for programs stations = map host_of programs ++ stations ++ stations

-- THE JOBS OF A RUN: one for each program, one for each station that delivers there, and the clock.
pub record AreDealt {G P : Type 0} (task : G → List Answer → Option Call) (sites : List Site) (hub : Cell HubLog)
    (programs : List (Assigned G)) (stations : List ℕ) (rounds : ℕ) (jobs : List (RunJob G P)) : Type 0 where
  pub first : List (RunJob G P)
  pub clock : ClockDuty
  pub all : jobs ≡ first ++ works.Clock clock ∷ []
  pub each : AreJobsAt task sites hub (map (runs_by task) programs ++ map pumps_at stations) first
  pub ports : ArePorts sites hub true stations clock.ports
  pub so_many : clock.rounds ≡ rounds

-- All jobs were run, and ended so; the seat of the halt is as it was.
pub record HasRunJobs (G P : Type 0) (task : G → List Answer → Option Call) (sites : List Site) (hub : Cell HubLog)
    (programs : List (Assigned G)) (stations : List ℕ) (rounds : ℕ) (ends : List End) (halt : Sitting HubLog HubEvent) : Type 0 where
  pub jobs : List (RunJob G P)
  pub dealt : AreDealt task sites hub programs stations rounds jobs
  pub each_end : AllEnd (ends_as task) jobs ends
  pub seat : IsSeatOf hub halt
  pub unhalted : halt.mine ≡ []

-- what the call of the crew does to its count of jobs
abbrev pub TellsJobs : {T : Type 0} → (before grown now : ℕ) → Result T RunRefusal → Type 0
TellsJobs before grown now (Ok r) = now ≡ grown
TellsJobs before grown now (Err refusals.CrewFault) = now ≡ before
TellsJobs before grown now (Err refusals.NoMemory) = now ≡ before
