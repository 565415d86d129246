-- When a cluster stands for the events so far, and what a step does.
use Rattle.std.specs.Prelude.{ℕ, Bool, true, false, ◌≡◌, ◌+◌, ◌≤◌, List, [], ◌∷◌, ◌++◌, length, map, slice_get, sum_by, Option, Some, None}
use Rattle.vk_types.specs.Types.{ProcessSpec}
use Rattle.vk_base.specs.declared.limits.TheConstants.{EVENTS}
use Rattle.vk_base.specs.Pids.{IsPid}
use Rattle.vk_base.specs.Settings.{AreLawful, Settings, stations_of}
use Rattle.vk_schedule.specs.declared.event.Event.{Event}
use Rattle.vk_rules.specs.Each.{Each}
use Rattle.vk_rules.specs.Entries.{Entry}
use Rattle.vk_rules.specs.Histories.{At, Happened, Logs, Missing, happened, history_of, logs_from, no_entries}
use Rattle.vk_rules.specs.Readings.{reading}
use Rattle.v_lawful.specs.Fitting.{IsFitting}
use Rattle.v_lawful.specs.Sending.{IsSentEntry}
use Rattle.v_whole.specs.Schedules.{AreOfProcesses}
use Rattle.vk_host.specs.declared.response.Response.{Response}
use Rattle.vk_host.specs.Responses.{answer_of}
use Rattle.vk_host.specs.Sealed.{sealed}
use Rattle.vk_host.specs.Standing.{StandsAt, Shows}
use Rattle.vk_host.specs.Values.{StationValue}
use Rattle.vk_cluster.specs.declared.report.Advance.{Advance}
use Rattle.vk_cluster.specs.declared.report.Advance.TheVariants as advances
use Rattle.vk_cluster.specs.declared.report.ClusterAnswer.TheVariants as answers
use Rattle.vk_cluster.specs.declared.report.ClusterRefusal.{ClusterRefusal}
use Rattle.vk_cluster.specs.declared.report.ClusterRefusal.TheVariants as refusals
use Rattle.vk_cluster.specs.declared.report.StepReport.{StepReport}
use Rattle.vk_cluster.specs.Found.{sealed_events}
use Rattle.vk_cluster.specs.Piles.{IsAdded, IsPileKept, Pile, frames_by_event}
use Rattle.vk_cluster.specs.Values.{ClusterValue}

-- the entries of each station after these events
abbrev pub logs_of : Settings → List Event → Logs
logs_of c es = logs_from c no_entries es

-- how many bytes the frames of an event have, and those of all
abbrev pub event_bytes : Happened → ℕ
event_bytes (At host event e) = sum_by length (map sealed e.frames)
event_bytes (Missing host) = 0

abbrev pub emitted_bytes : List Happened → ℕ
emitted_bytes hs = sum_by event_bytes hs

-- a station shows its newest entry, if it has any, with the steps and the frames of that event
abbrev pub ShowsNewest : List Entry → StationValue → Type 0
ShowsNewest [] s = Unit {0}
ShowsNewest (e ∷ es) s = Shows s e.answer e

-- The stations are those of the configuration, each stands for its entries and shows the newest one, and what is kept are the frames of
-- all. Whatever comes of an event of a process, each entry sends lawful packets.
pub record AreAt (c : Settings) (logs : Logs) (hosts : List StationValue) (pile : Pile) : Type 0 where
  pub order : map (λ (s : StationValue). s.host) hosts ≡ stations_of c.specs
  pub at : (place : ℕ) (s : StationValue) → slice_get hosts place ≡ Some s → StandsAt c (logs s.host) s
  pub newest : (place : ℕ) (s : StationValue) → slice_get hosts place ≡ Some s → ShowsNewest (logs s.host) s
  pub kept : IsPileKept pile
  pub emitted : frames_by_event pile ≡ map (λ host. sealed_events (logs host)) (stations_of c.specs)
  pub sent : (host : ℕ) → Each IsSentEntry (logs host)
  pub fitting : (host : ℕ) → IsFitting c host (reading c host (logs host))

-- The cluster stands for these events.
pub record StandsFor (c : Settings) (es : List Event) (k : ClusterValue) : Type 0 where
  pub config : k.config ≡ c
  pub lawful : AreLawful c
  pub pids : Each (λ (s : ProcessSpec). IsPid s.pid) c.specs
  pub stands : AreAt c (logs_of c es) k.hosts k.pile
  pub bytes : length k.pile.bytes ≡ emitted_bytes (history_of c es)
  pub events : k.events ≡ length es
  pub few : length es ≤ EVENTS
  pub processes : AreOfProcesses c.specs es

-- the stations with these numbers, none of which had an event
pub record AreHosts (c : Settings) (hosts : List StationValue) (numbers : List ℕ) : Type 0 where
  pub order : map (λ (s : StationValue). s.host) hosts ≡ numbers
  pub at : (place : ℕ) (s : StationValue) → slice_get hosts place ≡ Some s → StandsAt c [] s

-- it stands for some
abbrev pub StandsSomewhere : ClusterValue → Type 0
StandsSomewhere k = (c : Settings) × (es : List Event) × StandsFor c es k

abbrev pub is_limit : ClusterRefusal → Bool
is_limit refusals.Limit = true
is_limit refusals.NoMemory = false

-- what is told of what happened
abbrev pub step_report : Happened → StepReport
step_report (At host event e) = record { host = host; event = event; answer = answers.Event e.answer }
step_report (Missing host) = record { host = host; event = 0; answer = answers.Missing }

-- the station that acted shows the entry, with the steps and the frames of the event
abbrev pub ShowsLast : List StationValue → Happened → Type 0
ShowsLast hosts (At host event e) = (place : ℕ) (s : StationValue) → slice_get hosts place ≡ Some s → s.host ≡ host → Shows s e.answer e
ShowsLast hosts (Missing host) = Unit {0}

-- An event behind others: the report is what is told of what happens, the station shows it, and the cluster stands for one event more.
pub record IsNextReported (c : Settings) (es : List Event) (new : ClusterValue) (e : Event) (r : StepReport) : Type 0 where
  pub report : r ≡ step_report (happened c (logs_of c es) e)
  pub shows : ShowsLast new.hosts (happened c (logs_of c es) e)
  pub stands : StandsFor c (es ++ e ∷ []) new

-- It is so whatever events the cluster stood for.
abbrev pub IsStep : ClusterValue → ClusterValue → Event → StepReport → Type 0
IsStep old new e r = (c : Settings) (es : List Event) → StandsFor c es old → IsNextReported c es new e r

-- A report of few bytes stands for this one, until the next event: there was nothing to deliver to a station; or the station in a place
-- had the event, and answers so.
abbrev pub report_by : StationValue → Response → StepReport
report_by s given = record { host = s.host; event = s.events; answer = answers.Event (answer_of s given) }

abbrev pub TellsReport : ClusterValue → Advance → StepReport → Type 0
TellsReport k (advances.Missing host) r = r ≡ step_report (Missing host)
TellsReport k (advances.Event place given) r = (s : StationValue) × (slice_get k.hosts place ≡ Some s) × (r ≡ report_by s given)

-- what is told of an event of the station of this host: the station in this place had it and answers so, or there was nothing to deliver
abbrev pub advanced : ℕ → Response → Option ℕ → Advance
advanced host given (Some place) = advances.Event place given
advanced host given None = advances.Missing host

-- a step, of which so is told
pub record IsAdvance (old new : ClusterValue) (e : Event) (a : Advance) : Type 0 where
  pub report : StepReport
  pub told : TellsReport new a report
  pub step : IsStep old new e report

-- Of the code alone: what is left to do once the station at a place has had its event and been put back, as this value.
pub record IsEventFinished (mid new : ClusterValue) (place : ℕ) (t : StationValue) : Type 0 where
  pub config : new.config ≡ mid.config
  pub hosts : new.hosts ≡ mid.hosts
  pub pile : IsAdded mid.pile new.pile place t.frames
  pub events : new.events ≡ mid.events + 1
