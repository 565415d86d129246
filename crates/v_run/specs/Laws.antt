-- The laws: of closed histories, of their logs, and of the schedules that these are joined to.
use Rattle.std.specs.Prelude.{ℕ, ◌≡◌, true, false, Some, None, List, map, nat_le}
use Rattle.vk_types.specs.Types.{ProcessSpec, StationEvent}
use Rattle.vk_base.specs.declared.event.StationEvent.TheVariants as events
use Rattle.turn_cell.specs.declared.replay.Room.TheVariants as rooms
use Rattle.vk_base.specs.Settings.{AreLawful, Settings, has_station, stations_of}
use Rattle.vk_schedule.specs.declared.event.Event.{Event}
use Rattle.vk_schedule.specs.declared.plan.LinkPlan.{LinkPlan}
use Rattle.vk_schedule.specs.declared.schedule.Schedule.{Schedule}
use Rattle.vk_hub.specs.declared.event.HubEvent.{HubEvent}
use Rattle.vk_hub.specs.Hubs.{HubLog, traffic_of}
use Rattle.vk_schedule.specs.declared.log.StationLog.{StationLog}
use Rattle.vk_join.specs.Joined.{IsJoined}
use Rattle.vk_join.specs.Laws.{AreGiven}
use Rattle.vk_join.specs.Logs.{AreLogs, events_at}
use Rattle.vk_join.specs.Stray.{join_refusal}
use Rattle.vk_port.specs.Stations.{IsLawfulHistory, StationHistory, event_of, is_ready, tick_of}
use Rattle.vk_rules.specs.Each.{Each}
use Rattle.v_pages.specs.Scheduled.{FollowsIn}
use Rattle.v_whole.specs.HistoryLaws.{IsSchedule}
use Rattle.v_run.specs.Closed.{AreClosed}
use Rattle.v_run.specs.Jobs.{JobEnd, OneOf}
use Rattle.v_run.specs.Outcomes.{Assignment}
use Rattle.v_run.specs.Passages.{fresh_station}
use Rattle.v_run.specs.Ran.{IsRun}
use Rattle.v_run.specs.declared.run_end.RunEnd.{RunEnd}
use Rattle.v_run.specs.declared.run_end.RunEnd.TheVariants as ends
use Rattle.v_run.specs.Runs.{AreJobs, passages_of, tasks_of}

-- a station with its whole history
abbrev pub closed_station : Settings → ℕ → List (ℕ × StationEvent) → StationHistory
closed_station c h history = record { config = c; host = h; history = history; spare = 0 }

abbrev pub host_in : StationLog → ℕ
host_in l = l.host

-- The logs of these histories: one for each station, in their order, with just the events of its history. All histories are lawful.
pub record AreLogsOf (c : Settings) (histories : ℕ → List (ℕ × StationEvent)) (logs : List StationLog) : Type 0 where
  pub hosts : map host_in logs ≡ stations_of c.specs
  pub events : (h : ℕ) → events_at logs h ≡ map event_of (histories h)
  pub lawful : (h : ℕ) → has_station c.specs h ≡ true → IsLawfulHistory (closed_station c h (histories h))

-- Such logs are as a join asks of them.
abbrev pub LogsMayBeJoined : Type 0
LogsMayBeJoined = (c : Settings) (histories : ℕ → List (ℕ × StationEvent)) (logs : List StationLog) →
    AreLawful c → AreLogsOf c histories logs → AreLogs c logs

-- The logs of closed histories are joined: they keep to the limits, and each delivery brings what a station emitted for this one.
abbrev pub ClosedRunsAreJoined : Type 0
ClosedRunsAreJoined = (c : Settings) (o : HubLog) (histories : ℕ → List (ℕ × StationEvent)) (heard : List (ℕ × HubEvent))
    (js : List JobEnd) (logs : List StationLog) → AreClosed c o histories heard (passages_of js) → AreLogsOf c histories logs →
    AreGiven c logs → join_refusal c logs ≡ None

-- none of these processes may collect at the station behind the history
abbrev pub NoneIsReady : List ProcessSpec → StationHistory → List (ℕ × StationEvent) → Type 0
NoneIsReady specs o history = Each (λ (p : ProcessSpec). is_ready o history (events.Collect p.pid) ≡ false) specs

-- and it ticked so often
pub record IsStill (specs : List ProcessSpec) (rounds : ℕ) (o : StationHistory) (history : List (ℕ × StationEvent)) : Type 0 where
  pub ticked : tick_of (record o { history = history }) ≡ rounds
  pub none_ready : NoneIsReady specs o history

-- What is known of the closed histories where a run is told to have ended so. It was limited only where a job met a full Room, and neither
-- Done nor Waiting where one met any. At Done as many programs had finished as were to; at Waiting they had not, and each station stood
-- still.
abbrev pub MayEndAs : Settings → HubLog → ℕ → (ℕ → List (ℕ × StationEvent)) → List (ℕ × HubEvent) → List JobEnd → RunEnd → Type 0
MayEndAs c o rounds histories heard js ends.Done =
    Each (λ (j : JobEnd). j.met ≡ None) js × (nat_le o.programs (traffic_of o heard).finished ≡ true)
MayEndAs c o rounds histories heard js ends.Limited = OneOf (λ (j : JobEnd). j.met ≡ Some rooms.Full) js
MayEndAs c o rounds histories heard js ends.Waiting =
    Each (λ (j : JobEnd). j.met ≡ None) js × (nat_le o.programs (traffic_of o heard).finished ≡ false)
    × ((h : ℕ) → has_station c.specs h ≡ true → IsStill c.specs rounds (fresh_station c h) (histories h))

-- A schedule that says what they say is a run of the jobs.
abbrev pub JoinedRunsAreRuns : Type 0
JoinedRunsAreRuns = (c : Settings) (o : HubLog) (rounds : ℕ) (histories : ℕ → List (ℕ × StationEvent)) (heard : List (ℕ × HubEvent))
    (js : List JobEnd) (logs : List StationLog) (s : Schedule) (end : RunEnd) → AreClosed c o histories heard (passages_of js) →
    AreJobs c o rounds js → AreLogsOf c histories logs → AreGiven c logs → IsJoined c logs s →
    MayEndAs c o rounds histories heard js end → IsRun c o.plan rounds (tasks_of (passages_of js)) end s

-- WHAT THE LAWS OF PAGE SERVERS ASK of a history: its steps are a run, and each of these processes follows its task there.
pub record FollowTasks (c : Settings) (tasks : List Assignment) (es : List Event) : Type 0 where
  pub schedule : IsSchedule c es
  pub follows : Each (λ (a : Assignment). FollowsIn a.task c es a.pid) tasks

-- It is so in every run.
abbrev pub RunsFollowTasks : Type 0
RunsFollowTasks = (c : Settings) (plan : LinkPlan) (rounds : ℕ) (tasks : List Assignment) (end : RunEnd) (s : Schedule) →
    AreLawful c → IsRun c plan rounds tasks end s → FollowTasks c tasks s.events
