-- Of the code alone, no law rests on it: what it keeps of a storm under way.
use Rattle.std.specs.Prelude.{◌≡◌, ℕ, ◌+◌, ◌*◌, ◌%◌, ◌<◌, ◌≤◌, ◌^◌, Bool, true, false, List, [], ◌∷◌, ◌++◌, flat_map, length, map, slice_get, Option, None, Some, if◌then◌else◌}
use Rattle.vk_types.specs.Types.{Answer, EventAnswer}
use Rattle.vk_base.specs.declared.limits.TheConstants.{EVENTS}
use Rattle.vk_base.specs.declared.event.EventAnswer.TheVariants as given
use Rattle.vk_base.specs.Options.{◌>>=◌}
use Rattle.vk_cluster.specs.declared.emitted.TheConstants.{LAST_BYTES}
use Rattle.vk_cluster.specs.Found.{events_in}
use Rattle.vk_cluster.specs.Piles.{from_one}
use Rattle.vk_cluster.specs.Shown.{Sends}
use Rattle.vk_cluster.specs.Standing.{StandsFor, emitted_bytes, logs_of, report_by, step_report}
use Rattle.vk_cluster.specs.Values.{ClusterValue}
use Rattle.vk_schedule.specs.declared.event.Event.{Event}
use Rattle.vk_schedule.specs.declared.event.Event.TheVariants as events
use Rattle.vk_schedule.specs.Lawful.{has_actors}
use Rattle.vk_event.specs.declared.task.Task.{Task}
use Rattle.vk_frame.specs.declared.header.Header.{Header}
use Rattle.vk_host.specs.declared.response.Response.{Response}
use Rattle.vk_host.specs.Sealed.{sealed}
use Rattle.vk_host.specs.Values.{StationValue}
use Rattle.vk_pages.specs.Any.{IsAfter, call_by}
use Rattle.vk_pages.specs.Programs.{task_call}
use Rattle.vk_program.specs.Tasks.{told_by}
use Rattle.vk_rules.specs.Each.{Each}
use Rattle.vk_rules.specs.Entries.{is_frame_taken}
use Rattle.vk_rules.specs.Frames.{Frame}
use Rattle.vk_rules.specs.Histories.{At, Happened, Logs, Missing, happened, history_of}
use Rattle.vk_rules.specs.Laws.{HaveHeaders}
use Rattle.vk_rules.specs.Observed.{is_not_yet}
use Rattle.v_lawful.specs.Sending.{IsLawfulFrame}
use Rattle.vk_drive.specs.declared.actor.Actor.{Actor}
use Rattle.vk_drive.specs.declared.course.StormCourse.{StormCourse}
use Rattle.vk_drive.specs.declared.counts.StormCounts.{StormCounts}
use Rattle.vk_drive.specs.declared.driver.Driver.{Driver}
use Rattle.vk_drive.specs.declared.recent.RecentFrame.{RecentFrame}
use Rattle.vk_drive.specs.declared.recent.RecentFrames.{RecentFrames}
use Rattle.vk_drive.specs.declared.stations.StormStations.{StormStations}
use Rattle.vk_drive.specs.Storms.{Choice, choice, chosen, process_event, storm_after}
use Rattle.vk_drive.specs.Tasks.{settings, specs, task_at}
use Rattle.vk_drive.specs.Told.{all_emitted, answered_to, count_answered, is_old, is_timed_out, is_waiting, tells_answer, told}

-- the process of the task, whose events were answered so: its program knows all that it was told, but for what waits to be passed on
pub record IsActor (a : Actor) (t : Task) (heard : List EventAnswer) : Type 0 where
  pub pid : a.pid ≡ t.pid
  pub task : call_by a.program ≡ task_call t
  pub given : List Answer
  pub after : IsAfter a.program given
  pub all : given ++ told_by a.told ≡ told heard
  pub waits : a.waits ≡ is_waiting heard
  pub none : a.waits ≡ true → a.told ≡ None

-- it tells that a collect came too early
abbrev pub tells_too_early : EventAnswer → Bool
tells_too_early (given.Answered a) = is_not_yet a
tells_too_early a = false

-- this is its next event, and nothing waits to be passed on
pub record ChoosesEvent (a : Actor) (t : Task) (heard : List EventAnswer) (e : Event) : Type 0 where
  pub actor : IsActor a t heard
  pub event : e ≡ process_event t heard
  pub none : a.told ≡ None

-- the four processes, behind this history
pub record AreActors (actors : List Actor) (hs : List Happened) : Type 0 where
  pub count : length actors ≡ 4
  pub each : (place : ℕ) (a : Actor) → slice_get actors place ≡ Some a → IsActor a (task_at place) (answered_to (task_at place).pid hs)

-- nothing waits to be passed on to the program of the process at this place
abbrev pub HasPassedOn : List Actor → ℕ → Type 0
HasPassedOn actors place = (a : Actor) → slice_get actors place ≡ Some a → a.told ≡ None

-- this is the next event of the process at this place
pub record IsChosenAt (actors : List Actor) (hs : List Happened) (place : ℕ) (e : Event) : Type 0 where
  pub actors_are : AreActors actors hs
  pub event : e ≡ process_event (task_at place) (answered_to (task_at place).pid hs)
  pub none : HasPassedOn actors place

-- The numbers that are told.
abbrev pub counts_of : List Happened → StormCounts
counts_of hs = record {
  frames = length (all_emitted hs);
  taken = count_answered is_frame_taken hs;
  late = count_answered is_old hs;
  answers = count_answered tells_answer hs;
  timedout = count_answered is_timed_out hs;
}

abbrev pub one_if : Bool → ℕ
one_if b = if b then 1 else 0

-- with an event more, answered so, at which so many frames were emitted
abbrev pub counts_with : StormCounts → ℕ → EventAnswer → StormCounts
counts_with c frames a = record {
  frames = c.frames + frames;
  taken = c.taken + one_if (is_frame_taken a);
  late = c.late + one_if (is_old a);
  answers = c.answers + one_if (tells_answer a);
  timedout = c.timedout + one_if (is_timed_out a);
}

-- there is room for more
pub record AreLow (c : StormCounts) : Type 0 where
  pub taken : c.taken < 2 ^ 63
  pub late : c.late < 2 ^ 63
  pub answers : c.answers < 2 ^ 63
  pub timedout : c.timedout < 2 ^ 63

-- the frames that were emitted, in order
abbrev pub frames_in : Happened → List Frame
frames_in (At host event e) = e.frames
frames_in (Missing host) = []

abbrev pub all_frames : List Happened → List Frame
all_frames hs = flat_map frames_in hs

-- a frame as it is kept
abbrev pub kept_of : Frame → RecentFrame
kept_of f = record { header = f.header; bytes = sealed f }

-- All frames are these, of which each of the last 32 stands in its place.
pub record KeepsRecent (fs : List Frame) (r : RecentFrames) : Type 0 where
  pub places : length r.frames.items ≡ 32
  pub count : r.count ≡ length fs
  pub each : (n : ℕ) (f : Frame) → slice_get fs n ≡ Some f → length fs ≤ n + 32 → slice_get r.frames.items (n % 32) ≡ Some (kept_of f)

-- The frame with the numbers of this header, by its place among those of its station; and that it is found there, and is lawful.
abbrev pub emitted_at : Logs → Header → Option Frame
emitted_at logs h = from_one (events_in (logs h.source)) h.event >>= λ fs. from_one fs h.output

pub record IsEmitted (logs : Logs) (f : Frame) : Type 0 where
  pub at : emitted_at logs f.header ≡ Some f
  pub lawful : IsLawfulFrame f

-- the frames of the station's last event are these, and their headers say what the station shows
pub record ShowsHeaders (s : StationValue) (fs : List Frame) : Type 0 where
  pub sends : Sends s fs
  pub have : HaveHeaders s.host s.now s.number s.events 1 fs

-- the frames of these events hold too many bytes for one more to happen, or not
abbrev pub EmitsManyBytes : List Event → Type 0
EmitsManyBytes es = LAST_BYTES < emitted_bytes (history_of settings es)

abbrev pub EmitsFewBytes : List Event → Type 0
EmitsFewBytes es = emitted_bytes (history_of settings es) ≤ LAST_BYTES

-- The stations behind these events: with all frames, which are kept no more, they are a cluster.
pub record AreStations (es : List Event) (s : StormStations) : Type 0 where
  pub cluster : ClusterValue
  pub stands : StandsFor settings es cluster
  pub hosts : s.hosts.items ≡ cluster.hosts
  pub size : s.recent.size ≡ length cluster.pile.bytes
  pub recent : KeepsRecent (all_frames (history_of settings es)) s.recent
  pub emitted : Each (IsEmitted (logs_of settings es)) (all_frames (history_of settings es))
  pub few : s.recent.count ≤ 4294967296 * length es

-- what is kept of the history of these events
pub record IsCourse (es : List Event) (c : StormCourse) : Type 0 where
  pub stations : AreStations es c.stations
  pub counts_are : c.counts ≡ counts_of (history_of settings es)

-- it is the delivery of a frame
abbrev pub is_delivery : Event → Bool
is_delivery (events.Call pid call) = false
is_delivery (events.Collect pid) = false
is_delivery (events.Tick host) = false
is_delivery (events.Deliver to from event output) = true

-- it is that of one of these frames, the one that is kept in this place
pub record IsDelivery (fs : List Frame) (kept : List RecentFrame) (e : Event) (place : ℕ) : Type 0 where
  pub number : ℕ
  pub frame : Frame
  pub found : slice_get fs number ≡ Some frame
  pub here : slice_get kept place ≡ Some (kept_of frame)
  pub event : e ≡ events.Deliver frame.header.destination frame.header.source frame.header.event frame.header.output

-- where it is a delivery, the frame that comes is in this place
abbrev pub ComesFrom : List Frame → RecentFrames → Event → ℕ → Type 0
ComesFrom fs r e place = is_delivery e ≡ true → IsDelivery fs r.frames.items e place

-- one event more may happen behind these: it is of a process or of stations of the storm, and the frame that comes, where one does, is here
pub record MayHappen (es : List Event) (s : StormStations) (e : Event) (place : ℕ) : Type 0 where
  pub stations : AreStations es s
  pub few : length es < EVENTS
  pub actors : has_actors specs e ≡ true
  pub comes : ComesFrom (all_frames (history_of settings es)) s.recent e place

-- It happened: the station in this place had it and answered so.
pub record HasPlayed (es : List Event) (new : StormStations) (e : Event) (given : Response) (place : ℕ) : Type 0 where
  pub stations : AreStations (es ++ e ∷ []) new
  pub station : StationValue
  pub found : slice_get new.hosts.items place ≡ Some station
  pub told : report_by station given ≡ step_report (happened settings (logs_of settings es) e)
  pub frames : station.frames ≡ map sealed (frames_in (happened settings (logs_of settings es) e))

-- and was counted; there was room for it
pub record HasHappened (es : List Event) (new : StormCourse) (e : Event) (place : ℕ) : Type 0 where
  pub course : IsCourse (es ++ e ∷ []) new
  pub played : HasPlayed es new.stations e new.response place
  pub below : EmitsFewBytes es

-- the event is none of a process
abbrev pub is_of_no_process : Event → Bool
is_of_no_process (events.Call pid call) = false
is_of_no_process (events.Collect pid) = false
is_of_no_process (events.Tick host) = true
is_of_no_process (events.Deliver to from event output) = true

-- the event is one of a station of the storm, and none of a process
pub record IsOfStation (e : Event) : Type 0 where
  pub acts : has_actors specs e ≡ true
  pub quiet : is_of_no_process e ≡ true

-- this event comes next: one of the process at this place, where there is a place, else one of a station
abbrev pub IsNextOf : Option ℕ → List Actor → List Happened → Event → Type 0
IsNextOf (Some place) actors hs e = (place < 4) × IsChosenAt actors hs place e
IsNextOf None actors hs e = AreActors actors hs × IsOfStation e

-- A storm under way, behind these events.
pub record IsDriver (es : List Event) (d : Driver) : Type 0 where
  pub config : d.config ≡ settings
  pub course : IsCourse es d.course
  pub actors : AreActors d.actors.items (history_of settings es)

-- behind some, of which there may be more
abbrev pub IsStormOpen : Driver → Type 0
IsStormOpen d = (es : List Event) × IsDriver es d × (length es < EVENTS)

-- what comes next behind these was chosen: an event of the process at this place, where there is a place
pub record IsChosen (es : List Event) (old new : Driver) (place : Option ℕ) : Type 0 where
  pub config : new.config ≡ old.config
  pub course : new.course ≡ old.course
  pub next : IsNextOf place new.actors.items (history_of settings es) new.next
  pub comes : ComesFrom (all_frames (history_of settings es)) new.course.stations.recent new.next new.frame
  pub choice_is : chosen new.generator new.next ≡ choice old.generator (history_of settings es)

-- the event of this choice happened behind these
pub record IsPlayed (es : List Event) (new : Driver) (c : Choice) : Type 0 where
  pub driver : IsDriver (es ++ c.event ∷ []) new
  pub state : new.generator ≡ c.state
  pub event : new.next ≡ c.event
  pub below : EmitsFewBytes es

-- the storm of this number, behind so many of its events
pub record IsStorm (n count : ℕ) (d : Driver) : Type 0 where
  pub driver : IsDriver (storm_after n count).events d
  pub state : d.generator ≡ (storm_after n count).state
  pub below : (before : ℕ) → before < count → EmitsFewBytes (storm_after n before).events
