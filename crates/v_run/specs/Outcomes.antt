-- What a run comes to, said of the entries that its stations have in the end, of which the newest comes first.
use Rattle.std.specs.Prelude.{ℕ, ◌≡◌, ◌≤◌, ◌<◌, ◌+◌, ◌*◌, ◌==◌, ◌&&◌, ◌⊎◌, Bool, true, false, Option, List, [], ◌∷◌, length, cond}
use Rattle.vk_types.specs.Types.{Answer, Call, Pid, ProcessSpec}
use Rattle.vk_base.specs.declared.step.Step.TheVariants as steps
use Rattle.vk_base.specs.Steps.{is_allowed}
use Rattle.vk_base.specs.Pids.{same_pid}
use Rattle.vk_base.specs.Settings.{Settings, has_station, stations_of}
use Rattle.vk_frame.specs.declared.header.Header.{Header}
use Rattle.vk_hub.specs.Counting.{copies}
use Rattle.vk_schedule.specs.declared.plan.LinkPlan.{LinkPlan}
use Rattle.vk_port.specs.Stations.{emitted_bytes, is_used_up_by}
use Rattle.vk_rules.specs.Each.{Each}
use Rattle.vk_rules.specs.Entries.{Entry, Input, Called, Collected, Delivered, is_tick, is_delivery}
use Rattle.vk_rules.specs.Frames.{Unsealed, Noise, Headed, Framed}
use Rattle.vk_rules.specs.Histories.{Logs}
use Rattle.v_ended.specs.Answered.{ComeInTime, answers_of, calls_of}
use Rattle.v_ended.specs.Ends.{EachWorkIsEndedByFrame, NoTickEnds}
use Rattle.v_pages.specs.Followed.{IsNextCall}
use Rattle.vk_rules.specs.Readings.{reading}
use Rattle.v_run.specs.declared.run_end.RunEnd.{RunEnd}
use Rattle.v_run.specs.declared.run_end.RunEnd.TheVariants as ends
use Rattle.v_run.specs.Jobs.{OneOf}
use Rattle.v_run.specs.Passages.{IsAtEnd}

-- How often a station ticks, and how often it takes the output with these numbers.
abbrev pub ticks_in : List Entry → ℕ
ticks_in [] = 0
ticks_in (e ∷ es) = cond (is_tick e.input) 1 0 + ticks_in es

abbrev pub has_numbers : (from event output : ℕ) → Header → Bool
has_numbers from event output h = h.source == from && h.event == event && h.output == output

abbrev pub opens_with : (from event output : ℕ) → Unsealed → Bool
opens_with from event output Noise = false
opens_with from event output (Headed h) = has_numbers from event output h
opens_with from event output (Framed h p) = has_numbers from event output h

abbrev pub brings : (from event output : ℕ) → Input → Bool
brings from event output (Delivered u) = opens_with from event output u
brings from event output i = false

abbrev pub times_taken : (from event output : ℕ) → List Entry → ℕ
times_taken from event output [] = 0
times_taken from event output (e ∷ es) = cond (brings from event output e.input) 1 0 + times_taken from event output es

-- How many frames a station emitted, and how many were delivered to it.
abbrev pub frames_in : List Entry → ℕ
frames_in [] = 0
frames_in (e ∷ es) = length e.frames + frames_in es

abbrev pub deliveries_in : List Entry → ℕ
deliveries_in [] = 0
deliveries_in (e ∷ es) = cond (is_delivery e.input) 1 0 + deliveries_in es

-- the same of all stations
abbrev pub over : (ℕ → ℕ) → List ℕ → ℕ
over f [] = 0
over f (h ∷ hs) = f h + over f hs

-- each call of the process is its task's next one, after the calls and answers before it
abbrev pub IsNextOf : (List Answer → Option Call) → Pid → List Entry → Input → Type 0
IsNextOf task r es (Called pid c) = same_pid pid r ≡ true → IsNextCall task (calls_of r es) (answers_of r es) c
IsNextOf task r es i = Unit {0}

abbrev pub FollowsTask : (List Answer → Option Call) → Pid → List Entry → Type 0
FollowsTask task r [] = Unit {0}
FollowsTask task r (e ∷ es) = IsNextOf task r es e.input × FollowsTask task r es

-- the process makes no call and no collect
abbrev pub is_doing_of : Pid → Input → Bool
is_doing_of r (Called pid c) = same_pid pid r
is_doing_of r (Collected pid) = same_pid pid r
is_doing_of r i = false

abbrev pub DoesNothing : Pid → List Entry → Type 0
DoesNothing r es = Each (λ e. is_doing_of r e.input ≡ false) es

-- a process with its task
pub record Assignment : Type 0 where
  pub pid : Pid
  pub task : List Answer → Option Call

-- A station has used up its share of events or of emitted bytes.
abbrev pub HasUsedUp : Settings → Logs → Type 0
HasUsedUp c logs =
    (h : ℕ) × (has_station c.specs h ≡ true)
    × (is_used_up_by (length (logs h)) (emitted_bytes (logs h)) (length (stations_of c.specs)) ≡ true)

-- The frames that were emitted and the deliveries are together near the limit of the links.
abbrev pub AreBusy : Settings → Logs → Type 0
AreBusy c logs =
    198000 ≤ over (λ h. frames_in (logs h)) (stations_of c.specs) + over (λ h. deliveries_in (logs h)) (stations_of c.specs)

-- a call was begun and is not answered
abbrev pub IsWaiting : List Call → List Answer → Type 0
IsWaiting calls answers = length calls ≡ length answers + 1

-- a station ticked so often, and no process of it has an answer to collect
pub record StandsStill (c : Settings) (h rounds : ℕ) (es : List Entry) : Type 0 where
  pub ticks : ticks_in es ≡ rounds
  pub none_done : Each (λ (p : ProcessSpec). p.pid.host ≡ h → is_allowed (reading c h es).view (steps.Collect p.pid) ≡ false) c.specs

-- WHAT A RUN COMES TO, which ended so.
pub record IsOutcome (c : Settings) (plan : LinkPlan) (rounds : ℕ) (tasks : List Assignment) (end : RunEnd) (logs : Logs) : Type 0
  where
    -- each collect is of a process that has an answer
    pub collected : (h : ℕ) → has_station c.specs h ≡ true → ComeInTime c h (logs h)
    -- no frame is delivered to one station more than twice, and where the links double none, more than once
    pub seldom : (h from event output : ℕ) → has_station c.specs h ≡ true → times_taken from event output (logs h) ≤ copies plan
    -- each station ticks at most once a round, and no two differ by more than one tick
    pub few_ticks : (h : ℕ) → has_station c.specs h ≡ true → ticks_in (logs h) ≤ rounds
    pub even : (g h : ℕ) → has_station c.specs g ≡ true → has_station c.specs h ≡ true → ticks_in (logs g) ≤ ticks_in (logs h) + 1
    -- each process makes just the calls of its task, at Done all of them; a process without a task does nothing
    pub follows : Each (λ (a : Assignment). FollowsTask a.task a.pid (logs a.pid.host)) tasks
    pub ended : end ≡ ends.Done
        → Each (λ (a : Assignment). IsAtEnd a.task (calls_of a.pid (logs a.pid.host)) (answers_of a.pid (logs a.pid.host))) tasks
    pub idle : (r : Pid) → Each (λ (a : Assignment). same_pid a.pid r ≡ false) tasks → has_station c.specs r.host ≡ true
        → DoesNothing r (logs r.host)
    -- At Waiting each process made its task's calls to their end, or up to one that was begun and is not answered, at least one of them;
    -- each station ticked all rounds, and no process has an answer to collect.
    pub waits : end ≡ ends.Waiting
        → Each (λ (a : Assignment). IsAtEnd a.task (calls_of a.pid (logs a.pid.host)) (answers_of a.pid (logs a.pid.host))
        ⊎ IsWaiting (calls_of a.pid (logs a.pid.host)) (answers_of a.pid (logs a.pid.host))) tasks
    pub one_waits : end ≡ ends.Waiting
        → OneOf (λ (a : Assignment). IsWaiting (calls_of a.pid (logs a.pid.host)) (answers_of a.pid (logs a.pid.host))) tasks
    pub still : end ≡ ends.Waiting → (h : ℕ) → has_station c.specs h ≡ true → StandsStill c h rounds (logs h)
    -- it was limited only where a station used up its share, or the links were near their limit
    pub limited : end ≡ ends.Limited → HasUsedUp c logs ⊎ AreBusy c logs
    -- With fewer rounds than a work waits in all, none ends by a tick. Then each that a task began, a remote Send or move or a lookup,
    -- was ended by a frame, at Done.
    pub early : rounds < c.times.tries * c.times.interval → (h : ℕ) → has_station c.specs h ≡ true → NoTickEnds (logs h)
    pub by_frames : end ≡ ends.Done → rounds < c.times.tries * c.times.interval
        → Each (λ (a : Assignment). EachWorkIsEndedByFrame c a.pid.host a.pid (logs a.pid.host)) tasks
