-- All jobs of a run, and what comes of them.
use Rattle.std.specs.Prelude.{ℕ, ◌≡◌, ◌≤◌, ◌*◌, true, false, List, [], ◌∷◌, ◌++◌, length}
use Rattle.vk_types.specs.Types.{StationEvent}
use Rattle.vk_base.specs.Settings.{Settings, has_station}
use Rattle.vk_hub.specs.Hubs.{HubLog}
use Rattle.vk_port.specs.Stations.{entries_at}
use Rattle.vk_rules.specs.Each.{Each}
use Rattle.vk_rules.specs.Histories.{Logs}
use Rattle.v_run.specs.Jobs.{IsJobEnd, JobEnd, KeepsTime, clocks_at, runs_pid}
use Rattle.v_run.specs.Outcomes.{Assignment}
use Rattle.v_run.specs.Passages.{Passage, Pumps, Role, Runs, Ticks, fresh_station}

-- the passages of all jobs, in order
abbrev pub passages_of : List JobEnd → List Passage
passages_of [] = []
passages_of (j ∷ js) = j.passages ++ passages_of js

-- the processes that are run, each with its task
abbrev pub task_in : Role → List Assignment
task_in (Runs r task) = record { pid = r; task = task } ∷ []
task_in Pumps = []
task_in Ticks = []

abbrev pub tasks_of : List Passage → List Assignment
tasks_of [] = []
tasks_of (g ∷ gs) = task_in g.role ++ tasks_of gs

-- no process is run twice
abbrev pub IsApart : Role → List Passage → Type 0
IsApart (Runs r task) gs = Each (λ (g : Passage). runs_pid r g.role ≡ false) gs
IsApart Pumps gs = Unit {0}
IsApart Ticks gs = Unit {0}

abbrev pub AreApart : List Passage → Type 0
AreApart [] = Unit {0}
AreApart (g ∷ gs) = IsApart g.role gs × AreApart gs

-- There are as many programs as the hub was told, the clock has a passage at each station and ticks all alike, and no process is run twice.
pub record AreJobs (c : Settings) (o : HubLog) (rounds : ℕ) (js : List JobEnd) : Type 0 where
  pub ends : Each (IsJobEnd c) js
  pub few : 3 * length js ≤ 2000
  pub programs : o.programs ≡ length (tasks_of (passages_of js))
  pub done : ℕ
  pub time : Each (λ (g : Passage). KeepsTime done rounds g g.role) (passages_of js)
  pub clocks : (h : ℕ) → has_station c.specs h ≡ true → clocks_at h (passages_of js) ≡ 1
  pub apart : AreApart (passages_of js)

-- the entries that closed histories make
abbrev pub logs_in : Settings → (ℕ → List (ℕ × StationEvent)) → Logs
logs_in c histories h = entries_at (fresh_station c h) (histories h)
