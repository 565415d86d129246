-- What `run` answers and writes: the input is a scenario, its stations are run beside each other, and the schedule of what happened is
-- written.
use Rattle.std.specs.Prelude.{ℕ, ◌≡◌, ◌+◌, ◌-◌, ◌^◌, ◌≤◌, min, List, length, Option, Ok}
use Rattle.vk_base.specs.declared.limits.TheConstants.{INPUT_BYTES}
use Rattle.vk_base.specs.Settings.{stations_of}
use Rattle.vk_event.specs.declared.scenario.Scenario.{Scenario}
use Rattle.vk_event.specs.Scenario.{scenario_of}
use Rattle.vk_schedule.specs.declared.schedule.Schedule.{Schedule}
use Rattle.vk_schedule.specs.Schedule.{schedule_of}
use Rattle.vk_schedule.specs.Spelling.{schedule_text}
use Rattle.v_run.specs.Ran.{IsRun}
use Rattle.v_run.specs.declared.run_end.RunEnd.{RunEnd}
use Rattle.vk_top.specs.declared.status.Status.{Status}
use Rattle.vk_top.specs.Programs.{assignments_of}
use Rattle.vk_top.specs.Threaded.{IsThreadedAnswer, LeavesCrew, scenario_status}

-- a job for each task and for each station, and one for the clock
abbrev pub jobs_of : Scenario → ℕ
jobs_of s = length s.tasks + length (stations_of s.config.specs) + 1

-- The input is the text of a scenario. Its run, which ended so, gave this schedule: what it did is as a run does, and its steps
-- are a run of the one-machine kernel, with exactly the observations of the processes. The crew's count of jobs rose by as many as one call
-- of it has for the scenario, up to its last value. The text of the schedule reads as it again.
pub record HasRun (end : RunEnd) (input : List ℕ) (before now : ℕ) (schedule : Schedule) : Type 0 where
  pub small : length input ≤ INPUT_BYTES
  pub scenario : Scenario
  pub text : scenario_of input ≡ Ok scenario
  pub ran : IsRun scenario.config scenario.plan scenario.rounds (assignments_of scenario.tasks) end schedule
  pub jobs : now ≡ min (before + jobs_of scenario) (2 ^ 64 - 1)
  pub read : schedule_of (schedule_text schedule) ≡ Ok schedule

-- and this is its text
pub record TellsRun (before now : ℕ) (end : RunEnd) (input output : List ℕ) : Type 0 where
  pub schedule : Schedule
  pub ran : HasRun end input before now schedule
  pub lines : output ≡ schedule_text schedule

-- what a text asks for, where its run ends so
abbrev pub run_asked : RunEnd → List ℕ → Status
run_asked end text = scenario_status end (scenario_of text)

-- the input is the text of a scenario, for whose run a crew has so many jobs
pub record NeedsRun (input : List ℕ) (jobs : ℕ) : Type 0 where
  pub small : length input ≤ INPUT_BYTES
  pub scenario : Scenario
  pub text : scenario_of input ≡ Ok scenario
  pub count : jobs ≡ jobs_of scenario

-- what is known where a run came to no end
abbrev pub IsRunFailure : (before now : ℕ) → Status → List ℕ → Type 0
IsRunFailure before now s input = LeavesCrew NeedsRun ⊥ before now s input

-- What the answer to the words of `run` says. `Unread`, `Unwritten` and `Unasked` are that input, output and crew are as they were; of the
-- input these bytes were left, and are; the crew had run so many jobs before, and now; to the output those bytes were written, and are.
-- There is no link.
abbrev pub IsRunAnswer : (Unread Unwritten Unasked : Type 0) → (left rest : Option (List ℕ)) → (before now : ℕ) →
    (old new : Option (List ℕ)) → Status → Type 0
IsRunAnswer Unread Unwritten Unasked left rest before now old new s =
    IsThreadedAnswer (TellsRun before now) run_asked (IsRunFailure before now) Unread Unwritten Unasked left rest old new s
