-- What a run is that was told as a schedule.
use Rattle.std.specs.Prelude.{ℕ, ◌≡◌, ◌≤◌, ◌<◌, true, List, length, take, is_some}
use Rattle.std.specs.List.{list_all}
use Rattle.vk_types.specs.Types.{EventAnswer}
use Rattle.vk_base.specs.declared.limits.TheConstants.{EVENTS}
use Rattle.vk_base.specs.Settings.{Settings}
use Rattle.vk_schedule.specs.declared.plan.LinkPlan.{LinkPlan}
use Rattle.vk_schedule.specs.declared.schedule.Schedule.{Schedule}
use Rattle.vk_schedule.specs.Lawful.{IsReadableEvent, has_actors}
use Rattle.vk_cluster.specs.declared.emitted.TheConstants.{LAST_BYTES}
use Rattle.vk_cluster.specs.Standing.{emitted_bytes, logs_of}
use Rattle.vk_join.specs.Joined.{IsThere, Rise}
use Rattle.vk_rules.specs.Each.{Each}
use Rattle.vk_rules.specs.Entries.{Collected, Input}
use Rattle.vk_rules.specs.Histories.{At, Happened, Missing, history_of}
use Rattle.vk_rules.specs.Observed.{IsRunOf, handed_out}
use Rattle.v_run.specs.declared.run_end.RunEnd.{RunEnd}
use Rattle.v_run.specs.Outcomes.{Assignment, IsOutcome}

-- a collect hands out an answer, which is not that it comes too early
abbrev pub HandsOut : Input → EventAnswer → Type 0
HandsOut (Collected pid) a = is_some (handed_out a) ≡ true
HandsOut i a = Unit {0}

abbrev pub IsAnswered : Happened → Type 0
IsAnswered (At host event e) = HandsOut e.input e.answer
IsAnswered (Missing host) = Unit {0}

-- WHAT A RUN IS, which ended so: the schedule that it gives, and what happens in its history.
pub record IsRun (c : Settings) (plan : LinkPlan) (rounds : ℕ) (tasks : List Assignment) (end : RunEnd) (s : Schedule) : Type 0 where
  pub config : s.config ≡ c
  -- nothing is missing, and what happens rises by Lamport number and station
  pub there : Each IsThere (history_of c s.events)
  pub rising : Rise (history_of c s.events)
  -- no collect is answered that it comes too early
  pub answered : Each IsAnswered (history_of c s.events)
  -- its steps are a run with exactly its observations
  pub run : IsRunOf c s.events
  -- what its stations did
  pub outcome : IsOutcome c plan rounds tasks end (logs_of c s.events)
  -- no event of it is refused for want of room: there are at most 100,000, and before each the frames have at most 266,076,160 bytes
  pub few : length s.events ≤ EVENTS
  pub low : (n : ℕ) → n < length s.events → emitted_bytes (history_of c (take n s.events)) ≤ LAST_BYTES
  -- who acts is in the configuration, and each field is in its range
  pub actors : list_all (has_actors c.specs) s.events ≡ true
  pub ranges : Each IsReadableEvent s.events
