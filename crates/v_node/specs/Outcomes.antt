-- What the run of a node comes to, said of its station's events, of which the oldest comes first, and of the entries that these make.
use Rattle.std.specs.Prelude.{ℕ, ◌≡◌, ◌≤◌, ◌+◌, ◌*◌, ◌⊎◌, Bool, true, false, Option, List, filter, length}
use mathlib.Core.List.{IsPrefix}
use Rattle.vk_types.specs.Types.{Answer, Call, Pid, StationEvent}
use Rattle.vk_base.specs.Pids.{same_pid}
use Rattle.vk_base.specs.Settings.{Settings, stations_of}
use Rattle.vk_hub.specs.Links.{Frame}
use Rattle.vk_port.specs.Stations.{emitted_bytes, entries_after, is_own, is_used_up_by}
use Rattle.vk_rules.specs.Each.{Each}
use Rattle.vk_rules.specs.Entries.{Entry}
use Rattle.v_ended.specs.Answered.{ComeInTime, answers_of, calls_of}
use Rattle.v_run.specs.Outcomes.{Assignment, DoesNothing, FollowsTask, frames_in, ticks_in}
use Rattle.v_run.specs.Passages.{IsAtEnd, fresh_station}
use Rattle.v_run.specs.Ran.{HandsOut}
use Rattle.v_node.specs.Links.{delivered_in, is_kept}

-- the task is at its end, or its last call was begun and its answer is not collected
abbrev pub IsDoneOrWaits : (List Answer → Option Call) → List Call → List Answer → Type 0
IsDoneOrWaits task calls answers = IsAtEnd task calls answers ⊎ (length calls ≡ length answers + 1)

-- The station is full, or its frames are so many that the hub's history may have come near its limit: each is posted once, and fetched at
-- most twice for each of at most 15 other stations.
abbrev pub IsExhausted : Settings → List Entry → Type 0
IsExhausted c es =
    (is_used_up_by (length es) (emitted_bytes es) (length (stations_of c.specs)) ≡ true) ⊎ (198000 ≤ 31 * frames_in es)

-- WHAT A NODE COMES TO: these are its station's events, with these tasks, so many rounds of its clock, and these datagrams that its link
-- was handed in order. That no collect comes too early is said twice, as of a run (`IsRun`): of the moment at which it is entered, and of
-- what it is answered.
pub record IsNodeRun (c : Settings) (host : ℕ) (rounds : ℕ) (tasks : List Assignment) (was_limited : Bool) (handed : List Frame)
    (events : List StationEvent) : Type 0 where
  -- each collect is of a process that has an answer
  pub collected : ComeInTime c host (entries_after c host events)
  -- and hands it out: no collect is answered that it comes too early
  pub answered : Each (λ (e : Entry). HandsOut e.input e.answer) (entries_after c host events)
  -- each process makes just the calls of its task; a process without a task does nothing
  pub follows : Each (λ (a : Assignment). FollowsTask a.task a.pid (entries_after c host events)) tasks
  pub ended : was_limited ≡ false
      → Each (λ (a : Assignment). IsDoneOrWaits a.task (calls_of a.pid (entries_after c host events)) (answers_of a.pid (entries_after c
      host events))) tasks
  pub idle : (r : Pid) → Each (λ (a : Assignment). same_pid a.pid r ≡ false) tasks → DoesNothing r (entries_after c host events)
  -- it ticks once a round
  pub few_ticks : ticks_in (entries_after c host events) ≤ rounds
  pub all_ticks : was_limited ≡ false → ticks_in (entries_after c host events) ≡ rounds
  -- what is delivered are the datagrams that are kept, in order, and where it was not limited all of them
  pub brought : IsPrefix (delivered_in events) (filter (is_kept host) handed)
  pub all_brought : was_limited ≡ false → delivered_in events ≡ filter (is_kept host) handed
  pub kept : Each (λ (frame : Frame). is_kept host frame ≡ true) (delivered_in events)
  pub long : Each (λ (frame : Frame). 33 ≤ length frame) (delivered_in events)
  -- it was limited only where the station is full, or its frames are many
  pub limited : was_limited ≡ true → IsExhausted c (entries_after c host events)
  -- who acts is a process of the station
  pub own : Each (λ (e : StationEvent). is_own (fresh_station c host) e ≡ true) events
