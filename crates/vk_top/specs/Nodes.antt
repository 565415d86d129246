-- What `node H` answers and writes: the input is a scenario that has the station H, and a port of each station. This station is run with a
-- wire to the others, and what happened there is written.
use Rattle.std.specs.Prelude.{ℕ, ◌≡◌, ◌+◌, ◌-◌, ◌^◌, ◌≤◌, min, Bool, List, length, Option, Result, Ok, Err, if◌then◌else◌}
use Rattle.vk_types.specs.Types.{StationEvent}
use Rattle.vk_base.specs.declared.limits.TheConstants.{INPUT_BYTES}
use Rattle.vk_event.specs.declared.scenario.Scenario.{Scenario}
use Rattle.vk_event.specs.NodeLaws.{node_text, one_log}
use Rattle.vk_event.specs.Nodes.{nodes_of}
use Rattle.vk_event.specs.Ports.{has_all_ports, line_behind}
use Rattle.vk_event.specs.Scenario.{scenario_of}
use Rattle.vk_schedule.specs.declared.schedule.TextRefusal.{TextRefusal}
use Rattle.vk_schedule.specs.declared.schedule.TextRefusal.TheVariants as texts
use Rattle.v_node.specs.Outcomes.{IsNodeRun}
use Rattle.v_run.specs.declared.run_end.RunEnd.{RunEnd}
use Rattle.v_run.specs.declared.run_end.RunEnd.TheVariants as ends
use Rattle.vk_top.specs.declared.status.Status.{Status}
use Rattle.vk_top.specs.Programs.{assignments_at, tasks_at}
use Rattle.vk_top.specs.Threaded.{IsThreadedAnswer, LeavesCrew, scenario_status}
use Rattle.vk_udp.specs.Node.{HandedOut}

-- the scenario, where it has the station and a port of each; else the line behind the text's last is bad
abbrev pub for_station : ℕ → List ℕ → Result Scenario TextRefusal → Result Scenario TextRefusal
for_station host text (Ok s) = if has_all_ports s.config.specs s.ports host then Ok s else Err (texts.BadInput (line_behind text))
for_station host text (Err e) = Err e

-- the scenario that the text spells for this station
abbrev pub node_scenario : ℕ → List ℕ → Result Scenario TextRefusal
node_scenario host text = for_station host text (scenario_of text)

-- a job for each task of the station, one for the link and one for the clock
abbrev pub jobs_at : ℕ → Scenario → ℕ
jobs_at host s = length (tasks_at host s.tasks) + 2

-- what is counted of a node's run: what the wire's links handed out, where it tells that, and the crew's jobs
pub record Passed : Type 0 where
  pub handed : Option (List (List ℕ))
  pub jobs : ℕ

-- The input is the text of a scenario for this station. The station's run, which was limited or not, came to these events: its processes
-- did what their tasks say and no others did anything, its clock ticked, and what was delivered are datagrams that the wire's links handed
-- out, in order. The crew's count of jobs rose by as many as one call of it has for the station, up to its last value. The node text reads
-- as these events again.
pub record HasNodeRun (host : ℕ) (before now : Passed) (limited : Bool) (input : List ℕ) (scenario : Scenario) (events : List StationEvent)
    : Type 0 where
  pub small : length input ≤ INPUT_BYTES
  pub text : node_scenario host input ≡ Ok scenario
  pub handed : List (List ℕ)
  pub told : HandedOut before.handed now.handed handed
  pub ran : IsNodeRun scenario.config host scenario.rounds (assignments_at host scenario.tasks) limited handed events
  pub jobs : now.jobs ≡ min (before.jobs + jobs_at host scenario) (2 ^ 64 - 1)
  pub read : nodes_of (node_text scenario.config host events) ≡ Ok (one_log scenario.config host events)

-- the end of a node's run, which was limited or not; none ends since it waits
abbrev pub node_end : Bool → RunEnd
node_end limited = if limited then ends.Limited else ends.Done

-- and this is the node text
pub record TellsNode (host : ℕ) (before now : Passed) (end : RunEnd) (input output : List ℕ) : Type 0 where
  pub limited : Bool
  pub ends_so : end ≡ node_end limited
  pub scenario : Scenario
  pub events : List StationEvent
  pub ran : HasNodeRun host before now limited input scenario events
  pub lines : output ≡ node_text scenario.config host events

-- what a text asks for, where the station's run ends so
abbrev pub node_asked : ℕ → RunEnd → List ℕ → Status
node_asked host end text = scenario_status end (node_scenario host text)

-- the input is the text of a scenario for this station, for whose run a crew has so many jobs
pub record NeedsNode (host : ℕ) (input : List ℕ) (jobs : ℕ) : Type 0 where
  pub small : length input ≤ INPUT_BYTES
  pub scenario : Scenario
  pub text : node_scenario host input ≡ Ok scenario
  pub count : jobs ≡ jobs_at host scenario

-- what is known where the run of the station came to no end
abbrev pub IsNodeFailure : ℕ → (before now : ℕ) → Status → List ℕ → Type 0
IsNodeFailure host before now s input = LeavesCrew (NeedsNode host) (Unit {0}) before now s input

-- What the answer to the words of `node H` says. `Unread`, `Unwritten` and `Unasked` are that input, output, and crew with wire are as they
-- were; of the input these bytes were left, and are; so much was counted before, and now; to the output those bytes were written, and are.
abbrev pub IsNodeAnswer : ℕ → (Unread Unwritten Unasked : Type 0) → (left rest : Option (List ℕ)) → (before now : Passed) →
    (old new : Option (List ℕ)) → Status → Type 0
IsNodeAnswer host Unread Unwritten Unasked left rest before now old new s =
    IsThreadedAnswer (TellsNode host before now) (node_asked host) (IsNodeFailure host before.jobs now.jobs) Unread Unwritten Unasked
    left rest old new s
