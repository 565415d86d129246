-- The law of closed histories of a node.
use Rattle.std.specs.Prelude.{ℕ, ◌≡◌, ◌≢◌, ◌<◌, Bool, true, false, List, map}
use Rattle.vk_base.specs.declared.limits.TheConstants.{EVERY_STATION}
use Rattle.vk_types.specs.Types.{ProcessSpec, StationEvent}
use Rattle.vk_base.specs.Pids.{IsPid}
use Rattle.vk_base.specs.Settings.{AreLawful, Settings}
use Rattle.vk_hub.specs.declared.event.HubEvent.{HubEvent}
use Rattle.vk_hub.specs.Hubs.{HubLog}
use Rattle.vk_join.specs.Logs.{IsReadableEvent}
use Rattle.vk_port.specs.Stations.{IsLawfulHistory, event_of}
use Rattle.vk_rules.specs.Each.{Each}
use Rattle.vk_rules.specs.Entries.{Entry, Input}
use Rattle.vk_rules.specs.Frames.{Frame, destination_of}
use Rattle.vk_rules.specs.Right.{entries_of}
use Rattle.v_run.specs.Laws.{closed_station}
use Rattle.v_run.specs.Runs.{passages_of, tasks_of}
use Rattle.v_whole.specs.EveryFrame.{AreOwnInputs}
use Rattle.v_node.specs.Closed.{IsNodeClosed}
use Rattle.v_node.specs.Jobs.{AreNodeJobs, NodeEnd, NoneMet, SomeMetFull}
use Rattle.v_node.specs.Outcomes.{IsNodeRun}

-- Whatever processes call and whatever frames come, also forged ones: no frame that a station sends is for this station itself.
abbrev pub IsForOthers : ℕ → Frame → Type 0
IsForOthers host f = destination_of f.packet ≢ host

abbrev pub FramesGoToOthers : Type 0
FramesGoToOthers = (c : Settings) (host : ℕ) (is : List Input) → host < EVERY_STATION → AreOwnInputs host is
    → Each (λ (e : Entry). Each (IsForOthers host) e.frames) (entries_of c host is)

-- What code can hold: the configuration's pids have their ranges, and so has each field of an event.
pub record IsHeld (c : Settings) (events : List StationEvent) : Type 0 where
  pub lawful : AreLawful c
  pub pids : Each (λ (s : ProcessSpec). IsPid s.pid) c.specs
  pub readable : Each IsReadableEvent events

-- Where a node's jobs ended so, all seats have come back, and no receive of its link failed: these events are the run of a node. It is
-- limited only where a job met a full Room, and not limited only where none met any.
abbrev pub ClosedNodesAreRuns : Type 0
ClosedNodesAreRuns = (c : Settings) (host : ℕ) (o : HubLog) (rounds : ℕ) (history : List (ℕ × StationEvent)) (heard : List (ℕ × HubEvent))
    (n : NodeEnd) (limited : Bool) → IsNodeClosed c host o history heard n → AreNodeJobs c host o rounds n
    → IsLawfulHistory (closed_station c host history) → IsHeld c (map event_of history) → n.link.failed ≡ false
    → (limited ≡ false → NoneMet n) → (limited ≡ true → SomeMetFull n)
    → IsNodeRun c host rounds (tasks_of (passages_of n.programs)) limited n.link.handed (map event_of history)
