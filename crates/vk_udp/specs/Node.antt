-- What the run of a node comes to, and what it does to its wire's and its crew's counts.
use Rattle.std.specs.Prelude.{ℕ, ◌≡◌, ◌≤◌, ◌++◌, ◌⊎◌, Bool, true, Option, Some, List, length, Result, Ok, Err}
use Rattle.vk_types.specs.Types.{ProcessSpec, StationEvent}
use Rattle.vk_base.specs.declared.limits.TheConstants.{EVENTS}
use Rattle.vk_base.specs.Settings.{Settings, has_process, has_station, stations_of}
use Rattle.vk_event.specs.declared.port.StationPort.{StationPort}
use Rattle.vk_event.specs.NodeLaws.{IsLawfulLog}
use Rattle.vk_event.specs.Ports.{has_port}
use Rattle.vk_hub.specs.Hubs.{HubLog}
use Rattle.vk_hub.specs.Links.{Frame}
use Rattle.vk_io.specs.Causes.{Rose}
use Rattle.vk_port.specs.Stations.{entries_after}
use Rattle.vk_program.specs.declared.assigned.Assigned.{Assigned}
use Rattle.vk_rules.specs.Each.{Each}
use Rattle.vk_schedule.specs.declared.log.StationLog.{StationLog}
use Rattle.vk_schedule.specs.declared.plan.LinkPlan.{LinkPlan}
use Rattle.v_node.specs.Links.{HubStand, nothing_heard}
use Rattle.v_node.specs.Sent.{AreOwnFrames}
use Rattle.v_node.specs.Outcomes.{IsNodeRun}
use Rattle.v_run.specs.Outcomes.{Assignment}
use Rattle.vk_udp.specs.Asked.{HasAskedAround, errands_in, sent_for}
use Rattle.vk_udp.specs.Wires.{Datagram}
use Rattle.vk_udp.specs.declared.record.NodeRefusal.{NodeRefusal}
use Rattle.vk_udp.specs.declared.record.NodeRefusal.TheVariants as refusals

-- the process is one of the station
abbrev pub IsProcessAt : {G : Type 0} → List ProcessSpec → ℕ → Assigned G → Type 0
IsProcessAt specs host a = (has_process specs a.pid ≡ true) × (a.pid.host ≡ host)

-- the ports are of stations, and this station has one
pub record HavePort (specs : List ProcessSpec) (host : ℕ) (ports : List StationPort) : Type 0 where
  pub stations : Each (λ (p : StationPort). has_station specs p.host ≡ true) ports
  pub own : has_port ports host ≡ true

-- Where a wire tells what its links handed out, or were given to send, before and now, it is this in between.
abbrev pub HandedOut : {A : Type 0} → (before now : Option (List A)) → List A → Type 0
HandedOut (Some before) (Some now) handed = now ≡ before ++ handed
HandedOut before now handed = Unit {0}

-- WHAT A NODE CAME TO: its log is of the station, and its events are the run of a node whose link was handed these datagrams.
pub record IsRecordOf (c : Settings) (host rounds : ℕ) (tasks : List Assignment) (handed : List Frame) (limited : Bool) (log : StationLog)
    : Type 0 where
  pub at : log.host ≡ host
  pub ran : IsNodeRun c host rounds tasks limited handed log.events
  pub lawful : IsLawfulLog c log
  pub few : length log.events ≤ EVENTS

-- These were handed out by the wire's link, which the wire tells if it does.
pub record IsNodeRecord (c : Settings) (host rounds : ℕ) (tasks : List Assignment) (before now : Option (List Frame)) (limited : Bool)
    (log : StationLog) : Type 0 where
  pub handed : List Frame
  pub told : HandedOut before now handed
  pub is : IsRecordOf c host rounds tasks handed limited log

-- WHAT A NODE SENT: its carrier asked a hub with this link plan, round after round, for the stations of these ports. The frames that it was
-- handed out were sent, each to its station's port, in order, and nothing else was. They are frames that the station made by these events,
-- and none is for the station itself.
pub record HasSent (c : Settings) (host : ℕ) (plan : LinkPlan) (ports : List StationPort) (events : List StationEvent)
    (before now : Option (List Datagram)) : Type 0 where
  pub hub : HubLog
  pub plan_is : hub.plan ≡ plan
  pub stations : hub.stations ≡ stations_of c.specs
  pub carrier : ℕ
  pub reached : HubStand
  pub around : HasAskedAround carrier hub nothing_heard ports reached
  pub told : HandedOut before now (sent_for around.asked.asks)
  pub own : AreOwnFrames plan host (errands_in around.asked.asks) (entries_after c host events)

-- the count of faults rose of what failed, the wire or the crew, and every other count is as it was
abbrev pub TellsNodeFault : {T : Type 0} → (wire wire_now crew crew_now : ℕ) → Result T NodeRefusal → Type 0
TellsNodeFault wire wire_now crew crew_now (Ok r) = (wire_now ≡ wire) × (crew_now ≡ crew)
TellsNodeFault wire wire_now crew crew_now (Err refusals.LinkFault) = Rose wire wire_now × (crew_now ≡ crew)
TellsNodeFault wire wire_now crew crew_now (Err refusals.CrewFault) = (wire_now ≡ wire) × Rose crew crew_now
TellsNodeFault wire wire_now crew crew_now (Err refusals.NoMemory) = (wire_now ≡ wire) × (crew_now ≡ crew)

-- The crew's count of jobs has grown where there is a record. Where there is none, it is as it was where the crew failed; the wire may
-- fail, and memory be wanting, before the crew's call or behind it.
abbrev pub TellsNodeJobs : {T : Type 0} → (before grown now : ℕ) → Result T NodeRefusal → Type 0
TellsNodeJobs before grown now (Ok r) = now ≡ grown
TellsNodeJobs before grown now (Err refusals.LinkFault) = (now ≡ before) ⊎ (now ≡ grown)
TellsNodeJobs before grown now (Err refusals.CrewFault) = now ≡ before
TellsNodeJobs before grown now (Err refusals.NoMemory) = (now ≡ before) ⊎ (now ≡ grown)

-- what the crew's call does to its counts: its faults, and its jobs
abbrev pub TellsCrew : {T : Type 0} → (faults faults_now before grown now : ℕ) → Result T NodeRefusal → Type 0
TellsCrew faults faults_now before grown now (Ok r) = (faults_now ≡ faults) × (now ≡ grown)
TellsCrew faults faults_now before grown now (Err refusals.LinkFault) = ⊥
TellsCrew faults faults_now before grown now (Err refusals.CrewFault) = Rose faults faults_now × (now ≡ before)
TellsCrew faults faults_now before grown now (Err refusals.NoMemory) = (faults_now ≡ faults) × (now ≡ before)

-- what the taking back of a link does to the wire's count
abbrev pub TellsLink : {T : Type 0} → (wire wire_now : ℕ) → Result T NodeRefusal → Type 0
TellsLink wire wire_now (Ok r) = wire_now ≡ wire
TellsLink wire wire_now (Err refusals.LinkFault) = Rose wire wire_now
TellsLink wire wire_now (Err refusals.CrewFault) = ⊥
TellsLink wire wire_now (Err refusals.NoMemory) = wire_now ≡ wire
