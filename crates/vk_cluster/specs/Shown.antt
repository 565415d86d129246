-- Of the code alone, no law rests on it: what a cluster tells and shows of the event that it had last.
use Rattle.std.specs.Prelude.{◌≡◌, ◌≤◌, List, length, map, true}
use Rattle.vk_base.specs.declared.limits.TheConstants.{TICK_PACKETS}
use Rattle.vk_types.specs.Types.{EventAnswer}
use Rattle.vk_base.specs.Settings.{Settings}
use Rattle.vk_cluster.specs.declared.report.Advance.{Advance}
use Rattle.vk_cluster.specs.declared.report.StepReport.{StepReport}
use Rattle.vk_cluster.specs.Standing.{IsNextReported, TellsReport}
use Rattle.vk_cluster.specs.Values.{ClusterValue}
use Rattle.vk_schedule.specs.declared.event.Event.{Event}
use Rattle.vk_schedule.specs.Lawful.{has_actors}
use Rattle.vk_host.specs.Sealed.{sealed}
use Rattle.vk_host.specs.Standing.{Shows}
use Rattle.vk_host.specs.Values.{StationValue}
use Rattle.vk_rules.specs.Each.{Each}
use Rattle.vk_rules.specs.Entries.{Entry}
use Rattle.vk_rules.specs.Frames.{Frame}
use Rattle.v_lawful.specs.Sending.{IsLawfulFrame}

-- the frames of the station's last event are these, which are lawful, and not too many
pub record Sends (s : StationValue) (fs : List Frame) : Type 0 where
  pub frames : s.frames ≡ map sealed fs
  pub lawful : Each IsLawfulFrame fs
  pub few : length fs ≤ TICK_PACKETS

-- the station's last event is this entry, and was answered so
pub record IsLastEvent (s : StationValue) (answer : EventAnswer) (e : Entry) : Type 0 where
  pub shows : Shows s answer e
  pub sends : Sends s e.frames

-- the cluster reports so of this event, which is behind these and of a process or of stations of the configuration
pub record HasReported (c : Settings) (es : List Event) (now : ClusterValue) (e : Event) (r : StepReport) : Type 0 where
  pub actors : has_actors c.specs e ≡ true
  pub next : IsNextReported c es now e r

-- the cluster reports so of this event, in few bytes
pub record HasAdvanced (c : Settings) (es : List Event) (now : ClusterValue) (e : Event) (a : Advance) : Type 0 where
  pub report : StepReport
  pub told : TellsReport now a report
  pub reported : HasReported c es now e report
