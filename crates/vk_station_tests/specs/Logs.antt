-- A log of a station of these processes.
use Rattle.std.specs.Prelude.{◌≡◌, true, List}
use Rattle.vk_types.specs.Types.{ProcessSpec}
use Rattle.vk_base.specs.Settings.{has_station}
use Rattle.vk_schedule.specs.declared.log.StationLog.{StationLog}
use Rattle.vk_join.specs.Logs.{IsOfStation}
use Rattle.vk_rules.specs.Each.{Each}

pub record IsLogOf (specs : List ProcessSpec) (l : StationLog) : Type 0 where
  pub station : has_station specs l.host ≡ true
  pub own : Each (IsOfStation specs l.host) l.events
