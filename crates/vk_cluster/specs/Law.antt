-- The law of all stations.
use Rattle.std.specs.Prelude.{List}
use Rattle.vk_base.specs.Settings.{Settings}
use Rattle.vk_schedule.specs.declared.event.Event.{Event}
use Rattle.vk_rules.specs.Observed.{IsRunOf}
use Rattle.vk_cluster.specs.Standing.{StandsFor}
use Rattle.vk_cluster.specs.Values.{ClusterValue}

-- the steps of the history of all events that a cluster stands for are a run with exactly its observations
abbrev pub ClustersRun : Type 0
ClustersRun = (c : Settings) (es : List Event) (k : ClusterValue) → StandsFor c es k → IsRunOf c es
