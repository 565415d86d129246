-- What is said of a cluster with these parts.
use Rattle.vk_cluster.specs.declared.cluster.ClusterParts.{ClusterParts}
use Rattle.vk_cluster.specs.Piles.{pile_of}
use Rattle.vk_cluster.specs.Values.{ClusterValue}

abbrev pub cluster_of : ClusterParts → ClusterValue
cluster_of p = record { config = p.config; hosts = p.hosts.items; pile = pile_of p.emitted; events = p.events }
