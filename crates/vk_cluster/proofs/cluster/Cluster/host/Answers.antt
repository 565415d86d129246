use Rattle.std.proofs.Common.{ap, sym, subst, ◌∙◌, arith}
use Rattle.std.specs.Prelude.{slice_get}
use Rattle.vk_base.specs.Settings.{has_station}
use Rattle.vk_cluster.specs.Clusters.{cluster_of}
use Rattle.vk_cluster.specs.Standing.{StandsFor}
use Rattle.vk_cluster.specs.Values.{ClusterValue}
use Rattle.vk_cluster.proofs.Arms.{found_at, host_is, place_low}
use Rattle.vk_cluster.proofs.Taking.{newest_at, station_at}
use Rattle.vk_cluster.proofs.cluster.Cluster.host.Goals as goal

pub place_of-requires : goal.place_of-requires
place_of-requires c = ap (λ (k : ClusterValue). has_station k.config.specs c.args.host) c.self.view_is ∙ c.requires.station

pub index-requires : goal.index-requires
index-requires c =
    let parts = c.self.inside.parts in
    let low = place_low (cluster_of parts) c.self.invariant c.place_of.result c.args.host c.place_of.ensures in
    omega (arith, parts.hosts.ok.0)

pub returns : goal.returns
returns c =
    let v = cluster_of c.self.inside.parts in
    let low = place_low v c.self.invariant c.place_of.result c.args.host c.place_of.ensures in
    let s = c.index.result.now in
    let found = found_at v.hosts c.place_of.result s low c.index.ensures in
    let host = host_is v c.self.invariant c.place_of.result c.args.host c.place_of.ensures s found in
    let seen = sym c.self.view_is in
    record {
      host = host;
      found = (c.place_of.result, ap (λ (k : ClusterValue). slice_get k.hosts c.place_of.result) seen ∙ found);
      at = λ d es st. station_at d es v c.place_of.result c.args.host s (subst (StandsFor d es) seen st) found host;
      newest = λ d es st. newest_at d es v c.place_of.result c.args.host s (subst (StandsFor d es) seen st) found host;
    }
