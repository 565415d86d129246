use Rattle.std.proofs.Common.{◌<◌, length, ap, sym, subst, arith, ◌∙◌}
use Rattle.std.specs.Prelude.{slice_get}
use Rattle.vk_cluster.specs.Values.{ClusterValue}
use Rattle.vk_cluster.proofs.Arms.{found_at}
use Rattle.vk_cluster.proofs.cluster.Cluster.station.Goals as goal

pub index-requires : goal.index-requires
index-requires c =
    let hosts = c.self.inside.parts.hosts in
    let low = subst (λ (k : ClusterValue). c.args.place < length k.hosts) (sym c.self.view_is) c.requires in
    omega (arith, low, hosts.ok.0)

pub returns : goal.returns
returns c =
    let hosts = c.self.inside.parts.hosts.items in
    let low = subst (λ (k : ClusterValue). c.args.place < length k.hosts) (sym c.self.view_is) c.requires in
    ap (λ (k : ClusterValue). slice_get k.hosts c.args.place) (sym c.self.view_is)
    ∙ found_at hosts c.args.place c.index.result.now low c.index.ensures
