use Rattle.std.proofs.Common.{◌≡◌, length, sym, subst, ◌∙◌}
use Rattle.std.specs.Prelude.{sum_by}
use Rattle.std.proofs.lemmas.Option.{same_Some}
use Rattle.vk_host.specs.Values.{StationValue}
use Rattle.vk_cluster.specs.Clusters.{cluster_of}
use Rattle.vk_cluster.specs.Piles.{IsAdded, pile_of}
use Rattle.vk_cluster.proofs.Arms.{found_at}
use Rattle.vk_cluster.proofs.Taking.{finished, room_for}
use Rattle.vk_cluster.proofs.cluster.ClusterParts.finish.Goals as goal

pub keep-requires : goal.keep-requires
keep-requires c =
    let s = c.index.result.now in
    let found = found_at c.args.self.now.hosts.items c.args.place s c.requires.place c.index.ensures in
    record {
      kept = c.requires.kept;
      place = c.requires.events;
      room =
          room_for c.args.self.now.emitted c.args.place (sum_by length s.frames) (length s.frames) (c.requires.bytes s found)
          (c.requires.few s found).few c.requires.room;
      few = c.requires.few s found;
    }

pub returns : goal.returns
returns c t there =
    let hosts = c.args.self.now.hosts.items in
    let s = c.index.result.now in
    let same : s ≡ t =
    same_Some s t (sym (found_at hosts c.args.place s c.requires.place c.index.ensures) ∙ there) in
    finished (cluster_of c.args.self.now) (pile_of c.keep.new.emitted) c.args.place t
    (subst (λ (v : StationValue). IsAdded (pile_of c.args.self.now.emitted) (pile_of c.keep.new.emitted) c.args.place v.frames) same c.keep.ensures)
