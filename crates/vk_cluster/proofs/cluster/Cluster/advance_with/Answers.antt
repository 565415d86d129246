use Rattle.std.proofs.Common.{◌≡◌, false, ap, subst, ◌∙◌}
use Rattle.std.specs.Prelude.{IfErr, IfOk, OnErr}
use Rattle.vk_schedule.specs.Lawful.{has_actors}
use Rattle.vk_cluster.specs.Clusters.{cluster_of}
use Rattle.vk_rules.specs.Laws.{station_of}
use Rattle.vk_cluster.specs.Standing.{IsAdvance, advanced, is_limit}
use Rattle.vk_cluster.specs.Values.{ClusterValue, is_full}
use Rattle.vk_cluster.proofs.Lasting.{stands_on}
use Rattle.vk_cluster.proofs.cluster.Cluster.advance_with.Goals as goal

pub advance-requires : goal.advance-requires
advance-requires c = record {
  somewhere = c.self.invariant;
  actors = ap (λ (k : ClusterValue). has_actors k.config.specs c.args.event.now) c.self.view_is ∙ c.requires.actors;
}

pub returns : goal.returns
returns c =
    let r = c.advance.result in
    let new = cluster_of c.advance.new.self in
    let e = c.args.event.now in
    let told = advanced (station_of e) c.advance.new.response in
    record {
      step = subst (λ (k : ClusterValue). IfOk r (λ place. IsAdvance k new e (told place))) c.self.view_is c.advance.ensures.step;
      room = subst (λ (k : ClusterValue). IfOk r (λ _. is_full k ≡ false)) c.self.view_is c.advance.ensures.room;
      cause = subst (λ (k : ClusterValue). IfErr r (λ e. is_full k ≡ is_limit e)) c.self.view_is c.advance.ensures.cause;
      same = subst (λ (k : ClusterValue). OnErr r (new ≡ k)) c.self.view_is c.advance.ensures.same;
    }

pub invariant_of-self : goal.invariant_of-self
invariant_of-self c =
    stands_on _ _ c.args.event.now (advanced (station_of c.args.event.now) c.advance.new.response) c.advance.result c.advance.ensures.step
    c.advance.ensures.same c.self.invariant
