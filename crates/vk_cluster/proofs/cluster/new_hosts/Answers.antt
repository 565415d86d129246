use Rattle.std.proofs.Common.{◌≡◌, ◌+◌, List, [], ◌∷◌, ◌++◌, take, sym, subst, ◌∙◌, arith}
use Rattle.std.proofs.lemmas.Grind.{common_steps}
use Rattle.std.proofs.lemmas.List.{take_all}
use Rattle.vk_base.specs.Settings.{stations_of}
use Rattle.vk_host.specs.Values.{StationValue}
use Rattle.vk_cluster.specs.Standing.{AreHosts}
use Rattle.vk_cluster.proofs.Loops.{host_more, no_hosts, number_bounds}
use Rattle.vk_cluster.proofs.cluster.new_hosts.Goals as goal

pub loop-at-init : goal.loop-at-init
loop-at-init c =
    subst (λ (hosts : List StationValue). AreHosts c.args.config.now hosts []) (sym c.in_ok-hosts.ensures.items)
    (no_hosts c.args.config.now (stations_of c.args.config.now.specs))

pub new-requires : goal.new-requires
new-requires c =
    let bounds = number_bounds c.args.config.now.specs c.loop-at.at c.station.result (omega arith) c.station.ensures in
    record { some_host = bounds.0; one_host = bounds.1 }

pub loop-at-preserved : goal.loop-at-preserved
loop-at-preserved c =
    let numbers = stations_of c.args.config.now.specs in
    let pushed : c.push.new.self.items ≡ c.loop-at.hosts.items ++ c.in_ok-new.field-0 ∷ [] = grind (arith, common_steps) in
    subst (λ (hosts : List StationValue). AreHosts c.args.config.now hosts (take (c.loop-at.at + 1) numbers)) (sym pushed)
    (host_more c.args.config.now c.loop-at.hosts.items numbers c.loop-at.at c.in_ok-new.field-0 (omega arith) c.loop-at.invariant
    (c.in_ok-new.ensures.host ∙ c.station.ensures) c.in_ok-new.ensures.stands)

pub returns : goal.returns
returns c =
    subst (AreHosts c.args.config.now c.loop-at.hosts.items)
    (take_all c.loop-at.at (stations_of c.args.config.now.specs) (omega arith)) c.loop-at.invariant
