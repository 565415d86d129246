use Rattle.std.proofs.Common.{◌==◌, ◌∙◌, ap, length, sym, get_or, position, refl}
use Rattle.std.specs.Prelude.{ℕ, List}
use Rattle.vk_base.specs.Settings.{Settings, pool_of, stations_of}
use Rattle.vk_base.proofs.Pools.{no_pool, no_station, pool_in_place}
use Rattle.vk_base.proofs.SettingsLemmas.{among_stations}
use Rattle.vk_base.proofs.config.Config.pool_of.Goals as goal

pub returns-in-Some-clause-pool : goal.returns-in-Some-clause-pool
returns-in-Some-clause-pool c =
    let hosts = c.as_slice.ensures.value in
    ap (λ (pools : List ℕ). get_or pools c.in-Some.at 0) c.deref.ensures.0
    ∙ sym (pool_in_place c.self.inside.stations.items c.self.inside.specs.items c.self.invariant.kept.stations c.args.host
    c.self.inside.pools.items c.in-Some.at (c.self.invariant.lawful.one_each ∙ sym (ap length c.self.invariant.kept.stations))
    (ap (position (λ h. h == c.args.host)) (sym hosts) ∙ sym c.in-Some.ensures))
    ∙ ap (λ (s : Settings). pool_of s c.args.host) c.self.view_is

pub returns-in-None-clause-pool : goal.returns-in-None-clause-pool
returns-in-None-clause-pool c =
    let hosts = c.as_slice.ensures.value ∙ c.self.invariant.kept.stations in
    sym (no_pool (stations_of c.self.inside.specs.items) c.self.inside.pools.items c.args.host
    (among_stations c.self.inside.specs.items c.args.host
    ∙ no_station (stations_of c.self.inside.specs.items) c.self.inside.specs.items refl c.args.host
    (ap (position (λ h. h == c.args.host)) (sym hosts) ∙ sym c.in-None.ensures)))
    ∙ ap (λ (s : Settings). pool_of s c.args.host) c.self.view_is
