use Rattle.std.proofs.Common.{◌==◌, ◌∙◌, ap, length, sym, position, refl, set}
use Rattle.std.specs.Prelude.{ℕ, List}
use Rattle.vk_base.specs.Settings.{Settings, with_pool}
use Rattle.vk_base.proofs.Pools.{is_station, kept_pool, no_station, put_in_place, refilled}
use Rattle.std.proofs.lemmas.List.{length-set}
use Rattle.vk_base.proofs.config.Config.set_pool.Goals as goal

pub returns-in_default-clause-err : goal.returns-in_default-clause-err
returns-in_default-clause-err c =
    let hosts = c.as_slice.ensures.value in
    let none = no_station c.self.inside.stations.items c.self.inside.specs.items c.self.invariant.kept.stations c.args.host
    (ap (position (λ h. h == c.args.host)) (sym hosts) ∙ sym c.in_default.ensures) in
    rw (← c.self.view_is, none) refl

pub returns-then-not-is_pool-clause-err : goal.returns-then-not-is_pool-clause-err
returns-then-not-is_pool-clause-err c =
    let hosts = c.as_slice.ensures.value in
    let some = is_station c.self.inside.stations.items c.self.inside.specs.items c.self.invariant.kept.stations c.args.host c.in-Some.at
    (ap (position (λ h. h == c.args.host)) (sym hosts) ∙ sym c.in-Some.ensures) in
    rw (← c.self.view_is, some, sym c.is_pool.ensures ∙ c.if-not-is_pool.true) refl

pub invariant_of-self : goal.invariant_of-self
invariant_of-self c =
    let set_is = refilled c.self.inside.pools.items _ (length-set c.deref_mut.result.now c.in-Some.at c.args.pool ∙ ap length c.deref_mut.ensures.value)
    ∙ ap (λ xs. set xs c.in-Some.at c.args.pool) c.deref_mut.ensures.value in
    rw set_is (kept_pool c.self.inside.times c.self.inside.pools.items c.self.inside.stations.items c.self.inside.specs.items c.in-Some.at
    c.args.pool c.self.invariant (sym c.is_pool.ensures ∙ c.if-not-is_pool.false))

pub returns-clause-ok : goal.returns-clause-ok
returns-clause-ok c =
    let hosts = c.as_slice.ensures.value in
    let at = ap (position (λ h. h == c.args.host)) (sym hosts) ∙ sym c.in-Some.ensures in
    let some = is_station c.self.inside.stations.items c.self.inside.specs.items c.self.invariant.kept.stations c.args.host c.in-Some.at at in
    let put = put_in_place c.self.inside.stations.items c.self.inside.specs.items c.self.invariant.kept.stations c.args.host
    c.self.inside.pools.items c.in-Some.at c.args.pool
    (c.self.invariant.lawful.one_each ∙ sym (ap length c.self.invariant.kept.stations)) at in
    let set_is = refilled c.self.inside.pools.items _ (length-set c.deref_mut.result.now c.in-Some.at c.args.pool ∙ ap length c.deref_mut.ensures.value)
    ∙ ap (λ xs. set xs c.in-Some.at c.args.pool) c.deref_mut.ensures.value ∙ sym put in (
      rw (← c.self.view_is, some, sym c.is_pool.ensures ∙ c.if-not-is_pool.false) refl,
      ap (λ (pools : List ℕ). record { times = c.self.inside.times; pools = pools; specs = c.self.inside.specs.items }) set_is
          ∙ ap (λ (s : Settings). with_pool s c.args.host c.args.pool) c.self.view_is,
    )
