use Rattle.std.proofs.Common.{◌+◌, ◌∙◌, arith, sym}
use Rattle.vk_text.proofs.OpeningReading.{all_read, lawful_pool, none_more, none_read, one_more, same_step}
use Rattle.vk_text.proofs.opening.read_pools.Goals.{in-Some, in_default}
use Rattle.vk_text.proofs.opening.read_pools.Goals as goal

pub loop-place-init : goal.loop-place-init
loop-place-init c = none_read c.args.config.now c.args.text.now c.args.start c.requires.usual c.requires.within

pub give_pool-requires : goal.give_pool-requires
give_pool-requires c =
    lawful_pool c.args.config.now c.args.text.now c.args.start c.loop-place.config c.loop-place.at c.loop-place.taken c.loop-place.place
    c.loop-place.invariant (omega (arith, c.station_count-place-end.ensures.count, c.loop-place-test.true)) c.station-host.result (sym c.station-host.ensures) _ c.in-Some.ensures.pool

pub loop-place-preserved : goal.loop-place-preserved
loop-place-preserved c = elim c.match-first_pool.branch [
  | in-Some w ↦
      same_step c.args.config.now c.args.text.now c.args.start _ c.match-first_pool.config _ c.match-first_pool.at _ c.match-first_pool.taken
      (c.loop-place.place + 1)
      (one_more c.args.config.now c.args.text.now c.args.start c.loop-place.config c.loop-place.at c.loop-place.taken c.loop-place.place
      c.loop-place.invariant (omega (arith, c.station_count-place-end.ensures.count, c.loop-place-test.true)) c.station-host.result (sym c.station-host.ensures) w.in-Some.pool w.in-Some.next w.in-Some.ensures.pool
      w.in-Some.ensures.within)
      (w.config-is ∙ w.give_pool.ensures) w.at-is w.taken-is
  | in_default w ↦
      same_step c.args.config.now c.args.text.now c.args.start _ c.match-first_pool.config _ c.match-first_pool.at _ c.match-first_pool.taken
      (c.loop-place.place + 1)
      (none_more c.args.config.now c.args.text.now c.args.start c.loop-place.config c.loop-place.at c.loop-place.taken c.loop-place.place
      c.loop-place.invariant (omega (arith, c.station_count-place-end.ensures.count, c.loop-place-test.true)) c.station-host.result (sym c.station-host.ensures) w.in_default.ensures.pool)
      w.config-is w.at-is w.taken-is
]

pub returns-clause-read : goal.returns-clause-read
returns-clause-read c =
    all_read c.args.config.now c.args.text.now c.args.start c.loop-place.config c.loop-place.at c.loop-place.taken c.loop-place.place
    c.loop-place.invariant (omega (arith, c.station_count-place-end.ensures.count, c.loop-place-test.false))
