use Rattle.std.proofs.Common.{◌≡◌, ◌<◌, ◌-◌, ◌∙◌, ◌++◌, arith, drop, length, map, take, ap, subst, sym}
use Rattle.std.proofs.lemmas.List.{length-map}
use Rattle.vk_pool.specs.Aliens.{kept}
use Rattle.vk_pool.specs.Kept.{shown}
use Rattle.vk_pool.proofs.Pooled.{release_all, release_more}
use Rattle.vk_pool.proofs.Shown.{shown_count}
use Rattle.vk_pool.proofs.pool.AlienPool.release_all.Goals as goal

pub loop-slot-preserved : goal.loop-slot-preserved
loop-slot-preserved c =
    let slots = c.self.inside.slots in
    let many = ap length (sym c.self.view_is) ∙ shown_count c.self.inside.count slots.items c.self.invariant.0.made in
    let low : c.loop-slot.slot < length c.args.self.now =
    omega (arith, many, c.self.invariant.0.made, c.len-slot-end.ensures, slots.ok.0, c.loop-slot-test.true) in
    release_more c.args.times.now c.args.now c.args.self.now c.loop-slot.self c.release_one.new.self c.loop-slot.slot low
    c.loop-slot.invariant c.release_one.ensures

pub returns : goal.returns
returns c =
    let slots = c.self.inside.slots in
    let front = map shown slots.items in
    let all : c.loop-slot.slot ≡ length front = omega (
      arith,
      length-map slots.items shown,
      c.len-slot-end.ensures,
      slots.ok.0,
      c.loop-slot.auto.slot-end,
      c.loop-slot-test.false,
    ) in
    release_all c.args.times.now c.args.now front c.args.self.now c.loop-slot.self (c.self.inside.count - length slots.items) c.self.view_is
    (subst (λ n. c.loop-slot.self ≡ map (kept c.args.times.now c.args.now) (take n c.args.self.now) ++ drop n c.args.self.now) all
    c.loop-slot.invariant)
