use Rattle.std.proofs.Common.{◌<◌, ap, length, arith}
use Rattle.vk_pool.specs.declared.alien.Alien.{Alien}
use Rattle.vk_pool.specs.Aliens.{closed_in, forwarded}
use Rattle.vk_pool.proofs.Closing.{still_open}
use Rattle.vk_pool.proofs.Pooled.{pooled_closed}
use Rattle.vk_pool.proofs.Shown.{alien_changed, none_changed}
use Rattle.vk_pool.proofs.pool.AlienPool.forward.Goals as goal

pub returns-then-slot-len : goal.returns-then-slot-len
returns-then-slot-len c =
    let lt : c.args.slot < length c.self.inside.slots.items = omega (arith, c.len.ensures, c.self.inside.slots.ok.0) in
    alien_changed c.self.inside.count c.self.inside.slots.items c.args.self.now c.args.slot c.self.view_is
    (forwarded c.args.message.now c.args.to) c.index_mut.result.now _ lt c.index_mut.ensures.value c.forward.ensures

pub invariant_of-self : goal.invariant_of-self
invariant_of-self c =
    let lt : c.args.slot < length c.self.inside.slots.items = omega (arith, c.len.ensures, c.self.inside.slots.ok.0) in (
      pooled_closed _ _ _ _ c.self.invariant.0 c.args.slot lt c.index_mut.result.now c.index_mut.ensures.value
          _ _ (ap (λ (a : Alien). a.sender) c.forward.ensures) (omega arith)
          (still_open _ c.index_mut.result.now.used _ (ap (λ (a : Alien). closed_in a.stage) c.forward.ensures)),
      omega (arith, c.self.invariant.1),
    )

pub returns-else-slot-len : goal.returns-else-slot-len
returns-else-slot-len c =
    none_changed c.self.inside.count c.self.inside.slots.items c.args.self.now c.args.slot c.self.view_is
    (forwarded c.args.message.now c.args.to) (omega (arith, c.len.ensures, c.self.inside.slots.ok.0, c.if-slot-len.false))
