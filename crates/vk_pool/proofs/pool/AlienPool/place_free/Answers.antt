use Rattle.std.proofs.Common.{◌∙◌, None, Some, ap, arith, cond, sym}
use Rattle.std.specs.List.{position}
use Rattle.std.proofs.lemmas.Bool.{le-ltb, lt-ltb}
use Rattle.vk_pool.specs.Kept.{is_free}
use Rattle.vk_pool.proofs.Shown.{next_free}
use Rattle.vk_pool.proofs.pool.AlienPool.place_free.Goals as goal

pub returns-then-at-self : goal.returns-then-at-self
returns-then-at-self c =
    let s = c.self.inside in
    sym (next_free s.count c.unwrap_or-at.result c.len.result c.place_free.result s.slots.items c.args.self.now c.self.view_is
    c.self.invariant.0.made c.unwrap_or-at.ensures (c.place_free.ensures ∙ ap (position is_free) c.deref.ensures.value)
    (omega (arith, c.len.ensures, s.slots.ok.0)) ∙ ap (λ b. cond b (Some c.unwrap_or-at.result) None) (lt-ltb _ _ c.if-at-self.true))

pub returns-else-at-self : goal.returns-else-at-self
returns-else-at-self c =
    let s = c.self.inside in
    sym (next_free s.count c.unwrap_or-at.result c.len.result c.place_free.result s.slots.items c.args.self.now c.self.view_is
    c.self.invariant.0.made c.unwrap_or-at.ensures (c.place_free.ensures ∙ ap (position is_free) c.deref.ensures.value)
    (omega (arith, c.len.ensures, s.slots.ok.0)) ∙ ap (λ b. cond b (Some c.unwrap_or-at.result) None) (le-ltb _ _ c.if-at-self.false))
