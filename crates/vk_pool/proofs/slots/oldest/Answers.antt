use Rattle.std.proofs.Common.{◌+◌, ◌∙◌, None, ap, arith, map, subst, sym}
use Rattle.std.proofs.lemmas.List.{get_or-map, length-map}
use Rattle.vk_pool.specs.Kept.{IsClosedFrom, shown}
use Rattle.vk_pool.proofs.Closing.{AreFrontClosed, front_all, front_more}
use Rattle.vk_pool.proofs.slots.oldest.Goals as goal

pub loop-slot-preserved : goal.loop-slot-preserved
loop-slot-preserved c =
    let slots = c.args.slots.now in
    let at = c.loop-slot.slot-index in
    subst (λ n. AreFrontClosed n (at + 1) (map shown slots)) (sym c.min-oldest.ensures)
    (front_more c.loop-slot.oldest c.closed_at.result at (map shown slots) c.loop-slot.invariant
    (subst (IsClosedFrom c.closed_at.result)
    (sym (get_or-map shown slots at c.slot-item.result None c.loop-slot-test.true ∙ ap shown (sym c.slot-item.is))) c.closed_at.ensures))

pub returns : goal.returns
returns c =
    let slots = c.args.slots.now in
    front_all c.loop-slot.oldest (map shown slots)
    (λ k less. c.loop-slot.invariant k (let long = length-map slots shown in omega (arith, less, long, c.loop-slot-test.false)))
