use Rattle.std.proofs.Common.{◌<◌, ◌/◌, ◌^◌, arith}
use Rattle.std.proofs.lemmas.Nat.{shr_le}
use Rattle.vk_timer.proofs.Sets.{next_is, over_is}
use Rattle.vk_timer.proofs.set.next_slot.Goals as goal

pub returns-then-left-eq0-clause-none : goal.returns-then-left-eq0-clause-none
returns-then-left-eq0-clause-none c = over_is c.args.slots c.args.from c.if-left-eq0.true

pub returns-else-left-eq0-clause-next : goal.returns-else-left-eq0-clause-next
returns-else-left-eq0-clause-next c =
    let less = shr_le c.args.slots c.args.from in
    let some : 0 < c.args.slots / 2 ^ c.args.from = omega (arith, c.if-left-eq0.false) in
    let fits : c.args.slots / 2 ^ c.args.from < 2 ^ 32 = omega (arith, less, c.ranges.slots.fits) in
    next_is c.args.slots c.args.from c.ranges.slots.fits some fits
