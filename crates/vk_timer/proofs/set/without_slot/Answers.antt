use Rattle.vk_timer.proofs.Sets.{bit_taken}
use Rattle.vk_timer.proofs.set.without_slot.Goals as goal

pub returns : goal.returns
returns c = λ k. bit_taken c.args.slots c.args.slot k c.ranges.slots.fits c.requires
