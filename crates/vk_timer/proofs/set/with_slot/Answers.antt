use Rattle.vk_timer.proofs.Sets.{bit_put}
use Rattle.vk_timer.proofs.set.with_slot.Goals as goal

pub returns : goal.returns
returns c = λ k. bit_put c.args.slots c.args.slot k c.requires
