use Rattle.vk_packet.proofs.Placing.{new_posts}
use Rattle.vk_packet.proofs.outbox.Outbox.new.Goals as goal

pub returns : goal.returns
returns c = new_posts c.args.packets c.in_ok-with_capacity.field-0.items c.in_ok-with_capacity.ensures.items
