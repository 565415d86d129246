use Rattle.vk_packet.proofs.Placing.{front_put}
use Rattle.vk_packet.proofs.slot.Slot.put_front.Goals as goal

pub returns : goal.returns
returns c =
    front_put c.self.inside.to c.self.inside.bytes c.put_first.new.self c.args.front.now c.args.self.now c.told-front c.put_first.ensures
    c.self.view_is
