use Rattle.vk_packet.proofs.Placing.{filled, filled_some, filled_size, kept_size}
use Rattle.vk_packet.proofs.slot.Slot.fill.Goals as goal

pub write-requires-clause-room : goal.write-requires-clause-room
write-requires-clause-room c = kept_size c.self.inside.bytes c.cut_back.new.self c.self.invariant c.cut_back.ensures

pub invariant_of-self : goal.invariant_of-self
invariant_of-self c =
    filled_size c.self.inside.bytes c.cut_back.new.self c.write.new.into c.self.invariant c.cut_back.ensures c.write.ensures.some

pub returns-clause-value : goal.returns-clause-value
returns-clause-value c =
    filled c.self.inside.to c.args.to c.self.inside.bytes c.cut_back.new.self c.write.new.into _ c.args.self.now
    c.self.invariant c.cut_back.ensures c.write.ensures.bytes c.self.view_is

pub returns-clause-some : goal.returns-clause-some
returns-clause-some c =
    filled_some c.self.inside.bytes c.cut_back.new.self c.write.new.into c.self.invariant c.cut_back.ensures
    c.write.ensures.some
