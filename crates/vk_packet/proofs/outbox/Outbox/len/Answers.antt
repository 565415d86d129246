use Rattle.vk_packet.proofs.Placing.{framed_all}
use Rattle.vk_packet.proofs.outbox.Outbox.len.Goals as goal

pub returns-clause-framed : goal.returns-clause-framed
returns-clause-framed c =
    framed_all c.self.inside.room c.self.inside.slots.items c.self.inside.used c.args.self.now c.self.invariant.0 c.self.view_is
