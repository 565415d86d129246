use Rattle.std.proofs.Common.{[], refl, subst}
use Rattle.vk_port.specs.Ports.{HasPumped}
use Rattle.vk_udp.proofs.Clocking.{looked_delivered}
use Rattle.vk_udp.proofs.clock.has_ended.Goals as goal

pub returns-in-Ok-Stopped-clause-looked : goal.returns-in-Ok-Stopped-clause-looked
returns-in-Ok-Stopped-clause-looked g c =
    subst (HasPumped c.args.port.now c.pump.new.self) c.in-Ok-Stopped.field-0-is c.in-Ok-Stopped.ensures.ok

pub returns-in-Ok-Delivered-clause-looked : goal.returns-in-Ok-Delivered-clause-looked
returns-in-Ok-Delivered-clause-looked g c =
    looked_delivered c.args.port.now c.pump.new.self c.in-Ok-Delivered.field-0-0
    (subst (HasPumped c.args.port.now c.pump.new.self) c.in-Ok-Delivered.field-0-is c.in-Ok-Delivered.ensures.ok)

pub returns-in-Ok-Nothing-clause-looked : goal.returns-in-Ok-Nothing-clause-looked
returns-in-Ok-Nothing-clause-looked g c =
    let rested = subst (HasPumped c.args.port.now c.pump.new.self) c.in-Ok-Nothing.field-0-is c.in-Ok-Nothing.ensures.ok in
    ([], rested.0, tt, refl, refl)
