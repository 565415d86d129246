use Rattle.std.proofs.Common.{◌≡◌, subst}
use Rattle.std.specs.Prelude.{Ok}
use Rattle.vk_udp.specs.Wires.{received}
use Rattle.vk_udp.proofs.Bringing.{brought_none, heard_full, heard_one}
use Rattle.vk_udp.proofs.carrier.hear.Goals as goal

pub returns-in-Ok-true-clause-brought : goal.returns-in-Ok-true-clause-brought
returns-in-Ok-true-clause-brought g c =
    let handed = g.L.Link.handed in
    heard_one c.args.route.now.host c.args.port.now c.bring.new.port (handed c.args.link.now) (handed c.receive.new.self) c.receive.new.into c.bring.result
    c.bring.ensures
    (subst (λ b. handed c.receive.new.self ≡ received (handed c.args.link.now) (Ok b) c.receive.new.into) c.in-Ok-true.field-0-test
    c.in-Ok-true.ensures.handed)

pub returns-in-Ok-true-clause-full : goal.returns-in-Ok-true-clause-full
returns-in-Ok-true-clause-full g c = heard_full c.args.route.now.host c.args.port.now c.bring.new.port c.receive.new.into c.bring.result c.bring.ensures

pub returns-in-Ok-false-clause-brought : goal.returns-in-Ok-false-clause-brought
returns-in-Ok-false-clause-brought g c =
    let handed = g.L.Link.handed in
    brought_none c.args.route.now.host c.args.port.now (handed c.args.link.now) (handed c.receive.new.self)
    (subst (λ b. handed c.receive.new.self ≡ received (handed c.args.link.now) (Ok b) c.receive.new.into) c.in-Ok-false.field-0-test
    c.in-Ok-false.ensures.handed)

pub returns-in-Err-clause-brought : goal.returns-in-Err-clause-brought
returns-in-Err-clause-brought g c =
    brought_none c.args.route.now.host c.args.port.now (g.L.Link.handed c.args.link.now) (g.L.Link.handed c.receive.new.self) c.in-Err.ensures.handed
