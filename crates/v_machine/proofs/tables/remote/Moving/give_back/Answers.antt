use Rattle.std.proofs.Common.{ap, refl}
use Rattle.v_machine.proofs.Emptying.{alone_stays}
use Rattle.v_machine.proofs.tables.remote.Moving.give_back.Goals as goal

pub returns-else-not-keeps_bytes : goal.returns-else-not-keeps_bytes
returns-else-not-keeps_bytes c =
    let m = c.args.self.now in
    ap (λ ms. record m { moves = ms })
    (alone_stays m.opened m.done c.args.from c.args.to m.moves c.if-from-to.false (c.if-not-keeps_bytes.ensures refl))
