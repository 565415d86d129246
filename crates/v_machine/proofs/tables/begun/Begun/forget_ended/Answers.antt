use Rattle.std.proofs.Common.{◌+◌, ◌<◌, sym, subst, arith}
use Rattle.v_machine.specs.Begun.{AreEnded, Forgets, behind}
use Rattle.v_machine.proofs.Behind.{forgets}
use Rattle.v_machine.proofs.tables.begun.Begun.forget_ended.Goals as goal

pub returns : goal.returns
returns c =
    let count = c.self.inside.forgotten in
    let es = c.self.inside.rest in
    let m = c.ended_of-ended.result in
    let some : 0 < m = omega (arith, c.if-ended-eq0.false) in
    let are = subst (AreEnded m) c.as_slice.ensures (c.ended_of-ended.ensures some) in
    subst (λ old. Forgets old (behind (count + m) c.forget.new.self)) c.self.view_is
    (subst (λ xs. Forgets (behind count es) (behind (count + m) xs)) (sym c.forget.ensures) (forgets count m es c.self.invariant.0 are))
