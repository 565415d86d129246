use Rattle.std.proofs.Common.{◌≡◌, ◌-◌, sym, subst, arith}
use Rattle.v_machine.specs.Begun.{AreEnded}
use Rattle.v_machine.proofs.Behind.{are_ended}
use Rattle.v_machine.proofs.tables.begun.ended_of.Goals as goal

pub returns-in-Some : goal.returns-in-Some
returns-in-Some c some =
    let at = c.in-Some.at in
    let same : at - 1 ≡ c.saturating_sub.result = omega (arith, c.saturating_sub.ensures) in
    subst (λ m. AreEnded m c.args.sends.now) same (are_ended c.args.sends.now at (sym c.in-Some.ensures) (omega (arith, some)))
