use Rattle.std.proofs.Common.{◌≡◌, ◌+◌, ◌-◌, drop, length, take, ap, ◌∙◌, arith}
use Rattle.v_machine.proofs.Shifting.{shifted_all}
use Rattle.v_machine.proofs.tables.numbered.Numbered.forget.Goals as goal

pub returns : goal.returns
returns g c =
    let old = c.self.inside.items.items in
    let at = c.loop-at.at in
    let new = c.loop-at.self-inside.items.items in
    let long = ap length c.self.view_is in
    let same : c.len.result - c.args.count ≡ at = omega (arith, c.loop-at.auto.at-end) in
    let all : c.args.count + at ≡ length old = omega (arith, c.len.ensures, c.self.inside.items.ok.0, c.requires, same, long) in
    c.truncate.ensures.items ∙ ap (λ n. take n new) same ∙ shifted_all c.args.count at old new all c.loop-at.invariant
    ∙ ap (drop c.args.count) c.self.view_is
