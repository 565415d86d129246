use Rattle.std.proofs.Common.{◌≤◌, length, sym, ◌∙◌, arith}
use Rattle.v_machine.proofs.Replaced.{few_beside}
use Rattle.v_machine.proofs.calls.names.is_full.Goals as goal

pub returns-then-names-le-NAMES : goal.returns-then-names-le-NAMES
returns-then-names-le-NAMES c =
    let low : length c.args.names.now ≤ 64 = omega arith in
    sym (few_beside c.args.host c.args.logical c.args.names.now c.args.older c.requires
    (sym c.is_some.ensures ∙ c.if-is_some.true) low)
