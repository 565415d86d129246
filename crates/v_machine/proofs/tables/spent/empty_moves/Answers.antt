use Rattle.std.proofs.Common.{◌≡◌, ap, ◌∙◌, arith}
use Rattle.v_machine.specs.Lists.{change_numbered}
use Rattle.v_machine.specs.Sends.{emptied_between}
use Rattle.v_machine.specs.Spent.{emptied}
use Rattle.v_machine.proofs.Emptying.{between_start, between_more}
use Rattle.v_machine.proofs.tables.spent.empty_moves.Goals as goal

pub loop-number-init : goal.loop-number-init
loop-number-init c = between_start c.args.opened c.args.done c.args.from c.args.moves.now

pub loop-number-preserved : goal.loop-number-preserved
loop-number-preserved c =
    let number = c.loop-number.number in
    c.empty_move.ensures ∙ ap (change_numbered number (emptied c.args.opened c.args.done number)) c.loop-number.invariant
    ∙ between_more c.args.opened c.args.done c.args.from number c.args.moves.now (omega arith)

pub returns : goal.returns
returns c =
    let to = c.args.to in
    let last : c.loop-number.number ≡ to = omega arith in
    c.empty_move-2.ensures ∙ ap (change_numbered to (emptied c.args.opened c.args.done to)) c.loop-number.invariant
    ∙ ap (λ n. change_numbered to (emptied c.args.opened c.args.done to)
    (emptied_between c.args.opened c.args.done c.args.from n 1 c.args.moves.now)) last
    ∙ between_more c.args.opened c.args.done c.args.from to c.args.moves.now c.requires
