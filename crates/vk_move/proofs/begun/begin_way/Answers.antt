use Rattle.std.proofs.Common.{sym}
use Rattle.vk_move.proofs.Begins.{begins, few_moves}
use Rattle.vk_move.proofs.begun.begin_way.Goals as goal

pub run-requires-clause-moves : goal.run-requires-clause-moves
run-requires-clause-moves c = few_moves c.args.aliens.now c.requires.moves c.args.transfer.partner

pub run-requires-clause-goes : goal.run-requires-clause-goes
run-requires-clause-goes c =
    let x = c.args.transfer in
    begins c.args.procs.now c.args.aliens.now c.requires.fit c.requires.moves c.args.pid x.partner x.way x.dest x.src x.count
    (sym c.in-Begins.ensures)
