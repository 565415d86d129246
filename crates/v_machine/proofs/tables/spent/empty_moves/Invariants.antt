use Rattle.std.proofs.Common.{◌≡◌}
use Rattle.v_machine.specs.Sends.{emptied_between}
use Rattle.v_machine.proofs.tables.spent.empty_moves.Given as goal

abbrev pub invariant-loop-number : goal.invariant-loop-number
invariant-loop-number l = l.moves ≡ emptied_between l.fn.opened l.fn.done l.fn.from l.number 1 l.fn.moves
