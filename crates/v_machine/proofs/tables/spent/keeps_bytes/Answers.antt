use Rattle.std.proofs.Common.{sym, ◌∙◌}
use Rattle.std.proofs.lemmas.Bool.{not-true}
use Rattle.v_machine.specs.Spent.{emptied}
use Rattle.v_machine.proofs.Changes.{change_numbered-none}
use Rattle.v_machine.proofs.Emptying.{unspent_stays}
use Rattle.v_machine.proofs.tables.spent.keeps_bytes.Goals as goal

pub returns-in-Some : goal.returns-in-Some
returns-in-Some c keeps =
    unspent_stays c.args.opened c.args.done c.args.number c.args.moves.now _ c.in-Some.ensures
    (sym c.is_spent.ensures ∙ not-true c.is_spent.result keeps)

pub returns-in-None : goal.returns-in-None
returns-in-None c keeps =
    sym (change_numbered-none (emptied c.args.opened c.args.done c.args.number) c.args.number c.args.moves.now c.in-None.ensures)
