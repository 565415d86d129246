use Rattle.std.proofs.Common.{sym, ◌∙◌}
use Rattle.v_machine.proofs.Asking.{lookup_there}
use Rattle.v_machine.proofs.steps.lookups.lookup_of.Goals as goal

pub returns : goal.returns
returns c = λ pid is. lookup_there c.args.store.now.places c.args.store.now.procs.items c.args.store.now.sends.items
    c.args.store.now.asked.items pid c.args.at c.args.number c.index.result.now is c.requires c.index.ensures ∙ sym c.get.ensures
