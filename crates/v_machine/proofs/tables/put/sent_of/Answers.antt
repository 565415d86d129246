use Rattle.std.proofs.Common.{sym, ◌∙◌}
use Rattle.v_machine.proofs.KernelLemmas.{sent_there}
use Rattle.v_machine.proofs.tables.put.sent_of.Goals as goal

pub returns : goal.returns
returns c = λ pid is. sent_there c.args.store.now.places c.args.store.now.procs.items c.args.store.now.sends.items
    c.args.store.now.asked.items pid c.args.at c.index.result.now c.args.number is c.requires c.index.ensures ∙ sym c.get.ensures
