use Rattle.v_machine.proofs.Stores.{found_at, absent}
use Rattle.v_machine.proofs.tables.put.find.Goals as goal

pub returns-clause-absent : goal.returns-clause-absent
returns-clause-absent c = absent c.args.store.now c.args.pid c.find.result c.find.ensures

pub returns-clause-here : goal.returns-clause-here
returns-clause-here c = found_at c.args.store.now c.args.pid c.find.result c.requires c.find.ensures
