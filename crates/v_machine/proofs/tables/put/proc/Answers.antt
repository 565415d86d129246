use Rattle.v_machine.proofs.KernelLemmas.{proc_there}
use Rattle.v_machine.proofs.tables.put.proc.Goals as goal

pub returns : goal.returns
returns c = λ pid is. proc_there _ _ _ _ pid c.args.at c.index.result.now is c.requires c.index.ensures
