use Rattle.std.proofs.Common.{◌∙◌}
use Rattle.v_machine.proofs.KernelLemmas.{memory_is}
use Rattle.v_machine.proofs.tables.put.size_of.Goals as goal

pub returns : goal.returns
returns c = λ pid p is there. c.size.ensures ∙ memory_is _ _ _ _ pid c.args.at c.index.result.now p is c.requires c.index.ensures there
