use Rattle.std.proofs.Common.{refl}
use Rattle.vk_base.specs.Activities.{state_of}
use Rattle.v_machine.proofs.KernelLemmas.{kernel-process}
use Rattle.v_machine.proofs.tables.put.put_activity.Goals as goal

pub returns-clause-kernel : goal.returns-clause-kernel
returns-clause-kernel c = λ pid p is there. kernel-process _ _ _ _ _ _ (λ q. record q { state = state_of c.args.activity }) pid c.args.at
    c.index_mut.result.now _ p is c.requires c.index_mut.ensures.value there refl
