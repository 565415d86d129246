use Rattle.std.proofs.Common.{refl, Some}
use Rattle.vk_base.specs.declared.kernel.State.TheVariants as states
use Rattle.vk_base.specs.Activities.{call_of}
use Rattle.v_machine.proofs.KernelLemmas.{kernel-process}
use Rattle.v_machine.proofs.tables.moving.put_moving.Goals as goal

pub returns-clause-kernel : goal.returns-clause-kernel
returns-clause-kernel c = λ pid p is there. kernel-process _ _ _ _ _ _
    (λ q. record q { state = states.Blocked (call_of c.args.waiting); moving = Some c.args.name }) pid c.args.at c.index_mut-proc.result.now
    _ p is c.requires c.index_mut-proc.ensures.value there refl
