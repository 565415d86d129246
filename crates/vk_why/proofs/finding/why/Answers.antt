use Rattle.std.specs.Result.{result_err}
use Rattle.std.proofs.Common.{◌≡◌, true, is_some, Some, sym, subst}
use Rattle.vk_base.specs.Kernel.{Kernel}
use Rattle.vk_types.specs.Types.{Step}
use Rattle.v_machine.specs.Tables.{kernel_of}
use Rattle.v_obstacle.specs.Obstacles.{obstacle}
use Rattle.vk_why.specs.Kept.{kept_kernel}
use Rattle.vk_why.proofs.Allowing.{err_of, in_the_way, the_err}
use Rattle.vk_why.proofs.finding.why.Goals as goal

pub unwrap_err-requires : goal.unwrap_err-requires
unwrap_err-requires c =
    let k = kept_kernel c.args.machine.now in
    let some = in_the_way (kernel_of c.args.machine.now) c.args.step.now (c.obstacles_are_exact.ensures.exact k c.args.step.now) c.requires in
    err_of (obstacle k c.args.step.now) c.check.result some
    (subst (λ (s : Step). is_some (obstacle k s) ≡ true → obstacle k s ≡ result_err c.check.result) (sym c.parts.ensures.step)
    (c.check.ensures c.parts.result.1.now) some)

pub returns : goal.returns
returns c =
    let k = kept_kernel c.args.machine.now in
    let some = in_the_way (kernel_of c.args.machine.now) c.args.step.now (c.obstacles_are_exact.ensures.exact k c.args.step.now) c.requires in
    λ l stands.
    subst (λ (l : Kernel). obstacle l c.args.step.now ≡ Some c.unwrap_err.result) stands
    (the_err (obstacle k c.args.step.now) c.check.result c.unwrap_err.result
    (subst (λ (s : Step). is_some (obstacle k s) ≡ true → obstacle k s ≡ result_err c.check.result) (sym c.parts.ensures.step)
    (c.check.ensures c.parts.result.1.now) some) c.unwrap_err.ensures)
