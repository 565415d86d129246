use Rattle.std.proofs.Common.{ap, ◌∙◌, arith}
use Rattle.vk_base.specs.Kernel.{initial_kernel}
use Rattle.v_machine.proofs.Standing.{stands_initial}
use Rattle.vk_top.proofs.Checked.{verdict_first}
use Rattle.vk_top.proofs.check.verdict_on.Goals as goal

pub returns-clause-verdict : goal.returns-clause-verdict
returns-clause-verdict c =
    let started = c.in_ok-machine.ensures in
    let config = c.args.reader.now.config in
    let kernel = started.0 ∙ ap (λ x. initial_kernel x.specs) c.config.ensures in
    verdict_first config.specs _ _ _ _ started.1
    (c.apply_steps.ensures.found (initial_kernel config.specs) (stands_initial c.in_ok-machine.machine config.specs kernel))

pub returns-clause-few : goal.returns-clause-few
returns-clause-few c = omega (arith, c.apply_steps.ensures.count)
