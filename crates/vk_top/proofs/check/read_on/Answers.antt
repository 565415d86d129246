use Rattle.std.proofs.Common.{List, length, ap, sym, ◌∙◌, arith}
use Rattle.vk_types.specs.Types.{Step}
use Rattle.vk_top.proofs.Nexts.{fewer_steps, next_step, no_step, step_counted}
use Rattle.vk_top.specs.Check.{without_steps}
use Rattle.vk_top.proofs.check.read_on.Goals as goal

pub loop-step-preserved : goal.loop-step-preserved
loop-step-preserved c =
    let next = next_step _ _ _ _ c.loop-step-test.true c.next.ensures.next in
    record {
      counted = step_counted _ _ _ _ _ next c.loop-step.invariant.counted;
      ends = ap without_steps (sym next) ∙ c.loop-step.invariant.ends;
    }

pub loop-step-smaller : goal.loop-step-smaller
loop-step-smaller c = fewer_steps _ _ _ (next_step _ _ _ _ c.loop-step-test.true c.next.ensures.next)

pub returns-clause-count : goal.returns-clause-count
returns-clause-count c =
    let end = no_step _ _ _ _ c.loop-step-test.false c.next.ensures.next in
    omega (arith, c.loop-step.invariant.counted, ap (λ (ss : List Step). length ss) end.0)
