use Rattle.std.proofs.Common.{[], ◌∷◌, ◌++◌, List, map, take, ap, sym, ◌∙◌}
use Rattle.vk_picture.specs.declared.picture.StepMark.{StepMark}
use Rattle.vk_draw.specs.Rows.{step_mark}
use Rattle.vk_draw.proofs.MarkedSteps.{one_more_marked}
use Rattle.vk_draw.proofs.rows.step_marks.Goals as goal

pub loop-at-preserved : goal.loop-at-preserved
loop-at-preserved c =
    c.in_ok-push.ensures.ok ∙ ap (λ (l : List StepMark). l ++ c.step_mark.result ∷ []) c.loop-at.invariant
    ∙ ap (λ (m : StepMark). map step_mark (take c.loop-at.at c.args.steps.now) ++ m ∷ []) c.step_mark.ensures
    ∙ sym (one_more_marked c.get.result c.args.steps.now c.loop-at.at c.get.ensures)
