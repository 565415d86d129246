use Rattle.std.proofs.Common.{◌≡◌, false, is_none, Some, sym, ap, ◌∙◌, arith}
use Rattle.std.proofs.lemmas.Grind.{common_steps}
use Rattle.vk_base.specs.declared.answer.Answer.TheVariants as answers
use Rattle.vk_base.specs.declared.answer.Refusal.TheVariants as refusals
use Rattle.vk_base.specs.Steps.{only_if, move_ending}
use Rattle.v_machine.specs.Kept.{kernel_in}
use Rattle.v_machine.proofs.MoveSteps.{waits}
use Rattle.v_machine.proofs.steps.transfers.move_outcome.Goals as goal

pub returns-in_default-2 : goal.returns-in_default-2
returns-in_default-2 c =
    let some : is_none c.waiting_at.result ≡ false = grind (arith, common_steps) in
    let waiting =
    waits c.args.store.now c.args.name.exchange c.waiting_at.result c.waiting_at.ensures.here c.waiting_at.ensures.there some in
    sym (ap (move_ending (kernel_in c.args.store.now) c.args.name) c.in-Gone.is
    ∙ ap (λ b. only_if b (Some (answers.Refused refusals.Gone))) waiting)
