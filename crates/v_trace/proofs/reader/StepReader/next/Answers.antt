use Rattle.std.proofs.Common.{sym, ap, refl, ◌∙◌, Some, None}
use Rattle.v_trace.specs.Remaining.{Remaining}
use Rattle.v_trace.proofs.RemainingSteps.{nothing_left, line_left, given_acts}
use Rattle.v_trace.proofs.reader.StepReader.next.Goals as goal

pub returns-in_default-clause-next : goal.returns-in_default-clause-next
returns-in_default-clause-next c =
    (ap (λ (r : Remaining). r.steps) (sym c.self.view_is ∙ nothing_left _ _ _ c.in_default.ensures.line), refl)

pub returns-in_default-read_step-clause-next : goal.returns-in_default-read_step-clause-next
returns-in_default-read_step-clause-next c = (
  ap (λ (r : Remaining). r.steps)
      (sym c.self.view_is ∙ line_left _ _ _ _ _ None c.in-Some.ensures.line c.in_default-read_step.ensures),
  refl,
)

pub returns-clause-next : goal.returns-clause-next
returns-clause-next c =
    sym c.self.view_is ∙ line_left _ _ _ _ _ (Some c.read_step.new.into) c.in-Some.ensures.line c.in-Some-read_step.ensures

pub returns-clause-lawful : goal.returns-clause-lawful
returns-clause-lawful c = λ _. given_acts _ _ _ _ _ _ c.self.view_is c.in-Some-read_step.ensures
