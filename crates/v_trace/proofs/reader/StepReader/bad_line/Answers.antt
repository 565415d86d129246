use Rattle.std.proofs.Common.{◌+◌, List, length, Some, sym, ap, ◌∙◌}
use Rattle.vk_types.specs.Types.{ProcessSpec}
use Rattle.v_trace.specs.Remaining.{Remaining}
use Rattle.v_trace.proofs.RemainingSteps.{nothing_left, bad_next}
use Rattle.v_trace.proofs.reader.StepReader.bad_line.Goals as goal

pub returns-in_default : goal.returns-in_default
returns-in_default c = ap (λ (r : Remaining). r.bad) (sym (nothing_left _ _ _ c.in_default.ensures.line) ∙ c.self.view_is)

pub returns : goal.returns
returns c =
    ap (λ (ss : List ProcessSpec). Some (length ss + c.self.inside.given + 2)) c.specs.ensures.specs
    ∙ sym (bad_next _ _ _ _ _ c.in-Some.ensures.line (ap (λ (r : Remaining). r.steps) c.self.view_is ∙ c.requires))
    ∙ ap (λ (r : Remaining). r.bad) c.self.view_is
