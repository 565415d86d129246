use Rattle.std.proofs.Common.{sym, ap, ◌∙◌}
use Rattle.v_trace.specs.Remaining.{Remaining}
use Rattle.v_trace.proofs.RemainingSteps.{config_left}
use Rattle.v_trace.proofs.reader.StepReader.config.Goals as goal

pub returns : goal.returns
returns c = sym (config_left _ _ _) ∙ ap (λ (r : Remaining). r.config) c.self.view_is
