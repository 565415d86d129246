use Rattle.vk_report.proofs.Traces.{of_their_steps}
use Rattle.vk_report.proofs.law.traces_are_of_their_steps.Goals as goal

pub returns : goal.returns
returns c = of_their_steps
