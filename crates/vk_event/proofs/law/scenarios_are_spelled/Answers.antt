use Rattle.vk_event.proofs.ScenarioTexts.{scenarios_spelled}
use Rattle.vk_event.proofs.law.scenarios_are_spelled.Goals as goal

pub returns : goal.returns
returns c = scenarios_spelled
