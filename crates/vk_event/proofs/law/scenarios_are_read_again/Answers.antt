use Rattle.vk_event.proofs.EachHasText.{have_texts}
use Rattle.vk_event.proofs.ScenarioRanges.{only_lawful}
use Rattle.vk_event.proofs.ScenarioTexts.{scenarios_back}
use Rattle.vk_event.proofs.law.scenarios_are_read_again.Goals as goal

pub returns-clause-back : goal.returns-clause-back
returns-clause-back c = scenarios_back

pub returns-clause-lawful : goal.returns-clause-lawful
returns-clause-lawful c = only_lawful

pub returns-clause-some : goal.returns-clause-some
returns-clause-some c = have_texts
