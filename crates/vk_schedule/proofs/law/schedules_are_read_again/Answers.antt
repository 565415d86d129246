use Rattle.vk_schedule.proofs.Lawfulness.{only_lawful}
use Rattle.vk_schedule.proofs.ReadAgain.{schedules_back}
use Rattle.vk_schedule.proofs.law.schedules_are_read_again.Goals as goal

pub returns-clause-back : goal.returns-clause-back
returns-clause-back c = schedules_back

pub returns-clause-lawful : goal.returns-clause-lawful
returns-clause-lawful c = only_lawful
