use Rattle.vk_schedule.proofs.FrontLines.{spelled}
use Rattle.vk_schedule.proofs.law.schedules_are_spelled.Goals as goal

pub returns : goal.returns
returns c = spelled
