use Rattle.vk_schedule.proofs.FrontLines.{their_lines}
use Rattle.vk_schedule.proofs.law.front_lines.Goals as goal

pub returns : goal.returns
returns c = their_lines
