use Rattle.vk_stands.proofs.Ticks.{ticks_are_right, ticks_keep_fit}
use Rattle.vk_stands.proofs.ticks_stand.Goals as goal

pub returns-clause-right : goal.returns-clause-right
returns-clause-right c = ticks_are_right

pub returns-clause-fit : goal.returns-clause-fit
returns-clause-fit c = ticks_keep_fit
