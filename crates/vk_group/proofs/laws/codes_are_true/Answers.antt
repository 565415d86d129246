use Rattle.vk_group.proofs.Told.{busy_is_true, no_more_is_true, nobody_is_true}
use Rattle.vk_group.proofs.laws.codes_are_true.Goals as goal

pub returns-clause-nobody : goal.returns-clause-nobody
returns-clause-nobody c = nobody_is_true

pub returns-clause-no_more : goal.returns-clause-no_more
returns-clause-no_more c = no_more_is_true

pub returns-clause-busy : goal.returns-clause-busy
returns-clause-busy c = busy_is_true
