use Rattle.vk_group.proofs.Told.{given_once}
use Rattle.vk_group.proofs.laws.jobs_are_given_once.Goals as goal

pub returns : goal.returns
returns c = given_once
