use Rattle.vk_group.proofs.Done.{deeds_done}
use Rattle.vk_group.proofs.laws.deeds_are_done.Goals as goal

pub returns : goal.returns
returns c = deeds_done
