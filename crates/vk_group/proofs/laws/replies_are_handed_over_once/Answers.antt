use Rattle.vk_group.proofs.Told.{handed_over_once}
use Rattle.vk_group.proofs.laws.replies_are_handed_over_once.Goals as goal

pub returns : goal.returns
returns c = handed_over_once
