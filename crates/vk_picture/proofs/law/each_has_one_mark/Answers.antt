use Rattle.vk_picture.proofs.Counted.{each_has_one_mark as of_each}
use Rattle.vk_picture.proofs.law.each_has_one_mark.Goals as goal

pub returns : goal.returns
returns c = of_each
