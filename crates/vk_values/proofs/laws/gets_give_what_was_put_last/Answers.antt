use Rattle.vk_values.proofs.Kept.{last_is_given}
use Rattle.vk_values.proofs.laws.gets_give_what_was_put_last.Goals as goal

pub returns : goal.returns
returns c = last_is_given
