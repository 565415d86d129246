use Rattle.vk_values.proofs.Kept.{unknown_is_refused}
use Rattle.vk_values.proofs.laws.unknown_keys_are_refused.Goals as goal

pub returns : goal.returns
returns c = unknown_is_refused
