use Rattle.vk_forms.proofs.Grammar.{steps_follow}
use Rattle.vk_forms.proofs.law.steps_follow_forms.Goals as goal

pub returns : goal.returns
returns c = steps_follow
