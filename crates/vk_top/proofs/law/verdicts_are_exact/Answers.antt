use Rattle.vk_top.proofs.Verdicts.{exact}
use Rattle.vk_top.proofs.law.verdicts_are_exact.Goals as goal

pub returns : goal.returns
returns c = exact
