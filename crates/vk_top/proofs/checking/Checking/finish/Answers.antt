use Rattle.vk_top.proofs.Checked.{finished}
use Rattle.vk_top.proofs.checking.Checking.finish.Goals as goal

pub returns : goal.returns
returns c = λ text all. finished text c.args.self.now all
