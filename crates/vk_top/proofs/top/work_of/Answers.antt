use Rattle.vk_top.proofs.Told.{replay_work}
use Rattle.vk_top.proofs.top.work_of.Goals as goal

pub returns : goal.returns
returns c = λ form text is. replay_work form text c.args.written c.ended.result is c.ended.ensures
