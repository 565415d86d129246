use Rattle.vk_hub.proofs.Stopping.{stopped_stays}
use Rattle.vk_hub.proofs.law.stopped_stays_stopped.Goals as goal

pub returns : goal.returns
returns c = stopped_stays
