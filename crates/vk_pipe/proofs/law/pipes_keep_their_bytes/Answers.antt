use Rattle.vk_pipe.proofs.Keeping.{keeps}
use Rattle.vk_pipe.proofs.law.pipes_keep_their_bytes.Goals as goal

pub returns : goal.returns
returns c = keeps
