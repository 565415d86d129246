use Rattle.vk_frame.proofs.Opening.{frames}
use Rattle.vk_frame.proofs.law.frames_are_spelled_once.Goals as goal

pub returns : goal.returns
returns c = frames
