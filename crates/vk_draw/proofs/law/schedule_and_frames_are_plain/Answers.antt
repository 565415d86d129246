use Rattle.vk_draw.proofs.PlainFrames.{are_plain}
use Rattle.vk_draw.proofs.law.schedule_and_frames_are_plain.Goals as goal

pub returns : goal.returns
returns c = are_plain
