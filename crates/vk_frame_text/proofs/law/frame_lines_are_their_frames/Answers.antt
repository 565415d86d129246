use Rattle.vk_frame_text.proofs.Words.{lines_are_frames}
use Rattle.vk_frame_text.proofs.law.frame_lines_are_their_frames.Goals as goal

pub returns : goal.returns
returns c = lines_are_frames
