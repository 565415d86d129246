use Rattle.vk_draw.proofs.Places.{one_line_each}
use Rattle.vk_draw.proofs.law.each_frame_has_one_line.Goals as goal

pub returns : goal.returns
returns c = one_line_each
