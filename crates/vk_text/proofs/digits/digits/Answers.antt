use Rattle.vk_text.proofs.HexLanes.{lane_digits}
use Rattle.vk_text.proofs.digits.digits.Goals as goal

pub returns : goal.returns
returns c = lane_digits 16 c.args.halves c.fits-halves.0 c.requires
