use Rattle.vk_text.proofs.HexLanes.{high_small, low_small, block_shown}
use Rattle.vk_text.proofs.digits.block_digits.Goals as goal

pub digits-high-requires : goal.digits-high-requires
digits-high-requires c = high_small 16 c.args.block c.fits-block.1

pub digits-low-requires : goal.digits-low-requires
digits-low-requires c = low_small 16 c.args.block

pub returns-clause-digits : goal.returns-clause-digits
returns-clause-digits c = block_shown c.args.block _ _ c.fits-block.0 c.digits-high.ensures c.digits-low.ensures
