use Rattle.vk_text.proofs.HexLanes.{lanes_more}
use Rattle.vk_text.proofs.digits.encode_block.Goals as goal

pub returns : goal.returns
returns c =
    let digits = c.block_digits.ensures in
    lanes_more c.args.bytes.now c.args.text.now _ _ c.args.at c.requires.room c.requires.double digits.sixteen.0 digits.sixteen.1 digits.digits
    c.requires.front
