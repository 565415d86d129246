use Rattle.std.proofs.Common.{◌*◌, sym, ◌∙◌}
use Rattle.vk_text.proofs.HexReading.{no_block, block_more}
use Rattle.vk_text.proofs.word.unhex_block.Goals as goal

pub returns-then-not-read : goal.returns-then-not-read
returns-then-not-read c =
    record { read = no_block c.args.word.now (2 * c.args.at) (sym c.block_bytes-read.ensures.digits ∙ c.if-not-read.true) }

pub returns : goal.returns
returns c =
    let block = c.block_bytes-read.ensures in
    record { read = block_more c.args.word.now c.args.into.now _ c.args.at c.requires.room c.requires.half c.requires.front block.sixteen block.few (block.bytes c.if-not-read.false) }
