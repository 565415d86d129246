use Rattle.std.proofs.Common.{arith}
use Rattle.vk_files.specs.Numbered.{page_bytes}
use Rattle.vk_files.proofs.NumberedBlocks.{block_more, blocks_done}
use Rattle.vk_files.proofs.numbered.add_file.Goals as goal

pub loop-page-preserved : goal.loop-page-preserved
loop-page-preserved c =
    block_more (page_bytes c.args.file) c.args.blocks.now.items c.loop-page.blocks.items c.push.new.self.items c.loop-page.page
    c.page_bytes.result c.loop-page.invariant c.page_bytes.ensures c.in_ok-push.ensures.items

pub returns : goal.returns
returns c =
    blocks_done (page_bytes c.args.file) c.args.blocks.now.items c.loop-page.blocks.items c.loop-page.page 128
    (omega (arith, c.loop-page-test.false, c.loop-page.auto.page-end)) c.loop-page.invariant
