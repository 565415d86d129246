use Rattle.std.proofs.Common.{arith, rules}
use Rattle.vk_files.specs.Numbered.{directory_byte}
use Rattle.vk_files.proofs.NumberedBlocks.{byte_more, bytes_done}
use Rattle.vk_files.proofs.numbered.directory.Goals as goal

pub loop-at-preserved : goal.loop-at-preserved
loop-at-preserved c = record {
  all = search rules;
  done = byte_more (directory_byte c.args.files) c.loop-at.block c.loop-at.at c.directory_byte.result
      (omega (arith, c.loop-at.invariant.all, c.loop-at-test.true)) c.loop-at.invariant.done c.directory_byte.ensures;
}

pub returns : goal.returns
returns c =
    bytes_done (directory_byte c.args.files) c.loop-at.block c.loop-at.at 512 c.loop-at.invariant.all
    (omega (arith, c.loop-at-test.false, c.loop-at.auto.at-end)) c.loop-at.invariant.done
