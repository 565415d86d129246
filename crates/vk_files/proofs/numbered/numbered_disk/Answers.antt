use Rattle.std.proofs.Common.{arith, ap, ◌∙◌, List, ℕ, length}
use Rattle.vk_files.specs.Numbered.{directory, file_blocks, page_bytes}
use Rattle.vk_files.proofs.NumberedBlocks.{file_more, files_done, files_first, longer_by}
use Rattle.vk_files.proofs.NumberedVolumes.{numbered_is_lawful}
use Rattle.vk_files.proofs.numbered.numbered_disk.Goals as goal

pub loop-file-init : goal.loop-file-init
loop-file-init c =
    let first = files_first file_blocks (directory c.args.files) c.directory.result c.new-blocks.result.items c.push.new.self.items
    c.new-blocks.ensures.items c.directory.ensures c.in_ok-push.ensures.items in
    record { blocks = first; many = ap (λ (l : List (List ℕ)). length l) first }

pub loop-file-preserved : goal.loop-file-preserved
loop-file-preserved c = record {
  blocks = file_more file_blocks (directory c.args.files) c.loop-file.blocks.items c.add_file.new.blocks.items c.loop-file.file
      c.loop-file.invariant.blocks c.in_ok-add_file.ensures;
  many = longer_by (page_bytes c.loop-file.file) c.loop-file.blocks.items c.add_file.new.blocks.items c.loop-file.file 128
      c.loop-file.invariant.many c.in_ok-add_file.ensures;
}

pub returns-clause-blocks : goal.returns-clause-blocks
returns-clause-blocks c =
    c.new.ensures
    ∙ files_done file_blocks (directory c.args.files) c.loop-file.blocks.items c.loop-file.file c.args.files
    (omega (arith, c.loop-file-test.false, c.loop-file.auto.file-end)) c.loop-file.invariant.blocks

pub returns-clause-lawful : goal.returns-clause-lawful
returns-clause-lawful c =
    numbered_is_lawful c.args.files c.new.result c.requires (
    c.new.ensures
    ∙ files_done file_blocks (directory c.args.files) c.loop-file.blocks.items c.loop-file.file c.args.files
    (omega (arith, c.loop-file-test.false, c.loop-file.auto.file-end)) c.loop-file.invariant.blocks
    )
