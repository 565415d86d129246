use Rattle.std.proofs.Common.{◌≡◌, ◌++◌, map}
use Rattle.std.specs.List.{range_with_len}
use Rattle.vk_files.specs.Numbered.{page_bytes}
use Rattle.vk_files.proofs.numbered.add_file.Given as goal

abbrev pub invariant-loop-page : goal.invariant-loop-page
invariant-loop-page l = l.blocks.items ≡ l.fn.blocks.items ++ map (page_bytes l.file) (range_with_len 0 l.page)
