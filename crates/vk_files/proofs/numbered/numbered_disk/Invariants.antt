use Rattle.std.proofs.Common.{◌≡◌, ◌∷◌, flat_map, length, ◌+◌, ◌*◌}
use Rattle.std.specs.List.{range_with_len}
use Rattle.vk_files.specs.Numbered.{directory, file_blocks}
use Rattle.vk_files.proofs.numbered.numbered_disk.Given as goal

abbrev pub invariant-loop-file : goal.invariant-loop-file
invariant-loop-file l = record {
  blocks : l.blocks.items ≡ directory l.files ∷ flat_map file_blocks (range_with_len 0 l.file);
  many : length l.blocks.items ≡ 1 + 128 * l.file;
}
