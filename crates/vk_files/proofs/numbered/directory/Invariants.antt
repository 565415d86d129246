use Rattle.std.proofs.Common.{◌≡◌, length, map, take}
use Rattle.std.specs.List.{range_with_len}
use Rattle.vk_files.specs.Numbered.{directory_byte}
use Rattle.vk_files.proofs.numbered.directory.Given as goal

abbrev pub invariant-loop-at : goal.invariant-loop-at
invariant-loop-at l = record {
  all : length l.block ≡ 512;
  done : take l.at l.block ≡ map (directory_byte l.files) (range_with_len 0 l.at);
}
