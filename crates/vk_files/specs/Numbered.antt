-- The disk of files that are named by their numbers.
use Rattle.std.specs.Prelude.{ℕ, ◌+◌, ◌-◌, ◌*◌, ◌/◌, ◌%◌, nat_lt, nat_le, List, ◌∷◌, map, flat_map, replicate, slice_index, if◌then◌else◌}
use Rattle.std.specs.Int.{w32, to_be_bytes}
use Rattle.std.specs.List.{range_with_len}
use Rattle.vk_files.specs.Loaders.{loader_name}
use Rattle.vk_files.specs.declared.limits.TheConstants.{BLOCK_BYTES, ENTRY_BYTES, FILE_BLOCKS, FILE_BYTES}

-- the byte at this place of the entry of a file: its name, first block, number of blocks and length
abbrev pub entry_byte : ℕ → ℕ → ℕ
entry_byte file place =
    if nat_lt place 20 then slice_index (loader_name file) place
    else if nat_lt place 24 then slice_index (to_be_bytes w32 (1 + FILE_BLOCKS * file)) (place - 20)
    else if nat_lt place 28 then slice_index (to_be_bytes w32 FILE_BLOCKS) (place - 24)
    else slice_index (to_be_bytes w32 FILE_BYTES) (place - 28)

-- the byte at this place of a directory of so many files
abbrev pub directory_byte : ℕ → ℕ → ℕ
directory_byte files at = if nat_le files (at / ENTRY_BYTES) then 0 else entry_byte (at / ENTRY_BYTES) (at % ENTRY_BYTES)

abbrev pub directory : ℕ → List ℕ
directory files = map (directory_byte files) (range_with_len 0 BLOCK_BYTES)

-- the block at this place of a file: each byte is the sum of the file's number and of the place, mod 256
abbrev pub page_bytes : ℕ → ℕ → List ℕ
page_bytes file page = replicate BLOCK_BYTES ((file + page) % 256)

abbrev pub file_blocks : ℕ → List (List ℕ)
file_blocks file = map (page_bytes file) (range_with_len 0 FILE_BLOCKS)

-- the blocks of a disk of so many files: its directory, and the files one behind the other
abbrev pub numbered_blocks : ℕ → List (List ℕ)
numbered_blocks files = directory files ∷ flat_map file_blocks (range_with_len 0 files)
