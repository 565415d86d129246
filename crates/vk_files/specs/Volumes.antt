-- The directory of a volume, as a plain value: its entries by place, lawful or not, and the first one at fault.
use Rattle.std.specs.Prelude.{ℕ, zero, suc, ◌+◌, ◌*◌, ◌/◌, min, max, Bool, true, ◌==◌, ◌&&◌, ◌||◌, not, nat_lt, nat_le, List, [], ◌∷◌, ◌++◌, length, take, drop, slice_index, slice_get, bytes_eq, position, Option, Some, None, option_and_then, if◌then◌else◌}
use Rattle.std.specs.Int.{w32, from_be_bytes}
use Rattle.std.specs.List.{list_all, list_any}
use Rattle.vk_files.specs.Disks.{block_at}
use Rattle.vk_files.specs.declared.entry.Entry.{Entry}
use Rattle.vk_files.specs.declared.entry.File.{File}
use Rattle.vk_files.specs.declared.limits.TheConstants.{BLOCK_BYTES, ENTRY_BYTES, FILES, FILE_BYTES, NAME_BYTES}

-- the number in the four bytes from this place on
abbrev pub number_in : List ℕ → ℕ → ℕ
number_in bytes at =
    from_be_bytes w32 (slice_index bytes at ∷ slice_index bytes (at + 1) ∷ slice_index bytes (at + 2) ∷ slice_index bytes (at + 3) ∷ [])

-- the entry that begins at this place of a block
abbrev pub entry_from : List ℕ → ℕ → Entry
entry_from block at = record {
  name = take NAME_BYTES (drop at block);
  start = number_in block (at + 20);
  blocks = number_in block (at + 24);
  length = number_in block (at + 28);
}

-- the first entries of a block, so many
unfoldable pub entries_in : List ℕ → ℕ → List Entry
entries_in block zero = []
entries_in block (suc n) = entries_in block n ++ entry_from block (ENTRY_BYTES * n) ∷ []

-- the directory of a volume with these blocks is the first of them
abbrev pub files_of : List (List ℕ) → List Entry
files_of blocks = entries_in (block_at blocks 0) FILES

-- each of the bytes is zero
abbrev pub are_zeros : List ℕ → Bool
are_zeros bytes = list_all (λ b. b == 0) bytes

abbrev pub is_free : Entry → Bool
is_free e = are_zeros e.name && e.start == 0 && e.blocks == 0 && e.length == 0

-- no zero stands before a byte that is none
abbrev pub ends_in_zeros : List ℕ → Bool
ends_in_zeros [] = true
ends_in_zeros (b ∷ bytes) = if b == 0 then are_zeros bytes else ends_in_zeros bytes

-- as many blocks as so many bytes want
abbrev pub blocks_for : ℕ → ℕ
blocks_for bytes = (bytes + 511) / BLOCK_BYTES

-- its blocks, if it has any, lie among so many
abbrev pub lies_on : ℕ → Entry → Bool
lies_on count e = e.blocks == 0 || nat_le (e.start + e.blocks) count

-- two entries have a block in common
abbrev pub meets : Entry → Entry → Bool
meets a b = nat_lt (max a.start b.start) (min (a.start + a.blocks) (b.start + b.blocks))

-- an earlier entry has a block or the name of this one
abbrev pub is_taken : List Entry → Entry → Bool
is_taken earlier e = list_any (λ o. meets o e || bytes_eq o.name e.name) earlier

-- an entry of a file, on a disk of so many blocks, behind these entries
abbrev pub is_lawful : ℕ → List Entry → Entry → Bool
is_lawful count earlier e =
    not (are_zeros e.name) && ends_in_zeros e.name && nat_le 1 e.start && nat_le e.length FILE_BYTES
    && e.blocks == blocks_for e.length && lies_on count e && not (is_taken earlier e)

-- the place of the first entry that is neither free nor lawful
abbrev pub first_bad_behind : ℕ → List Entry → List Entry → Option ℕ
first_bad_behind count earlier [] = None
first_bad_behind count earlier (e ∷ rest) =
    if is_free e || is_lawful count earlier e then first_bad_behind count (earlier ++ e ∷ []) rest else Some (length earlier)

abbrev pub first_bad : ℕ → List Entry → Option ℕ
first_bad count files = first_bad_behind count [] files

-- the file of an entry at this place
abbrev pub file_from : ℕ → Entry → Option File
file_from number e =
    if is_free e then None else Some (record { number = number; start = e.start; blocks = e.blocks; length = e.length })

-- the file of this number, where there is one
abbrev pub file_at : List Entry → ℕ → Option File
file_at files number = option_and_then (file_from number) (slice_get files number)

-- a file's entry has this name
abbrev pub has_name : List ℕ → Entry → Bool
has_name name e = not (is_free e) && bytes_eq e.name name

-- the file of this name, where there is one
abbrev pub file_named : List Entry → List ℕ → Option File
file_named files name = option_and_then (file_at files) (position (has_name name) files)
