-- The disk of files that are named by their numbers has a lawful directory.
use Rattle.std.proofs.Common.{◌≡◌, ℕ, ◌+◌, ◌*◌, ◌<◌, ◌≤◌, Bool, true, not, Option, Some, None, is_some, List, [], ◌∷◌, length, flat_map, refl, ap, ◌∙◌, arith, length-append}
use Rattle.std.specs.List.{range_with_len}
use Rattle.std.proofs.lemmas.Bool.{agree_below, agree_below_at}
use Rattle.std.proofs.lemmas.List.FromFn.{length-map-range_with_len, length-range_with_len}
use Rattle.vk_files.specs.Numbered.{directory, file_blocks, numbered_blocks, page_bytes}
use Rattle.vk_files.specs.Volumes.{entries_in, files_of, first_bad}

blocks_count : (files : List ℕ) → length (flat_map file_blocks files) ≡ 128 * length files
blocks_count [] = refl
blocks_count (f ∷ files) =
    let both = length-append (file_blocks f) (flat_map file_blocks files) in
    let one = length-map-range_with_len (page_bytes f) 0 128 in
    let rest = blocks_count files in
    omega (arith, both, one, rest)

numbered_count : (files : ℕ) → length (numbered_blocks files) ≡ 1 + 128 * files
numbered_count files =
    let rest = blocks_count (range_with_len 0 files) in
    let many = length-range_with_len 0 files in
    omega (arith, rest, many)

-- computed for each number of files
has_lawful_directory : ℕ → Bool
has_lawful_directory files = not (is_some (first_bad (1 + 128 * files) (entries_in (directory files) 16)))

always : ℕ → Bool
always files = true

each_is_lawful : agree_below has_lawful_directory always 17 ≡ true
unfolding entries_in has_lawful_directory always
each_is_lawful = refl

is_none : {A : Type 0} (o : Option A) → not (is_some o) ≡ true → o ≡ None
is_none None is = refl
is_none (Some x) is = absurd cc

directory_is_lawful : (files : ℕ) → files < 17 → first_bad (1 + 128 * files) (entries_in (directory files) 16) ≡ None
unfolding has_lawful_directory always
directory_is_lawful files few = is_none _ (agree_below_at has_lawful_directory always 17 files each_is_lawful few)

pub numbered_is_lawful : (files : ℕ) (blocks : List (List ℕ)) → files ≤ 16 → blocks ≡ numbered_blocks files
    → first_bad (length blocks) (files_of blocks) ≡ None
numbered_is_lawful files blocks few is =
    ap (λ (l : List (List ℕ)). first_bad (length l) (files_of l)) is
    ∙ ap (λ (n : ℕ). first_bad n (files_of (numbered_blocks files))) (numbered_count files)
    ∙ directory_is_lawful files (omega (arith, few))
