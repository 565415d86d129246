-- Sixteen bytes of a hexadecimal word that are read at once.
use Rattle.std.proofs.Common.{◌≡◌, ℕ, zero, suc, ◌+◌, ◌*◌, ◌/◌, ◌<◌, ◌≤◌, false, List, [], ◌∷◌, ◌++◌, length, take, drop, None, append_assoc, arith, ap, sym, ◌∙◌, length-append}
use Rattle.std.specs.List.{list_all}
use Rattle.std.proofs.lemmas.Bool.{and_left, and_right, cond-false}
use Rattle.std.proofs.lemmas.List.{length-take-le, take-append-drop, take_at}
use Rattle.std.proofs.lemmas.List.Folds.{list_all-append}
use Rattle.std.proofs.lemmas.Simd.{Each1-from_get_or, Each1-put_chunk, chunk-drop, length-chunk, take_more_put_chunk}
use Rattle.hex.specs.Hex.{encode_lower, IsBytes}
use Rattle.vk_text.proofs.Decoding.{encode_append}
use Rattle.vk_text.specs.Words.{is_lower_hex, lower_hex, IsReadTo}
use lib.Lanes.{Each1, chunk, put_chunk}

-- a word before, at and behind thirty-two digits
parts : (word : List ℕ) (i : ℕ)
    → word ≡ take i word ++ ((chunk i 16 word ++ chunk (i + 16) 16 word) ++ drop (i + 16 + 16) word)
parts word i =
    let front = take i word in
    let one = chunk i 16 word in
    let two = chunk (i + 16) 16 word in
    let rest = drop (i + 16 + 16) word in
    sym (take-append-drop i word) ∙ ap (λ l. front ++ l) (chunk-drop i 16 word ∙ ap (λ l. one ++ l) (chunk-drop (i + 16) 16 word))
    ∙ ap (λ l. front ++ l) (sym (append_assoc one two rest))

-- nothing is read where one of them is no digit
pub no_block : (word : List ℕ) (i : ℕ) → list_all is_lower_hex (chunk i 16 word ++ chunk (i + 16) 16 word) ≡ false → lower_hex word ≡ None
no_block word i strange =
    let front = take i word in
    let block = chunk i 16 word ++ chunk (i + 16) 16 word in
    let rest = drop (i + 16 + 16) word in
    cond-false _ _ _ (ap (list_all is_lower_hex) (parts word i) ∙ list_all-append is_lower_hex front (block ++ rest)
    ∙ and_right _ _ (list_all-append is_lower_hex block rest ∙ and_left _ _ strange))

block_taken : (word : List ℕ) (i : ℕ) → i + 32 ≤ length word
    → take (i + 32) word ≡ take i word ++ (chunk i 16 word ++ chunk (i + 16) 16 word)
block_taken word i within =
    let front = take i word in
    let one = chunk i 16 word in
    let two = chunk (i + 16) 16 word in
    let rest = drop (i + 16 + 16) word in
    let count : length (front ++ (one ++ two)) ≡ i + 32 =
    omega (
      arith,
      length-append front (one ++ two),
      length-append one two,
      length-take-le i word (omega arith),
      length-chunk i 16 word (omega arith),
      length-chunk (i + 16) 16 word (omega arith),
    ) in
    ap (take (i + 32)) (parts word i ∙ sym (append_assoc front (one ++ two) rest)) ∙ take_at (front ++ (one ++ two)) rest (i + 32) count

all_bytes : (xs : List ℕ) → Each1 (λ b. b < 256) xs → IsBytes xs
all_bytes [] few = λ i. omega arith
all_bytes (x ∷ xs) few = elim [ zero ↦ few.0 | suc i ↦ all_bytes xs few.1 i ]

-- sixteen bytes more of the word are read
pub block_more : (word into bytes : List ℕ) (at : ℕ) → at + 16 ≤ length into → length into ≡ length word / 2 → IsReadTo word into at
    → length bytes ≡ 16 → Each1 (λ b. b < 256) bytes
    → encode_lower bytes ≡ chunk (2 * at) 16 word ++ chunk (2 * at + 16) 16 word → IsReadTo word (put_chunk at into bytes) (at + 16)
block_more word into bytes at room half read sixteen few shown =
    let digits = chunk (2 * at) 16 word ++ chunk (2 * at + 16) 16 word in
    let old = Each1-from_get_or (λ b. b < 256) into 0 (λ i within. read.0 i) in
    let count : 2 * (at + 16) ≡ 2 * at + 32 = omega arith in (
      all_bytes (put_chunk at into bytes) (Each1-put_chunk (λ b. b < 256) at into bytes old few),
      ap encode_lower (take_more_put_chunk at into bytes (at + 16) (omega arith) (omega arith))
          ∙ encode_append (take at into) bytes
          ∙ (λ i. read.1 i ++ shown i)
          ∙ sym (ap (λ n. take n word) count ∙ block_taken word (2 * at) (omega arith)),
    )
