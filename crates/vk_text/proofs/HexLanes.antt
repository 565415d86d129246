-- Lower-case hexadecimal of sixteen bytes at once, lane by lane.
use Rattle.std.proofs.Common.{◌≡◌, ℕ, zero, suc, ◌+◌, ◌*◌, ◌/◌, ◌%◌, ◌^◌, ◌<◌, ◌≤◌, ◌==◌, cond, ltb, true, List, [], ◌∷◌, ◌++◌, length, map, take, drop, slice_index, replicate, bit_and, append_assoc, refl, arith, ap, sym, ◌∙◌, subst, w8, Fits}
use Rattle.std.proofs.lemmas.Bool.{agree_below_at, eqb-true}
use Rattle.std.proofs.lemmas.List.{drop-drop}
use Rattle.std.proofs.lemmas.Nat.{and_mask, and_le_r}
use Rattle.std.proofs.lemmas.Simd.{Each1-all, Each1-weaker, Each1-zip2, Each2-splat, below_from_Fits, pick_l_whole, take_more_put_chunk, length-put_chunk}
use Rattle.hex.specs.Hex.{lower_digits, encode_with, encode_lower}
use Rattle.vk_text.proofs.HexBlocks.{block_more}
use lib.Lanes.{Each1, zip2, sel_l, pick_l, put_chunk, top}

-- what lanes make of a sum, a comparison and a shift
abbrev pub added : ℕ → ℕ → ℕ
added a b = (a + b) % 2 ^ 8

abbrev pub above : ℕ → ℕ → ℕ
above a b = cond (ltb a b) 255 0

abbrev pub down : ℕ → ℕ → ℕ
down a b = a / 2 ^ b

-- the digit of a half byte, as a lane has it
lane_digit : ℕ → ℕ
lane_digit h = added (added h 48) (cond (top 7 (above 9 h)) 39 0)

digit_of_lane : (h : ℕ) → h < 16 → lane_digit h ≡ slice_index lower_digits h
unfolding lane_digit
digit_of_lane h small = eqb-true _ _ (agree_below_at (λ h. lane_digit h == slice_index lower_digits h) (λ h. true) 16 h refl small)

-- each half byte has its digit
pub lane_digits : (n : ℕ) (halves : List ℕ) → length halves ≡ n → Each1 (λ h. h < 16) halves
    → zip2 added (zip2 added halves (replicate n 48))
    (sel_l (map (top 7) (zip2 above (replicate n 9) halves)) (replicate n 39) (replicate n 0))
    ≡ map (slice_index lower_digits) halves
unfolding lane_digit
lane_digits n [] long small = refl
lane_digits zero (h ∷ hs) long small = absurd (omega arith)
lane_digits (suc n) (h ∷ hs) long small = λ i. digit_of_lane h small.0 i ∷ lane_digits n hs (omega arith) small.1 i

-- a byte's first four bits, and its others, are half bytes
pub high_small : (n : ℕ) (block : List ℕ) → Each1 (Fits w8) block → Each1 (λ h. h < 16) (zip2 down block (replicate n 4))
high_small n block fits =
    let small = Each1-weaker (λ a. a < 256) (λ a. down a 4 < 16) (λ a h. omega arith) block (below_from_Fits w8 block fits) in
    Each1-zip2 down (λ h. h < 16) block (replicate n 4) (Each2-splat (λ a b. down a b < 16) block n 4 small)

pub low_small : (n : ℕ) (block : List ℕ) → Each1 (λ h. h < 16) (zip2 bit_and block (replicate n 15))
low_small n block =
    let small = Each1-all (λ a. bit_and a 15 < 16) (λ a. omega (arith, and_le_r a 15)) block in
    Each1-zip2 bit_and (λ h. h < 16) block (replicate n 15) (Each2-splat (λ a b. bit_and a b < 16) block n 15 small)

high_of : (n : ℕ) (block : List ℕ) → length block ≡ n
    → map (slice_index lower_digits) (zip2 down block (replicate n 4)) ≡ map (λ b. slice_index lower_digits (b / 16)) block
high_of n [] long = refl
high_of zero (b ∷ bs) long = absurd (omega arith)
high_of (suc n) (b ∷ bs) long = ap (λ l. slice_index lower_digits (b / 16) ∷ l) (high_of n bs (omega arith))

low_of : (n : ℕ) (block : List ℕ) → length block ≡ n
    → map (slice_index lower_digits) (zip2 bit_and block (replicate n 15)) ≡ map (λ b. slice_index lower_digits (b % 16)) block
low_of n [] long = refl
low_of zero (b ∷ bs) long = absurd (omega arith)
low_of (suc n) (b ∷ bs) long = λ i. slice_index lower_digits (and_mask b 4 i) ∷ low_of n bs (omega arith) i

-- first and second digits in turn
abbrev pub in_turn : List ℕ → List ℕ → List ℕ
in_turn high low =
    pick_l 0 (high ++ low) (0 ∷ 16 ∷ 1 ∷ 17 ∷ 2 ∷ 18 ∷ 3 ∷ 19 ∷ 4 ∷ 20 ∷ 5 ∷ 21 ∷ 6 ∷ 22 ∷ 7 ∷ 23 ∷ [])
    ++ pick_l 0 (high ++ low) (8 ∷ 24 ∷ 9 ∷ 25 ∷ 10 ∷ 26 ∷ 11 ∷ 27 ∷ 12 ∷ 28 ∷ 13 ∷ 29 ∷ 14 ∷ 30 ∷ 15 ∷ 31 ∷ [])

turns : (block : List ℕ) → length block ≡ 16
    → in_turn (map (λ b. slice_index lower_digits (b / 16)) block) (map (λ b. slice_index lower_digits (b % 16)) block) ≡ encode_lower block
unfolding encode_with
turns block long =
    subst (λ l. in_turn (map (λ b. slice_index lower_digits (b / 16)) l) (map (λ b. slice_index lower_digits (b % 16)) l) ≡ encode_lower l)
    (pick_l_whole 0 block 16 long) refl

-- the digits of sixteen bytes
pub block_shown : (block high low : List ℕ) → length block ≡ 16
    → high ≡ map (slice_index lower_digits) (zip2 down block (replicate 16 4))
    → low ≡ map (slice_index lower_digits) (zip2 bit_and block (replicate 16 15)) → in_turn high low ≡ encode_lower block
block_shown block high low long first second =
    (λ i. in_turn ((first ∙ high_of 16 block long) i) ((second ∙ low_of 16 block long) i)) ∙ turns block long

-- sixteen bytes more are written
pub lanes_more : (bytes text a b : List ℕ) (at : ℕ) → at + 16 ≤ length bytes → length text ≡ 2 * length bytes
    → length a ≡ 16 → length b ≡ 16 → a ++ b ≡ encode_lower (take 16 (drop at bytes))
    → take (2 * at) text ++ encode_lower (drop at bytes) ≡ encode_lower bytes
    → take (2 * (at + 16)) (put_chunk (2 * at + 16) (put_chunk (2 * at) text a) b) ++ encode_lower (drop (at + 16) bytes) ≡ encode_lower bytes
lanes_more bytes text a b at room double first second shown front =
    let held = take (2 * at) text in
    let one : take (2 * at + 16) (put_chunk (2 * at) text a) ≡ held ++ a =
    take_more_put_chunk (2 * at) text a (2 * at + 16) (omega arith) (omega arith) in
    let same = length-put_chunk (2 * at) text a in
    let two = take_more_put_chunk (2 * at + 16) (put_chunk (2 * at) text a) b (2 * (at + 16)) (omega arith) (omega arith) in
    let all = two ∙ ap (λ l. l ++ b) one ∙ append_assoc held a b ∙ ap (λ l. held ++ l) shown in
    block_more held _ (encode_lower bytes) (drop at bytes) (take 16 (drop at bytes)) (drop (at + 16) bytes) 16 front all refl
    (sym (drop-drop 16 at bytes))
