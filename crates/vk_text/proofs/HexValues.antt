-- Lower-case hexadecimal that is read thirty-two digits at once, lane by lane.
use Rattle.std.proofs.Common.{◌≡◌, ℕ, zero, suc, ◌+◌, ◌-◌, ◌*◌, ◌/◌, ◌%◌, ◌^◌, ◌<◌, ◌≤◌, ◌==◌, ◌&&◌, nat_lt, Bool, true, false, not, cond, eqb, List, [], ◌∷◌, ◌++◌, length, map, slice_index, replicate, refl, arith, ap, sym, ◌∙◌, subst, inl, inr, w8, Fits, length-append}
use Rattle.std.specs.List.{list_all}
use Rattle.std.proofs.lemmas.Bool.{agree_below_at, and_parts, and_from, and_left, and_right, cond-true, eqb-true, ltb-true, lt-ltb, le-ltb, cases_lt, eq-eqb, ne_eqb}
use Rattle.std.proofs.lemmas.Simd.{Each1-zip2, Each2-all, pick_l_whole, mask_l-mod}
use Rattle.std.proofs.lemmas.List.{length-map}
use Rattle.std.proofs.lemmas.List.Folds.{list_all-append}
use Rattle.hex.specs.Hex.{lower_digits, encode_with, encode_lower}
use Rattle.vk_text.proofs.HexLanes.{added, above}
use Rattle.vk_text.specs.Words.{is_lower_hex, IsValue}
use borrow.Rule.Simd.Lanes.{act1}
use borrow.Table.Row.{s_int}
use lib.Lanes.{Each1, Each2, zip2, sel_l, mask_l, pick_l, top}
use mir.Syntax.{bit_not}

-- what lanes make of a difference, a shift and all bits turned
abbrev less : ℕ → ℕ → ℕ
less a b = (a + (2 ^ 8 - b)) % 2 ^ 8

abbrev up : ℕ → ℕ → ℕ
up a b = a * 2 ^ b % 2 ^ 8

abbrev flipped : ℕ → ℕ
flipped = act1 bit_not (s_int w8) (s_int w8)

abbrev least_of : List ℕ → List ℕ → List ℕ
least_of xs ys = sel_l (map (top 7) (zip2 above xs ys)) xs ys

abbrev largest_of : List ℕ → List ℕ → List ℕ
largest_of xs ys = sel_l (map (top 7) (zip2 above xs ys)) ys xs

-- the values of digits, and what is 16 or more where there is none
abbrev pub values_of : ℕ → List ℕ → List ℕ
values_of n text =
    least_of (zip2 added (zip2 less (largest_of (zip2 added text (replicate n 198)) (replicate n 6)) (replicate n 6)) (replicate n 16))
    (zip2 added (zip2 less text (replicate n 97)) (least_of (replicate n 10) (map flipped (zip2 less text (replicate n 97)))))

-- the value in one lane
abbrev least : ℕ → ℕ → ℕ
least a b = cond (top 7 (above a b)) a b

abbrev largest : ℕ → ℕ → ℕ
largest a b = cond (top 7 (above a b)) b a

lane_value : ℕ → ℕ
lane_value c = least (added (less (largest (added c 198) 6) 6) 16) (added (less c 97) (least 10 (flipped (less c 97))))

is_shown : ℕ → Bool
is_shown c = cond (nat_lt (lane_value c) 16) (slice_index lower_digits (lane_value c) == c) true

lane_is : (c : ℕ) → c < 256 → IsValue c (lane_value c)
unfolding lane_value is_shown
lane_is c byte = record {
  digit = agree_below_at is_lower_hex (λ d. nat_lt (lane_value d) 16) 256 c refl byte;
  value = λ small. eqb-true _ _ (sym (cond-true _ _ _ (lt-ltb _ 16 small)) ∙ agree_below_at is_shown (λ d. true) 256 c refl byte);
}

-- each lane has its digit's value
pub values_are : (n : ℕ) (text : List ℕ) → length text ≡ n → Each1 (Fits w8) text → Each2 IsValue text (values_of n text)
unfolding lane_value
values_are n [] long fits = tt
values_are zero (c ∷ cs) long fits = absurd (omega arith)
values_are (suc n) (c ∷ cs) long fits = (lane_is c fits.0.fits, values_are n cs (omega arith) fits.1)

-- there are as many values as digits
pub values_length : (n : ℕ) (text : List ℕ) → length text ≡ n → length (values_of n text) ≡ n
values_length n [] long = long
values_length zero (c ∷ cs) long = absurd (omega arith)
values_length (suc n) (c ∷ cs) long = ap suc (values_length n cs (omega arith))

all_valued : (text vals : List ℕ) → length text ≡ length vals → Each2 IsValue text vals
    → list_all is_lower_hex text ≡ list_all (λ v. nat_lt v 16) vals
all_valued [] [] same read = refl
all_valued [] (v ∷ vs) same read = absurd (omega arith)
all_valued (c ∷ cs) [] same read = absurd (omega arith)
all_valued (c ∷ cs) (v ∷ vs) same read = λ i. read.0.digit i && all_valued cs vs (omega arith) read.1 i

both_valued : (xs ys vs ws : List ℕ) → length xs ≡ length vs → Each2 IsValue xs vs → Each2 IsValue ys ws
    → Each2 IsValue (xs ++ ys) (vs ++ ws)
both_valued [] ys [] ws same first second = second
both_valued [] ys (v ∷ vs) ws same first second = absurd (omega arith)
both_valued (x ∷ xs) ys [] ws same first second = absurd (omega arith)
both_valued (x ∷ xs) ys (v ∷ vs) ws same first second = (first.0, both_valued xs ys vs ws (omega arith) first.1 second)

-- no bit is set where no lane passes
double_none : (b : Bool) (n : ℕ) (r : Bool) → eqb n 0 ≡ r → eqb (cond b 1 0 + 2 * n) 0 ≡ (not b && r)
double_none true n r e = ne_eqb _ 0 (λ z. absurd (omega arith))
double_none false n true e = eq-eqb _ 0 (let none = eqb-true n 0 e in omega arith)
double_none false n false e = ne_eqb _ 0 (λ z. absurd (let none = sym e ∙ eq-eqb n 0 (omega arith) in cc))

none_set : (ms : List Bool) → eqb (mask_l ms) 0 ≡ list_all not ms
none_set [] = refl
none_set (m ∷ ms) = double_none m (mask_l ms) _ (none_set ms)

in_range : (m : ℕ) → not (top 7 (above 15 m)) ≡ nat_lt m 16
in_range m = elim (cases_lt 15 m) [
  | inl more ↦ ap (λ t. not (top 7 (cond t 255 0))) (lt-ltb 15 m more) ∙ sym (le-ltb m 16 (omega arith))
  | inr few ↦ ap (λ t. not (top 7 (cond t 255 0))) (le-ltb 15 m few) ∙ sym (lt-ltb m 16 (omega arith))
]

under_both : (x y : ℕ) → x ≤ y → (nat_lt y 16 ≡ (nat_lt x 16 && nat_lt y 16)) × (nat_lt y 16 ≡ (nat_lt y 16 && nat_lt x 16))
under_both x y le = elim (cases_lt y 16) [
  | inl few ↦
      let high = lt-ltb y 16 few in
      let low = lt-ltb x 16 (omega arith) in
      (high ∙ sym (and_from _ _ low high), high ∙ sym (and_from _ _ high low))
  | inr more ↦ let high = le-ltb y 16 more in (high ∙ sym (and_right _ _ high), high ∙ sym (and_left _ _ high))
]

-- the larger one is below 16 where both are
one_lane : (h l : ℕ) → not (top 7 (above 15 (largest h l))) ≡ (nat_lt h 16 && nat_lt l 16)
one_lane h l =
    in_range (largest h l) ∙ elim (cases_lt h l) [
      | inl less ↦
          ap (λ t. nat_lt (cond (top 7 (cond t 255 0)) l h) 16) (lt-ltb h l less) ∙ (under_both h l (omega arith)).0
      | inr more ↦ ap (λ t. nat_lt (cond (top 7 (cond t 255 0)) l h) 16) (le-ltb h l more) ∙ (under_both l h more).1
    ]

in_pairs : (a b c d : Bool) → ((a && b) && (c && d)) ≡ ((a && c) && (b && d))
in_pairs false b c d = refl
in_pairs true b false d = and_right b false refl
in_pairs true b true d = refl

abbrev all_small : List ℕ → Bool
all_small vs = list_all (λ v. nat_lt v 16) vs

lanes_small : (n : ℕ) (a b : List ℕ) → length a ≡ n → length b ≡ n
    → list_all not (map (top 7) (zip2 above (replicate n 15) (largest_of a b))) ≡ (all_small a && all_small b)
lanes_small zero [] [] one two = refl
lanes_small zero (x ∷ xs) b one two = absurd (omega arith)
lanes_small zero [] (y ∷ ys) one two = absurd (omega arith)
lanes_small (suc n) [] b one two = absurd (omega arith)
lanes_small (suc n) (x ∷ xs) [] one two = absurd (omega arith)
lanes_small (suc n) (x ∷ xs) (y ∷ ys) one two =
    (λ i. one_lane x y i && lanes_small n xs ys (omega arith) (omega arith) i) ∙ in_pairs (nat_lt x 16) (nat_lt y 16) (all_small xs) (all_small ys)

no_longer : (n x : ℕ) (ys : List ℕ) → length (zip2 above (replicate n x) ys) ≤ n
no_longer zero x ys = omega arith
no_longer (suc n) x [] = omega arith
no_longer (suc n) x (y ∷ ys) = let rest = no_longer n x ys in omega arith

not_twice : (b : Bool) → not (not b) ≡ b
not_twice true = refl
not_twice false = refl

-- the mask of lanes that are 16 or more tells whether all are digits
pub none_strange : (n : ℕ) (xs ys a b : List ℕ) → n ≤ 64 → length xs ≡ n → length ys ≡ n → length a ≡ n → length b ≡ n
    → Each2 IsValue xs a → Each2 IsValue ys b
    → not (not (eqb (mask_l (map (top 7) (zip2 above (replicate n 15) (largest_of a b))) % 2 ^ 64) 0)) ≡ list_all is_lower_hex (xs ++ ys)
none_strange n xs ys a b few one two long same first second =
    let masks = map (top 7) (zip2 above (replicate n 15) (largest_of a b)) in
    let short : length masks ≤ 64 =
    omega (arith, length-map (zip2 above (replicate n 15) (largest_of a b)) (top 7), no_longer n 15 (largest_of a b)) in
    not_twice _ ∙ ap (λ k. eqb k 0) (mask_l-mod masks 64 short)
    ∙ none_set masks ∙ lanes_small n a b long same
    ∙ (λ i. sym (all_valued xs a (one ∙ sym long) first) i && sym (all_valued ys b (two ∙ sym same) second) i)
    ∙ sym (list_all-append is_lower_hex xs ys)

-- a byte of each two values
paired : List ℕ → List ℕ
paired [] = []
paired (h ∷ []) = []
paired (h ∷ l ∷ rest) = added (up h 4) l ∷ paired rest

-- the first and the second digits of sixteen bytes
abbrev firsts : List ℕ → List ℕ
firsts vals = pick_l 0 vals (0 ∷ 2 ∷ 4 ∷ 6 ∷ 8 ∷ 10 ∷ 12 ∷ 14 ∷ 16 ∷ 18 ∷ 20 ∷ 22 ∷ 24 ∷ 26 ∷ 28 ∷ 30 ∷ [])

abbrev seconds : List ℕ → List ℕ
seconds vals = pick_l 0 vals (1 ∷ 3 ∷ 5 ∷ 7 ∷ 9 ∷ 11 ∷ 13 ∷ 15 ∷ 17 ∷ 19 ∷ 21 ∷ 23 ∷ 25 ∷ 27 ∷ 29 ∷ 31 ∷ [])

abbrev pub joined : List ℕ → List ℕ
joined vals = zip2 added (zip2 up (firsts vals) (replicate 16 4)) (seconds vals)

-- what is joined are bytes
pub joined_few : (vals : List ℕ) → Each1 (λ b. b < 256) (joined vals)
joined_few vals =
    let high = zip2 up (firsts vals) (replicate 16 4) in
    Each1-zip2 added (λ b. b < 256) high (seconds vals) (Each2-all (λ x y. added x y < 256) (λ x y. omega arith) high (seconds vals))

joined_is : (vals : List ℕ) → length vals ≡ 32 → joined vals ≡ paired vals
unfolding paired
joined_is vals long = subst (λ l. joined l ≡ paired l) (pick_l_whole 0 vals 32 long) refl

two_shown : (c d h l : ℕ) (bytes text : List ℕ) → h < 16 → l < 16 → slice_index lower_digits h ≡ c → slice_index lower_digits l ≡ d
    → encode_lower bytes ≡ text → encode_lower (added (up h 4) l ∷ bytes) ≡ c ∷ d ∷ text
unfolding encode_with
two_shown c d h l bytes text less few high low rest =
    let byte : added (up h 4) l ≡ h * 16 + l = omega arith in
    let quotient : added (up h 4) l / 16 ≡ h = omega arith in
    let left : added (up h 4) l % 16 ≡ l = omega arith in
    λ i. (ap (slice_index lower_digits) quotient ∙ high) i ∷ (ap (slice_index lower_digits) left ∙ low) i ∷ rest i

paired_shown : (n : ℕ) (text vals : List ℕ) → length text ≡ 2 * n → length vals ≡ 2 * n → Each2 IsValue text vals
    → all_small vals ≡ true → encode_lower (paired vals) ≡ text
unfolding paired encode_with
paired_shown n [] [] one two read small = refl
paired_shown n [] (v ∷ vs) one two read small = absurd (omega arith)
paired_shown n (c ∷ []) vals one two read small = absurd (omega arith)
paired_shown n (c ∷ d ∷ cs) [] one two read small = absurd (omega arith)
paired_shown n (c ∷ d ∷ cs) (v ∷ []) one two read small = absurd (omega arith)
paired_shown n (c ∷ d ∷ cs) (h ∷ l ∷ vs) one two read small =
    let first = and_parts (nat_lt h 16) (nat_lt l 16 && all_small vs) small in
    let second = and_parts (nat_lt l 16) (all_small vs) first.1 in
    let less = ltb-true h 16 first.0 in
    let few = ltb-true l 16 second.0 in
    two_shown c d h l (paired vs) cs less few (read.0.value less) (read.1.0.value few)
    (paired_shown (n - 1) cs vs (omega arith) (omega arith) read.1.1 second.1)

-- the bytes of thirty-two digits are written as they were
pub joined_shown : (xs ys a b : List ℕ) → length xs ≡ 16 → length ys ≡ 16 → length a ≡ 16 → length b ≡ 16
    → Each2 IsValue xs a → Each2 IsValue ys b → list_all is_lower_hex (xs ++ ys) ≡ true → encode_lower (joined (a ++ b)) ≡ xs ++ ys
joined_shown xs ys a b one two long same first second lower =
    let texts : length (xs ++ ys) ≡ 2 * 16 = omega (arith, length-append xs ys) in
    let vals : length (a ++ b) ≡ 2 * 16 = omega (arith, length-append a b) in
    let read = both_valued xs ys a b (one ∙ sym long) first second in
    ap encode_lower (joined_is (a ++ b) vals)
    ∙ paired_shown 16 (xs ++ ys) (a ++ b) texts vals read (sym (all_valued (xs ++ ys) (a ++ b) (texts ∙ sym vals) read) ∙ lower)
