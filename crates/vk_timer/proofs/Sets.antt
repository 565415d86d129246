-- Sets of slots as numbers: their bits, one of them put or taken away, and the lowest from one on.
use Rattle.std.proofs.Common.{◌≡◌, ℕ, ◌+◌, ◌-◌, ◌*◌, ◌%◌, ◌/◌, ◌^◌, ◌<◌, ◌≤◌, ◌⊎◌, ◌==◌, Bool, false, cond, List, [], ◌∷◌, length, get_or, arith, refl, ap, sym, subst, inl, inr, ◌∙◌}
use lib.Bits.{bit_and}
use lib.Lanes.{mask_l}
use mir.Syntax.{w32}
use Rattle.std.specs.Int.{bit_at, trailing_zeros}
use Rattle.std.specs.Int.RustNames.{bit_or}
use Rattle.std.proofs.Math.Nat.{pow-le-pow_right}
use Rattle.std.proofs.lemmas.Bool.{cases_eq, cases_lt, cond-false, cond-true, eq-eqb, ne_eqb}
use Rattle.std.proofs.lemmas.Nat.{and_le_l, shr-shr}
use Rattle.std.proofs.lemmas.Nat.Bits.{bit_at-trailing_zeros, bit_at-zero, bit_at_above, bit_at_clear_other, bit_at_clear_same, bit_at_set_other, bit_at_set_same}
use Rattle.std.proofs.lemmas.Simd.{bit_mask_l, mask_l-lt}
use Rattle.vk_timer.specs.Sets.{AreOver, IsNextSlot, set_of}

-- bits of a set
as_mask : (bs : List Bool) → set_of bs ≡ mask_l bs
as_mask [] = refl
as_mask (b ∷ bs) = ap (λ n. cond b 1 0 + 2 * n) (as_mask bs)

pub bit_in : (bs : List Bool) (i : ℕ) → bit_at (set_of bs) i ≡ cond (get_or bs i false) 1 0
bit_in bs i = ap (λ n. bit_at n i) (as_mask bs) ∙ bit_mask_l bs i

pub set_low : (bs : List Bool) → length bs ≤ 32 → set_of bs < 2 ^ 32
set_low bs few =
    let least = subst (λ n. n < 2 ^ length bs) (sym (as_mask bs)) (mask_l-lt bs) in
    let most : 2 ^ length bs ≤ 2 ^ 32 = pow-le-pow_right {n = 2} (omega arith) few in
    omega (arith, least, most)

-- one bit is put, or taken away
pub bit_put : (slots slot k : ℕ) → slot < 32 → bit_at (bit_or slots (1 * 2 ^ slot % 2 ^ 32)) k ≡ cond (k == slot) 1 (bit_at slots k)
bit_put slots slot k within = elim (cases_eq k slot) [
  | inl is ↦
      ap (bit_at (bit_or slots (1 * 2 ^ slot % 2 ^ 32))) is ∙ bit_at_set_same w32 slots slot within
      ∙ sym (cond-true (k == slot) 1 (bit_at slots k) (eq-eqb k slot is))
  | inr other ↦
      bit_at_set_other w32 slots slot within k other ∙ sym (cond-false (k == slot) 1 (bit_at slots k) (ne_eqb k slot other))
]

pub bit_taken : (slots slot k : ℕ) → slots < 2 ^ 32 → slot < 32 →
    bit_at (bit_and slots (2 ^ 32 - 1 - 1 * 2 ^ slot % 2 ^ 32)) k ≡ cond (k == slot) 0 (bit_at slots k)
bit_taken slots slot k fits within = elim (cases_eq k slot) [
  | inl is ↦
      ap (bit_at (bit_and slots (2 ^ 32 - 1 - 1 * 2 ^ slot % 2 ^ 32))) is ∙ bit_at_clear_same w32 slots slot within
      ∙ sym (cond-true (k == slot) 0 (bit_at slots k) (eq-eqb k slot is))
  | inr other ↦ still (cases_lt k 32) other ∙ sym (cond-false (k == slot) 0 (bit_at slots k) (ne_eqb k slot other))
]
  where
    still : (k < 32) ⊎ (32 ≤ k) → (k ≡ slot → ⊥) → bit_at (bit_and slots (2 ^ 32 - 1 - 1 * 2 ^ slot % 2 ^ 32)) k ≡ bit_at slots k
    still (inl low) other = bit_at_clear_other w32 slots slot within k low other
    still (inr above) other =
        let less = and_le_l slots (2 ^ 32 - 1 - 1 * 2 ^ slot % 2 ^ 32) in
        bit_at_above (bit_and slots (2 ^ 32 - 1 - 1 * 2 ^ slot % 2 ^ 32)) 32 k (omega (arith, less, fits)) above
        ∙ sym (bit_at_above slots 32 k fits above)

-- the lowest slot of a set from one on
bit_behind : (slots from k : ℕ) → bit_at (slots / 2 ^ from) k ≡ bit_at slots (from + k)
bit_behind slots from k = ap (λ n. n % 2) (shr-shr slots from k)

below : (n k : ℕ) → n < 2 ^ 32 → bit_at n k ≡ 1 → k < 32
below n k fits is = elim (cases_lt k 32) [
  | inl less ↦ less
  | inr more ↦ let none = bit_at_above n 32 k fits more in absurd (omega (arith, none, is))
]

pub next_is : (slots from : ℕ) → slots < 2 ^ 32 → (0 < slots / 2 ^ from) → (slots / 2 ^ from < 2 ^ 32) →
    IsNextSlot slots from (from + trailing_zeros w32 (slots / 2 ^ from))
next_is slots from low some fits =
    let lowest = bit_at-trailing_zeros w32 (slots / 2 ^ from) some fits in
    let tz = trailing_zeros w32 (slots / 2 ^ from) in
    let here : bit_at slots (from + tz) ≡ 1 = sym (bit_behind slots from tz) ∙ lowest.1 in
    record {
      low = below slots (from + tz) low here;
      behind = omega arith;
      here = here;
      others = λ k over less.
          subst (λ n. bit_at slots n ≡ 0) (omega (arith, over)) (sym (bit_behind slots from (k - from))
          ∙ lowest.2 (k - from) (omega (arith, over, less)));
    }

pub over_is : (slots from : ℕ) → slots / 2 ^ from ≡ 0 → AreOver slots from
over_is slots from none k over less =
    subst (λ n. bit_at slots n ≡ 0) (omega (arith, over))
    (sym (bit_behind slots from (k - from)) ∙ ap (λ n. bit_at n (k - from)) none ∙ bit_at-zero (k - from))
