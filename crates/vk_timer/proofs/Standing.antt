-- Deadlines whose bits stand in their places, after each change of a bit.
use Rattle.std.proofs.Common.{◌≡◌, ℕ, zero, suc, ◌+◌, ◌%◌, ◌^◌, ◌<◌, ◌≤◌, ◌==◌, Bool, true, false, cond, List, [], ◌∷◌, length, map, get_or, set, replicate, arith, refl, ap, sym, subst, inl, inr, Option, Some, None, ◌∙◌}
use Rattle.std.specs.Int.{bit_at}
use Rattle.std.proofs.lemmas.Bool.{cases_eq, cases_lt, cond-false, cond-true, eq-eqb, eqb-false, eqb-true, ne_eqb}
use Rattle.std.proofs.lemmas.List.{ext_get_or, get_or_default, get_or_past, get_or-set_other, get_or-set_same, length-map, length-replicate, length-set}
use Rattle.std.proofs.lemmas.Nat.Bits.{bit_at-lt, bit_at-zero, same_from_bits_below}
use Rattle.std.proofs.lemmas.Option.{none-some}
use Rattle.vk_timer.specs.Kept.{IsWheelKept, bit_of, standing, standing_from}
use Rattle.vk_timer.specs.Wheels.{AreFrom, deadline_of, due_set, is_due, not_due}
use Rattle.vk_timer.proofs.Sets.{bit_in, set_low}

-- of a wheel, slot by slot
pub due_at : (n : ℕ) (wheel : List (Option ℕ)) (k : ℕ) → get_or (map (is_due n) wheel) k false ≡ is_due n (deadline_of wheel k)
due_at n [] k = refl
due_at n (o ∷ os) zero = refl
due_at n (o ∷ os) (suc k) = due_at n os k

pub left_at : (n : ℕ) (wheel : List (Option ℕ)) (slot : ℕ) → deadline_of (map (not_due n) wheel) slot ≡ not_due n (deadline_of wheel slot)
left_at n [] slot = refl
left_at n (o ∷ os) zero = refl
left_at n (o ∷ os) (suc slot) = left_at n os slot

-- what stands, slot by slot
pub length_standing : (places : List ℕ) (k : ℕ) (ticks : List ℕ) → length (standing_from places k ticks) ≡ length ticks
length_standing places k [] = refl
length_standing places k (t ∷ ts) = ap suc (length_standing places (suc k) ts)

standing_at : (places : List ℕ) (k : ℕ) (ticks : List ℕ) (i slot : ℕ) → i < length ticks → k + i ≡ slot →
    deadline_of (standing_from places k ticks) i ≡ standing places slot (get_or ticks i 0)
standing_at places k [] i slot low is = absurd (omega (arith, low))
standing_at places k (t ∷ ts) zero slot low is = ap (λ n. standing places n t) (omega (arith, is))
standing_at places k (t ∷ ts) (suc i) slot low is = standing_at places (suc k) ts i slot (omega (arith, low)) (omega (arith, is))

abbrev seen : List ℕ → List ℕ → List (Option ℕ)
seen places ticks = standing_from places 0 ticks

pub seen_at : (places ticks : List ℕ) (slot : ℕ) → slot < length ticks → deadline_of (seen places ticks) slot ≡ standing places slot (get_or ticks slot 0)
seen_at places ticks slot low = standing_at places 0 ticks slot slot low (omega arith)

-- one place is put
bit_there : (places : List ℕ) (place n q k : ℕ) → place < length places →
    bit_of (set places place n) q k ≡ cond (q == place) (bit_at n k) (bit_of places q k)
bit_there places place n q k low = elim (cases_eq q place) [
  | inl is ↦
      ap (λ p. bit_of (set places place n) p k) is ∙ ap (λ v. bit_at v k) (get_or-set_same places place n 0 low)
      ∙ sym (cond-true (q == place) (bit_at n k) (bit_of places q k) (eq-eqb q place is))
  | inr ne ↦
      ap (λ v. bit_at v k) (get_or-set_other places place q n 0 ne)
      ∙ sym (cond-false (q == place) (bit_at n k) (bit_of places q k) (ne_eqb q place ne))
]

-- where the bits of a place change of one slot alone
same_else : (places : List ℕ) (place n q k : ℕ) → place < length places → bit_at n k ≡ bit_of places place k →
    bit_of (set places place n) q k ≡ bit_of places q k
same_else places place n q k low same = bit_there places place n q k low ∙ by_test (q == place) refl
  where
    by_test : (b : Bool) → (q == place) ≡ b → cond b (bit_at n k) (bit_of places q k) ≡ bit_of places q k
    by_test true is = same ∙ ap (λ p. bit_of places p k) (sym (eqb-true q place is))
    by_test false is = refl

module _ (places ticks : List ℕ) (kept : IsWheelKept places ticks) where
  in_places : (tick : ℕ) → tick % 64 < length places
  in_places tick = let long = kept.long in omega (arith, long)

  -- as the code reads it
  pub read_in : (place tick n : ℕ) → place ≡ tick % 64 → n ≡ get_or places place n → n ≡ get_or places (tick % 64) 0
  read_in place tick n is read = read ∙ ap (λ p. get_or places p n) is ∙ get_or_default places (tick % 64) n 0 (in_places tick)

  pub slot_in : (slot : ℕ) (wheel : List (Option ℕ)) → seen places ticks ≡ wheel → slot < length wheel → slot < length ticks
  slot_in slot wheel view low = subst (λ n. slot < n) (ap length (sym view) ∙ length_standing places 0 ticks) low

  -- The slot's bit is put in the place of a tick, and it had none.
  module _ (slot tick n : ℕ) (low : slot < length ticks) (free : deadline_of (seen places ticks) slot ≡ None)
      (bits : (k : ℕ) → bit_at n k ≡ cond (k == slot) 1 (bit_of places (tick % 64) k)) where
    abbrev put_places : List ℕ
    put_places = set places (tick % 64) n

    abbrev put_ticks : List ℕ
    put_ticks = set ticks slot tick

    none_stands : (place : ℕ) → bit_of places place slot ≡ 1 → ⊥
    none_stands place one =
        let own = kept.own place slot one in
        let here : bit_of places (get_or ticks slot 0 % 64) slot ≡ 1 = ap (λ p. bit_of places p slot) own.1 ∙ one in
        none-some (get_or ticks slot 0) (sym (sym (seen_at places ticks slot low) ∙ free)
        ∙ cond-true (bit_of places (get_or ticks slot 0 % 64) slot == 1) (Some (get_or ticks slot 0)) None
        (eq-eqb (bit_of places (get_or ticks slot 0 % 64) slot) 1 here))

    bit_here : bit_at n slot ≡ 1
    bit_here = bits slot ∙ cond-true (slot == slot) 1 (bit_of places (tick % 64) slot) (eq-eqb slot slot refl)

    bit_else : (k : ℕ) → (k ≡ slot → ⊥) → bit_at n k ≡ bit_of places (tick % 64) k
    bit_else k ne = bits k ∙ cond-false (k == slot) 1 (bit_of places (tick % 64) k) (ne_eqb k slot ne)

    pub kept_put : IsWheelKept put_places put_ticks
    kept_put = record {
      long = length-set places (tick % 64) n ∙ kept.long;
      few = subst (λ k. k ≤ 32) (sym (length-set ticks slot tick)) kept.few;
      own = λ place k one. elim (cases_eq k slot) [
        | inl is ↦ elim (cases_eq place (tick % 64)) [
          | inl there ↦ (
            subst (λ m. m < length put_ticks) (sym is) (subst (λ m. slot < m) (sym (length-set ticks slot tick)) low),
            ap (λ i. get_or put_ticks i 0 % 64) is ∙ ap (λ t. t % 64) (get_or-set_same ticks slot tick 0 low) ∙ sym there,
          )
          | inr ne ↦ absurd (none_stands place (sym (ap (λ v. bit_at v slot) (get_or-set_other places (tick % 64) place n 0 ne))
              ∙ ap (bit_of put_places place) (sym is) ∙ one))
        ]
        | inr ne ↦
            let own = kept.own place k (sym (same_else places (tick % 64) n place k (in_places tick) (bit_else k ne)) ∙ one) in (
              subst (λ m. k < m) (sym (length-set ticks slot tick)) own.0,
              ap (λ t. t % 64) (get_or-set_other ticks slot k tick 0 ne) ∙ own.1,
            )
      ];
    }

    long_put : length (seen put_places put_ticks) ≡ length (set (seen places ticks) slot (Some tick))
    long_put = length_standing put_places 0 put_ticks ∙ length-set ticks slot tick ∙ sym (length_standing places 0 ticks)
        ∙ sym (length-set (seen places ticks) slot (Some tick))

    put_at : (i : ℕ) → i < length ticks → deadline_of (seen put_places put_ticks) i ≡ deadline_of (set (seen places ticks) slot (Some tick)) i
    put_at i fits =
        seen_at put_places put_ticks i (subst (λ m. i < m) (sym (length-set ticks slot tick)) fits) ∙ elim (cases_eq i slot) [
          | inl is ↦
              ap (λ k. standing put_places k (get_or put_ticks k 0)) is ∙ ap (standing put_places slot) (get_or-set_same ticks slot tick 0 low)
              ∙ cond-true (bit_of put_places (tick % 64) slot == 1) (Some tick) None (eq-eqb (bit_of put_places (tick % 64) slot) 1
              (ap (λ v. bit_at v slot) (get_or-set_same places (tick % 64) n 0 (in_places tick)) ∙ bit_here))
              ∙ sym (ap (deadline_of (set (seen places ticks) slot (Some tick))) is ∙ get_or-set_same (seen places ticks) slot (Some tick) None
              (subst (λ m. slot < m) (sym (length_standing places 0 ticks)) low))
          | inr ne ↦
              ap (standing put_places i) (get_or-set_other ticks slot i tick 0 ne)
              ∙ ap (λ b. cond (b == 1) (Some (get_or ticks i 0)) None)
              (same_else places (tick % 64) n (get_or ticks i 0 % 64) i (in_places tick) (bit_else i ne))
              ∙ sym (seen_at places ticks i fits) ∙ sym (get_or-set_other (seen places ticks) slot i (Some tick) None ne)
        ]

    pub seen_put : seen put_places put_ticks ≡ set (seen places ticks) slot (Some tick)
    seen_put = ext_get_or None (seen put_places put_ticks) (set (seen places ticks) slot (Some tick)) long_put (λ i fits.
        put_at i (subst (λ m. i < m) (length_standing put_places 0 put_ticks ∙ length-set ticks slot tick) fits))

  -- The slot's bit is taken out of the place of what it was given last.
  module _ (slot n : ℕ) (low : slot < length ticks)
      (bits : (k : ℕ) → bit_at n k ≡ cond (k == slot) 0 (bit_of places (get_or ticks slot 0 % 64) k)) where
    abbrev last : ℕ
    last = get_or ticks slot 0

    abbrev less_places : List ℕ
    less_places = set places (last % 64) n

    bit_gone : bit_at n slot ≡ 0
    bit_gone = bits slot ∙ cond-true (slot == slot) 0 (bit_of places (last % 64) slot) (eq-eqb slot slot refl)

    bit_stays : (k : ℕ) → (k ≡ slot → ⊥) → bit_at n k ≡ bit_of places (last % 64) k
    bit_stays k ne = bits k ∙ cond-false (k == slot) 0 (bit_of places (last % 64) k) (ne_eqb k slot ne)

    gone_here : bit_of less_places (last % 64) slot ≡ 0
    gone_here = ap (λ v. bit_at v slot) (get_or-set_same places (last % 64) n 0 (in_places last)) ∙ bit_gone

    none_left : (place : ℕ) → bit_of less_places place slot ≡ 1 → ⊥
    none_left place one = elim (cases_eq place (last % 64)) [
      | inl is ↦ let none = ap (λ p. bit_of less_places p slot) is ∙ gone_here in omega (arith, none, one)
      | inr ne ↦
          ne (sym (kept.own place slot (sym (ap (λ v. bit_at v slot) (get_or-set_other places (last % 64) place n 0 ne)) ∙ one)).1)
    ]

    pub kept_cleared : IsWheelKept less_places ticks
    kept_cleared = record {
      long = length-set places (last % 64) n ∙ kept.long;
      few = kept.few;
      own = λ place k one. elim (cases_eq k slot) [
        | inl is ↦ absurd (none_left place (ap (bit_of less_places place) (sym is) ∙ one))
        | inr ne ↦ kept.own place k (sym (same_else places (last % 64) n place k (in_places last) (bit_stays k ne)) ∙ one)
      ];
    }

    cleared_at : (i : ℕ) → i < length ticks → deadline_of (seen less_places ticks) i ≡ deadline_of (set (seen places ticks) slot None) i
    cleared_at i fits = seen_at less_places ticks i fits ∙ elim (cases_eq i slot) [
      | inl is ↦
          ap (λ k. standing less_places k (get_or ticks k 0)) is
          ∙ ap (λ b. cond (b == 1) (Some last) None) gone_here
          ∙ sym (ap (deadline_of (set (seen places ticks) slot None)) is ∙ get_or-set_same (seen places ticks) slot None None
          (subst (λ m. slot < m) (sym (length_standing places 0 ticks)) low))
      | inr ne ↦
          ap (λ b. cond (b == 1) (Some (get_or ticks i 0)) None)
          (same_else places (last % 64) n (get_or ticks i 0 % 64) i (in_places last) (bit_stays i ne))
          ∙ sym (seen_at places ticks i fits) ∙ sym (get_or-set_other (seen places ticks) slot i None None ne)
    ]

    pub seen_cleared : seen less_places ticks ≡ set (seen places ticks) slot None
    seen_cleared = ext_get_or None (seen less_places ticks) (set (seen places ticks) slot None)
        (length_standing less_places 0 ticks ∙ sym (length_standing places 0 ticks) ∙ sym (length-set (seen places ticks) slot None))
        (λ i fits. cleared_at i (subst (λ m. i < m) (length_standing less_places 0 ticks) fits))

  -- A place is emptied, in which all that stand are one tick.
  module _ (now : ℕ) (near : AreFrom now (seen places ticks)) where
    abbrev place : ℕ
    place = now % 64

    abbrev without : List ℕ
    without = set places place 0

    empty_here : (k : ℕ) → bit_of without place k ≡ 0
    empty_here k = ap (λ v. bit_at v k) (get_or-set_same places place 0 0 (in_places now)) ∙ bit_at-zero k

    same_there : (q k : ℕ) → (q ≡ place → ⊥) → bit_of without q k ≡ bit_of places q k
    same_there q k ne = ap (λ v. bit_at v k) (get_or-set_other places place q 0 0 ne)

    pub kept_due : IsWheelKept without ticks
    kept_due = record {
      long = length-set places place 0 ∙ kept.long;
      few = kept.few;
      own = λ q k one. elim (cases_eq q place) [
        | inl is ↦ absurd (let none = ap (λ p. bit_of without p k) is ∙ empty_here k in omega (arith, none, one))
        | inr ne ↦ kept.own q k (sym (same_there q k ne) ∙ one)
      ];
    }

    no_bit : (k : ℕ) → (bit_of places place k ≡ 1 → ⊥) → bit_of places place k ≡ 0
    no_bit k ne = let less = bit_at-lt (get_or places place 0) k in omega (arith, less, ne)

    -- a slot's deadline, and whether its bit stands
    module _ (k : ℕ) (low : k < length ticks) where
      abbrev tick : ℕ
      tick = get_or ticks k 0

      due_there : bit_of places (tick % 64) k ≡ 1 → tick % 64 ≡ place → tick ≡ now
      due_there one same =
          let range = near k tick (seen_at places ticks k low
          ∙ cond-true (bit_of places (tick % 64) k == 1) (Some tick) None (eq-eqb (bit_of places (tick % 64) k) 1 one)) in
          omega (arith, range.0, range.1, same)

      left_by : (b : Bool) → (bit_of places (tick % 64) k == 1) ≡ b → standing without k tick ≡ not_due now (cond b (Some tick) None)
      left_by b is = elim (cases_eq (tick % 64) place) [
        | inl same ↦
            ap (λ n. cond (n == 1) (Some tick) None) (ap (λ q. bit_of without q k) same ∙ empty_here k) ∙ by_bit b is same
        | inr ne ↦
            ap (λ n. cond (n == 1) (Some tick) None) (same_there (tick % 64) k ne)
            ∙ ap (λ c. cond c (Some tick) None) is ∙ other b (λ e. ne (ap (λ t. t % 64) e))
      ]
        where
          by_bit : (c : Bool) → (bit_of places (tick % 64) k == 1) ≡ c → tick % 64 ≡ place → None ≡ not_due now (cond c (Some tick) None)
          by_bit false is same = refl
          by_bit true is same = sym (cond-true (tick == now) None (Some tick)
              (eq-eqb tick now (due_there (eqb-true (bit_of places (tick % 64) k) 1 is) same)))

          other : (c : Bool) → (tick ≡ now → ⊥) → cond c (Some tick) None ≡ not_due now (cond c (Some tick) None)
          other false ne = refl
          other true ne = sym (cond-false (tick == now) None (Some tick) (ne_eqb tick now ne))

      due_by : (b : Bool) → (bit_of places (tick % 64) k == 1) ≡ b → bit_of places place k ≡ cond (is_due now (cond b (Some tick) None)) 1 0
      due_by true is = elim (cases_eq tick now) [
        | inl same ↦
            ap (λ t. bit_of places (t % 64) k) (sym same) ∙ eqb-true (bit_of places (tick % 64) k) 1 is
            ∙ sym (cond-true (tick == now) 1 0 (eq-eqb tick now same))
        | inr ne ↦
            no_bit k (λ one. ne (due_there (eqb-true (bit_of places (tick % 64) k) 1 is) (kept.own place k one).1))
            ∙ sym (cond-false (tick == now) 1 0 (ne_eqb tick now ne))
      ]
      due_by false is = no_bit k (λ one.
          eqb-false (bit_of places (tick % 64) k) 1 is (ap (λ q. bit_of places q k) (kept.own place k one).1 ∙ one))

    pub seen_due : seen without ticks ≡ map (not_due now) (seen places ticks)
    seen_due = ext_get_or None (seen without ticks) (map (not_due now) (seen places ticks))
        (length_standing without 0 ticks ∙ sym (length_standing places 0 ticks) ∙ sym (length-map (seen places ticks) (not_due now)))
        (λ i fits.
        let low : i < length ticks = subst (λ m. i < m) (length_standing without 0 ticks) fits in
        seen_at without ticks i low ∙ left_by i low (bit_of places (get_or ticks i 0 % 64) i == 1) refl
        ∙ ap (not_due now) (sym (seen_at places ticks i low)) ∙ sym (left_at now (seen places ticks) i))

    due_bit : (k : ℕ) → bit_of places place k ≡ cond (is_due now (deadline_of (seen places ticks) k)) 1 0
    due_bit k = elim (cases_lt k (length ticks)) [
      | inl low ↦
          due_by k low (bit_of places (get_or ticks k 0 % 64) k == 1) refl
          ∙ ap (λ o. cond (is_due now o) 1 0) (sym (seen_at places ticks k low))
      | inr past ↦
          no_bit k (λ one. let own = kept.own place k one in omega (arith, past, own.0))
          ∙ ap (λ o. cond (is_due now o) 1 0) (sym (get_or_past (seen places ticks) k None
          (subst (λ m. m ≤ k) (sym (length_standing places 0 ticks)) past)))
    ]

    pub due_seen : (n : ℕ) → n < 2 ^ 32 → n ≡ get_or places place 0 → n ≡ due_set now (seen places ticks)
    due_seen n fits is = same_from_bits_below 32 n (due_set now (seen places ticks)) fits
        (set_low (map (is_due now) (seen places ticks)) (subst (λ m. m ≤ 32)
        (sym (length-map (seen places ticks) (is_due now) ∙ length_standing places 0 ticks)) kept.few))
        (λ k low. ap (λ v. bit_at v k) is ∙ due_bit k
        ∙ sym (bit_in (map (is_due now) (seen places ticks)) k ∙ ap (λ b. cond b 1 0) (due_at now (seen places ticks) k)))

-- No bit stands.
abbrev zeros : ℕ → List ℕ
zeros n = replicate n 0

length_zeros : (n : ℕ) → length (zeros n) ≡ n
length_zeros n = length-replicate n 0

zeros_at : (n at : ℕ) → get_or (zeros n) at 0 ≡ 0
zeros_at zero at = refl
zeros_at (suc n) zero = refl
zeros_at (suc n) (suc at) = zeros_at n at

no_bits : (places place slot : ℕ) → bit_of (zeros places) place slot ≡ 0
no_bits places place slot = ap (λ v. bit_at v slot) (zeros_at places place) ∙ bit_at-zero slot

pub kept_new : (slots : ℕ) → slots ≤ 32 → IsWheelKept (zeros 64) (zeros slots)
kept_new slots few = record {
  long = length_zeros 64;
  few = subst (λ k. k ≤ 32) (sym (length_zeros slots)) few;
  own = λ place slot one. absurd (let none = no_bits 64 place slot in omega (arith, none, one));
}

abbrev nothing : ℕ → List (Option ℕ)
nothing n = replicate n None

new_from : (k slots : ℕ) → standing_from (zeros 64) k (zeros slots) ≡ nothing slots
new_from k zero = refl
new_from k (suc n) =
    ap (λ b. cond (b == 1) (Some 0) None ∷ standing_from (zeros 64) (suc k) (zeros n)) (no_bits 64 0 k)
    ∙ ap (λ xs. None ∷ xs) (new_from (suc k) n)

pub seen_new : (slots : ℕ) → seen (zeros 64) (zeros slots) ≡ nothing slots
seen_new slots = new_from 0 slots
