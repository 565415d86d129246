-- A wheel has the ticks that processes wait for: where some of them change, where it is asked for a tick, and where it is told of one.
use Rattle.std.proofs.Common.{◌≡◌, ◌∙◌, ◌+◌, ◌-◌, ◌%◌, ◌^◌, ◌<◌, ◌≤◌, ◌⊎◌, ◌==◌, ℕ, zero, suc, Bool, true, false, cond, max, List, [], ◌∷◌, get_or, length, map, set, Option, Some, None, refl, sym, ap, subst, inl, inr, arith}
use Rattle.std.specs.Int.{bit_at}
use Rattle.std.specs.Int.Bits.{bit_or}
use Rattle.std.proofs.lemmas.Bool.{cases_eq, cases_lt, cond-false, cond-true, eqb-true, ne_eqb}
use Rattle.std.proofs.lemmas.List.{get_or-set_other, length-map, length-set}
use Rattle.std.proofs.lemmas.Nat.Bits.{bit_at-zero, bit_at_ones, bit_at_or, same_from_bits_below}
use Rattle.std.proofs.lemmas.Option.{none-some}
use Rattle.vk_procs.specs.declared.deadlines.Deadlines.{Deadlines}
use Rattle.vk_procs.specs.declared.seat.Seat.{Seat}
use Rattle.vk_procs.specs.Awaited.{due_places, is_awaited, is_blocked}
use Rattle.vk_procs.specs.Kept.{AreAsked, AreFollowed, HasHeard, IsFollowedAt, IsTold, awaited_at, deadline_at}
use Rattle.vk_timer.specs.Sets.{AreOver}
use Rattle.vk_timer.specs.Wheels.{is_due}
use Rattle.vk_timer.proofs.Sets.{bit_in, set_low}
use Rattle.vk_procs.proofs.Steady.{AreSteady}

not_both : (n : ℕ) → n ≡ 1 → n ≡ 0 → ⊥
not_both n one none = omega (arith, one, none)

-- One process gets another deadline.
pub followed_told : (d e : Deadlines) (at tick : ℕ) (old new : List Seat) → AreFollowed d old → HasHeard d e at (Some tick) →
    ((k : ℕ) → (k ≡ at → ⊥) → deadline_at new k ≡ deadline_at old k) → ((t : ℕ) → deadline_at new at ≡ Some t → tick ≡ t) →
    AreFollowed e new
followed_told d e at tick old new h heard others here = record {
  long = heard.long;
  told = λ k low none t is. elim (cases_eq k at) [
    | inl same ↦
        subst (λ n. IsTold e n t) (sym same)
        (heard.here (sym (ap (bit_at e.noted) same) ∙ none) t (ap Some (here t (sym (ap (deadline_at new) same) ∙ is))))
    | inr ne ↦ heard.told k t (h.told k low (heard.noted k none) t (sym (others k ne) ∙ is))
  ];
}

-- None does.
pub followed_steady : (d : Deadlines) (old new : List Seat) → AreFollowed d old → AreSteady old new → AreFollowed d new
followed_steady d old new h steady = record {
  long = h.long;
  told = λ k low none tick e. h.told k low none tick (sym (steady k) ∙ e);
}

-- The wheel is to be told of all.
pub note_each : (d : Deadlines) → length d.wheel ≡ 64 → ((k : ℕ) → k < 32 → bit_at d.noted k ≡ 1) → (seats : List Seat) → AreFollowed d seats
note_each d long bits seats = record {
  long = long;
  told = λ k low none. absurd (not_both (bit_at d.noted k) (bits k low) none);
}

-- The wheel is asked for a tick.
either_none : (a b k : ℕ) → bit_at (bit_or a b) k ≡ 0 → (bit_at a k ≡ 0) × (bit_at b k ≡ 0)
either_none a b k none = let both : max (bit_at a k) (bit_at b k) ≡ 0 = sym (bit_at_or a b k) ∙ none in (omega (arith, both), omega (arith, both))

-- what a process waits for is its deadline
waited_by : (now : ℕ) (s : Seat) (b : Bool) → cond b (Some s.note.work.deadline) None ≡ Some now → Some s.note.work.deadline ≡ Some now
waited_by now s true e = e
waited_by now s false e = absurd (none-some now e)

is_deadline : (now : ℕ) (seats : List Seat) (at : ℕ) → awaited_at seats at ≡ Some now → deadline_at seats at ≡ Some now
is_deadline now [] at e = absurd (none-some now e)
is_deadline now (s ∷ ss) zero e = waited_by now s (is_blocked s.doing) e
is_deadline now (s ∷ ss) (suc at) e = is_deadline now ss at e

module _ (d : Deadlines) (seats : List Seat) (now noted : ℕ) (is : noted ≡ cond (now == d.next) d.noted (2 ^ 32 - 1)) (h : AreFollowed d seats) where
  abbrev place : ℕ
  place = now % 64

  abbrev turned : Deadlines
  turned = record d { wheel = set d.wheel place 0; next = now + 1; noted = 0 }

  -- of one that neither was noted nor stands in the place
  module _ (at : ℕ) (low : at < 32) (unnoted : bit_at noted at ≡ 0) (unset : bit_at (get_or d.wheel place 0) at ≡ 0) where
    known_by : (b : Bool) → (now == d.next) ≡ b → (now ≡ d.next) × (bit_at d.noted at ≡ 0)
    known_by true same =
        (eqb-true now d.next same, ap (λ n. bit_at n at) (sym (is ∙ cond-true (now == d.next) d.noted (2 ^ 32 - 1) same)) ∙ unnoted)
    known_by false other =
        absurd (not_both (bit_at noted at)
        (ap (λ n. bit_at n at) (is ∙ cond-false (now == d.next) d.noted (2 ^ 32 - 1) other) ∙ bit_at_ones 32 at low) unnoted)

    known : (now ≡ d.next) × (bit_at d.noted at ≡ 0)
    known = known_by (now == d.next) refl

    still_by : (tick : ℕ) → IsTold d at tick → (tick ≤ now) ⊎ (now < tick) → IsTold turned at tick
    still_by tick told (inl over) = inl (omega (arith, over))
    still_by tick (inl less) (inr more) = let next = known.0 in absurd (omega (arith, less, more, next))
    still_by tick (inr told) (inr more) =
        let next = known.0 in
        let near = told.0 in
        inr (
          omega (arith, near, next),
          ap (λ n. bit_at n at) (get_or-set_other d.wheel place (tick % 64) 0 0 (λ e. omega (arith, e, near, next, more))) ∙ told.1,
        )

    none_now : IsTold d at now → ⊥
    none_now (inl less) = let next = known.0 in omega (arith, less, next)
    none_now (inr told) = not_both (bit_at (get_or d.wheel place 0) at) told.1 unset

    pub unasked : IsFollowedAt turned seats at × (awaited_at seats at ≡ Some now → ⊥)
    unasked = (
      λ none tick e. still_by tick (h.told at low known.1 tick e) (by_order tick),
      λ e. none_now (h.told at low known.1 now (is_deadline now seats at e)),
    )
      where
        by_order : (tick : ℕ) → (tick ≤ now) ⊎ (now < tick)
        by_order tick = elim (cases_lt now tick) [
          | inl less ↦ inr less
          | inr over ↦ inl over
        ]

  turned_asked : AreAsked turned seats now (bit_or noted (get_or d.wheel place 0))
  turned_asked = record {
    long = length-set d.wheel place 0 ∙ h.long;
    next = refl;
    others = λ at low none.
        let both = either_none noted (get_or d.wheel place 0) at none in
        unasked at low both.0 both.1;
  }

-- as the code gives the place
pub turned_at : (d : Deadlines) (now noted p : ℕ) → noted ≡ cond (now == d.next) d.noted (2 ^ 32 - 1) → p ≡ now % 64 →
    (seats : List Seat) → AreFollowed d seats →
    AreAsked (record d { wheel = set d.wheel p 0; next = now + 1; noted = 0 }) seats now (bit_or noted (get_or d.wheel p 0))
turned_at d now noted p is at seats h =
    subst (λ i. AreAsked (record d { wheel = set d.wheel i 0; next = now + 1; noted = 0 }) seats now (bit_or noted (get_or d.wheel i 0)))
    (sym at) (turned_asked d seats now noted is h)

not_now : (now : ℕ) (o : Option ℕ) → (o ≡ Some now → ⊥) → is_due now o ≡ false
not_now now None other = refl
not_now now (Some tick) other = ne_eqb tick now (λ e. other (ap Some e))

-- All but those that are left were asked, in so many turns, from the lowest place on.
pub record IsAsking (d : Deadlines) (seats : List Seat) (now left due turns : ℕ) : Type 0 where
  pub long : length d.wheel ≡ 64
  pub next : d.next ≡ now + 1
  pub told : (k : ℕ) → k < 32 → bit_at left k ≡ 0 → IsFollowedAt d seats k
  pub seen : (k : ℕ) → k < 32 → bit_at left k ≡ 0 → bit_at due k ≡ cond (is_due now (awaited_at seats k)) 1 0
  pub none : (k : ℕ) → bit_at left k ≡ 1 → bit_at due k ≡ 0
  pub passed : (k : ℕ) → k < turns → bit_at left k ≡ 0
  pub fits : due < 2 ^ 32

pub asking_first : (d : Deadlines) (seats : List Seat) (now asked : ℕ) → AreAsked d seats now asked → IsAsking d seats now asked 0 0
asking_first d seats now asked h = record {
  long = h.long;
  next = h.next;
  told = λ k low none. (h.others k low none).0;
  seen = λ k low none.
      bit_at-zero k
      ∙ sym (cond-false (is_due now (awaited_at seats k)) 1 0 (not_now now (awaited_at seats k) (h.others k low none).1));
  none = λ k one. bit_at-zero k;
  passed = λ k less. absurd (omega (arith, less));
  fits = omega arith;
}

-- the place of a process in the order, and whether it waits for the tick
awaited_in : (n : ℕ) (seats : List Seat) (k : ℕ) → get_or (map (is_awaited n) seats) k false ≡ is_due n (awaited_at seats k)
awaited_in n [] k = refl
awaited_in n (s ∷ ss) zero = refl
awaited_in n (s ∷ ss) (suc k) = awaited_in n ss k

module _ (d : Deadlines) (seats : List Seat) (now left due turns : ℕ) (h : IsAsking d seats now left due turns) where
  module _ (empty : (k : ℕ) → k < 32 → bit_at left k ≡ 0) where
    whole : length seats ≤ 32 → due ≡ due_places now seats
    whole few = same_from_bits_below 32 due (due_places now seats) h.fits
        (set_low (map (is_awaited now) seats) (subst (λ n. n ≤ 32) (sym (length-map seats (is_awaited now))) few))
        (λ k low. h.seen k low (empty k low)
        ∙ sym (bit_in (map (is_awaited now) seats) k ∙ ap (λ b. cond b 1 0) (awaited_in now seats k)))

  pub due_over : AreOver left 0 → length seats ≤ 32 → due ≡ due_places now seats
  due_over over = whole (λ k low. over k (omega arith) low)

  pub due_all : 32 ≤ turns → length seats ≤ 32 → due ≡ due_places now seats
  due_all all = whole (λ k low. h.passed k (omega (arith, low, all)))
