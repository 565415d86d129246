-- Seats of which one has changed.
use Rattle.std.proofs.Common.{◌≡◌, ℕ, zero, suc, ◌+◌, Bool, true, false, cond, not, List, [], ◌∷◌, length, refl, sym, ap, subst, ◌∙◌, Option, Some, None, ltb}
use Rattle.std.specs.List.{find, position, position_or_len, slice_get}
use Rattle.std.specs.Option.{option_map}
use Rattle.std.proofs.lemmas.Option.{none-some, same_Some}
use Rattle.vk_types.specs.Types.{Pid}
use Rattle.vk_base.specs.Pids.{same_pid}
use Rattle.v_laws.proofs.Tables.{same_pid_is, same_pid_laws}
use Rattle.vk_procs.specs.declared.seat.Seat.{Seat}
use Rattle.vk_base.specs.Firsts.{change_first}
use Rattle.vk_procs.specs.Seats.{is_seat, seat_in}
use Rattle.vk_stands.proofs.Placed.{never}

module _ (pid : Pid) (f : Seat → Seat) (keeps : (s : Seat) → (f s).pid ≡ s.pid) where
  same_by : (x : Seat) (xs : List Seat) (b : Bool) → is_seat pid x ≡ b →
      find (is_seat pid) (change_first (is_seat pid) f xs) ≡ option_map f (find (is_seat pid) xs) →
      find (is_seat pid) (cond b (f x ∷ xs) (x ∷ change_first (is_seat pid) f xs))
      ≡ option_map f (cond b (Some x) (find (is_seat pid) xs))
  same_by x xs true here again = let stays : is_seat pid (f x) ≡ true = ap (λ p. same_pid p pid) (keeps x) ∙ here in rw stays refl
  same_by x xs false here again = rw here again

  pub find-changed : (seats : List Seat) → find (is_seat pid) (change_first (is_seat pid) f seats) ≡ option_map f (find (is_seat pid) seats)
  find-changed [] = refl
  find-changed (x ∷ xs) = same_by x xs (is_seat pid x) refl (find-changed xs)

  other_by : (q : Pid) (x : Seat) (xs : List Seat) (b : Bool) → same_pid q pid ≡ false → is_seat pid x ≡ b →
      find (is_seat q) (change_first (is_seat pid) f xs) ≡ find (is_seat q) xs →
      find (is_seat q) (cond b (f x ∷ xs) (x ∷ change_first (is_seat pid) f xs)) ≡ cond (is_seat q x) (Some x) (find (is_seat q) xs)
  other_by q x xs true apart here again =
      let gone : is_seat q x ≡ false = ap (λ p. same_pid p q) (same_pid_is x.pid pid here) ∙ same_pid_laws.symm pid q ∙ apart in
      let stays : is_seat q (f x) ≡ false = ap (λ p. same_pid p q) (keeps x) ∙ gone in
      rw (stays, gone) refl
  other_by q x xs false apart here again = ap (cond (is_seat q x) (Some x)) again

  pub find-unchanged : (q : Pid) (seats : List Seat) → same_pid q pid ≡ false →
      find (is_seat q) (change_first (is_seat pid) f seats) ≡ find (is_seat q) seats
  find-unchanged q [] apart = refl
  find-unchanged q (x ∷ xs) apart = other_by q x xs (is_seat pid x) apart refl (find-unchanged q xs apart)

module _ (p : Seat → Bool) (f : Seat → Seat) where
  -- what is the same of each seat
  kept_by : {B : Type 0} (g : Seat → B) (x : Seat) (xs : List Seat) (b : Bool) (i : ℕ) → ((s : Seat) → g (f s) ≡ g s) →
      ((j : ℕ) → option_map g (slice_get (change_first p f xs) j) ≡ option_map g (slice_get xs j)) →
      option_map g (slice_get (cond b (f x ∷ xs) (x ∷ change_first p f xs)) i) ≡ option_map g (slice_get (x ∷ xs) i)
  kept_by g x xs true zero same again = ap Some (same x)
  kept_by g x xs true (suc i) same again = refl
  kept_by g x xs false zero same again = refl
  kept_by g x xs false (suc i) same again = again i

  pub get-changed : {B : Type 0} (g : Seat → B) (xs : List Seat) (i : ℕ) → ((s : Seat) → g (f s) ≡ g s) →
      option_map g (slice_get (change_first p f xs) i) ≡ option_map g (slice_get xs i)
  get-changed g [] i same = refl
  get-changed g (x ∷ xs) i same = kept_by g x xs (p x) i same (λ j. get-changed g xs j same)

  length_by : (x : Seat) (xs : List Seat) (b : Bool) → length (change_first p f xs) ≡ length xs →
      length (cond b (f x ∷ xs) (x ∷ change_first p f xs)) ≡ suc (length xs)
  length_by x xs true again = refl
  length_by x xs false again = ap suc again

  pub length-changed : (xs : List Seat) → length (change_first p f xs) ≡ length xs
  length-changed [] = refl
  length-changed (x ∷ xs) = length_by x xs (p x) (length-changed xs)

  place_by : (t : Seat → Bool) (x : Seat) (xs : List Seat) (b : Bool) → t (f x) ≡ t x →
      position_or_len t (change_first p f xs) ≡ position_or_len t xs →
      position_or_len t (cond b (f x ∷ xs) (x ∷ change_first p f xs)) ≡ position_or_len t (x ∷ xs)
  place_by t x xs true same again = ap (λ c. cond (not c) (1 + position_or_len t xs) 0) same
  place_by t x xs false same again = ap (λ n. cond (not (t x)) (1 + n) 0) again

  places : (t : Seat → Bool) → ((s : Seat) → t (f s) ≡ t s) → (xs : List Seat) →
      position_or_len t (change_first p f xs) ≡ position_or_len t xs
  places t same [] = refl
  places t same (x ∷ xs) = place_by t x xs (p x) (same x) (places t same xs)

  pub position-changed : (t : Seat → Bool) → ((s : Seat) → t (f s) ≡ t s) → (xs : List Seat) →
      position t (change_first p f xs) ≡ position t xs
  position-changed t same xs =
      ap (λ n. cond (ltb n (length (change_first p f xs))) (Some n) None) (places t same xs)
      ∙ ap (λ n. cond (ltb (position_or_len t xs) n) (Some (position_or_len t xs)) None) (length-changed xs)

placed_by : (q : Pid) (seats : List Seat) (s : Seat) (o : Option ℕ) → position (is_seat q) seats ≡ o → seat_in seats q ≡ Some s →
    (i : ℕ) × (o ≡ Some i)
placed_by q seats s None none found = absurd (none-some s (sym (never (is_seat q) seats none) ∙ found))
placed_by q seats s (Some i) some found = (i, refl)

-- the place of a process
pub placed : (q : Pid) (seats : List Seat) (s : Seat) → seat_in seats q ≡ Some s → (i : ℕ) × (position (is_seat q) seats ≡ Some i)
placed q seats s found = placed_by q seats s (position (is_seat q) seats) refl found

-- two changes that agree on the process that is found
agree_by : (p : Seat → Bool) (f g : Seat → Seat) (x s : Seat) (xs : List Seat) (b : Bool) → f s ≡ g s →
    cond b (Some x) (find p xs) ≡ Some s →
    (find p xs ≡ Some s → change_first p f xs ≡ change_first p g xs) →
    cond b (f x ∷ xs) (x ∷ change_first p f xs) ≡ cond b (g x ∷ xs) (x ∷ change_first p g xs)
agree_by p f g x s xs true same is again = ap (λ y. y ∷ xs) (subst (λ z. f z ≡ g z) (sym (same_Some x s is)) same)
agree_by p f g x s xs false same is again = ap (λ ys. x ∷ ys) (again is)

pub change_agree : (p : Seat → Bool) (f g : Seat → Seat) (xs : List Seat) (s : Seat) → find p xs ≡ Some s → f s ≡ g s →
    change_first p f xs ≡ change_first p g xs
change_agree p f g [] s is same = refl
change_agree p f g (x ∷ xs) s is same = agree_by p f g x s xs (p x) same is (λ h. change_agree p f g xs s h same)

-- a change that changes nothing
none_by : (p : Seat → Bool) (x : Seat) (xs : List Seat) (b : Bool) → change_first p (λ s. s) xs ≡ xs →
    cond b (x ∷ xs) (x ∷ change_first p (λ s. s) xs) ≡ x ∷ xs
none_by p x xs true again = refl
none_by p x xs false again = ap (λ ys. x ∷ ys) again

change_none : (p : Seat → Bool) (xs : List Seat) → change_first p (λ s. s) xs ≡ xs
change_none p [] = refl
change_none p (x ∷ xs) = none_by p x xs (p x) (change_none p xs)

pub change_still : (p : Seat → Bool) (f : Seat → Seat) (s : Seat) (xs : List Seat) → find p xs ≡ Some s → f s ≡ s →
    change_first p f xs ≡ xs
change_still p f s xs found same = change_agree p f (λ x. x) xs s found same ∙ change_none p xs

-- two changes of one process, one after the other
twice_by : (p : Seat → Bool) (f g : Seat → Seat) (x : Seat) (xs : List Seat) (b : Bool) → p x ≡ b → p (f x) ≡ b →
    change_first p g (change_first p f xs) ≡ change_first p (λ y. g (f y)) xs →
    change_first p g (cond b (f x ∷ xs) (x ∷ change_first p f xs)) ≡ cond b (g (f x) ∷ xs) (x ∷ change_first p (λ y. g (f y)) xs)
twice_by p f g x xs true is still again = rw still refl
twice_by p f g x xs false is still again = rw is (ap (λ ys. x ∷ ys) again)

pub change_twice : (p : Seat → Bool) (f g : Seat → Seat) → ((x : Seat) → p (f x) ≡ p x) → (xs : List Seat) →
    change_first p g (change_first p f xs) ≡ change_first p (λ x. g (f x)) xs
change_twice p f g keeps [] = refl
change_twice p f g keeps (x ∷ xs) = twice_by p f g x xs (p x) refl (keeps x) (change_twice p f g keeps xs)
