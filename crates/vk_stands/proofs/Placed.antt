-- An alien that is put into its sender's slot.
use Rattle.std.proofs.Common.{◌≡◌, ◌≢◌, ℕ, ◌<◌, Bool, true, false, cond, List, [], ◌∷◌, length, get_or, set, refl, ap, arith, Option, Some, None, sym, ◌∙◌, subst, ltb, inl, inr, nat_eq}
use Rattle.std.specs.List.{find, position, position_or_len}
use Rattle.std.specs.Option.{option_flatten, option_or, is_none}
use Rattle.std.proofs.lemmas.Bool.{cases_Bool, cond-true, cond-false, lt-ltb, both_ways, eqb-true, eq-eqb}
use Rattle.std.proofs.lemmas.List.{get_or-set_same, get_or-set_other, length-set}
use Rattle.std.proofs.lemmas.List.Folds.{position_or_len-set, find_at}
use Rattle.std.proofs.lemmas.List.Quantifiers.{position-Some}
use Rattle.std.proofs.lemmas.List.Recursion.{found_set_other}
use Rattle.std.proofs.lemmas.List.Sums.{position_or_len_is, fails_before_first}
use Rattle.std.proofs.lemmas.Option.{same_Some, none-some, slice_get_past}
use Rattle.vk_types.specs.Types.{Pid}
use Rattle.vk_base.specs.Pids.{same_pid}
use Rattle.vk_base.proofs.PidLemmas.{same_pid_self}
use Rattle.v_laws.proofs.Tables.{same_pid_is}
use Rattle.vk_pool.specs.declared.alien.Alien.{Alien}
use Rattle.vk_pool.specs.Aliens.{is_alien_from, alien_from, alien_at}
use Rattle.vk_stands.proofs.Aliens.{AreAliensApart}
use Rattle.vk_stands.proofs.Lists.{find-position}

module _ {X : Type 0} (p : X → Bool) (xs : List X) (i : ℕ) (y d : X) where
  -- the first that passes, put there
  pub position_here : i < length xs → p y ≡ true → ((k : ℕ) → k < i → p (get_or xs k d) ≡ false) → position p (set xs i y) ≡ Some i
  position_here lt passes before =
      let at : position_or_len p (set xs i y) ≡ i = position_or_len_is p (set xs i y) i d (omega (arith, length-set xs i y))
      (λ k l. let ne : k ≢ i = omega arith in ap p (get_or-set_other xs i k y d ne) ∙ before k l)
      (λ l. ap p (get_or-set_same xs i y d lt) ∙ passes) in
      ap (λ n. cond (ltb n (length (set xs i y))) (Some n) None) at
      ∙ cond-true (ltb i (length (set xs i y))) (Some i) None (lt-ltb i (length (set xs i y)) (omega (arith, length-set xs i y)))

  -- what passes neither before nor after
  pub position_still : p (get_or xs i d) ≡ false → p y ≡ false → position p (set xs i y) ≡ position p xs
  position_still before after =
      ap (λ n. cond (ltb n (length (set xs i y))) (Some n) None) (position_or_len-set p xs i y d (after ∙ sym before))
      ∙ ap (λ n. cond (ltb (position_or_len p xs) n) (Some (position_or_len p xs)) None) (length-set xs i y)

  pub find_here : i < length xs → position p (set xs i y) ≡ Some i → find p (set xs i y) ≡ Some y
  find_here lt at = find-position p (set xs i y) i d at ∙ ap Some (get_or-set_same xs i y d lt)

  pub find_still : p (get_or xs i d) ≡ false → p y ≡ false → find p (set xs i y) ≡ find p xs
  find_still before after = found_set_other (find p) p Some None refl (λ x zs. refl) xs i y d before after

-- none passes where the search finds none
pub nowhere : {X : Type 0} (p : X → Bool) (xs : List X) (k : ℕ) (d : X) → position p xs ≡ None → k < length xs → p (get_or xs k d) ≡ false
nowhere p xs k d e lt = elim (cases_Bool (ltb (position_or_len p xs) (length xs))) [
  | inl t ↦ absurd (none-some (position_or_len p xs) (sym e
      ∙ cond-true (ltb (position_or_len p xs) (length xs)) (Some (position_or_len p xs)) None t))
  | inr f ↦ fails_before_first p xs k d (grind (arith))
]

-- The slot of a sender's next message.
pub record IsPlace (slots : List (Option Alien)) (s : Pid) (i : ℕ) : Type 0 where
  pub lt : i < length slots
  pub before : (k : ℕ) → k < i → is_alien_from s (get_or slots k None) ≡ false
  pub other : (q : Pid) → same_pid s q ≡ false → is_alien_from q (get_or slots i None) ≡ false
  -- no other slot has an alien of that sender, where each is in its place
  pub only : AreAliensApart slots → (j : ℕ) (b : Alien) → alien_at slots j ≡ Some b → b.sender ≡ s → j ≡ i

other_of : (s q : Pid) (slot : Option Alien) → is_alien_from s slot ≡ true → same_pid s q ≡ false → is_alien_from q slot ≡ false
other_of s q None t f = refl
other_of s q (Some a) t f = ap (λ x. same_pid x q) (same_pid_is a.sender s t) ∙ f

other_free : (q : Pid) (slot : Option Alien) → is_none slot ≡ true → is_alien_from q slot ≡ false
other_free q None t = refl
other_free q (Some a) t = cc

pub self_at : (slots : List (Option Alien)) (j : ℕ) (b : Alien) (s : Pid) → alien_at slots j ≡ Some b → b.sender ≡ s →
    is_alien_from s (get_or slots j None) ≡ true
self_at slots j b s is same = ap (is_alien_from s) is ∙ ap (λ x. same_pid x s) same ∙ same_pid_self s

place_by : (slots : List (Option Alien)) (s : Pid) (i : ℕ) (o : Option ℕ) → position (is_alien_from s) slots ≡ o →
    option_or o (position is_none slots) ≡ Some i → IsPlace slots s i
place_by slots s i None none is =
    let free = position-Some is_none slots i None is in
    record {
      lt = free.0;
      before = λ k lt. nowhere (is_alien_from s) slots k None none (omega arith);
      other = λ q f. other_free q (get_or slots i None) free.1;
      only = λ apart j b here same. absurd (none-some j (sym none ∙ ap (λ x. position (is_alien_from x) slots) (sym same)
          ∙ apart j b here));
    }
place_by slots s i (Some j) some is =
    let here = position-Some (is_alien_from s) slots i None (some ∙ is) in
    record {
      lt = here.0;
      before = here.2;
      other = λ q f. other_of s q (get_or slots i None) here.1 f;
      only = λ apart j b at same. same_Some j i (sym (apart j b at) ∙ ap (λ x. position (is_alien_from x) slots) same ∙ some ∙ is);
    }

pub place_is : (slots : List (Option Alien)) (s : Pid) (i : ℕ) →
    option_or (position (is_alien_from s) slots) (position is_none slots) ≡ Some i → IsPlace slots s i
place_is slots s i is = place_by slots s i (position (is_alien_from s) slots) refl is

module _ (slots : List (Option Alien)) (i : ℕ) (a : Alien) (place : IsPlace slots a.sender i) where
  pub put_position : position (is_alien_from a.sender) (set slots i (Some a)) ≡ Some i
  put_position = position_here (is_alien_from a.sender) slots i (Some a) None place.lt (same_pid_self a.sender) place.before

  -- the aliens of all senders then
  pub put_of : (q : Pid) → alien_from (set slots i (Some a)) q ≡ (cond (same_pid a.sender q) (Some a) (alien_from slots q))
  put_of q = elim (cases_Bool (same_pid a.sender q)) [
    | inl t ↦
        subst (λ x. option_flatten (find (is_alien_from x) (set slots i (Some a))) ≡ Some a) (same_pid_is a.sender q t)
        (ap (λ o. option_flatten o) (find_here (is_alien_from a.sender) slots i (Some a) None place.lt put_position))
        ∙ sym (cond-true (same_pid a.sender q) (Some a) (option_flatten (find (is_alien_from q) slots)) t)
    | inr f ↦
        ap (λ o. option_flatten o) (find_still (is_alien_from q) slots i (Some a) None (place.other q f) f)
        ∙ sym (cond-false (same_pid a.sender q) (Some a) (option_flatten (find (is_alien_from q) slots)) f)
  ]

  pub put_apart : AreAliensApart slots → AreAliensApart (set slots i (Some a))
  put_apart apart j b is = elim (cases_Bool (same_pid a.sender b.sender)) [
    | inl t ↦
        let same : a.sender ≡ b.sender = same_pid_is a.sender b.sender t in
        elim (cases_Bool (nat_eq j i)) [
          | inl e ↦ subst (λ n. position (is_alien_from b.sender) (set slots i (Some a)) ≡ Some n) (sym (eqb-true j i e))
              (subst (λ x. position (is_alien_from x) (set slots i (Some a)) ≡ Some i) same put_position)
          | inr u ↦
              let ne : j ≢ i = λ e. both_ways (nat_eq j i) u (eq-eqb j i e) in
              absurd (ne (place.only apart j b (sym (get_or-set_other slots i j (Some a) None ne) ∙ is) (sym same)))
        ]
    | inr f ↦
        let ne : j ≢ i = λ e. both_ways (same_pid a.sender b.sender) f
        (ap (λ x. same_pid x b.sender) (ap (λ (x : Alien). x.sender)
        (same_Some a b (sym (ap (λ n. get_or (set slots i (Some a)) n None) e ∙ get_or-set_same slots i (Some a) None place.lt)
        ∙ is))) ∙ same_pid_self b.sender) in
        position_still (is_alien_from b.sender) slots i (Some a) None (place.other b.sender f) f
        ∙ apart j b (sym (get_or-set_other slots i j (Some a) None ne) ∙ is)
  ]

-- the alien of a sender is of that sender
sender_by : (slots : List (Option Alien)) (s : Pid) (a : Alien) (x : Option Alien) (b : Bool) → is_alien_from s x ≡ b →
    (option_flatten (find (is_alien_from s) slots) ≡ Some a → a.sender ≡ s) →
    option_flatten (cond b (Some x) (find (is_alien_from s) slots)) ≡ Some a → a.sender ≡ s
sender_by slots s a x true t again is = by_alien x t is
  where
    by_alien : (x : Option Alien) → is_alien_from s x ≡ true → x ≡ Some a → a.sender ≡ s
    by_alien None t is = absurd (none-some a is)
    by_alien (Some b) t is = sym (ap (λ (y : Alien). y.sender) (same_Some b a is)) ∙ same_pid_is b.sender s t
sender_by slots s a x false f again is = again is

pub alien_sender : (slots : List (Option Alien)) (s : Pid) (a : Alien) → alien_from slots s ≡ Some a → a.sender ≡ s
alien_sender [] s a is = absurd (none-some a is)
alien_sender (x ∷ xs) s a is = sender_by xs s a x (is_alien_from s x) refl (alien_sender xs s a) is

pub never : {X : Type 0} (p : X → Bool) (xs : List X) → position p xs ≡ None → find p xs ≡ None
never p xs e = find_at p xs ∙ slice_get_past xs (position_or_len p xs) (elim (cases_Bool (ltb (position_or_len p xs) (length xs))) [
  | inl t ↦ absurd (none-some (position_or_len p xs) (sym e
      ∙ cond-true (ltb (position_or_len p xs) (length xs)) (Some (position_or_len p xs)) None t))
  | inr f ↦ grind arith
])

-- the place of an alien that there is
position_of : (slots : List (Option Alien)) (s : Pid) (a : Alien) (o : Option ℕ) → position (is_alien_from s) slots ≡ o →
    alien_from slots s ≡ Some a → (i : ℕ) × (o ≡ Some i) × (alien_at slots i ≡ Some a)
position_of slots s a None none is = absurd (none-some a (sym (ap (λ o. option_flatten o) (never (is_alien_from s) slots none)) ∙ is))
position_of slots s a (Some i) some is = (
  i,
  refl,
  sym (ap (λ o. option_flatten o) (find-position (is_alien_from s) slots i None some))
      ∙ is,
)

pub record IsAlienAt (slots : List (Option Alien)) (s : Pid) (a : Alien) : Type 0 where
  pub at : ℕ
  pub place : position (is_alien_from s) slots ≡ Some at
  pub here : alien_at slots at ≡ Some a
  pub sender : a.sender ≡ s

pub alien_is_at : (slots : List (Option Alien)) (s : Pid) (a : Alien) → alien_from slots s ≡ Some a → IsAlienAt slots s a
alien_is_at slots s a is =
    let found = position_of slots s a (position (is_alien_from s) slots) refl is in
    record { at = found.0; place = found.1; here = found.2; sender = alien_sender slots s a is }

pub place_at : (slots : List (Option Alien)) (s : Pid) (i : ℕ) → position (is_alien_from s) slots ≡ Some i → IsPlace slots s i
place_at slots s i is = place_by slots s i (Some i) is refl
