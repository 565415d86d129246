-- Numbers of hosts after a change.
use Rattle.std.proofs.Common.{◌≡◌, ℕ, zero, suc, ◌+◌, ◌<◌, Bool, true, false, cond, ◌==◌, List, [], ◌∷◌, ◌++◌, length, get_or, set, slice_get, length-append, refl, ap, sym, ◌∙◌, arith, nat_lt, Option, Some, None, option_map, unwrap_or, inl, inr}
use Rattle.std.proofs.lemmas.Bool.{cases_Bool, cases_lt, both_ways, eqb-true, eq-eqb, lt-ltb, cond-true, cond-false, false_from_ne_true}
use Rattle.std.proofs.lemmas.List.Quantifiers.{position-Some}
use Rattle.std.proofs.lemmas.List.Folds.{find-append, find_at, position_or_len_push}
use Rattle.std.proofs.lemmas.List.Sums.{fails_before_first, position_or_len_is}
use Rattle.std.proofs.lemmas.Option.{none-some, slice_get-get_or}
use Rattle.std.specs.List.{find, position, position_or_len}
use Rattle.std.specs.Option.{option_or}
use Rattle.v_machine.specs.declared.tables.latest.Latest.{Latest}
use Rattle.v_machine.specs.Latest.{is_for, latest_in}

abbrev entry : ℕ → ℕ → Latest
entry host number = record { host = host; number = number }

abbrev number_in : Option Latest → ℕ
number_in o = unwrap_or (option_map (λ (l : Latest). l.number) o) 0

-- one more number, which is 0
by_found : (o : Option Latest) (host h : ℕ) → number_in (option_or o (cond (host == h) (Some (entry host 0)) None)) ≡ number_in o
by_found (Some l) host h = refl
by_found None host h = elim (cases_Bool (host == h)) [
  | inl t ↦ ap number_in (cond-true (host == h) (Some (entry host 0)) None t)
  | inr f ↦ ap number_in (cond-false (host == h) (Some (entry host 0)) None f)
]

pub latest-room : (ls : List Latest) (host h : ℕ) → latest_in (ls ++ entry host 0 ∷ []) h ≡ latest_in ls h
unfolding latest_in
latest-room ls host h = ap number_in (find-append (is_for h) ls (entry host 0 ∷ [])) ∙ by_found (find (is_for h) ls) host h

-- a number that is put
sym_test : (a b : ℕ) (t : Bool) → (a == b) ≡ t → (b == a) ≡ t
sym_test a b true e = eq-eqb b a (sym (eqb-true a b e))
sym_test a b false e = false_from_ne_true (b == a) (λ t. both_ways (a == b) e (eq-eqb a b (sym (eqb-true b a t))))

here : (x v : Latest) (xs : List Latest) (host h : ℕ) (b : Bool) → (x.host == host) ≡ true → v.host ≡ x.host → (h == host) ≡ b →
    cond (v.host == h) (Some v) (find (is_for h) xs) ≡ cond b (Some v) (cond (x.host == h) (Some x) (find (is_for h) xs))
here x v xs host h true is same e =
    let there : v.host ≡ h = same ∙ eqb-true x.host host is ∙ sym (eqb-true h host e) in
    cond-true (v.host == h) (Some v) (find (is_for h) xs) (eq-eqb v.host h there)
here x v xs host h false is same e =
    let other : (x.host == h) ≡ false = ap (λ z. z == h) (eqb-true x.host host is) ∙ sym_test h host false e in
    cond-false (v.host == h) (Some v) (find (is_for h) xs) (ap (λ z. z == h) same ∙ other)
    ∙ sym (cond-false (x.host == h) (Some x) (find (is_for h) xs) other)

later : (x v : Latest) (found : Option Latest) (host h : ℕ) (b : Bool) → (x.host == host) ≡ false → (h == host) ≡ b →
    cond (x.host == h) (Some x) (cond b (Some v) found) ≡ cond b (Some v) (cond (x.host == h) (Some x) found)
later x v found host h true is e = cond-false (x.host == h) (Some x) (Some v) (ap (λ z. x.host == z) (eqb-true h host e) ∙ is)
later x v found host h false is e = refl

find-put : (ls : List Latest) (at : ℕ) (d v : Latest) (host h : ℕ) → at < length ls → ((get_or ls at d).host == host) ≡ true →
    ((k : ℕ) → k < at → ((get_or ls k d).host == host) ≡ false) → v.host ≡ (get_or ls at d).host →
    find (is_for h) (set ls at v) ≡ cond (h == host) (Some v) (find (is_for h) ls)
find-put [] at d v host h low is before same = absurd (omega arith)
find-put (x ∷ xs) zero d v host h low is before same = here x v xs host h (h == host) is same refl
find-put (x ∷ xs) (suc at) d v host h low is before same =
    ap (cond (x.host == h) (Some x)) (find-put xs at d v host h (omega arith) is (λ k l. before (suc k) (omega arith)) same)
    ∙ later x v (find (is_for h) xs) host h (h == host) (before 0 (omega arith)) refl

number-cond : (v : Latest) (found : Option Latest) (b : Bool) → number_in (cond b (Some v) found) ≡ cond b v.number (number_in found)
number-cond v found true = refl
number-cond v found false = refl

pub latest-put : (ls : List Latest) (at : ℕ) (d v : Latest) (host h : ℕ) → position (is_for host) ls ≡ Some at →
    v.host ≡ (get_or ls at d).host →
    latest_in (set ls at v) h ≡ cond (h == host) v.number (latest_in ls h)
unfolding latest_in
latest-put ls at d v host h place same =
    let facts = position-Some (is_for host) ls at d place in
    ap number_in (find-put ls at d v host h facts.0 facts.1 facts.2 same) ∙ number-cond v (find (is_for h) ls) (h == host)

-- the number in the place of a host
pub latest-there : (ls : List Latest) (at : ℕ) (l : Latest) (host : ℕ) → position (is_for host) ls ≡ Some at → l ≡ get_or ls at l →
    l.number ≡ latest_in ls host
unfolding latest_in
latest-there ls at l host place is =
    let facts = position-Some (is_for host) ls at l place in
    let first : position_or_len (is_for host) ls ≡ at = position_or_len_is (is_for host) ls at l (omega (arith, facts.0)) facts.2
    (λ less. facts.1) in
    sym (ap number_in (find_at (is_for host) ls ∙ ap (slice_get ls) first ∙ slice_get-get_or ls at l facts.0 ∙ ap Some (sym is)))

-- the place of one more
pub place-new : (ls : List Latest) (host number : ℕ) → position (is_for host) ls ≡ None →
    position (is_for host) (ls ++ record { host = host; number = number } ∷ []) ≡ Some (length ls)
place-new ls host number none =
    let p = is_for host in
    let l : Latest = record { host = host; number = number } in
    let past : position_or_len p ls ≡ length ls = elim (cases_lt (position_or_len p ls) (length ls)) [
      | inl low ↦ absurd
          (none-some (position_or_len p ls)
          (sym none ∙ cond-true (nat_lt (position_or_len p ls) (length ls)) (Some (position_or_len p ls)) None (lt-ltb _ _ low)))
      | inr high ↦ position_or_len_is p ls (length ls) l (omega arith) (λ k less. fails_before_first p ls k l (omega arith))
          (λ less. absurd (omega arith))
    ] in
    let here : position_or_len p (ls ++ l ∷ []) ≡ length ls = position_or_len_push p ls l
    ∙ cond-true (position_or_len p ls == length ls) _ _ (eq-eqb (position_or_len p ls) (length ls) past)
    ∙ ap (λ b. length ls + cond b 0 1) (eq-eqb host host refl)
    ∙ omega arith in
    let long = length-append ls (l ∷ []) in
    cond-true (nat_lt (position_or_len p (ls ++ l ∷ [])) (length (ls ++ l ∷ []))) (Some (position_or_len p (ls ++ l ∷ []))) None
    (lt-ltb (position_or_len p (ls ++ l ∷ [])) (length (ls ++ l ∷ [])) (omega (arith, here, long)))
    ∙ ap Some here
