-- Moves and exchanges without the bytes of spent moves.
use Rattle.std.proofs.Common.{◌≡◌, ℕ, zero, suc, ◌+◌, ◌<◌, ◌≤◌, ◌==◌, nat_lt, ◌&&◌, ◌||◌, Bool, true, false, cond, List, [], ◌∷◌, ◌++◌, length, slice_set, option_map, Option, Some, None, refl, sym, ap, subst, ◌∙◌, inl, inr, arith}
use Rattle.std.specs.List.{slice_get}
use Rattle.std.proofs.lemmas.Bool.{both_ways, and_parts, or_cases, or_left, eqb-true, ltb-true, lt-ltb}
use Rattle.std.proofs.lemmas.Option.{same_Some, none-some}
use Rattle.vk_types.specs.Types.{Exchange, Move}
use Rattle.vk_base.specs.Kernel.{move_of}
use Rattle.vk_base.specs.Steps.{only_if}
use Rattle.v_machine.specs.Spent.{is_spent, emptied, all_emptied, lean}

-- Moves.

-- what is spent earlier is spent later
abbrev pub StaysSpent : (opened done later written number : ℕ) → List Move → Type 0
StaysSpent opened done later written number ms = (i : ℕ) (m : Move) → slice_get ms i ≡ Some m →
    is_spent opened done (number + i) m ≡ true → is_spent later written (number + i) m ≡ true

bytes_absorbed : (s t : Bool) (bytes : List ℕ) → (s ≡ true → t ≡ true) → cond t [] (cond s [] bytes) ≡ cond t [] bytes
bytes_absorbed true true bytes stays = refl
bytes_absorbed true false bytes stays = absurd (both_ways false refl (stays refl))
bytes_absorbed false t bytes stays = refl

pub absorbed : (opened done later written number : ℕ) (m : Move) →
    (is_spent opened done number m ≡ true → is_spent later written number m ≡ true) →
    emptied later written number (emptied opened done number m) ≡ emptied later written number m
absorbed opened done later written number m stays =
    ap (λ (b : List ℕ). record m { bytes = b })
    (bytes_absorbed (is_spent opened done number m) (is_spent later written number m) m.bytes stays)

first_stays : (opened done later written number : ℕ) (m : Move) (ms : List Move) → StaysSpent opened done later written number (m ∷ ms) →
    is_spent opened done number m ≡ true → is_spent later written number m ≡ true
first_stays opened done later written number m ms stays spent =
    let same : number + 0 ≡ number = omega arith in
    subst (λ n. is_spent later written n m ≡ true) same
    (stays 0 m refl (subst (λ n. is_spent opened done n m ≡ true) (sym same) spent))

rest_stays : (opened done later written number : ℕ) (m : Move) (ms : List Move) → StaysSpent opened done later written number (m ∷ ms) →
    StaysSpent opened done later written (number + 1) ms
rest_stays opened done later written number m ms stays i x at spent =
    let same : number + suc i ≡ number + 1 + i = omega arith in
    subst (λ n. is_spent later written n x ≡ true) same
    (stays (suc i) x at (subst (λ n. is_spent opened done n x ≡ true) (sym same) spent))

pub all_absorbed : (opened done later written number : ℕ) (ms : List Move) → StaysSpent opened done later written number ms →
    all_emptied later written number (all_emptied opened done number ms) ≡ all_emptied later written number ms
all_absorbed opened done later written number [] stays = refl
all_absorbed opened done later written number (m ∷ ms) stays =
    let first = absorbed opened done later written number m (first_stays opened done later written number m ms stays) in
    let rest = all_absorbed opened done later written (number + 1) ms (rest_stays opened done later written number m ms stays) in
    λ i. first i ∷ rest i

-- with one move put
pub put_absorbed : (opened done later written number : ℕ) (ms : List Move) (at : ℕ) (x : Move) →
    StaysSpent opened done later written number ms →
    all_emptied later written number (slice_set (all_emptied opened done number ms) at x)
    ≡ all_emptied later written number (slice_set ms at x)
put_absorbed opened done later written number [] at x stays = refl
put_absorbed opened done later written number (m ∷ ms) zero x stays =
    ap (λ (ys : List Move). emptied later written number x ∷ ys)
    (all_absorbed opened done later written (number + 1) ms (rest_stays opened done later written number m ms stays))
put_absorbed opened done later written number (m ∷ ms) (suc at) x stays =
    let first = absorbed opened done later written number m (first_stays opened done later written number m ms stays) in
    let rest = put_absorbed opened done later written (number + 1) ms at x (rest_stays opened done later written number m ms stays) in
    λ i. first i ∷ rest i

-- with one move more
pub push_absorbed : (opened done number : ℕ) (ms : List Move) (x : Move) →
    all_emptied opened done number (all_emptied opened done number ms ++ x ∷ []) ≡ all_emptied opened done number (ms ++ x ∷ [])
push_absorbed opened done number [] x = refl
push_absorbed opened done number (m ∷ ms) x =
    let first = absorbed opened done opened done number m (λ t. t) in
    let rest = push_absorbed opened done (number + 1) ms x in
    λ i. first i ∷ rest i

pub all_twice : (opened done number : ℕ) (ms : List Move) →
    all_emptied opened done number (all_emptied opened done number ms) ≡ all_emptied opened done number ms
all_twice opened done number ms = all_absorbed opened done opened done number ms (λ i m at t. t)

pub length-emptied : (opened done number : ℕ) (ms : List Move) → length (all_emptied opened done number ms) ≡ length ms
length-emptied opened done number [] = refl
length-emptied opened done number (m ∷ ms) = ap suc (length-emptied opened done (number + 1) ms)

get_emptied : (opened done number : ℕ) (ms : List Move) (at place : ℕ) → place ≡ number + at →
    slice_get (all_emptied opened done number ms) at ≡ option_map (emptied opened done place) (slice_get ms at)
get_emptied opened done number [] at place is = refl
get_emptied opened done number (m ∷ ms) zero place is =
    let same : number ≡ place = omega arith in
    ap (λ n. Some (emptied opened done n m)) same
get_emptied opened done number (m ∷ ms) (suc at) place is = get_emptied opened done (number + 1) ms at place (omega arith)

-- Exchanges.
pub lean_twice : (o : Option Exchange) → option_map lean (option_map lean o) ≡ option_map lean o
lean_twice None = refl
lean_twice (Some e) = ap (λ (ms : List Move). Some (record e { moves = ms })) (all_twice e.opened e.done 1 e.moves)

pub lean_move : (e : Exchange) (number : ℕ) → move_of (lean e) number ≡ option_map (emptied e.opened e.done number) (move_of e number)
lean_move e zero = refl
lean_move e (suc n) = get_emptied e.opened e.done 1 e.moves n (suc n) (omega arith)

-- a move that is not spent stays as it is
pub unspent : (opened done number : ℕ) (m : Move) → is_spent opened done number m ≡ false → emptied opened done number m ≡ m
unspent opened done number m f = ap (λ (b : Bool). record m { bytes = cond b [] m.bytes }) f

no_spent : (opened done number count : ℕ) (b : Bool) → (nat_lt number opened || (number == opened && done == count)) ≡ b →
    (number < opened → ⊥) → (number ≡ opened → done ≡ count → ⊥) → b ≡ false
no_spent opened done number count false is before last = refl
no_spent opened done number count true is before last = elim (or_cases (nat_lt number opened) (number == opened && done == count) is) [
  | inl t ↦ absurd (before (ltb-true number opened t))
  | inr t ↦
      let parts = and_parts (number == opened) (done == count) t in
      absurd (last (eqb-true number opened parts.0) (eqb-true done count parts.1))
]

-- a later move than the open one is not spent
later_unspent : (opened done number : ℕ) (m : Move) → opened < number → is_spent opened done number m ≡ false
later_unspent opened done number m later =
    no_spent opened done number m.count (is_spent opened done number m) refl (λ t. omega arith) (λ t u. omega arith)

pub later_same : (e : Exchange) (number : ℕ) →
    only_if (nat_lt e.opened number) (move_of (lean e) number) ≡ only_if (nat_lt e.opened number) (move_of e number)
later_same e number = by_test (nat_lt e.opened number) refl (move_of e number) refl
  where
    by_test : (b : Bool) → nat_lt e.opened number ≡ b → (o : Option Move) → move_of e number ≡ o →
        only_if b (move_of (lean e) number) ≡ only_if b (move_of e number)
    by_test false is o at = refl
    by_test true is None at = lean_move e number ∙ ap (option_map (emptied e.opened e.done number)) at ∙ sym at
    by_test true is (Some m) at =
        lean_move e number ∙ ap (option_map (emptied e.opened e.done number)) at
        ∙ ap Some (unspent e.opened e.done number m (later_unspent e.opened e.done number m (ltb-true e.opened number is))) ∙ sym at

-- the open move, which has bytes left, is not spent
pub open_unspent : (opened done number : ℕ) (m : Move) → opened ≡ number → done < m.count → is_spent opened done number m ≡ false
open_unspent opened done number m now left =
    no_spent opened done number m.count (is_spent opened done number m) refl (λ t. omega arith) (λ t u. omega arith)

-- what is spent stays spent when a later move is opened
pub spent_low : (opened done number : ℕ) (m : Move) → is_spent opened done number m ≡ true → number ≤ opened
spent_low opened done number m t = elim (or_cases (nat_lt number opened) (number == opened && done == m.count) t) [
  | inl u ↦ let low = ltb-true number opened u in omega arith
  | inr u ↦ let same = eqb-true number opened (and_parts (number == opened) (done == m.count) u).0 in omega arith
]

pub opening_stays : (opened done later : ℕ) (ms : List Move) → opened < later → StaysSpent opened done later 0 1 ms
opening_stays opened done later ms less i m at t =
    let low = spent_low opened done (1 + i) m t in
    or_left (nat_lt (1 + i) later) (1 + i == later && 0 == m.count) (lt-ltb (1 + i) later (omega arith))

-- and when bytes of the open one are written, which has some left
pub copying_stays : (e : Exchange) (number written : ℕ) (x : Move) → move_of e number ≡ Some x → e.opened ≡ number → e.done < x.count →
    StaysSpent e.opened e.done e.opened written 1 e.moves
copying_stays e zero written x at now left i m at_i t = absurd (none-some x at)
copying_stays e (suc n) written x at now left i m at_i t =
    elim (or_cases (nat_lt (1 + i) e.opened) (1 + i == e.opened && e.done == m.count) t) [
      | inl u ↦ or_left (nat_lt (1 + i) e.opened) (1 + i == e.opened && written == m.count) u
      | inr u ↦
          let parts = and_parts (1 + i == e.opened) (e.done == m.count) u in
          let place : i ≡ n = omega (arith, eqb-true (1 + i) e.opened parts.0) in
          let same : x ≡ m = same_Some x m (sym at ∙ sym (ap (slice_get e.moves) place) ∙ at_i) in
          let full = eqb-true e.done m.count parts.1 in
          let counts = ap (λ (y : Move). y.count) same in
          absurd (omega arith)
    ]
