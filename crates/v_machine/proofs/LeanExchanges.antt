-- Exchanges that have no bytes of spent moves.
use Rattle.std.proofs.Common.{◌≡◌, ℕ, zero, suc, ◌+◌, ◌-◌, ◌<◌, ◌≤◌, ◌&&◌, nat_le, nat_lt, Bool, true, false, cond, List, [], ◌∷◌, ◌++◌, length, option_map, Option, Some, None, refl, sym, ap, subst, ◌∙◌, inl, inr, arith, ◌==◌}
use Rattle.std.specs.List.{slice_get}
use Rattle.std.proofs.lemmas.Bool.{cases_Bool, cases_lt, lt-ltb, le-leb, both_ways, and_from, or_left}
use Rattle.std.proofs.lemmas.List.{length_push, length-set}
use Rattle.std.proofs.lemmas.Option.{same_Some, none-some}
use Rattle.vk_types.specs.Types.{Exchange, Message, Move, Name, Pid, Stage}
use Rattle.vk_base.specs.Kernel.{Kernel, same_name, move_of, put_exchange}
use Rattle.vk_base.proofs.OptionLemmas.{bind_is, mapped_is}
use Rattle.v_laws.proofs.MoveLists.{no_move, move_within, pushed_cases, opened_other}
use Rattle.v_laws.proofs.MoveSteps.{opened_with}
use Rattle.v_laws.proofs.Tables.{put_exchange_at, put_exchange_other}
use Rattle.v_machine.specs.Lean.{IsLean, AreLean}
use Rattle.v_machine.specs.Sends.{emptied_between, given_back, handed_on}
use Rattle.v_machine.specs.Spent.{is_spent, emptied, all_emptied, has_ended, is_past, lean, current_kernel, emptied_kernel}
use Rattle.v_machine.proofs.Spent.{spent_low}

-- Nothing is left to be given back of them.
no_bytes : (s : Bool) (bytes : List ℕ) → (s ≡ true → bytes ≡ []) → cond s [] bytes ≡ bytes
no_bytes true bytes none = sym (none refl)
no_bytes false bytes none = refl

all_empty : (opened done number : ℕ) (ms : List Move) →
    ((i : ℕ) (m : Move) → slice_get ms i ≡ Some m → is_spent opened done (number + i) m ≡ true → m.bytes ≡ []) →
    all_emptied opened done number ms ≡ ms
all_empty opened done number [] each = refl
all_empty opened done number (m ∷ ms) each =
    let here : number + 0 ≡ number = omega arith in
    let first = no_bytes (is_spent opened done number m) m.bytes
    (λ t. each 0 m refl (subst (λ n. is_spent opened done n m ≡ true) (sym here) t)) in
    let rest = all_empty opened done (number + 1) ms (λ i x at t.
    let same : number + 1 + i ≡ number + suc i = omega arith in
    each (suc i) x at (subst (λ n. is_spent opened done n x ≡ true) same t)) in
    λ i. record m { bytes = first i } ∷ rest i

pub lean_stays : (e : Exchange) → IsLean e → lean e ≡ e
lean_stays e l = ap (λ (ms : List Move). record e { moves = ms }) (all_empty e.opened e.done 1 e.moves (λ i m at t.
    let place : 1 + i ≡ suc i = omega arith in
    l.empty (suc i) m at (subst (λ n. is_spent e.opened e.done n m ≡ true) place t)))

pub emptied_stays : (k : Kernel) → AreLean k.exchanges → emptied_kernel k ≡ k
unfolding emptied_kernel
emptied_stays k each =
    let same : (n : Name) → option_map lean (k.exchanges n) ≡ k.exchanges n = λ n. by_option (k.exchanges n) (each n) in
    λ i. record k { exchanges = λ n. same n i }
  where
    by_option : (o : Option Exchange) → ((e : Exchange) → o ≡ Some e → IsLean e) → option_map lean o ≡ o
    by_option None each = refl
    by_option (Some e) each = ap Some (lean_stays e (each e refl))

pub current_lean : (k : Kernel) → AreLean k.exchanges → AreLean (current_kernel k).exchanges
unfolding current_kernel
current_lean k each n e is =
    let x = bind_is (k.exchanges n) _ e is in
    subst IsLean (kept (is_past n.number (k.procs n.sender) && has_ended x.0) x.0 x.2) (each n x.0 x.1)
  where
    kept : (b : Bool) (x : Exchange) → cond b None (Some x) ≡ Some e → x ≡ e
    kept true x is = absurd (none-some e is)
    kept false x is = same_Some x e is

-- One exchange after a change.
pub lean_stage : (e : Exchange) (s : Stage) → IsLean e → IsLean (record e { stage = s })
lean_stage e s l = record { within = l.within; empty = λ number m at t. l.empty number m (same number ∙ at) t }
  where
    same : (number : ℕ) → move_of e number ≡ move_of (record e { stage = s }) number
    same zero = refl
    same (suc n) = refl

pub lean_handed : (e : Exchange) (m : Message) (to : Pid) → IsLean e → IsLean (handed_on m to e)
lean_handed e m to l = record { within = l.within; empty = λ number x at t. l.empty number x (same number ∙ at) t }
  where
    same : (number : ℕ) → move_of e number ≡ move_of (handed_on m to e) number
    same zero = refl
    same (suc n) = refl

pub lean_new : (e : Exchange) → e.opened ≡ 0 → e.moves ≡ [] → IsLean e
lean_new e first none = record { within = omega arith; empty = λ number m at t. absurd (none-some m (sym (no_move e number none) ∙ at)) }

pub lean_pushed : (e : Exchange) (m : Move) → IsLean e → IsLean (record e { moves = e.moves ++ m ∷ [] })
lean_pushed e m l = record {
  within = let more = length_push e.moves m in let low = l.within in omega arith;
  empty = λ number x at t. elim (pushed_cases e m number x at) [
    | inl before ↦ l.empty number x before t
    | inr now ↦
        let low = spent_low e.opened e.done number x t in
        let place = now.1 in
        let within = l.within in
        absurd (omega arith)
  ];
}

-- What is given back.
between_get : (opened done from to number : ℕ) (ms : List Move) (at place : ℕ) → place ≡ number + at →
    slice_get (emptied_between opened done from to number ms) at
    ≡ option_map (λ m. cond (nat_le from place && nat_lt place to) (emptied opened done place m) m) (slice_get ms at)
between_get opened done from to number [] at place is = refl
between_get opened done from to number (m ∷ ms) zero place is =
    let same : number ≡ place = omega arith in
    ap (λ n. Some (cond (nat_le from n && nat_lt n to) (emptied opened done n m) m)) same
between_get opened done from to number (m ∷ ms) (suc at) place is =
    between_get opened done from to (number + 1) ms at place (omega arith)

given_move : (from to : ℕ) (e : Exchange) (number : ℕ) → move_of (given_back from to e) number
    ≡ option_map (λ m. cond (nat_le from number && nat_lt number (to + 1)) (emptied e.opened e.done number m) m) (move_of e number)
given_move from to e zero = refl
given_move from to e (suc n) = between_get e.opened e.done from (to + 1) 1 e.moves n (suc n) (omega arith)

pub length-given : (opened done from to number : ℕ) (ms : List Move) → length (emptied_between opened done from to number ms) ≡ length ms
length-given opened done from to number [] = refl
length-given opened done from to number (m ∷ ms) = ap suc (length-given opened done from to (number + 1) ms)

spent_empty : (opened done number : ℕ) (m : Move) → is_spent opened done number m ≡ true → (emptied opened done number m).bytes ≡ []
spent_empty opened done number m t = ap (λ (b : Bool). cond b [] m.bytes) t

-- where what lies outside of the range has none to give back
given_lean : (from to : ℕ) (e : Exchange) → e.opened ≤ length e.moves →
    ((number : ℕ) (m : Move) → move_of e number ≡ Some m → (from ≤ number → number ≤ to → ⊥) →
    is_spent e.opened e.done number m ≡ true → m.bytes ≡ []) →
    IsLean (given_back from to e)
given_lean from to e within others = record {
  within = let same = length-given e.opened e.done from (to + 1) 1 e.moves in omega arith;
  empty = λ number z at t.
      let x = mapped_is (λ m. cond (nat_le from number && nat_lt number (to + 1)) (emptied e.opened e.done number m) m) (move_of e number) z
      (sym (given_move from to e number) ∙ at) in
      by_test number z x.0 (nat_le from number && nat_lt number (to + 1)) refl x.1 x.2 t;
}
  where
    by_test : (number : ℕ) (z m : Move) (b : Bool) → (nat_le from number && nat_lt number (to + 1)) ≡ b → move_of e number ≡ Some m →
        cond b (emptied e.opened e.done number m) m ≡ z → is_spent e.opened e.done number z ≡ true → z.bytes ≡ []
    by_test number z m true is at same t =
        ap (λ (x : Move). x.bytes) (sym same)
        ∙ spent_empty e.opened e.done number m (subst (λ x. is_spent e.opened e.done number x ≡ true) (sym same) t)
    by_test number z m false is at same t =
        ap (λ (x : Move). x.bytes) (sym same)
        ∙ others number m at
        (λ low high. both_ways (nat_le from number && nat_lt number (to + 1)) is
        (and_from (nat_le from number) (nat_lt number (to + 1)) (le-leb from number low) (lt-ltb number (to + 1) (omega arith))))
        (subst (λ x. is_spent e.opened e.done number x ≡ true) (sym same) t)

below_spent : (opened done number : ℕ) (m : Move) → number < opened → is_spent opened done number m ≡ true
below_spent opened done number m low = or_left (nat_lt number opened) (number == opened && done == m.count) (lt-ltb number opened low)

before_range : (j from to : ℕ) → (from ≤ j → j ≤ to → ⊥) → j ≤ to → j < from
before_range j from to out low = elim (cases_lt j from) [
  | inl less ↦ less
  | inr more ↦ absurd (out more low)
]

pub lean_opened : (e : Exchange) (number : ℕ) (a b : Move) → IsLean e → e.opened < number → move_of e number ≡ Some a →
    IsLean (given_back e.opened number (opened_with e number b))
lean_opened e number a b l later at =
    given_lean e.opened number (opened_with e number b)
    (let low = move_within e number a at in let same = length-set e.moves (number - 1) b in omega arith)
    (λ j m at_j out t.
    let before = before_range j e.opened number out (spent_low number 0 j m t) in
    l.empty j m (sym (opened_other e number j a b at (λ same. absurd (omega arith))) ∙ at_j) (below_spent e.opened e.done j m before))

pub lean_copied : (e : Exchange) (number written : ℕ) → IsLean e → e.opened ≡ number →
    IsLean (given_back number number (record e { done = written }))
lean_copied e number written l now =
    given_lean number number (record e { done = written }) l.within
    (λ j m at_j out t.
    let low = spent_low e.opened written j m t in
    let before = before_range j e.opened number (λ below above. out (omega arith) above) (omega arith) in
    l.empty j m (same j ∙ at_j) (below_spent e.opened e.done j m before))
  where
    same : (j : ℕ) → move_of e j ≡ move_of (record e { done = written }) j
    same zero = refl
    same (suc n) = refl

-- All exchanges after a change.
pub lean_put : (exchanges : Name → Option Exchange) (name : Name) (x : Exchange) → AreLean exchanges → IsLean x →
    AreLean (put_exchange exchanges name x)
lean_put exchanges name x each here n e is = elim (cases_Bool (same_name n name)) [
  | inl t ↦ subst IsLean (same_Some x e (sym (put_exchange_at exchanges name x n t) ∙ is)) here
  | inr f ↦ each n e (sym (put_exchange_other exchanges name x n f) ∙ is)
]

-- one that was put before it is lean
pub lean_put_over : (exchanges : Name → Option Exchange) (name : Name) (x y : Exchange) → AreLean exchanges → IsLean y →
    AreLean (put_exchange (put_exchange exchanges name x) name y)
lean_put_over exchanges name x y each here n e is = elim (cases_Bool (same_name n name)) [
  | inl t ↦ subst IsLean (same_Some y e (sym (put_exchange_at (put_exchange exchanges name x) name y n t) ∙ is)) here
  | inr f ↦ each n e (sym (put_exchange_other exchanges name x n f)
      ∙ sym (put_exchange_other (put_exchange exchanges name x) name y n f) ∙ is)
]

pub lean_map : (exchanges : Name → Option Exchange) (f : Name → Exchange → Exchange) → AreLean exchanges →
    ((n : Name) (e : Exchange) → IsLean e → IsLean (f n e)) → AreLean (λ n. option_map (f n) (exchanges n))
lean_map exchanges f each kept n e is =
    let x = mapped_is (f n) (exchanges n) e is in
    subst IsLean x.2 (kept n x.0 (each n x.0 x.1))
