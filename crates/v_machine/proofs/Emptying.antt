-- Moves that give their bytes back, one after another, where they are spent.
use Rattle.std.proofs.Common.{◌≡◌, ℕ, zero, suc, ◌+◌, ◌≤◌, ◌&&◌, nat_le, nat_lt, Bool, true, false, cond, List, [], ◌∷◌, All, Some, refl, sym, ap, ◌∙◌, inl, inr, arith}
use Rattle.std.proofs.lemmas.Bool.{cases_Bool, ltb-true, lt-leb, le-leb, lt-ltb, le-ltb, and_from, and_left, and_right}
use Rattle.std.proofs.lemmas.List.Elements.{All-cons, All-head, All-tail}
use Rattle.vk_types.specs.Types.{Exchange, Move, Name, Pid}
use Rattle.vk_base.specs.declared.step.Step.TheVariants as steps
use Rattle.vk_base.specs.Kernel.{Kernel, put_exchange}
use Rattle.v_laws.specs.Sizes.{IsSized, IsMoveFit}
use Rattle.v_laws.specs.Sound.{IsSound}
use Rattle.v_laws.proofs.Changes.{StageOn, sound_onward}
use Rattle.v_laws.proofs.Sizes.{fit_put}
use Rattle.v_laws.proofs.SoundChanges.{goes_exchange, one_exchange_changes}
use Rattle.v_machine.specs.Lists.{change_at, change_numbered}
use Rattle.v_machine.specs.Moves.{with_exchange}
use Rattle.v_machine.specs.Places.{numbered}
use Rattle.v_machine.specs.Sends.{emptied_between, given_back}
use Rattle.v_machine.specs.Lean.{IsAlike}
use Rattle.v_machine.specs.Spent.{emptied, all_emptied, is_spent, lean}
use Rattle.v_machine.proofs.Changes.{change_numbered-set, set_numbered-same}
use Rattle.v_machine.proofs.LeanExchanges.{length-given}
use Rattle.v_machine.proofs.Spent.{absorbed}
use Rattle.v_machine.proofs.SpentKernels.{alike_put}
use Rattle.v_machine.proofs.Standing.{alike_emptied}

-- numbers that the range has all below it
between_none : (opened done from to number : ℕ) (ms : List Move) → to ≤ number → emptied_between opened done from to number ms ≡ ms
between_none opened done from to number [] low = refl
between_none opened done from to number (m ∷ ms) low =
    let out = and_right (nat_le from number) (nat_lt number to) (le-ltb number to low) in
    let rest = between_none opened done from to (number + 1) ms (omega arith) in
    λ i. cond (out i) (emptied opened done number m) m ∷ rest i

-- one number more
more_at : (opened done from to number at : ℕ) (ms : List Move) → from ≤ to → to ≡ number + at →
    change_at at (emptied opened done to) (emptied_between opened done from to number ms)
    ≡ emptied_between opened done from (to + 1) number ms
more_at opened done from to number at [] order is = refl
more_at opened done from to number zero (m ∷ ms) order is =
    let same : to ≡ number = omega arith in
    let out = and_right (nat_le from number) (nat_lt number to) (le-ltb number to (omega arith)) in
    let within = and_from (nat_le from number) (nat_lt number (to + 1)) (le-leb from number (omega arith))
    (lt-ltb number (to + 1) (omega arith)) in
    let before = between_none opened done from to (number + 1) ms (omega arith) in
    let after = between_none opened done from (to + 1) (number + 1) ms (omega arith) in
    (λ i. emptied opened done (same i) (cond (out i) (emptied opened done number m) m) ∷ before i)
    ∙ sym (λ i. cond (within i) (emptied opened done number m) m ∷ after i)
more_at opened done from to number (suc at) (m ∷ ms) order is =
    let one : nat_lt number to ≡ nat_lt number (to + 1) =
    lt-ltb number to (omega arith) ∙ sym (lt-ltb number (to + 1) (omega arith)) in
    let rest = more_at opened done from to (number + 1) at ms order (omega arith) in
    λ i. cond (nat_le from number && one i) (emptied opened done number m) m ∷ rest i

nowhere : (from to number : ℕ) → to ≤ from → (nat_le from number && nat_lt number to) ≡ false
nowhere from to number low = elim (cases_Bool (nat_lt number to)) [
  | inl t ↦ and_left (nat_le from number) (nat_lt number to) (lt-leb from number (let less = ltb-true number to t in omega arith))
  | inr f ↦ and_right (nat_le from number) (nat_lt number to) f
]

pub between_start : (opened done from : ℕ) (ms : List Move) → ms ≡ emptied_between opened done from from 1 ms
between_start opened done from ms = sym (at_start opened done from from 1 ms (omega arith))
  where
    at_start : (opened done from to number : ℕ) (ms : List Move) → to ≤ from → emptied_between opened done from to number ms ≡ ms
    at_start opened done from to number [] low = refl
    at_start opened done from to number (m ∷ ms) low =
        let out = nowhere from to number low in
        let rest = at_start opened done from to (number + 1) ms low in
        λ i. cond (out i) (emptied opened done number m) m ∷ rest i

pub between_more : (opened done from to : ℕ) (ms : List Move) → from ≤ to →
    change_numbered to (emptied opened done to) (emptied_between opened done from to 1 ms) ≡ emptied_between opened done from (to + 1) 1 ms
between_more opened done from zero ms order = between_none opened done from 0 1 ms (omega arith)
    ∙ sym (between_none opened done from (0 + 1) 1 ms (omega arith))
between_more opened done from (suc at) ms order = more_at opened done from (suc at) 1 at ms order (omega arith)

-- What stays.
all_of_between : (opened done from to number : ℕ) (ms : List Move) →
    all_emptied opened done number (emptied_between opened done from to number ms) ≡ all_emptied opened done number ms
all_of_between opened done from to number [] = refl
all_of_between opened done from to number (m ∷ ms) =
    let first = by_test (nat_le from number && nat_lt number to) in
    let rest = all_of_between opened done from to (number + 1) ms in
    λ i. first i ∷ rest i
  where
    by_test : (b : Bool) → emptied opened done number (cond b (emptied opened done number m) m) ≡ emptied opened done number m
    by_test true = absorbed opened done opened done number m (λ t. t)
    by_test false = refl

pub lean_given_back : (from to : ℕ) (e : Exchange) → lean (given_back from to e) ≡ lean e
lean_given_back from to e =
    ap (λ (ms : List Move). record e { moves = ms }) (all_of_between e.opened e.done from (to + 1) 1 e.moves)

fit_cond : (size : Pid → ℕ) (n : Name) (opened done number : ℕ) (m : Move) (b : Bool) → IsMoveFit size n m →
    IsMoveFit size n (cond b (emptied opened done number m) m)
fit_cond size n opened done number m true fit = record { there = fit.there; here = fit.here }
fit_cond size n opened done number m false fit = fit

fit_between : (size : Pid → ℕ) (n : Name) (opened done from to number : ℕ) (ms : List Move) → All (IsMoveFit size n) ms →
    All (IsMoveFit size n) (emptied_between opened done from to number ms)
fit_between size n opened done from to number [] fit = fit
fit_between size n opened done from to number (m ∷ ms) fit =
    All-cons (IsMoveFit size n) _ _
    (fit_cond size n opened done number m (nat_le from number && nat_lt number to) (All-head (IsMoveFit size n) m ms fit))
    (fit_between size n opened done from to (number + 1) ms (All-tail (IsMoveFit size n) m ms fit))

module _ (k : Kernel) (name : Name) (e : Exchange) (from to : ℕ) (at : k.exchanges name ≡ Some e) where
  pub sound_given_back : IsSound k → IsSound (with_exchange k name (given_back from to e))
  sound_given_back sound =
      let x = given_back from to e in
      sound_onward (steps.Lost name.sender) k _ sound (goes_exchange (steps.Lost name.sender) k (put_exchange k.exchanges name x) k.lookups sound
      (one_exchange_changes (steps.Lost name.sender) k name e x at
      (record {
        target = refl;
        message = refl;
        part = refl;
        at = refl;
        shown = refl;
        moves = omega (arith, length-given e.opened e.done from (to + 1) 1 e.moves);
        stage = StageOn.same refl;
      })))

  pub sized_given_back : (size : Pid → ℕ) → IsSized size k → IsSized size (with_exchange k name (given_back from to e))
  sized_given_back size sized =
      let fit = sized.exchanges name e at in
      record {
        memory = sized.memory;
        room = sized.room;
        exchanges = fit_put size k.exchanges name (given_back from to e) sized.exchanges (record {
          segment = fit.segment;
          reply = fit.reply;
          moves = fit_between size name e.opened e.done from (to + 1) 1 e.moves fit.moves;
        });
      }

  pub alike_given_back : IsAlike k (with_exchange k name (given_back from to e))
  alike_given_back = alike_emptied k (with_exchange k name (given_back from to e))
      (alike_put k name e (given_back from to e) at (sym (lean_given_back from to e)))

-- A move that is not spent stays as it is.
pub unspent_stays : (opened done number : ℕ) (ms : List Move) (m : Move) → Some m ≡ numbered ms number → is_spent opened done number m ≡ false
    → change_numbered number (emptied opened done number) ms ≡ ms
unspent_stays opened done number ms m is unspent =
    sym (change_numbered-set (emptied opened done number) number ms m m is same) ∙ set_numbered-same number ms m m is refl
  where
    same : m ≡ emptied opened done number m
    same = λ i. record m { bytes = cond (sym unspent i) [] m.bytes }

-- and alone leaves all as they are
pub alone_stays : (opened done from to : ℕ) (ms : List Move) → from ≡ to → change_numbered to (emptied opened done to) ms ≡ ms
    → ms ≡ emptied_between opened done from (to + 1) 1 ms
alone_stays opened done from to ms alone stays =
    sym stays
    ∙ ap (change_numbered to (emptied opened done to)) (between_start opened done from ms ∙ ap (λ n. emptied_between opened done from n 1 ms) alone)
    ∙ between_more opened done from to ms (omega (arith, alone))
