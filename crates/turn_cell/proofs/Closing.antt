-- What a table ends with, once one seat without the turn has the accounts of all numbers.
use Rattle.std.proofs.Common.{◌≡◌, ℕ, ◌+◌, ◌<◌, ◌≤◌, false, List, [], ◌∷◌, length, sym, ap, ◌∙◌, subst, arith, ⊎_elim, inl, inr, le_refl}
use mathlib.Core.Option.{some, some-injective}
use mathlib.Core.List.{IsPrefix}
use lib.ListN.{get_elem?}
use Rattle.atomic_table.specs.Table.{State, Final, Seen}
use Rattle.turn_cell.specs.declared.rule.Standing.{Standing}
use Rattle.turn_cell.specs.Accounts.{AreAccountsOf, AreDifferent, IsAccountOf, IsNumberOf}
use Rattle.turn_cell.specs.History.{events_of}
use Rattle.turn_cell.specs.Standings.{Knows, Owns}
use Rattle.turn_cell.specs.Turns.{Turn, free, taken, IsFree, IsTaken, IsPlaced, Kept}
use Rattle.turn_cell.proofs.Numbers.{all_numbers}
use Rattle.turn_cell.proofs.Splitting.{not_holder}

module _ {S E : Type 0} (history : S → List (ℕ × E)) (origin : S → S) (start : S) (seats : ℕ) where
  abbrev V : Type 0
  V = Standing S E

  -- The state x has the origin, all accounts of the seat are true of its history, and no number past the seats' has entered anything.
  -- Its accounts have different numbers below the count of seats
  pub record Closes (v : V) (x : S) : Type 0 where
    pub same : origin x ≡ start
    pub mine : IsAccountOf (history x) v.account
    pub ended : AreAccountsOf (history x) v.ended
    pub known : (k : ℕ) → seats ≤ k → events_of k (history x) ≡ []
    pub low : (k : ℕ) → IsNumberOf k (v.account ∷ v.ended) → k < seats
    pub different : AreDifferent (v.account ∷ v.ended)

  are_low : (log : List (ℕ × E)) (v : V) → Knows start seats log v → v.account.number < v.limit
      → (k : ℕ) → IsNumberOf k (v.account ∷ v.ended) → k < seats
  are_low log v knows some_number k among =
      let few : v.limit ≤ seats = knows.few in ⊎_elim (λ (is : v.account.number ≡ k). omega arith) (knows.ended_few k) among

  all_owned : (log : List (ℕ × E)) (v : V) → Knows start seats log v → v.account.number < v.limit → length v.ended + 1 ≡ seats
      → (k : ℕ) → k < seats → Owns v k
  all_owned log v knows some_number count k under =
      let few : v.limit ≤ seats = knows.few in
      ⊎_elim (λ (is : v.account.number ≡ k). inl (let le : v.account.number ≤ k = omega arith in le, omega arith)) (λ among. inr among)
      (all_numbers seats (v.account ∷ v.ended) knows.different (are_low log v knows some_number) (omega arith) k under)

  module _ (s : State S V) (k : Kept history origin start seats s) (id : ℕ) (v : V) (at : get_elem? s.views id ≡ some v)
      (idle : v.holds ≡ false) (some_number : v.account.number < v.limit) (count : length v.ended + 1 ≡ seats) where
    closes_free : (x : S) → IsFree history origin start k.log s x → Closes v x
    closes_free x placed =
        let mine = k.each id v at in
        record {
          same = placed.origin_is;
          mine = (
            subst (λ l. IsPrefix v.account.seen l) (sym placed.history_is) mine.seen,
            ap (events_of v.account.number) placed.history_is ∙ mine.mine some_number,
          );
          ended = subst (λ l. AreAccountsOf l v.ended) (sym placed.history_is) mine.ended;
          known = λ n past. ap (events_of n) placed.history_is ∙ k.known n past;
          low = are_low k.log v mine some_number;
          different = mine.different;
        }

    -- another seat that has the turn would have a number of its own
    nobody_has_it : (h : ℕ) → IsTaken k.log s h → ⊥
    nobody_has_it h placed =
        let holder = k.each h placed.holder placed.there in
        let few : placed.holder.limit ≤ seats = holder.few in
        let n : ℕ = placed.holder.account.number in
        let under : n < placed.holder.limit = placed.some_number in
        let mine = all_owned k.log v (k.each id v at) some_number count n (omega arith) in
        let same : id ≡ h = k.apart id h n v placed.holder at placed.there mine (inl (le_refl n, under)) in
        not_holder s.views id h v placed.holder at idle placed.there placed.holds (sym same)

    closing : (t : Turn S) → IsPlaced history origin start k.log s t → (xs : List S) (x : S)
        → ((i : ℕ) (y : S) → get_elem? s.homes i ≡ some (some y) → get_elem? xs i ≡ some y) → get_elem? xs 0 ≡ some x → Closes v x
    closing (free y) placed xs x shelf there =
        let found = shelf 0 y (ap (λ l. get_elem? l 0) placed.home) in
        subst (Closes v) (some-injective y x (sym found ∙ there)) (closes_free y placed)
    closing (taken h) placed xs x shelf there = absurd (nobody_has_it h placed)

  pub closes : (id : ℕ) (v : V) (ws : List ℕ) (xs : List S) (x : S) → v.holds ≡ false → v.account.number < v.limit
      → length v.ended + 1 ≡ seats → Final (Seen (Kept history origin start seats) id v) ws xs → get_elem? xs 0 ≡ some x → Closes v x
  closes id v ws xs x idle some_number count final there =
      let k = final.1.0 in
      closing final.0 k id v final.1.1 idle some_number count k.turn k.placed xs x final.4 there
