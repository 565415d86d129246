-- A table that begins, and a seat whose first number goes to a new seat, keep the rule.
use Rattle.std.proofs.Common.{◌≡◌, ◌≢◌, ℕ, zero, suc, ◌+◌, ◌<◌, ◌≤◌, true, false, List, [], ◌∷◌, ◌++◌, set, refl, sym, ap, ◌∙◌, subst, arith, ⊎_elim, inl, inr, le_refl}
use mathlib.Core.Option.{some, some-injective, some-ne-none}
use lib.ListN.{get_elem?}
use Rattle.atomic_table.specs.Table.{State, Splits}
use Rattle.atomic_table.proofs.Lists.{set_else, at_longer}
use Rattle.turn_cell.specs.declared.rule.Standing.{Standing}
use Rattle.turn_cell.specs.Accounts.{IsNumberOf}
use Rattle.turn_cell.specs.Standings.{Knows, Owns, unsplit, with_first, without_first}
use Rattle.turn_cell.specs.Turns.{Turn, free, taken, IsPlaced, Kept}
use Rattle.turn_cell.proofs.Views.{each_set, each_end, apart_set, apart_end}
use Rattle.turn_cell.proofs.Giving.{off}

module _ {S E : Type 0} where
  -- a seat that has no turn is not the one that has it
  pub not_holder : (views : List (Standing S E)) (i h : ℕ) (d holder : Standing S E) → get_elem? views i ≡ some d → d.holds ≡ false
      → get_elem? views h ≡ some holder → holder.holds ≡ true → h ≢ i
  not_holder views i h d holder at idle there holds same =
      let is : d ≡ holder = some-injective d holder (sym at ∙ (ap (get_elem? views) (sym same) ∙ there)) in
      off (sym idle ∙ (ap (λ (v : Standing S E). v.holds) is ∙ holds))

module _ {S E : Type 0} (history : S → List (ℕ × E)) (origin : S → S) (start : S) (seats : ℕ) where
  abbrev V : Type 0
  V = Standing S E

  -- the seat id, with the view v, has no turn
  module _ (s : State S V) (log : List (ℕ × E)) (id : ℕ) (v : V) (at : get_elem? s.views id ≡ some v) (idle : v.holds ≡ false) where
    abbrev Cut : V → V → State S V
    Cut left right = record { words = s.words; homes = s.homes; views = set s.views id left ++ right ∷ [] }

    -- its view may change, and a new seat may come, where neither has the turn
    split_is_placed : (t : Turn S) → IsPlaced history origin start log s t → (left right : V) → left.holds ≡ false → right.holds ≡ false
        → IsPlaced history origin start log (Cut left right) t
    split_is_placed (free x) placed left right l r = record {
      home = placed.home;
      history_is = placed.history_is;
      origin_is = placed.origin_is;
      nobody = each_end (λ i d. d.holds ≡ false) (set s.views id left) right r
          (each_set (λ i d. d.holds ≡ false) s.views id left l (λ j d _ e. placed.nobody j d e));
    }
    split_is_placed (taken h) placed left right l r =
        let away : h ≢ id = not_holder s.views id h v placed.holder at idle placed.there placed.holds in
        record {
          out = placed.out;
          holder = placed.holder;
          there = at_longer (set s.views id left) (right ∷ []) h placed.holder (set_else s.views id h left away ∙ placed.there);
          holds = placed.holds;
          some_number = placed.some_number;
          seen = placed.seen;
          alone = each_end (λ i d. d.holds ≡ true → i ≡ h) (set s.views id left) right (λ holds. absurd (off (sym r ∙ holds)))
              (each_set (λ i d. d.holds ≡ true → i ≡ h) s.views id left (λ holds. absurd (off (sym l ∙ holds)))
              (λ j d _ e. placed.alone j d e));
        }

  module _ (log : List (ℕ × E)) (v : V) (mine : Knows start seats log v) (alone : v.ended ≡ [])
      (more : v.account.number + 1 < v.limit) where
    knows_first : Knows start seats log (with_first v)
    knows_first =
        let few : v.limit ≤ seats = mine.few in
        record {
          same = mine.same;
          few = omega arith;
          seen = mine.seen;
          mine = λ _. mine.mine (omega arith);
          fresh = λ k above under. absurd (omega arith);
          ended = tt;
          ended_few = λ k never. absurd never;
          different = ((λ never. never), tt);
        }

    knows_rest : Knows start seats log (without_first v)
    knows_rest =
        let n : ℕ = v.account.number in
        record {
          same = mine.same;
          few = mine.few;
          seen = mine.seen;
          mine = λ under. mine.fresh (n + 1) (omega arith) under;
          fresh = λ k above under. mine.fresh k (omega arith) under;
          ended = mine.ended;
          ended_few = mine.ended_few;
          different = ((λ among. subst (IsNumberOf (n + 1)) alone among), mine.different.1);
        }

    -- the first number is the new seat's alone
    owns_first : (k : ℕ) → Owns (with_first v) k → k ≡ v.account.number
    owns_first k owns = ⊎_elim (λ (r : (v.account.number ≤ k) × (k < v.account.number + 1)). omega arith) (λ never. absurd never) owns

    owns_rest : (k : ℕ) → Owns (without_first v) k → Owns v k
    owns_rest k owns =
        ⊎_elim (λ (r : (v.account.number + 1 ≤ k) × (k < v.limit)). inl (omega arith, r.1)) (λ among. inr among) owns

    rest_past : (k : ℕ) → Owns (without_first v) k → k ≢ v.account.number
    rest_past k owns is = ⊎_elim (λ (r : (v.account.number + 1 ≤ k) × (k < v.limit)). absurd (omega arith))
        (λ among. subst (IsNumberOf k) alone among) owns

  splitting : (s : State S V) (k : Kept history origin start seats s) (id : ℕ) (v : V) (at : get_elem? s.views id ≡ some v)
      → v.holds ≡ false → v.ended ≡ [] → v.account.number + 1 < v.limit
      → Kept history origin start seats
      record { words = s.words; homes = s.homes; views = set s.views id (without_first v) ++ with_first v ∷ [] }
  splitting s k id v at idle alone more =
      let mine = k.each id v at in
      let left = apart_set Owns s.views id v (without_first v) k.apart at (owns_rest k.log v mine alone more) in
      let own_first : (j : ℕ) → j ≡ v.account.number → Owns v j = λ j is.
      let le : v.account.number ≤ j = omega arith in inl (le, omega arith) in
      let nobody_else : (j i : ℕ) (d : V) → get_elem? (set s.views id (without_first v)) i ≡ some d → Owns d j → ¬ Owns (with_first v) j =
      λ j i d e owns new.
      let is = owns_first k.log v mine alone more j new in
      each_set (λ i d. Owns d j → ⊥) s.views id (without_first v)
      (λ owns. rest_past k.log v mine alone more j owns is)
      (λ i d away e owns. away (k.apart i id j d v e at owns (own_first j is))) i d e owns in
      record {
        log = k.log;
        turn = k.turn;
        word = k.word;
        placed = split_is_placed s k.log id v at idle k.turn k.placed (without_first v) (with_first v) idle refl;
        each = each_end (λ i d. Knows start seats k.log d) (set s.views id (without_first v)) (with_first v)
            (knows_first k.log v mine alone more)
            (each_set (λ i d. Knows start seats k.log d) s.views id (without_first v) (knows_rest k.log v mine alone more)
            (λ j d _ e. k.each j d e));
        apart = apart_end Owns (set s.views id (without_first v)) (with_first v) left nobody_else;
        known = k.known;
      }

  pub split_keeps : (id : ℕ) (v : V) → v.holds ≡ false → v.ended ≡ [] → v.account.number + 1 < v.limit
      → Splits (Kept history origin start seats) id v (without_first v) (with_first v)
  split_keeps id v idle alone more s k at = splitting s k id v at idle alone more

  one : (P : ℕ → V → Type 0) → P 0 (unsplit start 0 seats) → (i : ℕ) (d : V) → get_elem? (unsplit start 0 seats ∷ []) i ≡ some d → P i d
  one P first zero d e = subst (P 0) (some-injective (unsplit start 0 seats) d e) first
  one P first (suc i) d e = absurd (some-ne-none d (sym e))

  -- a table begins with a state that has no history, and one seat with all numbers
  pub begins : (x : S) → history x ≡ [] → origin x ≡ start
      → Kept history origin start seats record { words = 0 ∷ []; homes = some x ∷ []; views = unsplit start 0 seats ∷ [] }
  begins x empty same = record {
    log = [];
    turn = free x;
    word = refl;
    placed = record { home = refl; history_is = empty; origin_is = same; nobody = one (λ i d. d.holds ≡ false) refl };
    each = one (λ i d. Knows start seats [] d)
        record {
          same = λ o e. cc e;
          few = le_refl seats;
          seen = ([], refl);
          mine = λ _. refl;
          fresh = λ k _ _. refl;
          ended = tt;
          ended_few = λ k never. absurd never;
          different = ((λ never. never), tt);
        };
    apart = λ i j k a b ati atj _ _. one (λ i d. i ≡ 0) refl i a ati ∙ sym (one (λ i d. i ≡ 0) refl j b atj);
    known = λ k _. refl;
  }
