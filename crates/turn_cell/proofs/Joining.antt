-- A seat that ends in another keeps the rule.
use Rattle.std.proofs.Common.{◌≡◌, ◌≢◌, ℕ, ◌<◌, ◌≤◌, true, false, List, set, refl, sym, ◌∙◌, subst, arith, ◌⊎◌, ⊎_elim, inl, inr, le_refl}
use mathlib.Core.Option.{some}
use lib.ListN.{get_elem?}
use Rattle.atomic_table.specs.Table.{State, Joins}
use Rattle.atomic_table.proofs.Lists.{set_else}
use Rattle.turn_cell.specs.declared.rule.Standing.{Standing}
use Rattle.turn_cell.specs.Standings.{Knows, Owns, joined, spent}
use Rattle.turn_cell.specs.Turns.{Turn, free, taken, IsPlaced, Kept}
use Rattle.turn_cell.proofs.Histories.{accounts_both, different_both, number_of_both}
use Rattle.turn_cell.proofs.Splitting.{not_holder}
use Rattle.turn_cell.proofs.Views.{each_set, apart_joined}
use Rattle.turn_cell.proofs.Giving.{off}

module _ {S E : Type 0} (history : S → List (ℕ × E)) (origin : S → S) (start : S) (seats : ℕ) where
  abbrev V : Type 0
  V = Standing S E

  -- the seats id and other, with the views v and w, have no turn
  module _ (s : State S V) (log : List (ℕ × E)) (id : ℕ) (v : V) (at : get_elem? s.views id ≡ some v) (idle : v.holds ≡ false)
      (other : ℕ) (w : V) (there : get_elem? s.views other ≡ some w) (idle' : w.holds ≡ false) where
    abbrev Set : V → V → List V
    Set both gone = set (set s.views id both) other gone

    join_is_placed : (t : Turn S) → IsPlaced history origin start log s t → (both gone : V) → both.holds ≡ false → gone.holds ≡ false
        → IsPlaced history origin start log record { words = s.words; homes = s.homes; views = Set both gone } t
    join_is_placed (free x) placed both gone b g = record {
      home = placed.home;
      history_is = placed.history_is;
      origin_is = placed.origin_is;
      nobody = each_set (λ i d. d.holds ≡ false) (set s.views id both) other gone g
          (λ j d _ e. each_set (λ i d. d.holds ≡ false) s.views id both b (λ j d _ e. placed.nobody j d e) j d e);
    }
    join_is_placed (taken h) placed both gone b g =
        let not_v : h ≢ id = not_holder s.views id h v placed.holder at idle placed.there placed.holds in
        let not_w : h ≢ other = not_holder s.views other h w placed.holder there idle' placed.there placed.holds in
        record {
          out = placed.out;
          holder = placed.holder;
          there = set_else (set s.views id both) other h gone not_w ∙ (set_else s.views id h both not_v ∙ placed.there);
          holds = placed.holds;
          some_number = placed.some_number;
          seen = placed.seen;
          alone = each_set (λ i d. d.holds ≡ true → i ≡ h) (set s.views id both) other gone (λ holds. absurd (off (sym g ∙ holds)))
              (λ j d _ e. each_set (λ i d. d.holds ≡ true → i ≡ h) s.views id both (λ holds. absurd (off (sym b ∙ holds)))
              (λ j d _ e. placed.alone j d e) j d e);
        }

  knows_nothing : (log : List (ℕ × E)) → Knows start seats log spent
  knows_nothing log = record {
    same = λ o e. absurd (cc e);
    few = omega arith;
    seen = (log, refl);
    mine = λ under. absurd (omega arith);
    fresh = λ k above under. absurd (omega arith);
    ended = tt;
    ended_few = λ k never. absurd never;
    different = ((λ never. never), tt);
  }

  -- v and w are different seats, each with a number
  module _ (log : List (ℕ × E)) (v w : V) (mine : Knows start seats log v) (theirs : Knows start seats log w)
      (own_number : v.account.number < v.limit) (some_number : w.account.number < w.limit)
      (both_own : (k : ℕ) → Owns v k → Owns w k → ⊥) where
    own_v : Owns v v.account.number
    own_v = inl (le_refl v.account.number, own_number)

    own_w : Owns w w.account.number
    own_w = inl (le_refl w.account.number, some_number)

    knows_both : Knows start seats log (joined v w)
    knows_both = record {
      same = mine.same;
      few = mine.few;
      seen = mine.seen;
      mine = mine.mine;
      fresh = mine.fresh;
      ended = ((theirs.seen, theirs.mine some_number), accounts_both log w.ended v.ended theirs.ended mine.ended);
      ended_few = λ k among. ⊎_elim (λ (is : w.account.number ≡ k). let few = theirs.few in omega arith)
          (λ more. ⊎_elim (theirs.ended_few k) (mine.ended_few k) (number_of_both k w.ended v.ended more)) among;
      different = (
        (λ among. ⊎_elim
            (λ (is : w.account.number ≡ v.account.number). both_own v.account.number own_v (subst (Owns w) is own_w))
            (λ more. ⊎_elim (λ in_w. both_own v.account.number own_v (inr in_w)) mine.different.0
            (number_of_both v.account.number w.ended v.ended more)) among),
        (
          (λ among. ⊎_elim theirs.different.0 (λ in_v. both_own w.account.number (inr in_v) own_w)
              (number_of_both w.account.number w.ended v.ended among)),
          different_both w.ended v.ended theirs.different.1 mine.different.1 (λ k in_w in_v. both_own k (inr in_v) (inr in_w)),
        ),
      );
    }

    owns_both : (k : ℕ) → Owns (joined v w) k → Owns v k ⊎ Owns w k
    owns_both k owns = ⊎_elim (λ range. inl (inl range))
        (λ among. ⊎_elim
        (λ (is : w.account.number ≡ k). inr (inl (let le : w.account.number ≤ k = omega arith in le, omega arith)))
        (λ more. ⊎_elim (λ in_w. inr (inr in_w)) (λ in_v. inl (inr in_v)) (number_of_both k w.ended v.ended more)) among) owns

  joining : (s : State S V) (k : Kept history origin start seats s) (id : ℕ) (v : V) → get_elem? s.views id ≡ some v → v.holds ≡ false
      → v.account.number < v.limit → (other : ℕ) (w : V) → ¬ (other ≡ id) → get_elem? s.views other ≡ some w → w.holds ≡ false
      → w.account.number < w.limit
      → Kept history origin start seats record { words = s.words; homes = s.homes; views = set (set s.views id (joined v w)) other spent }
  joining s k id v at idle own_number other w differ there idle' some_number =
      let mine = k.each id v at in
      let theirs = k.each other w there in
      let both_own : (j : ℕ) → Owns v j → Owns w j → ⊥ = λ j a b. differ (sym (k.apart id other j v w at there a b)) in
      record {
        log = k.log;
        turn = k.turn;
        word = k.word;
        placed = join_is_placed s k.log id v at idle other w there idle' k.turn k.placed (joined v w) spent idle refl;
        each = each_set (λ i d. Knows start seats k.log d) (set s.views id (joined v w)) other spent (knows_nothing k.log)
            (λ j d _ e. each_set (λ i d. Knows start seats k.log d) s.views id (joined v w)
            (knows_both k.log v w mine theirs own_number some_number both_own) (λ j d _ e. k.each j d e) j d e);
        apart = apart_joined Owns s.views id other v w (joined v w) spent k.apart at there differ
            (owns_both k.log v w mine theirs own_number some_number both_own)
            (λ j owns. ⊎_elim (λ (r : (0 ≤ j) × (j < 0)). omega arith) (λ never. never) owns);
        known = k.known;
      }

  pub join_keeps : (id : ℕ) (v : V) (other : ℕ) (w : V) → v.holds ≡ false → v.account.number < v.limit → w.holds ≡ false
      → w.account.number < w.limit → Joins (Kept history origin start seats) id v other w (joined v w) spent
  join_keeps id v other w idle own_number idle' some_number s k at differ there =
      let still = sym (set_else s.views id other (joined v w) differ) ∙ there in
      joining s k id v at idle own_number other w differ still idle' some_number
