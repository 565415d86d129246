-- Giving the turn back keeps the rule, whether one event was entered or none.
use Rattle.std.proofs.Common.{◌≡◌, ◌≢◌, ℕ, ◌+◌, ◌*◌, ◌<◌, ◌≤◌, true, false, true≢false, List, [], ◌∷◌, ◌++◌, length, get_or, set, refl, sym, ap, ◌∙◌, subst, arith, ⊎_elim, inl, inr, le_refl}
use Rattle.std.proofs.lemmas.Bool.{false_from_ne_true}
use mathlib.Core.Option.{some, none, some-injective}
use lib.ListN.{get_elem?}
use Rattle.atomic_table.specs.Table.{State, Me, step, gives, stepped, Allows}
use Rattle.turn_cell.specs.declared.rule.Account.{Account}
use Rattle.turn_cell.specs.declared.rule.Standing.{Standing}
use Rattle.turn_cell.specs.Accounts.{AreAccountsOf, IsNext}
use Rattle.turn_cell.specs.History.{events_of}
use Rattle.turn_cell.specs.Standings.{Knows, Owns, after_turn}
use Rattle.turn_cell.specs.Turns.{Turn, free, taken, bit, IsTaken, IsPlaced, Kept, Returns, gives_turn}
use Rattle.turn_cell.proofs.Histories.{accounts_more, events_other, prefix_more, prefix_self}
use Rattle.turn_cell.proofs.Views.{each_set, apart_set}

pub off : false ≡ true → ⊥
off e = true≢false (sym e)

-- one slot has one state
same_state : {S : Type 0} (x y : S) → ◌≡◌ {A = List (ℕ × S)} ((0, x) ∷ []) ((0, y) ∷ []) → x ≡ y
same_state {S = S} x y e = ap (λ (l : List (ℕ × S)). (get_or l 0 (0, x)).1) e

module _ {S E : Type 0} (start : S) (seats : ℕ) where
  knows_more : (n : ℕ) (e : E) (log : List (ℕ × E)) (d : Standing S E) → ((k : ℕ) → Owns d k → k ≢ n) → Knows start seats log d
      → Knows start seats (log ++ (n, e) ∷ []) d
  knows_more n e log d other knows =
      let mine = knows.mine in
      let fresh = knows.fresh in
      let own : d.account.number < d.limit → d.account.number ≢ n =
      λ some_number. other d.account.number (inl (le_refl d.account.number, some_number)) in
      let further : (k : ℕ) → d.account.number < k → k < d.limit → k ≢ n =
      λ k above under. other k (inl (let le : d.account.number ≤ k = omega arith in le, under)) in
      record {
        same = knows.same;
        few = knows.few;
        seen = prefix_more d.account.seen log ((n, e) ∷ []) knows.seen;
        mine = λ some_number. events_other d.account.number n e log (own some_number) ∙ mine some_number;
        fresh = λ k above under. events_other k n e log (further k above under) ∙ fresh k above under;
        ended = accounts_more n e log d.ended (λ k among. other k (inr among)) knows.ended;
        ended_few = knows.ended_few;
        different = knows.different;
      }

  -- `next` is `log`, or has one more entry of the number
  module _ (log next : List (ℕ × E)) (a : Account E) (seen : a.seen ≡ log) (how : IsNext a next) where
    is_more : (e : E) → next ≡ a.seen ++ (a.number, e) ∷ [] → next ≡ log ++ (a.number, e) ∷ []
    is_more e is = is ∙ ap (λ l. l ++ (a.number, e) ∷ []) seen

    -- what others know stays true
    knows_next : (d : Standing S E) → ((k : ℕ) → Owns d k → k ≢ a.number) → Knows start seats log d → Knows start seats next d
    knows_next d other knows = ⊎_elim
        (λ (same : next ≡ a.seen). subst (λ l. Knows start seats l d) (sym (same ∙ seen)) knows)
        (λ (t : (e : E) × (next ≡ a.seen ++ (a.number, e) ∷ [])). subst (λ l. Knows start seats l d) (sym (is_more t.0 t.1))
        (knows_more a.number t.0 log d other knows))
        how

    none_next : (k : ℕ) → k ≢ a.number → events_of k log ≡ [] → events_of k next ≡ []
    none_next k other before = ⊎_elim
        (λ (same : next ≡ a.seen). ap (events_of k) (same ∙ seen) ∙ before)
        (λ (t : (e : E) × (next ≡ a.seen ++ (a.number, e) ∷ [])). ap (events_of k) (is_more t.0 t.1)
        ∙ (events_other k a.number t.0 log other ∙ before))
        how

  not_past : (log : List (ℕ × E)) (v : Standing S E) → Knows start seats log v → (k : ℕ) → seats ≤ k → v.account.number < v.limit
      → k ≢ v.account.number
  not_past log v knows k past some_number is = let few = knows.few in absurd (omega arith)

module _ {S E : Type 0} (history : S → List (ℕ × E)) (origin : S → S) (start : S) (seats : ℕ) where
  -- the seat id, with the view v, has the turn and gives the state x back
  module _ (s : State S (Standing S E)) (k : Kept history origin start seats s) (id : ℕ) (v : Standing S E)
      (at : get_elem? s.views id ≡ some v) (x : S) (back : Returns history origin (v, (0, x) ∷ []) x) where
    abbrev Gives : Type 0
    Gives = Kept history origin start seats (stepped s 0 (2 * length (history x)) id ((0, x) ∷ []) (after_turn v (history x)) gives)

    gives_taken : (h : ℕ) → IsTaken k.log s h → s.words ≡ (2 * length k.log + 1) ∷ [] → Gives
    gives_taken h placed word =
        let next : List (ℕ × E) = history x in
        let w : Standing S E = after_turn v next in
        let n : ℕ = v.account.number in
        let same : h ≡ id = sym (placed.alone id v at back.holds) in
        let is : placed.holder ≡ v = some-injective placed.holder v (sym placed.there ∙ (ap (get_elem? s.views) same ∙ at)) in
        let seen : v.account.seen ≡ k.log = ap (λ (d : Standing S E). d.account.seen) (sym is) ∙ placed.seen in
        let mine = k.each id v at in
        let owns_n : (j : ℕ) → j ≡ n → Owns v j = λ j j_is. subst (Owns v) (sym j_is) (inl (le_refl n, back.some_number)) in
        let other : (j : ℕ) (d : Standing S E) → j ≢ id → get_elem? s.views j ≡ some d → (m : ℕ) → Owns d m → m ≢ n =
        λ j d away e m owns m_is. away (k.apart j id m d v e at owns (owns_n m m_is)) in
        let double : 2 * length next ≡ 2 * length next + 0 = omega arith in
        record {
          log = next;
          turn = free x;
          word = ap (λ l. set l 0 (2 * length next)) word ∙ ap (λ m. m ∷ []) double;
          placed = record {
            home = ap (λ l. set l 0 (some x)) placed.out;
            history_is = refl;
            origin_is = mine.same (origin x) back.of_it;
            nobody = each_set (λ i d. d.holds ≡ false) s.views id w refl
                (λ j d away e. false_from_ne_true d.holds (λ holds. away (placed.alone j d e holds ∙ same)));
          };
          each = each_set (λ i d. Knows start seats next d) s.views id w
              record {
                same = mine.same;
                few = mine.few;
                seen = prefix_self next;
                mine = λ _. refl;
                fresh = λ m above under.
                    let differ : m ≢ n = λ e. absurd (omega arith) in
                    none_next start seats k.log next v.account seen back.next m differ (mine.fresh m above under);
                ended = subst (AreAccountsOf next) (sym back.alone) tt;
                ended_few = mine.ended_few;
                different = mine.different;
              }
              (λ j d away e. knows_next start seats k.log next v.account seen back.next d (other j d away e) (k.each j d e));
          apart = apart_set Owns s.views id v w k.apart at (λ m owns. owns);
          known = λ m past. none_next start seats k.log next v.account seen back.next m
              (not_past start seats k.log v mine m past back.some_number) (k.known m past);
        }

    giving : (t : Turn S) → s.words ≡ (2 * length k.log + bit t) ∷ [] → IsPlaced history origin start k.log s t → Gives
    giving (free y) word placed = absurd (off (sym (placed.nobody id v at) ∙ back.holds))
    giving (taken h) word placed = gives_taken h placed word

  gives_kept : (slots id : ℕ) (v : Standing S E) (x : S) → Returns history origin (v, (0, x) ∷ []) x
      → Allows (Kept history origin start seats) slots id (v, (0, x) ∷ []) 0 (λ _. 2 * length (history x))
      (λ _. gives_turn history (step slots 0 (2 * length (history x)) 0 none) (v, (0, x) ∷ []) (2 * length (history x)))
  gives_kept slots id v x back s k long at small =
      let told = giving s k id v at x back k.turn k.word k.placed in
      (after_turn v (history x), gives, tt, told, λ y e. ap (λ (z : S). (after_turn v (history z), [])) (same_state x y e))

  pub give_keeps : (slots id new : ℕ) (m : Me S (Standing S E)) (x : S) → Returns history origin m x → new ≡ 2 * length (history x)
      → Allows (Kept history origin start seats) slots id m 0 (λ _. new) (λ _. gives_turn history (step slots 0 new 0 none) m new)
  give_keeps slots id new m x back is =
      let Q : ℕ × List (ℕ × S) → Type 0 = λ z. Allows (Kept history origin start seats) slots id (m.0, z.1) 0 (λ _. z.0)
      (λ _. gives_turn history (step slots 0 z.0 0 none) (m.0, z.1) z.0) in
      let back' : Returns history origin (m.0, (0, x) ∷ []) x =
      record {
        has = refl;
        of_it = back.of_it;
        some_number = back.some_number;
        holds = back.holds;
        alone = back.alone;
        next = back.next;
      } in
      subst Q (λ i. (sym is i, sym back.has i)) (gives_kept slots id m.0 x back')
