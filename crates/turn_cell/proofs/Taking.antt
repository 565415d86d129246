-- Taking the turn keeps the rule.
use Rattle.std.proofs.Common.{◌≡◌, ℕ, ◌+◌, ◌*◌, ◌%◌, ◌==◌, true, Some, List, [], ◌∷◌, length, get_or, set, refl, sym, ap, ◌∙◌, subst, arith}
use mathlib.Core.Option.{some, none}
use mathlib.Core.List.{IsPrefix}
use lib.ListN.{get_elem?}
use lib.Seq.{set-get_or}
use prog.Atomic.{either}
use Rattle.atomic_table.specs.Table.{State, Me, Act, step, keeps, takes, Valid, stepped, carried_after, Allows}
use Rattle.atomic_table.proofs.Lists.{set_here, set_again, exchanged}
use Rattle.turn_cell.specs.declared.rule.Standing.{Standing}
use Rattle.turn_cell.specs.History.{events_of}
use Rattle.turn_cell.specs.Standings.{Knows, Owns, in_turn}
use Rattle.turn_cell.specs.Turns.{Turn, free, taken, bit, IsFree, IsPlaced, Kept, Waits, Took, takes_turn}
use Rattle.turn_cell.proofs.Histories.{prefix_self}
use Rattle.turn_cell.proofs.Views.{each_set, apart_set, at_inside}
use Rattle.turn_cell.proofs.Giving.{off}

module _ {S E : Type 0} (history : S → List (ℕ × E)) (origin : S → S) (start : S) (seats : ℕ) where
  abbrev V : Type 0
  V = Standing S E

  abbrev Rule : State S V → Type 0
  Rule = Kept history origin start seats

  -- the seat id, with the view v, finds the word `old`
  module _ (s : State S V) (k : Kept history origin start seats s) (id : ℕ) (v : V) (at : get_elem? s.views id ≡ some v) where
    abbrev Takes : ℕ → Type 0
    Takes old = (w : V) × (a : Act S) × Valid s.homes [] a × Rule (stepped s 0 (old + 1) id [] w a)
        × Took history origin (v, []) old (w, carried_after [] a)

    takes_free : (x : S) → IsFree history origin start k.log s x → (old : ℕ) → old ≡ 2 * length k.log → s.words ≡ old ∷ []
        → Waits start (v, []) → Takes old
    takes_free x placed old double word waits =
        let w : V = in_turn v (history x) in
        let mine = k.each id v at in
        let inside = at_inside s.views id v at in (
          w,
          takes 0 x,
          ap (λ l. get_elem? l 0) placed.home,
          record {
            log = k.log;
            turn = taken id;
            word = ap (λ l. set l 0 (old + 1)) word ∙ ap (λ n. (n + 1) ∷ []) double;
            placed = record {
              out = ap (λ l. set l 0 none) placed.home;
              holder = w;
              there = set_here s.views id w inside;
              holds = refl;
              some_number = waits.some_number;
              seen = placed.history_is;
              alone = each_set (λ i d. d.holds ≡ true → i ≡ id) s.views id w (λ _. refl)
                  (λ j d _ e holds. absurd (off (sym (placed.nobody j d e) ∙ holds)));
            };
            each = each_set (λ i d. Knows start seats k.log d) s.views id w
                record {
                  same = mine.same;
                  few = mine.few;
                  seen = subst (λ l. IsPrefix l k.log) (sym placed.history_is) (prefix_self k.log);
                  mine = mine.mine;
                  fresh = mine.fresh;
                  ended = mine.ended;
                  ended_few = mine.ended_few;
                  different = mine.different;
                }
                (λ j d _ e. k.each j d e);
            apart = apart_set Owns s.views id v w k.apart at (λ n owns. owns);
            known = k.known;
          },
          record {
            state = x;
            has = refl;
            seat = refl;
            same = waits.of_it ∙ ap Some (sym placed.origin_is);
            word = double ∙ ap (λ (l : List (ℕ × E)). 2 * length l) (sym placed.history_is);
            seen = subst (λ l. IsPrefix v.account.seen l) (sym placed.history_is) mine.seen;
            mine = ap (events_of v.account.number) placed.history_is ∙ mine.mine waits.some_number;
          },
        )

    taking : (t : Turn S) → s.words ≡ (2 * length k.log + bit t) ∷ [] → IsPlaced history origin start k.log s t → (old : ℕ) → old % 2 ≡ 0
        → get_or s.words 0 0 ≡ old → Waits start (v, []) → Takes old
    taking (taken h) word placed old even found waits =
        let at_word : get_or s.words 0 0 ≡ 2 * length k.log + 1 = ap (λ l. get_or l 0 0) word in absurd (omega arith)
    taking (free x) word placed old even found waits =
        let at_word : get_or s.words 0 0 ≡ 2 * length k.log + 0 = ap (λ l. get_or l 0 0) word in
        let double : old ≡ 2 * length k.log = omega arith in
        let here : 2 * length k.log + 0 ≡ old = omega arith in
        takes_free x placed old double (word ∙ ap (λ n. n ∷ []) here) waits

  -- the turn is taken where the word is `old`, which is even; else nothing changes
  takes_kept : (slots id old : ℕ) (v : V) → old % 2 ≡ 0 → Waits start (v, [])
      → Allows Rule slots id (v, []) 0 (λ n. either (n == old) (old + 1) n)
      (takes_turn history origin (step slots 0 old (old + 1) none) (v, []))
  takes_kept slots id old v even waits s k long at small =
      let n : ℕ = get_or s.words 0 0 in
      let F : ℕ → Type 0 = λ z. (w : V) × (a : Act S) × Valid s.homes [] a × Rule (stepped s 0 z id [] w a)
      × takes_turn history origin (step slots 0 old (old + 1) none) (v, []) n (w, carried_after [] a) in
      exchanged n old (old + 1) F
      (λ is.
      let t = taking s k id v at k.turn k.word k.placed old even is waits in
      let told = subst (λ z. Took history origin (v, []) z (t.0, carried_after [] t.1)) (sym is) t.4 in
      (t.0, t.1, t.2, t.3, ((λ _. told), (λ ne. absurd (ne is)))))
      (λ ne.
      let same : s ≡ stepped s 0 n id [] v keeps =
      λ i. record { words = sym (set-get_or s.words 0 0) i; homes = s.homes; views = sym (set_again s.views id v at) i } in
      (v, keeps, tt, subst Rule same k, ((λ is. absurd (ne is)), (λ _. refl))))

  pub take_keeps : (slots id old : ℕ) (m : Me S V) → old % 2 ≡ 0 → Waits start m
      → Allows Rule slots id m 0 (λ n. either (n == old) (old + 1) n) (takes_turn history origin (step slots 0 old (old + 1) none) m)
  take_keeps slots id old m even waits =
      let Q : List (ℕ × S) → Type 0 = λ c. Allows Rule slots id (m.0, c) 0 (λ n. either (n == old) (old + 1) n)
      (takes_turn history origin (step slots 0 old (old + 1) none) (m.0, c)) in
      let waits' : Waits start (m.0, []) =
      record { of_it = waits.of_it; some_number = waits.some_number; idle = waits.idle; alone = waits.alone; empty = refl } in
      subst Q (sym waits.empty) (takes_kept slots id old m.0 even waits')
