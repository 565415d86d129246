-- From the steps of one turn to what the turn does.
use Rattle.std.proofs.Common.{◌≡◌, ℕ, List, [], ◌∷◌, ◌++◌, sym, ap, ◌∙◌, Result, Ok, Err, OnOk, false}
use Rattle.atomic_table.specs.Table.{Me}
use Rattle.atomic_table.specs.Seated.{TableId}
use Rattle.turn_cell.specs.declared.rule.Standing.{Standing}
use Rattle.turn_cell.specs.Held.{Began, HasTurn, sitting}
use Rattle.turn_cell.specs.History.{events_of}
use Rattle.turn_cell.specs.Seats.{HasEntered}
use Rattle.turn_cell.specs.Standings.{after_entering, after_turn}
use Rattle.turn_cell.proofs.Histories.{events_own}

module _ {S E : Type 0} (history : S → List (ℕ × E)) (origin : S → S) (start : S) where
  abbrev M : Type 0
  M = Me S (Standing S E)

  -- the seat gave back a state whose history has one more entry of its own
  pub enters : (m : M) (v : Standing S E) (found : ℕ) (turn : HasTurn history origin start m found) → v ≡ m.0 → (y : S) (number : ℕ) (e : E)
      → m.0.account.number ≡ number → history y ≡ history turn.state ++ (number, e) ∷ [] → (p : M) → p ≡ (after_turn v (history y), [])
      → p ≡ (after_entering m.0 e, [])
  enters m v found turn same y number e is grown p gave =
      let k : ℕ = m.0.account.number in
      let seen : history y ≡ m.0.account.seen ++ (k, e) ∷ [] = grown ∙ (λ i. sym turn.seen i ++ (sym is i, e) ∷ []) in
      let own : history y ≡ history turn.state ++ (k, e) ∷ [] = grown ∙ ap (λ (j : ℕ). history turn.state ++ (j, e) ∷ []) (sym is) in
      let mine : events_of k (history y) ≡ m.0.account.mine ++ e ∷ [] =
      ap (events_of k) own ∙ (events_own k e (history turn.state) ∙ ap (λ l. l ++ e ∷ []) turn.mine) in
      gave ∙ ((λ i. (after_turn (same i) (history y), [])) ∙ (λ i. (
        record {
          origin = m.0.origin;
          account = record { number = k; seen = seen i; mine = mine i; turns = m.0.account.turns };
          limit = m.0.limit;
          holds = false;
          ended = m.0.ended;
        },
        [],
      )))

  -- what callers see of a turn in which e was entered
  has_entered : (Gives : List (ℕ × E) → Type 0) (m n p : M) (old new : TableId) (number : ℕ) (e : E) → m.0.account.number ≡ number
      → Began m n → p ≡ (after_entering n.0 e, []) → Gives n.0.account.seen
      → HasEntered Gives (sitting old number m) (sitting new number p) e
  has_entered Gives m n p old new number e is began ended gives =
      let k : ℕ = n.0.account.number in
      let own : k ≡ number = ap (λ (d : Standing S E). d.account.number) began.0 ∙ is in
      record {
        before = n.0.account.seen;
        later = began.1;
        seen = ap (λ (q : M). q.0.account.seen) ended ∙ ap (λ (j : ℕ). n.0.account.seen ++ (j, e) ∷ []) own;
        mine = ap (λ (q : M). q.0.account.mine) ended ∙ ap (λ (d : Standing S E). d.account.mine ++ e ∷ []) began.0;
        gives = gives;
      }

  -- the same of a call that may be refused, with two facts of what was seen before
  pub has_entered_where_ok : {A B : Type 0} (r : Result A B) (Grows Gives : List (ℕ × E) → Type 0) (m n p : M) (old new : TableId)
      (number : ℕ) (e : E) → m.0.account.number ≡ number → Began m n
      → OnOk r ((p ≡ (after_entering n.0 e, [])) × Grows n.0.account.seen × Gives n.0.account.seen)
      → OnOk r (HasEntered (λ before. Grows before × Gives before) (sitting old number m) (sitting new number p) e)
  has_entered_where_ok (Ok a) Grows Gives m n p old new number e is began t =
      has_entered (λ before. Grows before × Gives before) m n p old new number e is began t.0 (t.1, t.2)
  has_entered_where_ok (Err b) Grows Gives m n p old new number e is began t = tt
