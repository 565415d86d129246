-- The four processes, of which one has the event.
use Rattle.std.proofs.Common.{◌≡◌, ◌≢◌, ℕ, zero, suc, ◌<◌, ◌==◌, List, [], ◌∷◌, ◌++◌, get_or, set, length, Some, sym, ap, subst, ◌∙◌, arith, inl, inr}
use Rattle.std.specs.Prelude.{slice_get}
use Rattle.std.proofs.lemmas.Bool.{cases_Bool, eqb-true, eq-eqb}
use Rattle.std.proofs.lemmas.List.{append-nil, length-set}
use Rattle.std.proofs.lemmas.Option.{same_Some, slice_get_within}
use Rattle.vk_types.specs.Types.{EventAnswer}
use Rattle.vk_schedule.specs.declared.event.Event.{Event}
use Rattle.vk_event.specs.declared.task.Task.{Task}
use Rattle.vk_cluster.proofs.Logs.{get_set_same, get_set_other}
use Rattle.vk_rules.specs.Histories.{Happened}
use Rattle.vk_drive.specs.declared.actor.Actor.{Actor}
use Rattle.vk_drive.specs.Driving.{AreActors, ChoosesEvent, IsActor, IsChosenAt}
use Rattle.vk_drive.specs.Tasks.{task_at}
use Rattle.vk_drive.specs.Told.{answered_in, answered_to}
use Rattle.vk_drive.proofs.Behind.{answered_more}

-- the element at a place, told by its value there
pub stands_at : {A : Type 0} (xs : List A) (i : ℕ) (x : A) → i < length xs → x ≡ get_or xs i x → slice_get xs i ≡ Some x
stands_at [] i x low is = absurd (omega arith)
stands_at (y ∷ ys) zero x low is = ap Some (sym is)
stands_at (y ∷ ys) (suc i) x low is = stands_at ys i x (omega arith) is

-- what holds of the written element and of the others holds of all
written_all : {A : Type 0} (P : ℕ → A → Type 0) (xs : List A) (i : ℕ) (x y : A) → slice_get xs i ≡ Some y → P i x →
    ((q : ℕ) (a : A) → q ≢ i → slice_get xs q ≡ Some a → P q a) → (q : ℕ) (b : A) → slice_get (set xs i x) q ≡ Some b → P q b
written_all P xs i x y at here others q b found = elim (cases_Bool (q == i)) [
  | inl t ↦
      let same : q ≡ i = eqb-true q i t in
      let is : x ≡ b = same_Some x b (sym (get_set_same xs i x y at) ∙ ap (slice_get (set xs i x)) (sym same) ∙ found) in
      written P q i x b (sym same) is here
  | inr f ↦
      let apart : q ≢ i = λ e. absurd (cc (f, eq-eqb q i e)) in
      others q b apart (sym (get_set_other xs i q x apart) ∙ found)
]
  where
    written : {A : Type 0} (P : ℕ → A → Type 0) (q i : ℕ) (x b : A) → i ≡ q → x ≡ b → P i x → P q b
    written P q i x b same is p = subst (P q) is (subst (λ k. P k x) same p)

module _ (actors : List Actor) (hs : List Happened) (are : AreActors actors hs) where
  module _ (place : ℕ) (a b : Actor) (low : place < length actors) (is : a ≡ get_or actors place a) where
    at_place : slice_get actors place ≡ Some a
    at_place = stands_at actors place a low is

    -- its next event was asked for
    pub next_at : (e : Event) → ((t : Task) (heard : List EventAnswer) → IsActor a t heard → ChoosesEvent b t heard e) →
        IsChosenAt (set actors place b) hs place e
    next_at e step =
        let next = step (task_at place) (answered_to (task_at place).pid hs) (are.each place a at_place) in
        record {
          actors_are = record {
            count = length-set actors place b ∙ are.count;
            each =
                written_all (λ q x. IsActor x (task_at q) (answered_to (task_at q).pid hs)) actors place b a at_place next.actor
                (λ q x apart found. are.each q x found);
          };
          event = next.event;
          none = λ x found.
              let same : b ≡ x = same_Some b x (sym (get_set_same actors place b a at_place) ∙ found) in
              ap (λ (y : Actor). y.told) (sym same) ∙ next.none;
        }

    -- it heard the answer to its event, and the others heard nothing
    pub hear_at : (h : Happened) (x : EventAnswer) →
        ((t : Task) (heard : List EventAnswer) → IsActor a t heard → IsActor b t (heard ++ x ∷ [])) →
        answered_in (task_at place).pid h ≡ x ∷ [] → ((q : ℕ) → q < 4 → q ≢ place → answered_in (task_at q).pid h ≡ []) →
        AreActors (set actors place b) (hs ++ h ∷ [])
    hear_at h x heard own others = record {
      count = length-set actors place b ∙ are.count;
      each =
          written_all (λ q y. IsActor y (task_at q) (answered_to (task_at q).pid (hs ++ h ∷ []))) actors place b a at_place
          (subst (IsActor b (task_at place))
          (sym (answered_more hs h (task_at place).pid ∙ ap (λ l. answered_to (task_at place).pid hs ++ l) own))
          (heard (task_at place) (answered_to (task_at place).pid hs) (are.each place a at_place)))
          (λ q y apart found.
          let within : q < length actors = slice_get_within actors q y found in
          let few : q < 4 = let count = are.count in omega (arith, within, count) in
          subst (IsActor y (task_at q))
          (sym (answered_more hs h (task_at q).pid ∙ ap (λ l. answered_to (task_at q).pid hs ++ l) (others q few apart)
          ∙ append-nil (answered_to (task_at q).pid hs)))
          (are.each q y found));
    }

  -- no process had an event
  pub quiet_at : (h : Happened) → ((q : ℕ) → answered_in (task_at q).pid h ≡ []) → AreActors actors (hs ++ h ∷ [])
  quiet_at h nothing = record {
    count = are.count;
    each = λ q y found.
        subst (IsActor y (task_at q))
        (sym (answered_more hs h (task_at q).pid ∙ ap (λ l. answered_to (task_at q).pid hs ++ l) (nothing q)
        ∙ append-nil (answered_to (task_at q).pid hs)))
        (are.each q y found);
  }
