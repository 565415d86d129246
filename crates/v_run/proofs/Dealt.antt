-- Numbers of seats: each number that entered anything stands once among those of the seats.
use Rattle.std.proofs.Common.{◌≡◌, ℕ, ◌==◌, ◌||◌, eq-eqb, eqb, Bool, true, false, List, [], ◌∷◌, cond, refl, ap, inl, inr}
use Rattle.std.specs.List.{AllByRecursion, IsDistinct, list_any}
use Rattle.std.proofs.lemmas.Bool.{cases_Bool}
use Rattle.std.proofs.lemmas.Map.Keys.{IsDistinct-head, IsDistinct-tail}
use Rattle.turn_cell.specs.History.{events_of}
use Rattle.vk_cluster.proofs.Stations.{Apart}
use Rattle.v_run.proofs.Once.{other_way, there}
use Rattle.v_run.proofs.Totals.{AllOnce}

not_there : (n : ℕ) (ns : List ℕ) → AllByRecursion (λ k. eqb n k ≡ false) ns → list_any (λ k. k == n) ns ≡ false
not_there n [] others = refl
not_there n (k ∷ ns) others = by (k == n) (list_any (λ i. i == n) ns) (other_way k n others.0 (k == n) refl) (not_there n ns others.1)
  where
    by : (a b : Bool) → a ≡ false → b ≡ false → (a || b) ≡ false
    by true b one two = absurd (cc one)
    by false b one two = two

apart : (ns : List ℕ) → IsDistinct eqb ns → Apart ns
apart [] distinct = tt
apart (n ∷ ns) distinct = (not_there n ns (IsDistinct-head eqb n ns distinct), apart ns (IsDistinct-tail eqb n ns distinct))

module _ {E : Type 0} where
  some_event : (k : ℕ) (e : E) (es : List E) → cond (k == k) (e ∷ es) es ≡ [] → ⊥
  some_event k e es none = cc (ap (λ b. cond b (e ∷ es) es) (eq-eqb k k refl), none)

  nothing_by : (b : Bool) (e : E) (es : List E) → cond b (e ∷ es) es ≡ [] → es ≡ []
  nothing_by true e es none = absurd (cc none)
  nothing_by false e es none = none

  pub all_once : (ns : List ℕ) (xs : List (ℕ × E)) → IsDistinct eqb ns
      → ((k : ℕ) → list_any (λ n. n == k) ns ≡ false → events_of k xs ≡ []) → AllOnce ns xs
  all_once ns [] distinct known = tt
  all_once ns (x ∷ xs) distinct known = (
    elim (cases_Bool (list_any (λ n. n == x.0) ns)) [
      | inl t ↦ (λ m. there x.0 m ns (apart ns distinct) t)
      | inr f ↦ absurd (some_event x.0 x.1 (events_of x.0 xs) (known x.0 f))
    ],
    all_once ns xs distinct (λ k none. nothing_by (x.0 == k) x.1 (events_of k xs) (known k none)),
  )
