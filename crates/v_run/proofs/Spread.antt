-- Seats that are spread over several cells: each has the host of its cell and a number there.
use Rattle.std.proofs.Common.{◌≡◌, ℕ, ◌==◌, List, [], ◌∷◌, cond, refl, sym, ◌∙◌, arith}
use Rattle.v_run.proofs.Totals.{IsOnce, added, added_sum, added_none}

pub added_swap : {A B : Type 0} (f : A → B → ℕ) (xs : List A) (ys : List B)
    → added (λ x. added (f x) ys) xs ≡ added (λ y. added (λ x. f x y) xs) ys
added_swap f [] ys = sym (added_none (λ y. 0) ys (λ y. refl))
added_swap f (x ∷ xs) ys =
    let t = added_swap f xs ys in let s = added_sum (λ y. f x y) (λ y. added (λ z. f z y) xs) ys in omega arith

abbrev pub AllStandOnce : {G : Type 0} → (G → ℕ) → List ℕ → List G → Type 0
AllStandOnce host hs [] = Unit {0}
AllStandOnce host hs (g ∷ gs) = IsOnce hs (host g) × AllStandOnce host hs gs

once_each : {G : Type 0} (host f : G → ℕ) (hs : List ℕ) (gs : List G) → AllStandOnce host hs gs
    → added (λ g. added (λ h. cond (host g == h) (f g) 0) hs) gs ≡ added f gs
once_each host f hs [] once = refl
once_each host f hs (g ∷ gs) once = let one = once.0 (f g) in let rest = once_each host f hs gs once.1 in omega arith

-- what all do is what those of each host do, added up
pub by_hosts : {G : Type 0} (host f : G → ℕ) (hs : List ℕ) (gs : List G) → AllStandOnce host hs gs
    → added (λ h. added (λ g. cond (host g == h) (f g) 0) gs) hs ≡ added f gs
by_hosts host f hs gs once = added_swap (λ h g. cond (host g == h) (f g) 0) hs gs ∙ once_each host f hs gs once
