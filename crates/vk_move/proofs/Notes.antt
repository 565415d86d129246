-- A process of which what it notes has changed.
use Rattle.std.proofs.Common.{◌≡◌, Bool, true, false, cond, List, [], ◌∷◌, refl, ap, sym, Some, None}
use Rattle.std.specs.List.{find}
use Rattle.std.proofs.lemmas.Option.{same_Some, none-some}
use Rattle.vk_base.specs.Firsts.{change_first}
use Rattle.vk_procs.specs.declared.seat.ProcNote.{ProcNote}
use Rattle.vk_procs.specs.declared.seat.Seat.{Seat}
use Rattle.vk_procs.specs.Seats.{noting}
use Rattle.vk_move.specs.Moved.{renoted}

module _ (p : Seat → Bool) (f : ProcNote → ProcNote) where
  with_by : (s x : Seat) (xs : List Seat) (b : Bool) →
      (find p xs ≡ Some s → change_first p (noting (f s.note)) xs ≡ change_first p (renoted f) xs) →
      cond b (Some x) (find p xs) ≡ Some s →
      cond b (noting (f s.note) x ∷ xs) (x ∷ change_first p (noting (f s.note)) xs) ≡ cond b (renoted f x ∷ xs)
      (x ∷ change_first p (renoted f) xs)
  with_by s x xs true again is = ap (λ (y : Seat). record x { note = f y.note } ∷ xs) (sym (same_Some x s is))
  with_by s x xs false again is = ap (λ ys. x ∷ ys) (again is)

  pub with_note : (s : Seat) (xs : List Seat) → find p xs ≡ Some s → change_first p (noting (f s.note)) xs ≡ change_first p (renoted f) xs
  with_note s [] is = refl
  with_note s (x ∷ xs) is = with_by s x xs (p x) (with_note s xs) is

  none_by : (g : Seat → Seat) (x : Seat) (xs : List Seat) (b : Bool) → (find p xs ≡ None → xs ≡ change_first p g xs) →
      cond b (Some x) (find p xs) ≡ None → (x ∷ xs) ≡ cond b (g x ∷ xs) (x ∷ change_first p g xs)
  none_by g x xs true again is = absurd (none-some x (sym is))
  none_by g x xs false again is = ap (λ ys. x ∷ ys) (again is)

  pub with_none : (g : Seat → Seat) (xs : List Seat) → find p xs ≡ None → xs ≡ change_first p g xs
  with_none g [] is = refl
  with_none g (x ∷ xs) is = none_by g x xs (p x) (with_none g xs) is
