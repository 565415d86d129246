-- Lists with one element changed, by its number.
use Rattle.std.proofs.Common.{◌≡◌, ℕ, zero, suc, List, [], ◌∷◌, slice_set, slice_get, Some, None, refl, sym, ap, ◌∙◌}
use Rattle.std.proofs.lemmas.Option.{same_Some, none-some}
use Rattle.v_machine.specs.Lists.{change_at, change_numbered}
use Rattle.v_machine.specs.Places.{numbered, index_of}

module _ {X : Type 0} (f : X → X) where
  change_at-set : (xs : List X) (at : ℕ) (x v : X) → Some x ≡ slice_get xs at → v ≡ f x → slice_set xs at v ≡ change_at at f xs
  change_at-set [] at x v is e = refl
  change_at-set (y ∷ xs) zero x v is e = ap (λ z. z ∷ xs) (e ∙ ap f (same_Some x y is))
  change_at-set (y ∷ xs) (suc at) x v is e = ap (λ ys. y ∷ ys) (change_at-set xs at x v is e)

  change_at-none : (xs : List X) (at : ℕ) → None ≡ slice_get xs at → xs ≡ change_at at f xs
  change_at-none [] at is = refl
  change_at-none (y ∷ xs) zero is = absurd (none-some y is)
  change_at-none (y ∷ xs) (suc at) is = ap (λ ys. y ∷ ys) (change_at-none xs at is)

  pub change_numbered-set : (number : ℕ) (xs : List X) (x v : X) → Some x ≡ numbered xs number → v ≡ f x →
      slice_set xs (index_of number) v ≡ change_numbered number f xs
  change_numbered-set zero xs x v is e = absurd (none-some x (sym is))
  change_numbered-set (suc n) xs x v is e = change_at-set xs n x v is e

  pub change_numbered-none : (number : ℕ) (xs : List X) → None ≡ numbered xs number → xs ≡ change_numbered number f xs
  change_numbered-none zero xs is = refl
  change_numbered-none (suc n) xs is = change_at-none xs n is

set_at-same : {X : Type 0} (xs : List X) (at : ℕ) (x v : X) → Some x ≡ slice_get xs at → v ≡ x → slice_set xs at v ≡ xs
set_at-same [] at x v is same = refl
set_at-same (y ∷ xs) zero x v is same = ap (λ z. z ∷ xs) (same ∙ same_Some x y is)
set_at-same (y ∷ xs) (suc at) x v is same = ap (λ ys. y ∷ ys) (set_at-same xs at x v is same)

pub set_numbered-same : {X : Type 0} (number : ℕ) (xs : List X) (x v : X) → Some x ≡ numbered xs number → v ≡ x →
    slice_set xs (index_of number) v ≡ xs
set_numbered-same zero xs x v is same = absurd (none-some x (sym is))
set_numbered-same (suc n) xs x v is same = set_at-same xs n x v is same

pub ruleset changes = (change_numbered-set, change_numbered-none)
