-- A list whose last elements are put in the place of the first.
use Rattle.std.proofs.Common.{◌≡◌, ℕ, zero, suc, ◌+◌, ◌<◌, ◌≤◌, List, [], ◌∷◌, drop, take, length, refl, sym, ap, ◌∙◌, inl, inr, arith}
use Rattle.std.specs.List.{slice_get}
use Rattle.std.proofs.lemmas.Bool.{cases_lt}
use Rattle.std.proofs.lemmas.List.{length-drop, length-take}
use Rattle.std.proofs.lemmas.Option.{none-some, same_Some, slice_get_past}

pub get_drop : {X : Type 0} (m at : ℕ) (xs : List X) → slice_get (drop m xs) at ≡ slice_get xs (m + at)
get_drop zero at xs = let same : at ≡ 0 + at = omega arith in ap (slice_get xs) same
get_drop (suc m) at [] = refl
get_drop (suc m) at (x ∷ xs) = let same : suc m + at ≡ suc (m + at) = omega arith in get_drop m at xs ∙ ap (slice_get (x ∷ xs)) (sym same)

get_take : {X : Type 0} (n at : ℕ) (xs : List X) → at < n → slice_get (take n xs) at ≡ slice_get xs at
get_take zero at xs low = absurd (omega arith)
get_take (suc n) at [] low = refl
get_take (suc n) zero (x ∷ xs) low = refl
get_take (suc n) (suc at) (x ∷ xs) low = get_take n at xs (omega arith)

same_lists : {X : Type 0} (xs ys : List X) → ((at : ℕ) → slice_get xs at ≡ slice_get ys at) → xs ≡ ys
same_lists [] [] same = refl
same_lists [] (y ∷ ys) same = absurd (none-some y (same 0))
same_lists (x ∷ xs) [] same = absurd (none-some x (sym (same 0)))
same_lists (x ∷ xs) (y ∷ ys) same =
    let first = same_Some x y (same 0) in
    let rest = same_lists xs ys (λ at. same (suc at)) in
    λ i. first i ∷ rest i

-- the first places, up to one, have what stood so many places later, and what stands that far behind them is as it was
pub record IsShifted {X : Type 0} (count at : ℕ) (old new : List X) : Type 0 where
  pub length : length new ≡ length old
  pub low : (k : ℕ) → k < at → slice_get new k ≡ slice_get old (count + k)
  pub high : (k : ℕ) → count + at ≤ k → slice_get new k ≡ slice_get old k

pub shifted_all : {X : Type 0} (count at : ℕ) (old new : List X) → count + at ≡ length old → IsShifted count at old new →
    take at new ≡ drop count old
shifted_all count at old new all shifted = same_lists (take at new) (drop count old) (λ k. elim (cases_lt k at) [
  | inl less ↦ get_take at k new less ∙ shifted.low k less ∙ sym (get_drop count k old)
  | inr more ↦
      let taken = length-take at new in
      let dropped = length-drop count old in
      let long = shifted.length in
      slice_get_past (take at new) k (omega arith) ∙ sym (slice_get_past (drop count old) k (omega arith))
])
