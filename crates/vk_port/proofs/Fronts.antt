-- Beginnings of lists, and the elements of a list that grows.
use Rattle.std.proofs.Common.{◌≡◌, List, [], ◌∷◌, ◌++◌, refl, sym, ap, ◌∙◌, append_assoc, ◌⊎◌, inl, inr}
use mathlib.Core.List.{IsPrefix}

module _ {A : Type 0} where
  pub prefix_over : (xs ys zs : List A) → IsPrefix xs ys → IsPrefix ys zs → IsPrefix xs zs
  prefix_over xs ys zs p q = (p.0 ++ q.0, sym (append_assoc xs p.0 q.0) ∙ ap (λ l. l ++ q.0) p.1 ∙ q.1)

  abbrev head_of : A → List A → A
  head_of d [] = d
  head_of d (x ∷ xs) = x

  abbrev tail_of : List A → List A
  tail_of [] = []
  tail_of (x ∷ xs) = xs

  heads : (x y : A) (xs ys : List A) → x ∷ xs ≡ y ∷ ys → x ≡ y
  heads x y xs ys e = ap (head_of x) e

  tails : (x y : A) (xs ys : List A) → x ∷ xs ≡ y ∷ ys → xs ≡ ys
  tails x y xs ys e = ap tail_of e

  none_more : (xs : List A) (x : A) (ys : List A) → [] ≡ xs ++ x ∷ ys → ⊥
  none_more [] x ys e = cc
  none_more (y ∷ xs) x ys e = cc

  -- an element of a list that grew is one of it, or the new one
  pub grown : (xs before rest : List A) (new x : A) → xs ++ new ∷ [] ≡ before ++ x ∷ rest →
      ((more : List A) × (xs ≡ before ++ x ∷ more)) ⊎ ((before ≡ xs) × (x ≡ new))
  grown [] [] rest new x e = inr (refl, sym (heads new x [] rest e))
  grown [] (b ∷ bs) rest new x e = absurd (none_more bs x rest (tails new b [] (bs ++ x ∷ rest) e))
  grown (y ∷ ys) [] rest new x e = inl (ys, ap (λ z. z ∷ ys) (heads y x (ys ++ new ∷ []) rest e))
  grown (y ∷ ys) (b ∷ bs) rest new x e = elim (grown ys bs rest new x (tails y b (ys ++ new ∷ []) (bs ++ x ∷ rest) e)) [
    | inl there ↦
        inl (there.0, (λ i. heads y b (ys ++ new ∷ []) (bs ++ x ∷ rest) e i ∷ there.1 i))
    | inr last ↦
        inr ((λ i. sym (heads y b (ys ++ new ∷ []) (bs ++ x ∷ rest) e) i ∷ last.0 i), last.1)
  ]
