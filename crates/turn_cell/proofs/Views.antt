-- Numbers belong to one seat each, also after a step.
use Rattle.std.proofs.Common.{◌≡◌, ◌≢◌, ℕ, zero, suc, ◌<◌, List, [], ◌∷◌, ◌++◌, length, set, refl, sym, ap, ◌∙◌, subst, arith, ◌⊎◌, ⊎_elim, inl, inr}
use mathlib.Core.Option.{some, some-injective, some-ne-none}
use lib.ListN.{get_elem?}
use Rattle.atomic_table.proofs.Lists.{at_set}

-- the last element, or one before it
at_end : {A : Type 0} (l : List A) (a b : A) (j : ℕ) → get_elem? (l ++ a ∷ []) j ≡ some b
    → (get_elem? l j ≡ some b) ⊎ ((j ≡ length l) × (a ≡ b))
at_end [] a b zero e = inr (refl, some-injective a b e)
at_end [] a b (suc j) e = absurd (some-ne-none b (sym e))
at_end (x ∷ xs) a b zero e = inl e
at_end (x ∷ xs) a b (suc j) e = ⊎_elim (λ before. inl before) (λ last. inr (ap suc last.0, last.1)) (at_end xs a b j e)

pub at_inside : {A : Type 0} (l : List A) (i : ℕ) (a : A) → get_elem? l i ≡ some a → i < length l
at_inside [] i a e = absurd (some-ne-none a (sym e))
at_inside (x ∷ xs) zero a e = omega arith
at_inside (x ∷ xs) (suc i) a e = let below = at_inside xs i a e in omega arith

module _ {V : Type 0} where
  abbrev Each : (ℕ → V → Type 0) → List V → Type 0
  Each P views = (j : ℕ) (d : V) → get_elem? views j ≡ some d → P j d

  same_place : (P : ℕ → V → Type 0) (i j : ℕ) (w d : V) → j ≡ i → w ≡ d → P i w → P j d
  same_place P i j w d at is holds = subst (λ (x : ℕ × V). P x.0 x.1) (λ k. (sym at k, is k)) holds

  -- what holds of a new view and of the others
  pub each_set : (P : ℕ → V → Type 0) (views : List V) (id : ℕ) (w : V) → P id w
      → ((j : ℕ) (d : V) → j ≢ id → get_elem? views j ≡ some d → P j d) → Each P (set views id w)
  each_set P views id w mine others j d e = ⊎_elim
      (λ (t : (j ≡ id) × (w ≡ d)). same_place P id j w d t.0 t.1 mine)
      (λ (t : (j ≢ id) × (get_elem? views j ≡ some d)). others j d t.0 t.1)
      (at_set views id j w d e)

  pub each_end : (P : ℕ → V → Type 0) (views : List V) (w : V) → P (length views) w → Each P views → Each P (views ++ w ∷ [])
  each_end P views w mine others j d e = ⊎_elim
      (λ before. others j d before)
      (λ (t : (j ≡ length views) × (w ≡ d)). same_place P (length views) j w d t.0 t.1 mine)
      (at_end views w d j e)

-- `Owns v k`: the number k belongs to the seat whose view is v
module _ {V : Type 0} (Owns : V → ℕ → Type 0) where
  abbrev pub Apart : List V → Type 0
  Apart views = (i j k : ℕ) (v w : V) → get_elem? views i ≡ some v → get_elem? views j ≡ some w → Owns v k → Owns w k → i ≡ j

  -- the seat i had the number before a step
  abbrev Had : List V → ℕ → ℕ → Type 0
  Had views k i = (b : V) × (get_elem? views i ≡ some b) × Owns b k

  one_had : (views : List V) → Apart views → (k i j : ℕ) → Had views k i → Had views k j → i ≡ j
  one_had views apart k i j p q = apart i j k p.0 q.0 p.1 q.1 p.2 q.2

  pub apart_set : (views : List V) (id : ℕ) (v w : V) → Apart views → get_elem? views id ≡ some v → ((k : ℕ) → Owns w k → Owns v k)
      → Apart (set views id w)
  apart_set views id v w apart at fewer i j k a b ati atj oa ob =
      let had = each_set (λ (i : ℕ) (d : V). Owns d k → Had views k i) views id w
      (λ owns. (v, at, fewer k owns)) (λ j d _ e owns. (d, e, owns)) in
      one_had views apart k i j (had i a ati oa) (had j b atj ob)

  pub apart_end : (views : List V) (w : V) → Apart views → ((k i : ℕ) (v : V) → get_elem? views i ≡ some v → Owns v k → ¬ Owns w k)
      → Apart (views ++ w ∷ [])
  apart_end views w apart none i j k a b ati atj oa ob = ⊎_elim
      (λ i_before. ⊎_elim
      (λ j_before. apart i j k a b i_before j_before oa ob)
      (λ (t : (j ≡ length views) × (w ≡ b)). absurd (none k i a i_before oa (subst (λ (d : V). Owns d k) (sym t.1) ob)))
      (at_end views w b j atj))
      (λ (s : (i ≡ length views) × (w ≡ a)). ⊎_elim
      (λ j_before. absurd (none k j b j_before ob (subst (λ (d : V). Owns d k) (sym s.1) oa)))
      (λ (t : (j ≡ length views) × (w ≡ b)). s.0 ∙ sym t.0)
      (at_end views w b j atj))
      (at_end views w a i ati)

  -- the seat i is not the other, and had the number or is the one that takes over what the other had
  abbrev Has : List V → ℕ → ℕ → ℕ → ℕ → Type 0
  Has views id other k i = (i ≢ other) × (Had views k i ⊎ ((i ≡ id) × Had views k other))

  one_has : (views : List V) → Apart views → (id other k i j : ℕ) → Has views id other k i → Has views id other k j → i ≡ j
  one_has views apart id other k i j p q =
      let only = one_had views apart k in
      ⊎_elim
      (λ (x : Had views k i). ⊎_elim
      (λ (y : Had views k j). only i j x y)
      (λ (y : (j ≡ id) × Had views k other). absurd (p.0 (only i other x y.1))) q.1)
      (λ (x : (i ≡ id) × Had views k other). ⊎_elim
      (λ (y : Had views k j). absurd (q.0 (only j other y x.1)))
      (λ (y : (j ≡ id) × Had views k other). x.0 ∙ sym y.0) q.1)
      p.1

  -- one seat takes over the numbers of another, which keeps none
  pub apart_joined : (views : List V) (id other : ℕ) (v w both gone : V) → Apart views → get_elem? views id ≡ some v
      → get_elem? views other ≡ some w → other ≢ id → ((k : ℕ) → Owns both k → Owns v k ⊎ Owns w k) → ((k : ℕ) → ¬ Owns gone k)
      → Apart (set (set views id both) other gone)
  apart_joined views id other v w both gone apart at there differ shares none i j k a b ati atj oa ob =
      let had = each_set (λ (i : ℕ) (d : V). Owns d k → Had views k i ⊎ ((i ≡ id) × Had views k other)) views id both
      (λ has. ⊎_elim (λ old. inl (v, at, old)) (λ new. inr (refl, (w, there, new))) (shares k has))
      (λ j d _ e has. inl (d, e, has)) in
      let has = each_set (λ (i : ℕ) (d : V). Owns d k → Has views id other k i) (set views id both) other gone
      (λ owns. absurd (none k owns)) (λ j d away e owns. (away, had j d e owns)) in
      one_has views apart id other k i j (has i a ati oa) (has j b atj ob)
