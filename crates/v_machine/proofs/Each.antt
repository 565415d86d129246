-- Changes of a list place by place.
use Rattle.std.proofs.Common.{◌≡◌, ℕ, ◌+◌, ◌<◌, ◌==◌, nat_lt, List, length, get_or, set, Some, sym, ap, subst, ◌∙◌, inl, inr, arith}
use Rattle.std.proofs.lemmas.Bool.{cases_Bool, both_ways, eq-eqb, eqb-true, ltb-true, ltb-false}
use Rattle.std.proofs.lemmas.Option.{same_Some, slice_get-get_or}
use Rattle.std.specs.List.{slice_get}
use Rattle.v_machine.specs.Lists.{Each, Until}
use Rattle.v_machine.proofs.PlaceLemmas.{get-set_same, get-set_other}
use Rattle.v_machine.proofs.TableLemmas.{get_low}

module _ {X : Type 0} (Becomes : ℕ → X → X → Type 0) (xs : List X) where
  pub each_next : (ys : List X) (at : ℕ) (d new : X) → Each (Until at Becomes) xs ys → at < length ys → Becomes at (get_or ys at d) new →
      Each (Until (at + 1) Becomes) xs (set ys at new)
  each_next ys at d new each low becomes to x is = elim (cases_Bool (to == at)) [
    | inl t ↦
        let same : to ≡ at = eqb-true to at t in
        let was = each to x is in
        let kept : was.0 ≡ x = was.2.1 (omega arith) in
        let one : get_or ys at d ≡ x =
        same_Some (get_or ys at d) x (sym (slice_get-get_or ys at d low) ∙ ap (slice_get ys) (sym same) ∙ was.1 ∙ ap Some kept) in (
          new,
          ap (slice_get (set ys at new)) same ∙ get-set_same ys at new low,
          (λ below. subst (λ i. Becomes i x new) (sym same) (subst (λ z. Becomes at z new) one becomes), λ far. absurd (omega arith)),
        )
    | inr f ↦
        let apart : to ≡ at → ⊥ = λ e. both_ways (to == at) f (eq-eqb to at e) in
        let was = each to x is in
        (was.0, get-set_other ys at to new apart ∙ was.1, (λ below. was.2.0 (below_last to at below apart), λ far. was.2.1 (omega arith)))
  ]
    where
      below_last : (to at : ℕ) → to < at + 1 → (to ≡ at → ⊥) → to < at
      below_last to at below apart = elim (cases_Bool (nat_lt to at)) [
        | inl t ↦ ltb-true to at t
        | inr f ↦ absurd (apart (let far = ltb-false to at f in omega arith))
      ]

  pub each_all : (ys : List X) (high : ℕ) → high ≡ length xs → Each (Until high Becomes) xs ys → Each Becomes xs ys
  each_all ys high whole each at x is =
      let low = get_low xs at x is in
      let was = each at x is in
      (was.0, was.1, was.2.0 (omega arith))

pub each_between : {X : Type 0} (Becomes : ℕ → X → X → Type 0) (xs xs' ys ys' : List X) → xs ≡ xs' → ys ≡ ys' → Each Becomes xs ys →
    Each Becomes xs' ys'
each_between Becomes xs xs' ys ys' before after each = subst (λ zs. Each Becomes zs ys') before (subst (Each Becomes xs) after each)
