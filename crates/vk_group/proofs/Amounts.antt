-- Which numbers stand in a list, and which members they are of.
use Rattle.std.proofs.Common.{◌≡◌, ◌≢◌, ℕ, Bool, true, false, ◌||◌, eqb, List, [], ◌∷◌, ◌++◌, Option, refl, ap, sym, subst, ◌∙◌, inl, inr}
use Rattle.std.specs.List.{IsDistinct}
use Rattle.std.specs.Cmp.{nat_eq_equiv}
use Rattle.std.proofs.lemmas.Bool.{eqb-true, eqb-false, eq-eqb, or_cases, or_left, or_right}
use Rattle.std.proofs.lemmas.List.Folds.{list_any-append}
use Rattle.std.proofs.lemmas.Map.Keys.{IsDistinct-push}
use Rattle.vk_base.proofs.BoolLemmas.{or_false}
use Rattle.vk_group.specs.declared.member.Member.{Member}
use Rattle.vk_group.specs.declared.member.Progress.{Progress}
use Rattle.vk_group.specs.Laws.{is_among}
use Rattle.vk_group.proofs.Works.{work_at}

pub among_self : (ns : List ℕ) (n : ℕ) → is_among (n ∷ ns) n ≡ true
among_self ns n = or_left (eqb n n) (is_among ns n) (eq-eqb n n refl)

-- one number more
among_more : (ns : List ℕ) (n i : ℕ) → is_among (ns ++ n ∷ []) i ≡ (is_among ns i || eqb i n)
among_more ns n i = list_any-append (eqb i) ns (n ∷ []) ∙ ap (λ b. is_among ns i || b) (or_false (eqb i n))

pub push_distinct : (ns : List ℕ) (n : ℕ) → IsDistinct eqb ns → is_among ns n ≡ false → IsDistinct eqb (ns ++ n ∷ [])
push_distinct ns n apart new = IsDistinct-push nat_eq_equiv ns n apart new

-- the numbers are those of the members with which it is so
abbrev pub AreThose : (Option Progress → Bool) → List ℕ → List Member → Type 0
AreThose was ns ms = (i : ℕ) → is_among ns i ≡ was (work_at ms i)

-- the others are as they were
abbrev pub AreAlike : List Member → List Member → ℕ → Type 0
AreAlike ms new n = (i : ℕ) → i ≢ n → work_at new i ≡ work_at ms i

more_by : (was : Option Progress → Bool) (ns : List ℕ) (n i : ℕ) (ms new : List Member) (b : Bool) → eqb i n ≡ b → AreAlike ms new n →
    was (work_at new n) ≡ true → AreThose was ns ms → is_among (ns ++ n ∷ []) i ≡ was (work_at new i)
more_by was ns n i ms new true e alike now those =
    among_more ns n i ∙ or_right (is_among ns i) (eqb i n) e ∙ sym now ∙ ap (λ k. was (work_at new k)) (sym (eqb-true i n e))
more_by was ns n i ms new false e alike now those =
    among_more ns n i ∙ ap (λ b. is_among ns i || b) e ∙ or_false (is_among ns i) ∙ those i ∙ ap was (sym (alike i (eqb-false i n e)))

pub one_more : (was : Option Progress → Bool) (ns : List ℕ) (n : ℕ) (ms new : List Member) → AreAlike ms new n → was (work_at new n) ≡ true →
    AreThose was ns ms → AreThose was (ns ++ n ∷ []) new
one_more was ns n ms new alike now those i = more_by was ns n i ms new (eqb i n) refl alike now those

still_by : (was : Option Progress → Bool) (ns : List ℕ) (n i : ℕ) (ms new : List Member) (b : Bool) → eqb i n ≡ b → AreAlike ms new n →
    was (work_at new n) ≡ was (work_at ms n) → AreThose was ns ms → is_among ns i ≡ was (work_at new i)
still_by was ns n i ms new true e alike same those =
    those i ∙ ap (λ k. was (work_at ms k)) (eqb-true i n e) ∙ sym same ∙ ap (λ k. was (work_at new k)) (sym (eqb-true i n e))
still_by was ns n i ms new false e alike same those = those i ∙ ap was (sym (alike i (eqb-false i n e)))

-- no number more
pub still : (was : Option Progress → Bool) (ns : List ℕ) (n : ℕ) (ms new : List Member) → AreAlike ms new n →
    was (work_at new n) ≡ was (work_at ms n) → AreThose was ns ms → AreThose was ns new
still was ns n ms new alike same those i = still_by was ns n i ms new (eqb i n) refl alike same those

-- what holds of each number, and of one more
pub more_among : (P : ℕ → Type 0) (ns : List ℕ) (n q : ℕ) → ((k : ℕ) → is_among ns k ≡ true → P k) → P n →
    is_among (ns ++ n ∷ []) q ≡ true → P q
more_among P ns n q each last e =
    elim (or_cases (is_among ns q) (eqb q n) (sym (among_more ns n q) ∙ e)) [
      | inl before ↦ each q before
      | inr same ↦ subst P (sym (eqb-true q n same)) last
    ]
