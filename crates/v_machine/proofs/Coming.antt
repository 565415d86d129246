-- The Sends of a process, where one comes to a queue and earlier ones are dropped.
use Rattle.std.proofs.Common.{◌≡◌, ℕ, ◌+◌, ◌<◌, ◌≤◌, true, false, cond, ◌==◌, ◌&&◌, nat_le, nat_lt, List, Option, Some, None, option_map, refl, sym, ap, ◌∙◌, inl, inr, ◌⊎◌, arith}
use Rattle.std.proofs.lemmas.Bool.{cases_Bool, both_ways, eqb-true, eq-eqb, le-leb, lt-ltb, le-ltb, and_right, cond-true, cond-false}
use Rattle.std.proofs.lemmas.Bool.Decides.{nat_tests}
use Rattle.vk_types.specs.Types.{Exchange}
use Rattle.vk_base.specs.declared.kernel.Stage.TheVariants as stages
use Rattle.vk_base.proofs.OptionLemmas.{map_map}
use Rattle.v_machine.specs.Lists.{change_numbered}
use Rattle.v_machine.specs.Places.{numbered}
use Rattle.v_machine.specs.Sends.{at_stage, dropped_to, dropped_between, come_at}
use Rattle.v_machine.proofs.TableLemmas.{numbered-change, numbered-change_other}

map_same : {A B : Type 0} (f g : A → B) (o : Option A) → ((x : A) → f x ≡ g x) → option_map f o ≡ option_map g o
map_same f g None same = refl
map_same f g (Some x) same = ap Some (same x)

-- outside of the range nothing is dropped
outside : (low high host n : ℕ) (s : Exchange) → high ≤ n → dropped_between low high host n s ≡ s
outside low high host n s far =
    cond-false (nat_le low n && nat_lt n high) (dropped_to host s) s (and_right (nat_le low n) (nat_lt n high) (le-ltb n high far))

inside : (low high host n : ℕ) (s : Exchange) → low ≤ n → n < high → dropped_between low high host n s ≡ dropped_to host s
inside low high host n s over under =
    cond-true (nat_le low n && nat_lt n high) (dropped_to host s) s (λ i. le-leb low n over i && lt-ltb n high under i)

further : (low high host n : ℕ) (s : Exchange) → (n ≡ high → ⊥) →
    dropped_between low high host n s ≡ dropped_between low (high + 1) host n s
further low high host n s apart = ap (λ b. cond (nat_le low n && b) (dropped_to host s) s) (same_test (cases_Bool (nat_lt n high)))
  where
    same_test : (nat_lt n high ≡ true) ⊎ (nat_lt n high ≡ false) → nat_lt n high ≡ nat_lt n (high + 1)
    same_test t = grind (arith, nat_tests)

pub dropped_more : (low at host : ℕ) (old before after : List Exchange) → low ≤ at → after ≡ change_numbered at (dropped_to host) before →
    ((n : ℕ) → numbered before n ≡ option_map (dropped_between low at host n) (numbered old n)) → (n : ℕ) →
    numbered after n ≡ option_map (dropped_between low (at + 1) host n) (numbered old n)
dropped_more low at host old before after over changed so_far n = elim (cases_Bool (n == at)) [
  | inl t ↦
      let one : n ≡ at = eqb-true n at t in
      ap (λ m. numbered after m) one
      ∙ ap (λ l. numbered l at) changed
      ∙ numbered-change (dropped_to host) at before
      ∙ ap (option_map (dropped_to host)) (so_far at)
      ∙ map_map (dropped_between low at host at) (dropped_to host) (numbered old at)
      ∙ map_same (λ s. dropped_to host (dropped_between low at host at s)) (dropped_between low (at + 1) host at) (numbered old at)
      (λ s. ap (dropped_to host) (outside low at host at s (omega arith)) ∙ sym (inside low (at + 1) host at s over (omega arith)))
      ∙ ap (λ m. option_map (dropped_between low (at + 1) host m) (numbered old m)) (sym one)
  | inr f ↦
      let apart : n ≡ at → ⊥ = λ e. both_ways (n == at) f (eq-eqb n at e) in
      ap (λ l. numbered l n) changed
      ∙ numbered-change_other (dropped_to host) at n before apart
      ∙ so_far n
      ∙ map_same (dropped_between low at host n) (dropped_between low (at + 1) host n) (numbered old n) (λ s. further low at host n s apart)
]

pub come_is : (latest number host : ℕ) (old before after : List Exchange) → after ≡ change_numbered number (at_stage stages.Queued) before →
    ((n : ℕ) → numbered before n ≡ option_map (dropped_between latest number host n) (numbered old n)) → (n : ℕ) →
    numbered after n ≡ option_map (come_at latest number host n) (numbered old n)
come_is latest number host old before after changed dropped n = elim (cases_Bool (n == number)) [
  | inl t ↦
      let one : n ≡ number = eqb-true n number t in
      ap (λ m. numbered after m) one
      ∙ ap (λ l. numbered l number) changed
      ∙ numbered-change (at_stage stages.Queued) number before
      ∙ ap (option_map (at_stage stages.Queued)) (dropped number)
      ∙ map_map (dropped_between latest number host number) (at_stage stages.Queued) (numbered old number)
      ∙ map_same (λ s. at_stage stages.Queued (dropped_between latest number host number s)) (come_at latest number host number)
      (numbered old number)
      (λ s. ap (at_stage stages.Queued) (outside latest number host number s (omega arith))
      ∙ sym (cond-true (number == number) (at_stage stages.Queued s) (dropped_between latest number host number s)
      (eq-eqb number number refl)))
      ∙ ap (λ m. option_map (come_at latest number host m) (numbered old m)) (sym one)
  | inr f ↦
      let apart : n ≡ number → ⊥ = λ e. both_ways (n == number) f (eq-eqb n number e) in
      ap (λ l. numbered l n) changed
      ∙ numbered-change_other (at_stage stages.Queued) number n before apart
      ∙ dropped n
      ∙ map_same (dropped_between latest number host n) (come_at latest number host n) (numbered old n)
      (λ s. sym (cond-false (n == number) (at_stage stages.Queued s) (dropped_between latest number host n s) f))
]
