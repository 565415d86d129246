-- One more entry in a hub's history.
use Rattle.std.proofs.Common.{◌≡◌, ℕ, ◌+◌, ◌<◌, ◌≤◌, ◌||◌, Bool, true, false, List, [], ◌∷◌, ◌++◌, nat_le, cond, not, refl, sym, ap, ◌∙◌, subst, arith, length-append}
use mir.Val.{bool_byte}
use Rattle.std.proofs.lemmas.Bool.Decides.{nat_tests}
use Rattle.vk_hub.specs.Hubs.{Traffic, changed, first_traffic, has_halt, is_at_limit, is_halt, others, traffic_after}
use Rattle.vk_hub.specs.Kept.{IsHubKept}
use Rattle.vk_schedule.specs.declared.plan.LinkPlan.{LinkPlan}
use Rattle.vk_hub.specs.declared.event.HubEvent.{HubEvent}
use Rattle.vk_hub.specs.declared.event.HubEvent.TheVariants.{Post, Fetch, Finished, Halt}

pub traffic_more : (plan : LinkPlan) (n k : ℕ) (e : HubEvent) (t : Traffic) (xs : List (ℕ × HubEvent))
    → traffic_after plan n t (xs ++ (k, e) ∷ []) ≡ changed plan n (traffic_after plan n t xs) e
traffic_more plan n k e t [] = refl
traffic_more plan n k e t (x ∷ xs) = traffic_more plan n k e (changed plan n t x.1) xs

pub or_true : (b : Bool) → b || true ≡ true
or_true true = refl
or_true false = refl

pub or_false : (b : Bool) → b || false ≡ b
or_false true = refl
or_false false = refl

or_more : (a b c d : Bool) → d ≡ b || c → a || d ≡ (a || b) || c
or_more true b c d is = refl
or_more false b c d is = is

pub halts_more : (k : ℕ) (e : HubEvent) (xs : List (ℕ × HubEvent)) → has_halt (xs ++ (k, e) ∷ []) ≡ has_halt xs || is_halt e
halts_more k e [] = or_false (is_halt e)
halts_more k e (x ∷ xs) = or_more (is_halt x.1) (has_halt xs) (is_halt e) (has_halt (xs ++ (k, e) ∷ [])) (halts_more k e xs)

others_step : (a : Bool) (b c d : ℕ) → d ≡ b + c → cond a d (d + 1) ≡ cond a b (b + 1) + c
others_step true b c d is = is
others_step false b c d is = omega arith

others_more : (k : ℕ) (e : HubEvent) (xs : List (ℕ × HubEvent)) → others (xs ++ (k, e) ∷ []) ≡ others xs + cond (is_halt e) 0 1
others_more k Halt [] = refl
others_more k (Post f) [] = refl
others_more k (Fetch h) [] = refl
others_more k Finished [] = refl
others_more k e (x ∷ xs) = others_step (is_halt x.1) (others xs) (cond (is_halt e) 0 1) (others (xs ++ (k, e) ∷ [])) (others_more k e xs)

-- what an entry adds to a count of those that are no halt
pub counts_one : (b : Bool) → bool_byte (not b) ≡ cond {A = ℕ} b 0 1
counts_one true = refl
counts_one false = refl

below_limit : (n : ℕ) → nat_le 200000 n ≡ false → n < 200000
below_limit n e = grind (arith, nat_tests)

module _ (plan : LinkPlan) (stations : List ℕ) (n k : ℕ) (t : Traffic) (xs : List (ℕ × HubEvent)) (counted : ℕ)
    (kept : IsHubKept plan stations n t xs counted) where
  abbrev Next : HubEvent → Type 0
  Next e = IsHubKept plan stations n (changed plan n t e) (xs ++ (k, e) ∷ []) (counted + cond (is_halt e) 0 1)

  replayed_more : (e : HubEvent) → changed plan n t e ≡ traffic_after plan n (first_traffic plan stations) (xs ++ (k, e) ∷ [])
  replayed_more e = ap (λ u. changed plan n u e) kept.replayed ∙ sym (traffic_more plan n k e (first_traffic plan stations) xs)

  counted_more : (e : HubEvent) → counted + cond (is_halt e) 0 1 ≡ others (xs ++ (k, e) ∷ [])
  counted_more e = ap (λ m. m + cond (is_halt e) 0 1) kept.same_count ∙ sym (others_more k e xs)

  -- an entry that is no halt
  plain : (e : HubEvent) → is_halt e ≡ false → (changed plan n t e).halted ≡ t.halted → (changed plan n t e).finished ≤ t.finished + 1
      → is_at_limit xs e ≡ false → Next e
  plain e no_halt halted finished grows =
      let test : nat_le 200000 (others xs) ≡ false = subst (λ b. cond b (has_halt xs) (nat_le 200000 (others xs)) ≡ false) no_halt grows in
      let under : others xs < 200000 = below_limit (others xs) test in
      let more : others (xs ++ (k, e) ∷ []) ≡ others xs + 1 = others_more k e xs ∙ ap (λ b. others xs + cond b 0 1) no_halt in
      let same : ◌≡◌ {A = ℕ} (cond (changed plan n t e).halted 1 0) (cond t.halted 1 0) = ap (λ (b : Bool). cond {A = ℕ} b 1 0) halted in
      let before = kept.finished in
      let count = kept.count in
      record {
        replayed = replayed_more e;
        halts = halts_more k e xs ∙ (ap (λ b. has_halt xs || b) no_halt ∙ (or_false (has_halt xs) ∙ (kept.halts ∙ sym halted)));
        count = omega (arith, length-append xs ((k, e) ∷ []));
        few = omega arith;
        finished = omega arith;
        same_count = counted_more e;
      }

  the_halt : is_at_limit xs Halt ≡ false → Next Halt
  the_halt grows =
      let more : others (xs ++ (k, Halt) ∷ []) ≡ others xs + 0 = others_more k Halt xs in
      let none : t.halted ≡ false = sym kept.halts ∙ grows in
      let was : ◌≡◌ {A = ℕ} (cond t.halted 1 0) 0 = ap (λ (b : Bool). cond {A = ℕ} b 1 0) none in
      let few = kept.few in
      let before = kept.finished in
      let count = kept.count in
      record {
        replayed = replayed_more Halt;
        halts = halts_more k Halt xs ∙ or_true (has_halt xs);
        count = omega (arith, length-append xs ((k, Halt) ∷ []));
        few = omega arith;
        finished = omega arith;
        same_count = counted_more Halt;
      }

  pub kept_more : (e : HubEvent) → is_at_limit xs e ≡ false → Next e
  kept_more (Post f) grows = plain (Post f) refl refl (omega arith) grows
  kept_more (Fetch h) grows = plain (Fetch h) refl refl (omega arith) grows
  kept_more Finished grows = plain Finished refl refl (omega arith) grows
  kept_more Halt grows = the_halt grows
