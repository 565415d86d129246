-- What a machine without the bytes of spent moves, and with fewer of the exchanges that are over, keeps after a step, and what it answers.
use Rattle.std.proofs.Common.{◌≡◌, ℕ, true, false, Option, Result, Ok, Err, refl, sym, subst, ◌∙◌, arith}
use Rattle.std.proofs.lemmas.Bool.{both_ways}
use Rattle.std.specs.Result.{is_ok}
use Rattle.vk_types.specs.Types.{Observation, Step}
use Rattle.vk_base.specs.Kernel.{Kernel}
use Rattle.v_machine.specs.declared.refusal.ApplyRefusal.{ApplyRefusal}
use Rattle.v_machine.specs.declared.refusal.ApplyRefusal.TheVariants as refused
use Rattle.v_machine.specs.Apply.{Applied, IsRefused}
use Rattle.v_machine.specs.Follows.{Follows, StandsFor}
use Rattle.v_machine.specs.Lean.{AreLean, GivesBack, IsAlike, opened_before}
use Rattle.v_machine.specs.Spent.{current_kernel}
use Rattle.v_machine.specs.Tables.{Tables, kernel_of}
use Rattle.v_machine.proofs.LeanExchanges.{current_lean, emptied_stays}
use Rattle.v_machine.proofs.LeanSteps.{lean_after}
use Rattle.v_machine.proofs.Standing.{effect_alike, none_alike, notes_alike, some_alike}

-- behind a step, which led from the first tables to the second, bytes of spent moves are given back and exchanges that are over are
-- forgotten, which leads to the third
pub record IsGiven (s : Step) (old mid new : Tables) : Type 0 where
  pub alike : IsAlike (kernel_of mid) (kernel_of new)
  pub gives : GivesBack s (opened_before (kernel_of old) s) (kernel_of mid) (kernel_of new)
  pub noted : new.noted ≡ mid.noted

pub given_back_from : (s : Step) (old mid new : Tables) (before : ℕ) → before ≡ opened_before (kernel_of old) s →
    IsAlike (kernel_of mid) (kernel_of new) → GivesBack s before (kernel_of mid) (kernel_of new) → new.noted ≡ mid.noted →
    IsGiven s old mid new
given_back_from s old mid new before is alike gives noted = record {
  alike = alike;
  gives = subst (λ n. GivesBack s n (kernel_of mid) (kernel_of new)) is gives;
  noted = noted;
}

module _ (s : Step) (old : Tables) (lean : AreLean (kernel_of old).exchanges) where
  own : StandsFor old (kernel_of old)
  own = sym (emptied_stays (current_kernel (kernel_of old)) (current_lean (kernel_of old) lean))

  alike : (k : Kernel) → StandsFor old k → IsAlike k (kernel_of old)
  alike k stands = sym stands ∙ own

  lean_done : (mid new : Tables) (seen : Option Observation) → Applied s old mid (Ok seen) → IsGiven s old mid new →
      AreLean (kernel_of new).exchanges
  lean_done mid new seen done given = lean_after (kernel_of old) (kernel_of new) s _ lean done.0 given.gives

  follows_done : (mid new : Tables) (seen : Option Observation) → Applied s old mid (Ok seen) → IsGiven s old mid new →
      Follows s old new (Ok seen)
  follows_done mid new seen done given = (
    own,
    λ k stands.
        let like = effect_alike k (kernel_of old) s (kernel_of mid) seen (alike k stands) done.0 in
        let noted = notes_alike k (kernel_of old) s (alike k stands) in
        let more = done.1 in
        let few = done.2 in
        let same = given.noted in
        record {
          after = like.same;
          is = like.is;
          stands = sym (like.alike ∙ given.alike
              ∙ emptied_stays (current_kernel (kernel_of new)) (current_lean (kernel_of new) (lean_done mid new seen done given)));
          noted = omega arith;
          few = omega arith;
        },
  )

  refused_alike : (k : Kernel) → IsAlike k (kernel_of old) → (why : ApplyRefusal) → IsRefused (kernel_of old) old.noted s why →
      IsRefused k old.noted s why
  refused_alike k like refused.NotAllowed is = none_alike k (kernel_of old) s like is
  refused_alike k like refused.Limit is =
      let noted = notes_alike k (kernel_of old) s like in
      let room = is.1 in
      (some_alike k (kernel_of old) s like is.0, omega arith)
  refused_alike k like refused.NoMemory is =
      let noted = notes_alike k (kernel_of old) s like in
      let room = is.1 in
      (some_alike k (kernel_of old) s like is.0, omega arith)

  -- where the step was done
  pub follows : (mid new : Tables) (r : Result (Option Observation) ApplyRefusal) → is_ok r ≡ true → Applied s old mid r →
      IsGiven s old mid new → Follows s old new r
  follows mid new (Ok seen) ok done given = follows_done mid new seen done given
  follows mid new (Err why) ok done given = absurd (both_ways _ refl ok)

  pub stays_lean : (mid new : Tables) (r : Result (Option Observation) ApplyRefusal) → is_ok r ≡ true → Applied s old mid r →
      IsGiven s old mid new → AreLean (kernel_of new).exchanges
  stays_lean mid new (Ok seen) ok done given = lean_done mid new seen done given
  stays_lean mid new (Err why) ok done given = absurd (both_ways _ refl ok)

  -- where it was refused
  pub follows_refused : (new : Tables) (r : Result (Option Observation) ApplyRefusal) → is_ok r ≡ false → Applied s old new r →
      Follows s old new r
  follows_refused new (Ok seen) err done = absurd (both_ways _ err refl)
  follows_refused new (Err why) err done = (own, λ k stands. (refused_alike k (alike k stands) why done.0, done.1))

  pub refused_lean : (new : Tables) (r : Result (Option Observation) ApplyRefusal) → is_ok r ≡ false → Applied s old new r →
      AreLean (kernel_of new).exchanges
  refused_lean new (Ok seen) err done = absurd (both_ways _ err refl)
  refused_lean new (Err why) err done = subst (λ (t : Tables). AreLean (kernel_of t).exchanges) (sym done.1) lean
