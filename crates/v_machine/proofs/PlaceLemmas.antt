-- What lists have at the place of a process, and after a change at one place.
use Rattle.std.proofs.Common.{◌≡◌, ℕ, zero, suc, ◌<◌, true, false, List, [], ◌∷◌, length, get_or, set, refl, ap, sym, subst, ◌∙◌, arith, Option, Some, None}
use Rattle.std.proofs.lemmas.Bool.{both_ways}
use Rattle.std.proofs.lemmas.List.Quantifiers.{position-Some}
use Rattle.std.proofs.lemmas.Option.{same_Some, slice_get-get_or}
use Rattle.std.specs.List.{slice_get}
use Rattle.vk_types.specs.Types.{Pid}
use Rattle.vk_base.specs.Options.{◌>>=◌}
use Rattle.vk_base.specs.Pids.{same_pid}
use Rattle.vk_base.proofs.PidLemmas.{same_pid_self}
use Rattle.v_laws.proofs.Tables.{same_pid_is}
use Rattle.v_machine.specs.Places.{place_in, at_place}

-- the place of a process is below the number of processes, and it stands there
pub place_low : (pids : List Pid) (pid : Pid) (at : ℕ) → place_in pids pid ≡ Some at → at < length pids
unfolding place_in
place_low pids pid at is = (position-Some (λ q. same_pid q pid) pids at pid is).0

pub place_pid : (pids : List Pid) (pid : Pid) (at : ℕ) → place_in pids pid ≡ Some at → get_or pids at pid ≡ pid
unfolding place_in
place_pid pids pid at is = same_pid_is (get_or pids at pid) pid (position-Some (λ q. same_pid q pid) pids at pid is).1

-- what stands at a place
pub place_get : (pids : List Pid) (pid : Pid) (at : ℕ) → place_in pids pid ≡ Some at → slice_get pids at ≡ Some pid
place_get pids pid at is = slice_get-get_or pids at pid (place_low pids pid at is) ∙ ap Some (place_pid pids pid at is)

-- two processes have one place only if they are one
pub places_apart : (pids : List Pid) (p q : Pid) (at to : ℕ) → place_in pids p ≡ Some at → place_in pids q ≡ Some to →
    same_pid q p ≡ false → to ≡ at → ⊥
places_apart pids p q at to is there apart e =
    let one : Some q ≡ Some p = sym (place_get pids q to there) ∙ ap (slice_get pids) e ∙ place_get pids p at is in
    both_ways (same_pid q p) apart (subst (λ z. same_pid z p ≡ true) (sym (same_Some q p one)) (same_pid_self p))

-- a list after a change at one place
pub get-set_same : {X : Type 0} (xs : List X) (at : ℕ) (x : X) → at < length xs → slice_get (set xs at x) at ≡ Some x
get-set_same [] at x low = absurd (omega arith)
get-set_same (y ∷ xs) zero x low = refl
get-set_same (y ∷ xs) (suc at) x low = get-set_same xs at x (omega arith)

pub get-set_other : {X : Type 0} (xs : List X) (at to : ℕ) (x : X) → (to ≡ at → ⊥) → slice_get (set xs at x) to ≡ slice_get xs to
get-set_other [] at to x apart = refl
get-set_other (y ∷ xs) zero zero x apart = absurd (apart refl)
get-set_other (y ∷ xs) zero (suc to) x apart = refl
get-set_other (y ∷ xs) (suc at) zero x apart = refl
get-set_other (y ∷ xs) (suc at) (suc to) x apart = get-set_other xs at to x (λ e. apart (ap suc e))

by_place : {X : Type 0} (pids : List Pid) (xs : List X) (p q : Pid) (at : ℕ) (x : X) (o : Option ℕ) → place_in pids p ≡ Some at →
    place_in pids q ≡ o → same_pid q p ≡ false → (o >>= slice_get (set xs at x)) ≡ (o >>= slice_get xs)
by_place pids xs p q at x None is there apart = refl
by_place pids xs p q at x (Some to) is there apart = get-set_other xs at to x (places_apart pids p q at to is there apart)

pub at_place_same : {X : Type 0} (pids : List Pid) (xs : List X) (pid : Pid) (at : ℕ) (x : X) → place_in pids pid ≡ Some at →
    at < length xs → at_place pids (set xs at x) pid ≡ Some x
unfolding at_place
at_place_same pids xs pid at x is low = ap (λ o. o >>= slice_get (set xs at x)) is ∙ get-set_same xs at x low

pub at_place_other : {X : Type 0} (pids : List Pid) (xs : List X) (pid q : Pid) (at : ℕ) (x : X) → place_in pids pid ≡ Some at →
    same_pid q pid ≡ false → at_place pids (set xs at x) q ≡ at_place pids xs q
unfolding at_place
at_place_other pids xs pid q at x is apart = by_place pids xs pid q at x (place_in pids q) is refl apart

pub at_place_is : {X : Type 0} (pids : List Pid) (xs : List X) (pid : Pid) (at : ℕ) (x : X) → place_in pids pid ≡ Some at →
    slice_get xs at ≡ Some x → at_place pids xs pid ≡ Some x
unfolding at_place
at_place_is pids xs pid at x is there = ap (λ o. o >>= slice_get xs) is ∙ there

pub nowhere : {X : Type 0} (pids : List Pid) (xs : List X) (pid : Pid) → place_in pids pid ≡ None → at_place pids xs pid ≡ None
unfolding at_place
nowhere pids xs pid is = ap (λ o. o >>= slice_get xs) is

pub some_at : {X : Type 0} (xs : List X) (at : ℕ) → at < length xs → (x : X) × (slice_get xs at ≡ Some x)
some_at [] at low = absurd (omega arith)
some_at (x ∷ xs) zero low = (x, refl)
some_at (x ∷ xs) (suc at) low = some_at xs at (omega arith)
