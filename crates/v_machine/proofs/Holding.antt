-- Whom a process holds, by the latest that came to its host.
use Rattle.std.proofs.Common.{◌≡◌, ℕ, zero, suc, ◌<◌, ◌≤◌, Bool, true, false, cond, Option, Some, None, refl, sym, ap, subst, ◌∙◌, inl, inr, arith}
use Rattle.std.proofs.lemmas.Bool.{cases_Bool, both_ways, and_parts, or_right, eqb-true, cond-true, cond-false, false_from_ne_true}
use Rattle.std.proofs.lemmas.Option.{same_Some}
use Rattle.vk_types.specs.Types.{Exchange, Name, Pid, Process}
use Rattle.vk_base.specs.Kernel.{◌>>=◌, name_of, is_held_by, is_taken, is_queued, held, held_up_to}
use Rattle.vk_base.specs.Pids.{same_pid}
use Rattle.v_laws.proofs.Held.{holds_at, held_none}
use Rattle.v_laws.proofs.Tables.{same_pid_is}
use Rattle.v_laws.proofs.Options.{some_that_holds}
use Rattle.v_machine.specs.declared.tables.Store.{Store}
use Rattle.v_machine.specs.Kept.{IsKept, kernel_in, latest_by}

-- where only one number can be held
by_top : (exchanges : Name → Option Exchange) (r sender : Pid) (b n : ℕ) (t : Bool) → holds_at exchanges r sender (suc b) ≡ t → 0 < n →
    n ≤ suc b → holds_at exchanges r sender n ≡ true → ((m : ℕ) → holds_at exchanges r sender m ≡ true → m ≡ n) →
    (n ≤ b → held_up_to exchanges r sender b ≡ Some n) →
    cond (holds_at exchanges r sender (suc b)) (Some (suc b)) (held_up_to exchanges r sender b) ≡ Some n
by_top exchanges r sender b n true is low high there one again =
    cond-true (holds_at exchanges r sender (suc b)) (Some (suc b)) (held_up_to exchanges r sender b) is ∙ ap Some (one (suc b) is)
by_top exchanges r sender b n false is low high there one again =
    let below : n ≤ b = elim (cases_Bool (holds_at exchanges r sender (suc b))) [
      | inl t ↦ absurd (both_ways (holds_at exchanges r sender (suc b)) is t)
      | inr f ↦ smaller (λ e. both_ways (holds_at exchanges r sender (suc b)) f (ap (holds_at exchanges r sender) (sym e) ∙ there)) high
    ] in
    cond-false (holds_at exchanges r sender (suc b)) (Some (suc b)) (held_up_to exchanges r sender b) is ∙ again below
  where
    smaller : {n b : ℕ} → (n ≡ suc b → ⊥) → n ≤ suc b → n ≤ b
    smaller {n} {b} apart high = omega arith

pub held_one : (exchanges : Name → Option Exchange) (r sender : Pid) (bound n : ℕ) → 0 < n → n ≤ bound →
    holds_at exchanges r sender n ≡ true → ((m : ℕ) → holds_at exchanges r sender m ≡ true → m ≡ n) →
    held_up_to exchanges r sender bound ≡ Some n
unfolding held_up_to
held_one exchanges r sender zero n low high there one = absurd (omega arith)
held_one exchanges r sender (suc b) n low high there one = by_top exchanges r sender b n (holds_at exchanges r sender (suc b)) refl low high
    there one (λ below. held_one exchanges r sender b n low below there one)

module _ (s : Store) (pid sender : Pid) (latest : ℕ) (kept : IsKept s)
    (is : latest ≡ latest_by s.places s.latest.items sender pid.host) where
  -- what is held is the latest
  only : (m : ℕ) → holds_at (kernel_in s).exchanges pid sender m ≡ true → m ≡ latest
  only m t =
      let e = some_that_holds (is_held_by pid) ((kernel_in s).exchanges (name_of sender m)) t in
      let parts = and_parts (same_pid e.0.at pid) (is_taken e.0.stage) e.2 in
      (kept.indexed.open_last (name_of sender m) e.0 e.1).live (or_right (is_queued e.0.stage) (is_taken e.0.stage) parts.1)
      ∙ ap (latest_by s.places s.latest.items sender) (eqb-true e.0.target.host e.0.at.host (kept.sound.near (name_of sender m) e.0 e.1)
      ∙ ap (λ (p : Pid). p.host) (same_pid_is e.0.at pid parts.0))
      ∙ sym is

  pub held_nowhere : (kernel_in s).procs sender ≡ None → held (kernel_in s) pid sender ≡ None
  unfolding held
  held_nowhere none = ap (λ (o : Option Process). o >>= λ p. held_up_to (kernel_in s).exchanges pid sender p.sends) none

  pub held_not : (p : Process) → (kernel_in s).procs sender ≡ Some p → holds_at (kernel_in s).exchanges pid sender latest ≡ false →
      held (kernel_in s) pid sender ≡ None
  unfolding held
  held_not p there f =
      ap (λ (o : Option Process). o >>= λ p. held_up_to (kernel_in s).exchanges pid sender p.sends) there
      ∙ held_none (kernel_in s).exchanges pid sender p.sends
      (λ m low high. false_from_ne_true (holds_at (kernel_in s).exchanges pid sender m)
      (λ t. both_ways (holds_at (kernel_in s).exchanges pid sender latest) f
      (ap (holds_at (kernel_in s).exchanges pid sender) (sym (only m t)) ∙ t)))

  pub held_latest : (p : Process) → (kernel_in s).procs sender ≡ Some p → holds_at (kernel_in s).exchanges pid sender latest ≡ true →
      held (kernel_in s) pid sender ≡ Some latest
  unfolding held
  held_latest p there t =
      let e = some_that_holds (is_held_by pid) ((kernel_in s).exchanges (name_of sender latest)) t in
      let begun = kept.sound.begun (name_of sender latest) e.0 e.1 in
      let first : 0 < latest = begun.first in
      let last : latest ≤ p.sends =
      subst (λ (b : Process). latest ≤ b.sends) (same_Some begun.process p (sym begun.is ∙ there)) begun.last in
      ap (λ (o : Option Process). o >>= λ p. held_up_to (kernel_in s).exchanges pid sender p.sends) there
      ∙ held_one (kernel_in s).exchanges pid sender p.sends latest first last t only
