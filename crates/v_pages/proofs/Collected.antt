-- A sender that has a reply to collect has it of a Finish, and is since then as it was left.
use Rattle.std.proofs.Common.{◌≡◌, ℕ, zero, suc, ◌<◌, true, List, slice_get, Some, sym, ap, ◌∙◌, inl, inr, arith}
use Rattle.std.proofs.lemmas.Bool.{both_ways}
use Rattle.vk_types.specs.Types.{Pid, Process, ProcessSpec, Step}
use Rattle.vk_base.specs.declared.step.Step.TheVariants as steps
use Rattle.vk_base.specs.Calls.{Effect}
use Rattle.vk_base.specs.Kernel.{◌>>=◌, Kernel}
use Rattle.vk_base.specs.Settings.{is_process}
use Rattle.vk_base.specs.Steps.{effect}
use Rattle.std.specs.Prelude.{find}
use Rattle.v_laws.specs.Places.{before, process_after}
use Rattle.v_laws.specs.Sound.{IsSound}
use Rattle.v_laws.proofs.Later.{IsLaterProcess, process_step}
use Rattle.v_laws.proofs.PlaceLemmas.{ComesOfStep, at_place, before_first, before_next, before_sound}
use Rattle.v_laws.proofs.Related.{related_before}
use Rattle.v_laws.proofs.SoundLemmas.{initial_ready}
use Rattle.v_pages.proofs.Touched.{Touched, has_reply, touched}

-- a process was there before a step, and is there after it
pub was_there : (k : Kernel) (s : Step) (e : Effect) (q : Pid) (y : Process) → IsSound k → effect k s ≡ Some e → e.after.procs q ≡ Some y →
    (x : Process) × (k.procs q ≡ Some x)
was_there k s e q y sound does at =
    let x = related_before IsLaterProcess (k.procs q) (e.after.procs q) y (process_step k s e sound does q) at in
    (x.0, x.1)

-- what a step left of a process
pub left_at : (specs : List ProcessSpec) (ss : List Step) (i : ℕ) (k : Kernel) (s : Step) (e : Effect) (q : Pid) →
    before specs ss i ≡ Some k →
    slice_get ss i ≡ Some s → effect k s ≡ Some e → process_after specs ss i q ≡ e.after.procs q
left_at specs ss i k s e q at is does = ap (λ o. o >>= λ e. e.after.procs q) (at_place effect specs ss i k s at is ∙ does)

pub record IsFinished (specs : List ProcessSpec) (ss : List Step) (i : ℕ) (s : Pid) (p : Process) : Type 0 where
  pub place : ℕ
  pub earlier : place < i
  pub is : slice_get ss place ≡ Some (steps.Finish s)
  pub after : process_after specs ss place s ≡ Some p

later : (specs : List ProcessSpec) (ss : List Step) (i : ℕ) (s : Pid) (p : Process) → IsFinished specs ss i s p →
    IsFinished specs ss (suc i) s p
later specs ss i s p f = let earlier = f.earlier in record { place = f.place; earlier = omega arith; is = f.is; after = f.after }

by_touch : (specs : List ProcessSpec) (ss : List Step) (s : Pid) (i : ℕ) (k : Kernel) (t : Step) (e : Effect) (x p : Process) →
    before specs ss i ≡ Some k → slice_get ss i ≡ Some t → effect k t ≡ Some e → k.procs s ≡ Some x → e.after.procs s ≡ Some p →
    has_reply p.state ≡ true → Touched k t s x p → (k.procs s ≡ Some p → IsFinished specs ss i s p) → IsFinished specs ss (suc i) s p
by_touch specs ss s i k t e x p at is does there now has (Touched.rests same) again =
    later specs ss i s p (again (there ∙ ap (λ (z : Process). Some z) (sym same)))
by_touch specs ss s i k t e x p at is does there now has (Touched.makes c step idle none) again =
    absurd (both_ways (has_reply p.state) none has)
by_touch specs ss s i k t e x p at is does there now has (Touched.takes step idle none) again =
    absurd (both_ways (has_reply p.state) none has)
by_touch specs ss s i k t e x p at is does there now has (Touched.collects step idle none) again = absurd (both_ways
    (has_reply p.state) none has)
by_touch specs ss s i k t e x p at is does there now has (Touched.finishes step over) again = record {
  place = i;
  earlier = omega arith;
  is = is ∙ ap (λ (z : Step). Some z) step;
  after = left_at specs ss i k t e s at is does ∙ now;
}
by_touch specs ss s i k t e x p at is does there now has (Touched.waits w none kept on stays) again =
    absurd (both_ways (has_reply p.state) none has)

by_next : (specs : List ProcessSpec) (ss : List Step) (s : Pid) (i : ℕ) (l : Kernel) (p : Process) → ComesOfStep specs ss i l →
    l.procs s ≡ Some p → has_reply p.state ≡ true →
    ((m : Kernel) → before specs ss i ≡ Some m → m.procs s ≡ Some p → IsFinished specs ss i s p) → IsFinished specs ss (suc i) s p
by_next specs ss s i l p n at has again = elim n.how [
  | inl h ↦
      let sound = before_sound specs ss i n.kernel n.at in
      let now : h.1.after.procs s ≡ Some p = ap (λ (z : Kernel). z.procs s) h.4 ∙ at in
      let x = was_there n.kernel h.0 h.1 s p sound h.3 now in
      by_touch specs ss s i n.kernel h.0 h.1 x.0 p n.at h.2 h.3 x.1 now has (touched n.kernel h.0 h.1 sound h.3 s x.0 p x.1 now)
      (again n.kernel n.at)
  | inr h ↦ later specs ss i s p (again n.kernel n.at (ap (λ (z : Kernel). z.procs s) h.1 ∙ at))
]

pub finished_before : (specs : List ProcessSpec) (ss : List Step) (s : Pid) (i : ℕ) (k : Kernel) (p : Process) →
    before specs ss i ≡ Some k →
    k.procs s ≡ Some p → has_reply p.state ≡ true → IsFinished specs ss i s p
finished_before specs ss s zero k p at there has =
    absurd (both_ways (has_reply p.state) (ap has_reply (initial_ready (find (is_process s) specs) p
    (ap (λ (z : Kernel). z.procs s) (before_first specs ss k at) ∙ there))) has)
finished_before specs ss s (suc i) k p at there has =
    by_next specs ss s i k p (before_next specs ss i k at) there has (λ m at_m there_m. finished_before specs ss s i m p at_m there_m has)
