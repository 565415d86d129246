-- Logs and histories with one event more.
use Rattle.std.proofs.Common.{◌≡◌, ◌≢◌, ℕ, zero, suc, ◌+◌, ◌==◌, List, [], ◌∷◌, ◌++◌, set, Some, refl, ap, ◌∙◌, inl, inr, arith}
use Rattle.std.specs.Prelude.{slice_get}
use Rattle.std.proofs.lemmas.Bool.{cases_Bool, cond-false, eqb-true}
use Rattle.std.proofs.lemmas.List.Sums.{sum_by-append}
use Rattle.std.proofs.lemmas.Option.{none-some}
use Rattle.vk_types.specs.Types.{ProcessSpec}
use Rattle.vk_base.specs.Settings.{Settings}
use Rattle.vk_schedule.specs.declared.event.Event.{Event}
use Rattle.vk_rules.specs.Entries.{Entry}
use Rattle.vk_rules.specs.Histories.{Logs, logs_after, no_entries}
unfoldable use Rattle.vk_rules.specs.Histories.{with_entry, happened, history, logs_from}
use Rattle.v_whole.specs.Schedules.{AreOfProcesses, IsOfProcess}
use Rattle.v_whole.proofs.Histories.{logs_more}
use Rattle.vk_cluster.specs.Standing.{emitted_bytes, event_bytes, logs_of}

pub with_other : (logs : Logs) (host : ℕ) (e : Entry) (q : ℕ) → q ≢ host → with_entry logs host e q ≡ logs q
unfolding with_entry
with_other logs host e q apart = elim (cases_Bool (q == host)) [
  | inl t ↦ absurd (apart (eqb-true q host t))
  | inr f ↦ cond-false (q == host) (e ∷ logs host) (logs q) f
]

pub logs_next : (c : Settings) (es : List Event) (e : Event) →
    logs_of c (es ++ e ∷ []) ≡ logs_after (logs_of c es) (happened c (logs_of c es) e)
logs_next c es e = logs_more c es no_entries e

pub history_more : (c : Settings) (es : List Event) (logs : Logs) (e : Event) →
    history c logs (es ++ e ∷ []) ≡ history c logs es ++ happened c (logs_from c logs es) e ∷ []
unfolding history logs_from
history_more c [] logs e = refl
history_more c (x ∷ xs) logs e =
    ap (λ hs. happened c logs x ∷ hs) (history_more c xs (logs_after logs (happened c logs x)) e)

pub bytes_next : (c : Settings) (es : List Event) (e : Event) →
    emitted_bytes (history c no_entries (es ++ e ∷ []))
    ≡ emitted_bytes (history c no_entries es) + event_bytes (happened c (logs_of c es) e)
bytes_next c es e =
    let before = emitted_bytes (history c no_entries es) in
    let last = event_bytes (happened c (logs_of c es) e) in
    let one : before + (0 + last) ≡ before + last = omega arith in
    ap emitted_bytes (history_more c es no_entries e)
    ∙ sum_by-append event_bytes (history c no_entries es) (happened c (logs_of c es) e ∷ [])
    ∙ one

pub processes_more : (specs : List ProcessSpec) (es : List Event) (e : Event) → AreOfProcesses specs es → IsOfProcess specs e →
    AreOfProcesses specs (es ++ e ∷ [])
processes_more specs [] e all is = (is, tt)
processes_more specs (x ∷ xs) e all is = (all.0, processes_more specs xs e all.1 is)

-- Elements of a list of which one is written.
pub get_set_same : {A : Type 0} (xs : List A) (i : ℕ) (x y : A) → slice_get xs i ≡ Some y → slice_get (set xs i x) i ≡ Some x
get_set_same [] i x y found = absurd (none-some y found)
get_set_same (z ∷ zs) zero x y found = refl
get_set_same (z ∷ zs) (suc i) x y found = get_set_same zs i x y found

pub get_set_other : {A : Type 0} (xs : List A) (i j : ℕ) (x : A) → j ≢ i → slice_get (set xs i x) j ≡ slice_get xs j
get_set_other [] i j x apart = refl
get_set_other (z ∷ zs) zero zero x apart = absurd (apart refl)
get_set_other (z ∷ zs) zero (suc j) x apart = refl
get_set_other (z ∷ zs) (suc i) zero x apart = refl
get_set_other (z ∷ zs) (suc i) (suc j) x apart = get_set_other zs i j x (λ e. apart (ap suc e))
