-- The first name that is kept for a queue is taken away there once its message is taken.
use Rattle.std.proofs.Common.{◌≡◌, ℕ, ◌≤◌, Bool, true, false, ◌&&◌, List, [], ◌∷◌, length, get_or, set, drop, filter, Option, Some, refl, sym, ap, subst, ◌∙◌}
use Rattle.std.proofs.lemmas.Bool.{cond-false, or_right}
use Rattle.std.proofs.lemmas.Option.{same_Some, none-some}
use Rattle.std.specs.List.{list_any, slice_get}
use Rattle.vk_types.specs.Types.{Exchange, Name, Pid}
use Rattle.vk_base.specs.declared.kernel.Stage.TheVariants as stages
use Rattle.vk_base.specs.Kernel.{same_name, holds_of, is_queued_at, put_exchange}
use Rattle.vk_base.specs.Pids.{same_pid}
use Rattle.v_laws.proofs.Tables.{put_exchange_here}
use Rattle.v_machine.specs.declared.tables.Store.{Store}
use Rattle.v_machine.specs.Kept.{IsIndexed, queued_at}
use Rattle.v_machine.specs.Places.{place_in, list_at}
use Rattle.v_machine.specs.Sends.{at_stage}
use Rattle.v_machine.specs.Tables.{exchanges_by}
use Rattle.v_machine.proofs.Indexes.{AreNoNearer, indexed_cleaned, indexed_later}
use Rattle.v_machine.proofs.Stores.{is_at}

-- the names behind the first one, which fails a test
filter_behind : (f : Name → Bool) (names : List Name) (name : Name) → slice_get names 0 ≡ Some name → f name ≡ false →
    filter f (drop 1 names) ≡ filter f names
filter_behind f [] name is fails = absurd (none-some name is)
filter_behind f (x ∷ xs) name is fails =
    sym (cond-false (f x) (x ∷ filter f xs) (filter f xs) (subst (λ n. f n ≡ false) (sym (same_Some x name is)) fails))

any_behind : (f : Name → Bool) (names : List Name) → list_any f (drop 1 names) ≡ true → list_any f names ≡ true
any_behind f [] t = t
any_behind f (x ∷ xs) t = or_right (f x) (list_any f xs) t

never : (b : Bool) → (b && false) ≡ false
never true = refl
never false = refl

-- a message that was taken is queued nowhere
pub taken_nowhere : (before after : Name → Option Exchange) (name : Name) (e : Exchange) (pid : Pid) →
    after ≡ put_exchange before name (at_stage stages.Taken e) → queued_at after pid name ≡ false
taken_nowhere before after name e pid is =
    ap (λ (f : Name → Option Exchange). holds_of (is_queued_at pid) (f name)) is
    ∙ ap (holds_of (is_queued_at pid)) (put_exchange_here before name (at_stage stages.Taken e)) ∙ never (same_pid e.at pid)

pub indexed_popped : (s t : Store) (pid : Pid) (at : ℕ) (names left : List Name) (name : Name) → place_in s.places pid ≡ Some at →
    names ≡ get_or s.queues.items at names → slice_get names 0 ≡ Some name → left ≡ drop 1 names → t.places ≡ s.places →
    length t.procs.items ≡ length s.procs.items → length t.sends.items ≡ length s.sends.items →
    length t.asked.items ≡ length s.asked.items → t.arrived ≡ s.arrived → t.queues.items ≡ set s.queues.items at left →
    t.latest.items ≡ s.latest.items →
    ((pid : Pid) → length (list_at s.places s.sends.items pid) ≤ length (list_at t.places t.sends.items pid)) →
    AreNoNearer (exchanges_by s.places s.sends.items) (exchanges_by t.places t.sends.items) →
    queued_at (exchanges_by t.places t.sends.items) pid name ≡ false → IsIndexed s → IsIndexed t
indexed_popped s t pid at names left name place is first behind places procs sends asked arrived queues latest more less fails old =
    let mid : Store = record t { queues = s.queues } in
    let indexed = indexed_later s mid places procs sends asked arrived refl latest more less old in
    let here = is_at mid pid at indexed (ap (λ (ps : List Pid). place_in ps pid) places ∙ place) in
    let queued = queued_at (exchanges_by t.places t.sends.items) pid in
    indexed_cleaned mid t pid at names left here is refl refl refl refl refl queues refl
    (ap (filter queued) behind ∙ filter_behind queued names name first fails)
    (λ n u. any_behind (same_name n) names (subst (λ ns. list_any (same_name n) ns ≡ true) behind u)) indexed
