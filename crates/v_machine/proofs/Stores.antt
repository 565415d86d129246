-- Where a process has its place, each list has an entry.
use Rattle.std.proofs.Common.{◌≡◌, ℕ, Option, Some, None, Result, Ok, Err, OnOk, OnErr, IsErrAnd, true, false, refl, sym, ap, ◌∙◌, arith}
use Rattle.std.proofs.lemmas.Bool.{both_ways}
use Rattle.std.proofs.lemmas.Result.{err_from_is_err_and}
use Rattle.std.specs.Result.{is_err}
use Rattle.std.specs.Option.{IfSome, IfNone}
use Rattle.vk_types.specs.Types.{Pid, Process}
use Rattle.v_machine.specs.declared.tables.Store.{Store}
use Rattle.v_machine.specs.Kept.{IsIndexed, IsAt, kernel_in}
use Rattle.v_machine.specs.Places.{place_in, count_at}
use Rattle.v_machine.specs.Rules.{Stays}
use Rattle.v_machine.specs.Tables.{process_of}
use Rattle.v_machine.proofs.PlaceLemmas.{place_low, some_at}
use Rattle.v_machine.proofs.TableLemmas.{procs_nowhere, procs_is}

pub is_at : (s : Store) (pid : Pid) (at : ℕ) → IsIndexed s → place_in s.places pid ≡ Some at → IsAt s pid at
is_at s pid at indexed place =
    let low = place_low s.places pid at place in
    let procs = indexed.procs in
    let sends = indexed.sends in
    let asked = indexed.asked in
    let queues = indexed.queues in
    let latest = indexed.latest in
    record { place = place; procs = omega arith; sends = omega arith; asked = omega arith; queues = omega arith; latest = omega arith }

pub found_at : (s : Store) (pid : Pid) (found : Option ℕ) → IsIndexed s → found ≡ place_in s.places pid → IfSome found (λ at. IsAt s pid at)
found_at s pid None indexed is = tt
found_at s pid (Some at) indexed is = is_at s pid at indexed (sym is)

pub absent : (s : Store) (pid : Pid) (found : Option ℕ) → found ≡ place_in s.places pid → IfNone found ((kernel_in s).procs pid ≡ None)
absent s pid None is = procs_nowhere s.places s.procs.items s.sends.items s.sends.items s.asked.items s.asked.items pid (sym is)
absent s pid (Some at) is = tt

-- the process of a place
pub process_at : (s : Store) (pid : Pid) (at : ℕ) → IsAt s pid at → (p : Process) × ((kernel_in s).procs pid ≡ Some p)
process_at s pid at here =
    let x = some_at s.procs.items at here.procs in (
      process_of x.0 (count_at s.sends.items at) (count_at s.asked.items at),
      procs_is s.places s.procs.items s.sends.items s.sends.items s.asked.items s.asked.items pid at x.0 here.place x.1,
    )

pub stays : (s : Store) → IsIndexed s → Stays s s
stays s indexed = record { tables = λ noted. refl; indexed = indexed }

-- a result that is no error
pub no_error : {T E : Type 0} (r : Result T E) (P Q : Type 0) → OnOk r P → OnErr r Q → (Q → ⊥) → P
no_error (Ok x) P Q good bad none = good
no_error (Err e) P Q good bad none = absurd (none bad)

-- the error with which a `?` leaves
pub is_error : {T E : Type 0} (r : Result T E) (e : E) → IsErrAnd r (λ given. given ≡ e) → r ≡ Err e
is_error r e left = let given = err_from_is_err_and r left in given.1 ∙ ap Err given.2

pub on_ok : {T E : Type 0} (r : Result T E) (P : Type 0) → is_err r ≡ false → OnOk r P → P
on_ok (Ok x) P t good = good
on_ok (Err e) P t good = absurd (both_ways true t refl)

pub on_err : {T E : Type 0} (r : Result T E) (P : Type 0) → is_err r ≡ true → OnErr r P → P
on_err (Ok x) P t bad = absurd (both_ways false refl t)
on_err (Err e) P t bad = bad
