-- The place of a task among the others.
use Rattle.std.proofs.Common.{◌≡◌, ℕ, zero, suc, ◌+◌, ◌<◌, ◌≤◌, Bool, true, false, cond, not, List, [], ◌∷◌, length, get_or, set, Option, Some, None, Result, Ok, Err, IfOk, if◌then◌else◌, refl, ap, arith, sym, ◌∙◌}
use Rattle.std.specs.List.{position, position_or_len}
use Rattle.std.specs.Option.{option_map}
use Rattle.std.proofs.lemmas.List.Quantifiers.{position-Some}
use Rattle.vk_types.specs.Types.{Pid}
use Rattle.vk_base.specs.Pids.{same_pid}
use Rattle.vk_event.specs.declared.task.Given.{Given}
use Rattle.vk_event.specs.declared.task.Task.{Task}
use Rattle.vk_event.specs.declared.task.TaskKind.{TaskKind}
use Rattle.vk_event.specs.Tasks.{given_kind, given_to}

-- the tasks with this one in its place
abbrev put : List Task → ℕ → Task → TaskKind → List Task
put ts i t kind = set ts i (record t { kind = kind })

one_more : (t u : Task) (ts : List Task) (i : ℕ) (o : Option TaskKind)
    → option_map (λ more. t ∷ more) (option_map (put ts i u) o) ≡ option_map (put (t ∷ ts) (suc i) u) o
one_more t u ts i None = refl
one_more t u ts i (Some k) = refl

module _ (pid : Pid) (given : Given) where
  at_first : (ts : List Task) (i : ℕ) (d : Task) → i < length ts → same_pid (get_or ts i d).pid pid ≡ true →
      ((k : ℕ) → k < i → same_pid (get_or ts k d).pid pid ≡ false) →
      given_to pid given ts ≡ option_map (put ts i (get_or ts i d)) (given_kind given (get_or ts i d).kind)
  at_first [] i d lt here before = absurd (omega arith)
  at_first (t ∷ ts) zero d lt here before = rw here refl
  at_first (t ∷ ts) (suc i) d lt here before =
      let first : same_pid t.pid pid ≡ false = before 0 (omega arith) in
      let rest : given_to pid given ts ≡ option_map (put ts i (get_or ts i d)) (given_kind given (get_or ts i d).kind) =
      at_first ts i d (omega arith) here (λ k lt. before (suc k) (omega arith)) in
      rw first (ap (λ o. option_map (λ more. t ∷ more) o) rest ∙ one_more t (get_or ts i d) ts i (given_kind given (get_or ts i d).kind))

  by_first : (t : Task) (ts : List Task) (b : Bool) →
      (length ts ≤ position_or_len (λ t. same_pid t.pid pid) ts → given_to pid given ts ≡ None) →
      length (t ∷ ts) ≤ cond (not b) (1 + position_or_len (λ t. same_pid t.pid pid) ts) 0 →
      cond b (option_map (λ kind. record t { kind = kind } ∷ ts) (given_kind given t.kind))
      (option_map (λ more. t ∷ more) (given_to pid given ts)) ≡ None
  by_first t ts true again h = absurd (omega arith)
  by_first t ts false again h = ap (λ o. option_map (λ more. t ∷ more) o) (again (omega arith))

  nowhere : (ts : List Task) → length ts ≤ position_or_len (λ t. same_pid t.pid pid) ts → given_to pid given ts ≡ None
  nowhere [] h = refl
  nowhere (t ∷ ts) h = by_first t ts (same_pid t.pid pid) (nowhere ts) h

  pub given-at : (ts : List Task) (i : ℕ) (d : Task) → position (λ t. same_pid t.pid pid) ts ≡ Some i →
      given_to pid given ts ≡ option_map (put ts i (get_or ts i d)) (given_kind given (get_or ts i d).kind)
  given-at ts i d h =
      let facts = position-Some (λ (t : Task). same_pid t.pid pid) ts i d h in
      at_first ts i d facts.0 facts.1 facts.2

  pub given-none : (ts : List Task) → position (λ t. same_pid t.pid pid) ts ≡ None → given_to pid given ts ≡ None
  given-none ts h = nowhere ts (grind arith)

-- as the code writes it
pub given_shown : {E : Type 0} (r : Result Bool E) (pid : Pid) (given : Given) (seen items : List Task) (i : ℕ) (d v : Task)
    → Some i ≡ position (λ t. same_pid t.pid pid) seen → seen ≡ items → d ≡ get_or items i d
    → IfOk r (λ done. given_kind given d.kind ≡ (if done then Some v.kind else None)) → v ≡ record d { kind = v.kind }
    → IfOk r (λ done. given_to pid given items ≡ (if done then Some (set items i v) else None))
given_shown (Err e) pid given seen items i d v at same here kind whole = tt
given_shown (Ok b) pid given seen items i d v at same here kind whole =
    let place : position (λ t. same_pid t.pid pid) items ≡ Some i = ap (position (λ (t : Task). same_pid t.pid pid)) (sym same) ∙ sym at in
    let read : given_to pid given items ≡ option_map (put items i d) (given_kind given d.kind) =
    given-at pid given items i d place ∙ ap (λ (t : Task). option_map (put items i t) (given_kind given t.kind)) (sym here) in
    read ∙ ap (option_map (put items i d)) kind ∙ chosen b
  where
    chosen : (b : Bool) → option_map (put items i d) (cond b (Some v.kind) None) ≡ cond b (Some (set items i v)) None
    chosen true = ap (λ t. Some (set items i t)) (sym whole)
    chosen false = refl
