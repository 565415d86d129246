-- What kernels do that are the same but for the bytes of spent moves, and for exchanges that are over.
use Rattle.std.proofs.Common.{◌≡◌, ℕ, ◌&&◌, Bool, true, false, cond, List, [], ◌∷◌, Option, Some, None, IsSome, is_some, option_map, refl, sym, ap, ◌∙◌, arith}
use Rattle.std.proofs.lemmas.Option.{none-some}
use Rattle.vk_types.specs.Types.{Call, Exchange, Move, Observation, Process, ProcessSpec, Step}
use Rattle.vk_base.specs.declared.step.Step.TheVariants as steps
use Rattle.vk_base.specs.Calls.{Effect, call_step}
use Rattle.vk_base.specs.Kernel.{◌>>=◌, Kernel, initial_kernel, name_of, move_of}
use Rattle.vk_base.specs.Steps.{effect}
use Rattle.vk_base.proofs.OptionLemmas.{mapped_is}
use Rattle.v_laws.specs.Sound.{is_settled}
use Rattle.v_laws.proofs.Options.{mapped_some}
use Rattle.v_machine.specs.Apply.{noted_at_opening, noted_by_call, notes}
use Rattle.v_machine.specs.Follows.{StandsFor}
use Rattle.v_machine.specs.Lean.{IsAlike}
use Rattle.v_machine.specs.Spent.{all_emptied, emptied, lean, has_none, has_ended, is_past, unless_over, emptied_kernel, current_kernel, lean_kernel}
use Rattle.v_machine.specs.Tables.{Tables, kernel_of}
use Rattle.v_machine.proofs.Current.{lost}
use Rattle.v_machine.proofs.CurrentCalls.{call_now}
use Rattle.v_machine.proofs.CurrentSteps.{ended_move, step_now}
use Rattle.v_machine.proofs.Effects.{SameBy, effect_by}
use Rattle.v_machine.proofs.Spent.{lean_move}
use Rattle.v_machine.proofs.SpentCalls.{call_same}
use Rattle.v_machine.proofs.SpentSteps.{step_same}

-- Both are taken away in either order.
ended_lean : (e : Exchange) → has_ended (lean e) ≡ has_ended e
ended_lean e = ap (λ b. is_settled e.stage && b) (none_emptied e.moves)
  where
    none_emptied : (ms : List Move) → has_none (all_emptied e.opened e.done 1 ms) ≡ has_none ms
    none_emptied [] = refl
    none_emptied (m ∷ ms) = refl

either_order : (sender : Option Process) (number : ℕ) (o : Option Exchange) →
    option_map lean (o >>= unless_over sender number) ≡ (option_map lean o >>= unless_over sender number)
either_order sender number None = refl
either_order sender number (Some e) = by_test (is_past number sender && has_ended e)
    ∙ ap (λ b. cond (is_past number sender && b) None (Some (lean e))) (sym (ended_lean e))
  where
    by_test : (b : Bool) → option_map lean (cond b None (Some e)) ≡ cond b None (Some (lean e))
    by_test true = refl
    by_test false = refl

pub emptied_current : (k : Kernel) → emptied_kernel (current_kernel k) ≡ current_kernel (emptied_kernel k)
unfolding emptied_kernel current_kernel
emptied_current k = λ i. record k { exchanges = λ n. either_order (k.procs n.sender) n.number (k.exchanges n) i }

one_by_one : (f g : Kernel → Kernel) (o : Option Effect) →
    option_map (effect_by (λ k. g (f k))) o ≡ option_map (effect_by g) (option_map (effect_by f) o)
one_by_one f g None = refl
one_by_one f g (Some e) = refl

from_current : (o p : Option Effect) → SameBy current_kernel o p → SameBy lean_kernel o p
from_current o p same = one_by_one current_kernel emptied_kernel o ∙ ap (option_map (effect_by emptied_kernel)) same
    ∙ sym (one_by_one current_kernel emptied_kernel p)

from_emptied : (o p : Option Effect) → SameBy emptied_kernel o p → SameBy lean_kernel o p
from_emptied o p same =
    turned o ∙ one_by_one emptied_kernel current_kernel o ∙ ap (option_map (effect_by current_kernel)) same
    ∙ sym (one_by_one emptied_kernel current_kernel p) ∙ sym (turned p)
  where
    turned : (q : Option Effect) → option_map (effect_by lean_kernel) q ≡ option_map (effect_by (λ k. current_kernel (emptied_kernel k))) q
    turned q = λ i. option_map (effect_by (λ k. emptied_current k i)) q

-- alike kernels do the same
step_lean : (k : Kernel) (s : Step) → SameBy lean_kernel (effect (lean_kernel k) s) (effect k s)
step_lean k s = from_emptied (effect (lean_kernel k) s) (effect (current_kernel k) s) (step_same (current_kernel k) s)
    ∙ from_current (effect (current_kernel k) s) (effect k s) (step_now k s)

pub step_alike : (k l : Kernel) (s : Step) → IsAlike k l → SameBy lean_kernel (effect k s) (effect l s)
step_alike k l s alike =
    sym (step_lean k s) ∙ ap (λ z. option_map (effect_by lean_kernel) (effect z s)) alike ∙ step_lean l s

-- what is alike without bytes alone
pub alike_emptied : (k l : Kernel) → emptied_kernel k ≡ emptied_kernel l → IsAlike k l
alike_emptied k l same = emptied_current k ∙ ap current_kernel same ∙ sym (emptied_current l)

pub none_alike : (k l : Kernel) (s : Step) → IsAlike k l → effect l s ≡ None → effect k s ≡ None
none_alike k l s alike none = none_of (effect k s) (step_alike k l s alike ∙ ap (option_map (effect_by lean_kernel)) none)
  where
    none_of : (o : Option Effect) → option_map (effect_by lean_kernel) o ≡ None → o ≡ None
    none_of None is = refl
    none_of (Some e) is = absurd (none-some ((effect_by lean_kernel) e) (sym is))

pub some_alike : (k l : Kernel) (s : Step) → IsAlike k l → IsSome (effect l s) → IsSome (effect k s)
some_alike k l s alike some = sym (mapped_some (effect_by lean_kernel) (effect k s)) ∙ ap is_some (step_alike k l s alike)
    ∙ mapped_some (effect_by lean_kernel) (effect l s) ∙ some

-- the effect on one, from that on the other
pub record IsLike (k : Kernel) (s : Step) (after : Kernel) (seen : Option Observation) : Type 0 where
  pub same : Kernel
  pub is : effect k s ≡ Some (record { after = same; seen = seen })
  pub alike : IsAlike same after

pub effect_alike : (k l : Kernel) (s : Step) (after : Kernel) (seen : Option Observation) → IsAlike k l →
    effect l s ≡ Some (record { after = after; seen = seen }) → IsLike k s after seen
effect_alike k l s after seen alike is =
    let x = mapped_is (effect_by lean_kernel) (effect k s) _ (step_alike k l s alike ∙ ap (option_map (effect_by lean_kernel)) is) in
    record {
      same = x.0.after;
      is = x.1 ∙ ap (λ (e : Effect). Some (record { after = x.0.after; seen = e.seen })) x.2;
      alike = ap (λ (e : Effect). e.after) x.2;
    }

-- they note the same bytes
noted_lean : (h : Kernel → Kernel) (c : Call) (o : Option Effect) → noted_by_call c (option_map (effect_by h) o) ≡ noted_by_call c o
noted_lean h c None = refl
noted_lean h c (Some e) = grind arith

opening_lean : (opened done number : ℕ) (o : Option Move) → noted_at_opening (option_map (emptied opened done number) o) ≡
    noted_at_opening o
opening_lean opened done number None = refl
opening_lean opened done number (Some m) = refl

notes_lean : (k : Kernel) (s : Step) → notes (emptied_kernel k) s ≡ notes k s
unfolding emptied_kernel
notes_lean k (steps.Call pid c) =
    sym (noted_lean emptied_kernel c (call_step (emptied_kernel k) pid c)) ∙ ap (noted_by_call c) (call_same k pid c)
    ∙ noted_lean emptied_kernel c (call_step k pid c)
notes_lean k (steps.OpenMove sender number moving) = by_option (k.exchanges (name_of sender number))
  where
    by_option : (o : Option Exchange) → noted_at_opening (option_map lean o >>= λ e. move_of e moving)
        ≡ noted_at_opening (o >>= λ e. move_of e moving)
    by_option None = refl
    by_option (Some e) = ap noted_at_opening (lean_move e moving) ∙ opening_lean e.opened e.done moving (move_of e moving)
notes_lean k (steps.Arrive sender number) = refl
notes_lean k (steps.Take r) = refl
notes_lean k (steps.Finish s) = refl
notes_lean k (steps.Fail s why) = refl
notes_lean k (steps.Copy sender number moving offset count) = refl
notes_lean k (steps.End r why) = refl
notes_lean k (steps.Hear asker number pid) = refl
notes_lean k (steps.Found asker pid) = refl
notes_lean k (steps.Lost asker) = refl
notes_lean k (steps.Collect pid) = refl

notes_now : (k : Kernel) (s : Step) → notes (current_kernel k) s ≡ notes k s
unfolding current_kernel
notes_now k (steps.Call pid c) =
    sym (noted_lean current_kernel c (call_step (current_kernel k) pid c)) ∙ ap (noted_by_call c) (call_now k pid c)
    ∙ noted_lean current_kernel c (call_step k pid c)
notes_now k (steps.OpenMove sender number moving) = ap noted_at_opening
    (lost (k.procs sender) number (k.exchanges (name_of sender number)) (λ e. move_of e moving) (λ e over. ended_move e moving over))
notes_now k (steps.Arrive sender number) = refl
notes_now k (steps.Take r) = refl
notes_now k (steps.Finish s) = refl
notes_now k (steps.Fail s why) = refl
notes_now k (steps.Copy sender number moving offset count) = refl
notes_now k (steps.End r why) = refl
notes_now k (steps.Hear asker number pid) = refl
notes_now k (steps.Found asker pid) = refl
notes_now k (steps.Lost asker) = refl
notes_now k (steps.Collect pid) = refl

pub notes_alike : (k l : Kernel) (s : Step) → IsAlike k l → notes k s ≡ notes l s
notes_alike k l s alike = sym (all_notes k) ∙ ap (λ z. notes z s) alike ∙ all_notes l
  where
    all_notes : (m : Kernel) → notes (lean_kernel m) s ≡ notes m s
    all_notes m = notes_lean (current_kernel m) s ∙ notes_now m s

-- tables of the initial kernel stand for it
pub stands_initial : (t : Tables) (specs : List ProcessSpec) → kernel_of t ≡ initial_kernel specs → StandsFor t (initial_kernel specs)
unfolding emptied_kernel current_kernel
stands_initial t specs is = ap current_kernel is
