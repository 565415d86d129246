-- The kernel's tables after a change of the machine's lists.
use Rattle.std.proofs.Common.{◌≡◌, ℕ, zero, suc, ◌<◌, ◌≤◌, true, false, ◌==◌, List, [], ◌∷◌, ◌++◌, length, set, refl, ap, sym, ◌∙◌, arith, Option, Some, None, option_map, unwrap_or, inl, inr, ◌⊎◌}
use Rattle.std.proofs.lemmas.Bool.{cases_Bool, both_ways, and_from, eq-eqb, eqb-true}
use Rattle.std.proofs.lemmas.Option.{none-some}
use Rattle.std.specs.List.{slice_get}
use Rattle.vk_types.specs.Types.{Exchange, Lookup, Name, Pid}
use Rattle.vk_base.specs.Kernel.{◌>>=◌, name_of, same_name, put_process, put_exchange}
use Rattle.vk_base.specs.Pids.{same_pid}
use Rattle.v_laws.proofs.Tables.{same_pid_is, same_name_is, put_process_at, put_process_other, put_exchange_at, put_exchange_other}
use Rattle.v_machine.specs.declared.tables.proc.Proc.{Proc}
use Rattle.v_machine.specs.Lists.{change_at, change_numbered}
use Rattle.v_machine.specs.Places.{place_in, at_place, list_at, count_at, numbered}
use Rattle.v_machine.specs.Tables.{process_of, procs_by, exchanges_by}
use Rattle.v_machine.proofs.PlaceLemmas.{places_apart, get-set_same, get-set_other, at_place_same, at_place_other, at_place_is}

-- How many elements the lists of a list have.
pub count-set_same : {X : Type 0} (xss : List (List X)) (at : ℕ) (xs : List X) → at < length xss → count_at (set xss at xs) at ≡ length xs
count-set_same xss at xs low = ap (λ o. length (unwrap_or o [])) (get-set_same xss at xs low)

pub count-set_other : {X : Type 0} (xss : List (List X)) (at : ℕ) (xs : List X) (to : ℕ) → (to ≡ at → ⊥) →
    count_at (set xss at xs) to ≡ count_at xss to
count-set_other xss at xs to apart = ap (λ o. length (unwrap_or o [])) (get-set_other xss at to xs apart)

pub count_is : {X : Type 0} (xss : List (List X)) (at : ℕ) (xs : List X) → slice_get xss at ≡ Some xs → count_at xss at ≡ length xs
count_is xss at xs is = ap (λ o. length (unwrap_or o [])) is

pub get_low : {X : Type 0} (xs : List X) (at : ℕ) (x : X) → slice_get xs at ≡ Some x → at < length xs
get_low [] at x is = absurd (none-some x is)
get_low (y ∷ xs) zero x is = omega arith
get_low (y ∷ xs) (suc at) x is = let low = get_low xs at x is in omega arith

-- a list that is put in the place of one of the same length
pub count-set_even : {X : Type 0} (xss : List (List X)) (at : ℕ) (xs ys : List X) → slice_get xss at ≡ Some xs → length ys ≡ length xs →
    (to : ℕ) → count_at (set xss at ys) to ≡ count_at xss to
count-set_even xss at xs ys is even to = elim (cases_Bool (to == at)) [
  | inl t ↦
      let same : to ≡ at = eqb-true to at t in
      ap (count_at (set xss at ys)) same ∙ count-set_same xss at ys (get_low xss at xs is) ∙ even ∙ sym (count_is xss at xs is)
      ∙ sym (ap (count_at xss) same)
  | inr f ↦ count-set_other xss at ys to (λ e. both_ways (to == at) f (eq-eqb to at e))
]

-- what a process has is as long where the lists of each place are
by_counts : {X : Type 0} (later before : List (List X)) (o : Option ℕ) → ((to : ℕ) → count_at later to ≡ count_at before to) →
    length (unwrap_or (o >>= slice_get later) []) ≡ length (unwrap_or (o >>= slice_get before) [])
by_counts later before None even = refl
by_counts later before (Some at) even = even at

pub length-even : {X : Type 0} (pids : List Pid) (later before : List (List X)) (pid : Pid) →
    ((to : ℕ) → count_at later to ≡ count_at before to) → length (list_at pids later pid) ≡ length (list_at pids before pid)
unfolding at_place
length-even pids later before pid even = by_counts later before (place_in pids pid) even

-- Processes.
module _ (pids : List Pid) (procs : List Proc) (sends later : List (List Exchange)) (asked further : List (List Lookup)) where
  pub procs_is : (pid : Pid) (at : ℕ) (p : Proc) → place_in pids pid ≡ Some at → slice_get procs at ≡ Some p →
      procs_by pids procs sends asked pid ≡ Some (process_of p (count_at sends at) (count_at asked at))
  unfolding procs_by
  procs_is pid at p is there =
      ap (λ o. o >>= λ at. slice_get procs at >>= λ p. Some (process_of p (count_at sends at) (count_at asked at))) is
      ∙ ap (λ o. o >>= λ p. Some (process_of p (count_at sends at) (count_at asked at))) there

  pub procs_nowhere : (pid : Pid) → place_in pids pid ≡ None → procs_by pids procs sends asked pid ≡ None
  unfolding procs_by
  procs_nowhere pid is = ap (λ o. o >>= λ at. slice_get procs at >>= λ p. Some (process_of p (count_at sends at) (count_at asked at))) is

  -- the counts may differ where the process is that is put
  by_found : (o : Option Proc) (at to : ℕ) → count_at later to ≡ count_at sends to → count_at further to ≡ count_at asked to →
      (o >>= λ p. Some (process_of p (count_at later to) (count_at further to))) ≡ (o >>= λ p. Some
      (process_of p (count_at sends to) (count_at asked to)))
  by_found None at to sent ask = refl
  by_found (Some p) at to sent ask = λ i. Some (process_of p (sent i) (ask i))

  elsewhere : (p' : Proc) (pid q : Pid) (at : ℕ) (o : Option ℕ) → place_in pids pid ≡ Some at → place_in pids q ≡ o →
      same_pid q pid ≡ false → ((to : ℕ) → (to ≡ at → ⊥) → count_at later to ≡ count_at sends to) →
      ((to : ℕ) → (to ≡ at → ⊥) → count_at further to ≡ count_at asked to) →
      (o >>= λ to. slice_get (set procs at p') to >>= λ p. Some (process_of p (count_at later to) (count_at further to))) ≡ (o >>= λ to.
      slice_get procs to >>= λ p. Some (process_of p (count_at sends to) (count_at asked to)))
  elsewhere p' pid q at None is there other sent ask = refl
  elsewhere p' pid q at (Some to) is there other sent ask =
      let apart = places_apart pids pid q at to is there other in
      ap (λ o. o >>= λ p. Some (process_of p (count_at later to) (count_at further to))) (get-set_other procs at to p' apart)
      ∙ by_found (slice_get procs to) at to (sent to apart) (ask to apart)

  here : (p' : Proc) (pid : Pid) (at : ℕ) → place_in pids pid ≡ Some at → at < length procs →
      procs_by pids (set procs at p') later further pid ≡ Some (process_of p' (count_at later at) (count_at further at))
  unfolding procs_by
  here p' pid at is low =
      ap (λ o. o >>= λ to. slice_get (set procs at p') to >>= λ p. Some (process_of p (count_at later to) (count_at further to))) is
      ∙ ap (λ o. o >>= λ p. Some (process_of p (count_at later at) (count_at further at))) (get-set_same procs at p' low)

  pub procs-put : (p' : Proc) (pid : Pid) (at : ℕ) → place_in pids pid ≡ Some at → at < length procs →
      ((to : ℕ) → (to ≡ at → ⊥) → count_at later to ≡ count_at sends to) →
      ((to : ℕ) → (to ≡ at → ⊥) → count_at further to ≡ count_at asked to) →
      procs_by pids (set procs at p') later further ≡ put_process (procs_by pids procs sends asked) pid
      (process_of p' (count_at later at) (count_at further at))
  unfolding procs_by
  procs-put p' pid at is low sent ask = λ i q. (elim
      (cases_Bool (same_pid q pid)) as (λ _. procs_by pids (set procs at p') later further q ≡ put_process (procs_by pids procs sends asked)
      pid (process_of p' (count_at later at) (count_at further at)) q) [
        | inl t ↦ ap (procs_by pids (set procs at p') later further) (same_pid_is q pid t) ∙ here p' pid at is low
            ∙ sym (put_process_at (procs_by pids procs sends asked) pid (process_of p' (count_at later at) (count_at further at)) q t)
        | inr f ↦ elsewhere p' pid q at (place_in pids q) is refl f sent ask
            ∙ sym (put_process_other (procs_by pids procs sends asked) pid (process_of p' (count_at later at) (count_at further at)) q f)
      ]) i

  even_at : (o : Option ℕ) → ((to : ℕ) → count_at later to ≡ count_at sends to) → ((to : ℕ) → count_at further to ≡ count_at asked to) →
      (o >>= λ to. slice_get procs to >>= λ p. Some (process_of p (count_at later to) (count_at further to))) ≡ (o >>= λ to. slice_get procs
      to >>= λ p. Some (process_of p (count_at sends to) (count_at asked to)))
  even_at None sent ask = refl
  even_at (Some to) sent ask = by_found (slice_get procs to) to to (sent to) (ask to)

  -- processes see of the Sends and lookups how many there are
  pub procs-even : ((to : ℕ) → count_at later to ≡ count_at sends to) → ((to : ℕ) → count_at further to ≡ count_at asked to) →
      procs_by pids procs later further ≡ procs_by pids procs sends asked
  unfolding procs_by
  procs-even sent ask = λ i q. even_at (place_in pids q) sent ask i

-- Elements by their numbers.
pub numbered-push : {X : Type 0} (xs : List X) (x : X) → numbered (xs ++ x ∷ []) (suc (length xs)) ≡ Some x
numbered-push [] x = refl
numbered-push (y ∷ xs) x = numbered-push xs x

get-push_other : {X : Type 0} (xs : List X) (x : X) (at : ℕ) → (at ≡ length xs → ⊥) → slice_get (xs ++ x ∷ []) at ≡ slice_get xs at
get-push_other [] x zero apart = absurd (apart refl)
get-push_other [] x (suc at) apart = refl
get-push_other (y ∷ xs) x zero apart = refl
get-push_other (y ∷ xs) x (suc at) apart = get-push_other xs x at (λ e. apart (ap suc e))

pub numbered-push_other : {X : Type 0} (xs : List X) (x : X) (number : ℕ) → (number ≡ suc (length xs) → ⊥) →
    numbered (xs ++ x ∷ []) number ≡ numbered xs number
numbered-push_other xs x zero apart = refl
numbered-push_other xs x (suc n) apart = get-push_other xs x n (λ e. apart (ap suc e))

pub numbered_low : {X : Type 0} (xs : List X) (number : ℕ) (x : X) → numbered xs number ≡ Some x → (0 < number) × (number ≤ length xs)
numbered_low xs zero x is = absurd (none-some x is)
numbered_low xs (suc n) x is = (omega arith, get_low xs n x is)

module _ {X : Type 0} (f : X → X) where
  get-change : (xs : List X) (at : ℕ) → slice_get (change_at at f xs) at ≡ option_map f (slice_get xs at)
  get-change [] at = refl
  get-change (x ∷ xs) zero = refl
  get-change (x ∷ xs) (suc at) = get-change xs at

  get-change_other : (xs : List X) (at to : ℕ) → (to ≡ at → ⊥) → slice_get (change_at at f xs) to ≡ slice_get xs to
  get-change_other [] at to apart = refl
  get-change_other (x ∷ xs) zero zero apart = absurd (apart refl)
  get-change_other (x ∷ xs) zero (suc to) apart = refl
  get-change_other (x ∷ xs) (suc at) zero apart = refl
  get-change_other (x ∷ xs) (suc at) (suc to) apart = get-change_other xs at to (λ e. apart (ap suc e))

  length-change_at : (xs : List X) (at : ℕ) → length (change_at at f xs) ≡ length xs
  length-change_at [] at = refl
  length-change_at (x ∷ xs) zero = refl
  length-change_at (x ∷ xs) (suc at) = ap suc (length-change_at xs at)

  pub length-change : (number : ℕ) (xs : List X) → length (change_numbered number f xs) ≡ length xs
  length-change zero xs = refl
  length-change (suc n) xs = length-change_at xs n

  pub numbered-change : (number : ℕ) (xs : List X) → numbered (change_numbered number f xs) number ≡ option_map f (numbered xs number)
  numbered-change zero xs = refl
  numbered-change (suc n) xs = get-change xs n

  pub numbered-change_other : (number m : ℕ) (xs : List X) → (m ≡ number → ⊥) → numbered (change_numbered number f xs) m ≡ numbered xs m
  numbered-change_other zero m xs apart = refl
  numbered-change_other (suc n) zero xs apart = refl
  numbered-change_other (suc n) (suc m) xs apart = get-change_other xs n m (λ e. apart (ap suc e))

-- Exchanges.
module _ (pids : List Pid) (sends : List (List Exchange)) where
  pub exchanges_is : (n : Name) (s : List Exchange) → at_place pids sends n.sender ≡ Some s →
      exchanges_by pids sends n ≡ (numbered s n.number)
  unfolding exchanges_by
  exchanges_is n s is = ap (λ o. o >>= λ s. (numbered s n.number)) is

  pub exchanges_nowhere : (n : Name) → at_place pids sends n.sender ≡ None → exchanges_by pids sends n ≡ None
  unfolding exchanges_by
  exchanges_nowhere n is = ap (λ o. o >>= λ s. (numbered s n.number)) is

pub exchanges_same : (pids : List Pid) (later sends : List (List Exchange)) (n : Name) →
    at_place pids later n.sender ≡ at_place pids sends n.sender → exchanges_by pids later n ≡ exchanges_by pids sends n
unfolding exchanges_by
exchanges_same pids later sends n e = ap (λ o. o >>= λ s. (numbered s n.number)) e

pub exchanges-put : (pids : List Pid) (sends : List (List Exchange)) (s s' : List Exchange) (pid : Pid) (at number : ℕ) (x : Exchange) →
    place_in pids pid ≡ Some at → slice_get sends at ≡ Some s → numbered s' number ≡ Some x →
    ((m : ℕ) → (m ≡ number → ⊥) → numbered s' m ≡ numbered s m) →
    exchanges_by pids (set sends at s') ≡ put_exchange (exchanges_by pids sends) (name_of pid number) x
exchanges-put pids sends s s' pid at number x is there new others = λ i n.
    (elim (cases_Bool (same_name n name)) as
    (λ _. exchanges_by pids (set sends at s') n ≡ put_exchange (exchanges_by pids sends) name x n) [
      | inl t ↦
          ap (exchanges_by pids (set sends at s')) (same_name_is n name t)
          ∙ exchanges_is pids (set sends at s') name s' (at_place_same pids sends pid at s' is (get_low sends at s there))
          ∙ new
          ∙ sym (put_exchange_at (exchanges_by pids sends) name x n t)
      | inr f ↦ not_this n f (cases_Bool (same_pid n.sender pid)) ∙ sym (put_exchange_other (exchanges_by pids sends) name x n f)
    ]) i
  where
    name : Name
    name = name_of pid number

    not_this : (n : Name) → same_name n (name_of pid number) ≡ false → (same_pid n.sender pid ≡ true) ⊎ (same_pid n.sender pid ≡ false) →
        exchanges_by pids (set sends at s') n ≡ exchanges_by pids sends n
    not_this n f (inl t) =
        let same = same_pid_is n.sender pid t in
        let apart : n.number ≡ number → ⊥ = λ e. both_ways (same_name n (name_of pid number)) f
        (and_from (same_pid n.sender pid) (n.number == number) t (eq-eqb n.number number e)) in
        exchanges_is pids (set sends at s') n s' (ap (at_place pids (set sends at s')) same
        ∙ at_place_same pids sends pid at s' is (get_low sends at s there))
        ∙ others n.number apart
        ∙ sym (exchanges_is pids sends n s (ap (at_place pids sends) same ∙ at_place_is pids sends pid at s is there))
    not_this n f (inr g) = exchanges_same pids (set sends at s') sends n (at_place_other pids sends pid n.sender at s' is g)
