-- Kernels without the bytes of spent moves: what is found in them, and what they are after a change.
use Rattle.std.proofs.Common.{◌≡◌, ℕ, zero, suc, Bool, true, false, cond, List, filter, option_map, Option, Some, None, refl, sym, ap, ◌∙◌, inl, inr}
use Rattle.std.proofs.lemmas.Bool.{cases_Bool}
use Rattle.vk_types.specs.Types.{Answer, Call, Exchange, Lookup, Message, Name, Pid, Process, Registration, Stage}
use Rattle.vk_base.specs.Calls.{Effect, unseen, answered}
use Rattle.vk_base.specs.Kernel.{◌>>=◌, Kernel, name_of, same_name, holds_of, is_held_by, held_up_to, held, held_exchange, is_queued_at, queue_of, put_exchange, waiting_on, with_stage}
use Rattle.vk_base.specs.Steps.{only_if}
use Rattle.v_laws.proofs.Tables.{same_name_is, put_exchange_at, put_exchange_other}
use Rattle.v_machine.specs.Sends.{handed_on}
use Rattle.v_machine.specs.Spent.{lean, emptied_kernel}
use Rattle.v_machine.proofs.Effects.{SameBy, answered_by, bind_by, bind_by_at, cond_by, effect_by, unseen_by}
use Rattle.v_machine.proofs.Spent.{lean_twice}

-- Steps that do the same but for such bytes.
abbrev pub lean_effect : Effect → Effect
lean_effect = effect_by emptied_kernel

abbrev pub Same : Option Effect → Option Effect → Type 0
Same = SameBy emptied_kernel

pub bind_same : {A : Type 0} (o : Option A) (f g : A → Option Effect) → ((a : A) → o ≡ Some a → Same (f a) (g a)) →
    Same (o >>= f) (o >>= g)
bind_same = bind_by emptied_kernel

pub mapped_same : {A : Type 0} (h : A → A) (o : Option A) (f g : A → Option Effect) → ((a : A) → o ≡ Some a → Same (f (h a)) (g a)) →
    Same (option_map h o >>= f) (o >>= g)
mapped_same h None f g each = refl
mapped_same h (Some a) f g each = each a refl

pub cond_same : (b : Bool) (o p q r : Option Effect) → Same o q → Same p r → Same (cond b o p) (cond b q r)
cond_same = cond_by emptied_kernel

pub bind_same_at : {A : Type 0} (o p : Option A) (f g : A → Option Effect) → o ≡ p → ((a : A) → p ≡ Some a → Same (f a) (g a)) →
    Same (o >>= f) (p >>= g)
bind_same_at = bind_by_at emptied_kernel

pub unseen_same : (k l : Kernel) → emptied_kernel k ≡ emptied_kernel l → Same (Some (unseen k)) (Some (unseen l))
unseen_same = unseen_by emptied_kernel

pub answered_same : (k l : Kernel) (pid : Pid) (c : Call) (a : Answer) → emptied_kernel k ≡ emptied_kernel l →
    Same (Some (answered k pid c a)) (Some (answered l pid c a))
answered_same = answered_by emptied_kernel

-- Chains of what is found.
pub bind_eq : {A B : Type 0} (o : Option A) (f g : A → Option B) → ((a : A) → f a ≡ g a) → (o >>= f) ≡ (o >>= g)
bind_eq None f g each = refl
bind_eq (Some a) f g each = each a

pub mapped_eq : {A B : Type 0} (h : A → A) (o : Option A) (f g : A → Option B) → ((a : A) → f (h a) ≡ g a) →
    (option_map h o >>= f) ≡ (o >>= g)
mapped_eq h None f g each = refl
mapped_eq h (Some a) f g each = each a

pub bind_map : {A B : Type 0} (j : B → B) (o : Option A) (f g : A → Option B) → ((a : A) → f a ≡ option_map j (g a)) →
    (o >>= f) ≡ option_map j (o >>= g)
bind_map j None f g each = refl
bind_map j (Some a) f g each = each a

pub mapped_map : {A B : Type 0} (j : B → B) (h : A → A) (o : Option A) (f g : A → Option B) →
    ((a : A) → f (h a) ≡ option_map j (g a)) → (option_map h o >>= f) ≡ option_map j (o >>= g)
mapped_map j h None f g each = refl
mapped_map j h (Some a) f g each = each a

pub only_if_map : {A : Type 0} (j : A → A) (b : Bool) (o : Option A) → only_if b (option_map j o) ≡ option_map j (only_if b o)
only_if_map j true o = refl
only_if_map j false o = refl

-- What is found.
pub holds_lean : (test : Exchange → Bool) → ((e : Exchange) → test (lean e) ≡ test e) → (o : Option Exchange) →
    holds_of test (option_map lean o) ≡ holds_of test o
holds_lean test each None = refl
holds_lean test each (Some e) = each e

held_lean_up_to : (exchanges : Name → Option Exchange) (r sender : Pid) (n : ℕ) →
    held_up_to (λ m. option_map lean (exchanges m)) r sender n ≡ held_up_to exchanges r sender n
unfolding held_up_to
held_lean_up_to exchanges r sender zero = refl
held_lean_up_to exchanges r sender (suc n) =
    let here = holds_lean (is_held_by r) (λ e. refl) (exchanges (name_of sender (suc n))) in
    let rest = held_lean_up_to exchanges r sender n in
    λ i. cond (here i) (Some (suc n)) (rest i)

pub held_lean : (k : Kernel) (r sender : Pid) → held (emptied_kernel k) r sender ≡ held k r sender
unfolding emptied_kernel held
held_lean k r sender = bind_eq (k.procs sender) _ _ (λ p. held_lean_up_to k.exchanges r sender p.sends)

pub held_exchange_lean : (k : Kernel) (r sender : Pid) →
    held_exchange (emptied_kernel k) r sender ≡ option_map lean (held_exchange k r sender)
unfolding emptied_kernel
held_exchange_lean k r sender =
    ap (λ o. o >>= λ number. option_map lean (k.exchanges (name_of sender number))) (held_lean k r sender)
    ∙ bind_map lean (held k r sender) _ (λ number. k.exchanges (name_of sender number)) (λ number. refl)

pub queue_lean : (k : Kernel) (r : Pid) → queue_of (emptied_kernel k) r ≡ queue_of k r
unfolding emptied_kernel queue_of
queue_lean k r =
    let same : (n : Name) → holds_of (is_queued_at r) (option_map lean (k.exchanges n)) ≡ holds_of (is_queued_at r) (k.exchanges n) =
    λ n. holds_lean (is_queued_at r) (λ e. refl) (k.exchanges n) in
    λ i. filter (λ n. same n i) k.arrived

pub waiting_lean : (k : Kernel) (n : Name) → waiting_on (emptied_kernel k) n ≡ waiting_on k n
unfolding emptied_kernel waiting_on
waiting_lean k n = refl

-- Kernels after a change: of all but exchanges, of one exchange, and of all.
abbrev pub AreAlike : (Name → Option Exchange) → (Name → Option Exchange) → Type 0
AreAlike f g = (n : Name) → option_map lean (f n) ≡ option_map lean (g n)

pub alike_twice : (k : Kernel) → AreAlike (emptied_kernel k).exchanges k.exchanges
unfolding emptied_kernel
alike_twice k n = lean_twice (k.exchanges n)

pub kernels_alike : (procs : Pid → Option Process) (f g : Name → Option Exchange) (arrived : List Name) (names : ℕ → List Registration)
    (lookups : Pid → ℕ → Option Lookup) → AreAlike f g →
    emptied_kernel (record { procs = procs; exchanges = f; arrived = arrived; names = names; lookups = lookups })
    ≡ emptied_kernel (record { procs = procs; exchanges = g; arrived = arrived; names = names; lookups = lookups })
unfolding emptied_kernel
kernels_alike procs f g arrived names lookups alike =
    λ i. record { procs = procs; exchanges = λ n. alike n i; arrived = arrived; names = names; lookups = lookups }

pub others_alike : (k : Kernel) (procs : Pid → Option Process) (names : ℕ → List Registration) (lookups : Pid → ℕ → Option Lookup) →
    emptied_kernel (record (emptied_kernel k) { procs = procs; names = names; lookups = lookups })
    ≡ emptied_kernel (record k { procs = procs; names = names; lookups = lookups })
unfolding emptied_kernel
others_alike k procs names lookups =
    kernels_alike procs (λ n. option_map lean (k.exchanges n)) k.exchanges k.arrived names lookups (alike_twice k)

pub emptied_kernel_again : (k : Kernel) → emptied_kernel (emptied_kernel k) ≡ emptied_kernel k
unfolding emptied_kernel
emptied_kernel_again k = others_alike k k.procs k.names k.lookups

put_alike_by : (b : Bool) (x y : Exchange) (o p : Option Exchange) → lean x ≡ lean y → option_map lean o ≡ option_map lean p →
    option_map lean (cond b (Some x) o) ≡ option_map lean (cond b (Some y) p)
put_alike_by true x y o p here others = ap Some here
put_alike_by false x y o p here others = others

pub put_alike : (f g : Name → Option Exchange) (name : Name) (x y : Exchange) → AreAlike f g → lean x ≡ lean y →
    AreAlike (put_exchange f name x) (put_exchange g name y)
unfolding put_exchange
put_alike f g name x y alike here n = put_alike_by (same_name n name) x y (f n) (g n) here (alike n)

-- an exchange is put that is the same but for such bytes
pub alike_put : (k : Kernel) (name : Name) (e x : Exchange) → k.exchanges name ≡ Some e → lean e ≡ lean x →
    emptied_kernel k ≡ emptied_kernel (record k { exchanges = put_exchange k.exchanges name x })
alike_put k name e x at same = kernels_alike k.procs k.exchanges (put_exchange k.exchanges name x) k.arrived k.names k.lookups
    (λ n. elim (cases_Bool (same_name n name)) [
      | inl t ↦ ap (λ z. option_map lean (k.exchanges z)) (same_name_is n name t) ∙ ap (option_map lean) at ∙ ap Some same
          ∙ sym (ap (option_map lean) (put_exchange_at k.exchanges name x n t))
      | inr f ↦ sym (ap (option_map lean) (put_exchange_other k.exchanges name x n f))
    ])

-- an exchange whose stage alone is another one
pub lean_again : (e : Exchange) → lean (lean e) ≡ lean e
lean_again e = ap (λ (o : Option Exchange). from o) (lean_twice (Some e))
  where
    from : Option Exchange → Exchange
    from None = e
    from (Some x) = x

pub stage_again : (e : Exchange) (s : Stage) → lean (record (lean e) { stage = s }) ≡ lean (record e { stage = s })
stage_again e s = ap (λ (x : Exchange). record x { stage = s }) (lean_again e)

pub handed_again : (e : Exchange) (m : Message) (to : Pid) → lean (handed_on m to (lean e)) ≡ lean (handed_on m to e)
handed_again e m to = ap (handed_on m to) (lean_again e)

pub cond_alike : (b : Bool) (x y z w : Exchange) → lean x ≡ lean z → lean y ≡ lean w → lean (cond b x y) ≡ lean (cond b z w)
cond_alike true x y z w one other = one
cond_alike false x y z w one other = other

pub stage_alike : (k : Kernel) (name : Name) (e : Exchange) (s : Stage) →
    emptied_kernel (with_stage (emptied_kernel k) name (lean e) s) ≡ emptied_kernel (with_stage k name e s)
unfolding emptied_kernel
stage_alike k name e s = kernels_alike k.procs _ _ k.arrived k.names k.lookups
    (put_alike (λ n. option_map lean (k.exchanges n)) k.exchanges name (record (lean e) { stage = s }) (record e { stage = s })
    (alike_twice k) (stage_again e s))

-- all exchanges are changed
pub map_alike : (f : Name → Option Exchange) (change changed : Name → Exchange → Exchange) →
    ((n : Name) (e : Exchange) → lean (change n (lean e)) ≡ lean (changed n e)) →
    AreAlike (λ n. option_map (change n) (option_map lean (f n))) (λ n. option_map (changed n) (f n))
map_alike f change changed each n = by_option (f n)
  where
    by_option : (o : Option Exchange) → option_map lean (option_map (change n) (option_map lean o)) ≡ option_map lean (option_map (changed n) o)
    by_option None = refl
    by_option (Some e) = ap Some (each n e)
