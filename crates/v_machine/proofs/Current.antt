-- Kernels without the exchanges that are over: what is found in them, and what they are after a change.
use Rattle.std.proofs.Common.{◌≡◌, ℕ, zero, suc, ◌≤◌, nat_lt, ◌&&◌, Bool, true, false, cond, List, filter, option_map, Option, Some, None, refl, sym, ap, ◌∙◌, inl, inr, arith}
use Rattle.std.proofs.lemmas.Bool.{cases_Bool, cond-true, cond-false, and_from, and_parts, and_left, and_right, both_ways, ltb-true, lt-ltb, or_right, or_left}
use Rattle.vk_types.specs.Types.{Exchange, Lookup, Name, Pid, Process, Registration}
use Rattle.vk_base.specs.Kernel.{◌>>=◌, Kernel, name_of, same_name, holds_of, is_posted, is_queued, is_taken, is_at_target, is_held_by, held_up_to, held, held_exchange, is_queued_at, queue_of, put_process, put_exchange}
use Rattle.vk_base.specs.Pids.{same_pid}
use Rattle.v_laws.specs.Sound.{is_settled}
use Rattle.v_laws.proofs.Changes.{at_target_not_settled, posted_not_settled}
use Rattle.v_laws.proofs.Held.{holding_is}
use Rattle.v_laws.proofs.Tables.{same_pid_is, put_process_at, put_process_other}
use Rattle.v_machine.specs.Spent.{has_ended, has_none, is_past, unless_over, current_kernel}

-- What has not ended, and what it is then.
open_stage : (e : Exchange) → is_settled e.stage ≡ false → has_ended e ≡ false
open_stage e unsettled = and_left (is_settled e.stage) (has_none e.moves) unsettled

pub posted_open : (e : Exchange) → is_posted e.stage ≡ true → has_ended e ≡ false
posted_open e t = open_stage e (posted_not_settled e.stage t)

pub queued_open : (e : Exchange) → is_queued e.stage ≡ true → has_ended e ≡ false
queued_open e t = open_stage e (at_target_not_settled e.stage (or_left (is_queued e.stage) (is_taken e.stage) t))

pub taken_open : (e : Exchange) → is_taken e.stage ≡ true → has_ended e ≡ false
taken_open e t = open_stage e (at_target_not_settled e.stage (or_right (is_queued e.stage) (is_taken e.stage) t))

pub target_open : (e : Exchange) → is_at_target e.stage ≡ true → has_ended e ≡ false
target_open e t = open_stage e (at_target_not_settled e.stage t)

-- a test that only what has not ended passes
pub fails : (b : Bool) (e : Exchange) → (b ≡ true → has_ended e ≡ false) → has_ended e ≡ true → b ≡ false
fails true e live ended = absurd (both_ways (has_ended e) (live refl) ended)
fails false e live ended = refl

-- What is there, as long as it is not over.
pub lost : {A : Type 0} (sender : Option Process) (number : ℕ) (o : Option Exchange) (f : Exchange → Option A) →
    ((e : Exchange) → has_ended e ≡ true → f e ≡ None) → ((o >>= unless_over sender number) >>= f) ≡ (o >>= f)
lost sender number None f none = refl
lost sender number (Some e) f none = by_test (is_past number sender) (has_ended e) refl
  where
    by_test : (p t : Bool) → has_ended e ≡ t → (cond (p && t) None (Some e) >>= f) ≡ f e
    by_test false t is = refl
    by_test true false is = refl
    by_test true true is = sym (none e is)

pub holds_there : (sender : Option Process) (number : ℕ) (o : Option Exchange) (test : Exchange → Bool) →
    ((e : Exchange) → has_ended e ≡ true → test e ≡ false) → holds_of test (o >>= unless_over sender number) ≡ holds_of test o
holds_there sender number None test none = refl
holds_there sender number (Some e) test none = by_test (is_past number sender) (has_ended e) refl
  where
    by_test : (p t : Bool) → has_ended e ≡ t → holds_of test (cond (p && t) None (Some e)) ≡ test e
    by_test false t is = refl
    by_test true false is = refl
    by_test true true is = sym (none e is)

pub still_there : (sender : Option Process) (number : ℕ) (o : Option Exchange) (e : Exchange) → o ≡ Some e → has_ended e ≡ false →
    (o >>= unless_over sender number) ≡ o
still_there sender number o e at live = ap (λ q. q >>= unless_over sender number) at
    ∙ cond-false (is_past number sender && has_ended e) None (Some e) (and_right (is_past number sender) (has_ended e) live) ∙ sym at

-- the last Send of its sender is never over
pub not_past : (sender : Option Process) (number : ℕ) (o : Option Exchange) → is_past number sender ≡ false →
    (o >>= unless_over sender number) ≡ o
not_past sender number None last = refl
not_past sender number (Some e) last =
    cond-false (is_past number sender && has_ended e) None (Some e) (and_left (is_past number sender) (has_ended e) last)

pub last_there : (sender : Option Process) (number : ℕ) (o : Option Exchange) (p : Process) → sender ≡ Some p → p.sends ≡ number →
    (o >>= unless_over sender number) ≡ o
last_there sender number o p at last = not_past sender number o
    (ap (is_past number) at ∙ below (nat_lt number p.sends) refl)
  where
    below : (b : Bool) → nat_lt number p.sends ≡ b → nat_lt number p.sends ≡ false
    below true t = let low = ltb-true number p.sends t in absurd (omega arith)
    below false f = f

-- What is found.
pub queue_now : (k : Kernel) (r : Pid) → queue_of (current_kernel k) r ≡ queue_of k r
unfolding current_kernel queue_of
queue_now k r =
    let same : (n : Name) → holds_of (is_queued_at r) (k.exchanges n >>= unless_over (k.procs n.sender) n.number)
    ≡ holds_of (is_queued_at r) (k.exchanges n) =
    λ n. holds_there (k.procs n.sender) n.number (k.exchanges n) (is_queued_at r) (λ e.
    fails (is_queued_at r e) e (λ t. queued_open e (and_parts (same_pid e.at r) (is_queued e.stage) t).1)) in
    λ i. filter (λ n. same n i) k.arrived

held_now_up_to : (k : Kernel) (r sender : Pid) (n : ℕ) →
    held_up_to (current_kernel k).exchanges r sender n ≡ held_up_to k.exchanges r sender n
unfolding current_kernel held_up_to
held_now_up_to k r sender zero = refl
held_now_up_to k r sender (suc n) =
    let here = holds_there (k.procs sender) (suc n) (k.exchanges (name_of sender (suc n))) (is_held_by r) (λ e.
    fails (is_held_by r e) e (λ t. taken_open e (and_parts (same_pid e.at r) (is_taken e.stage) t).1)) in
    let rest = held_now_up_to k r sender n in
    λ i. cond (here i) (Some (suc n)) (rest i)

pub held_now : (k : Kernel) (r sender : Pid) → held (current_kernel k) r sender ≡ held k r sender
unfolding current_kernel held
held_now k r sender = each (k.procs sender)
  where
    each : (o : Option Process) → (o >>= λ p. held_up_to (current_kernel k).exchanges r sender p.sends)
        ≡ (o >>= λ p. held_up_to k.exchanges r sender p.sends)
    each None = refl
    each (Some p) = held_now_up_to k r sender p.sends

-- what is held is there
pub held_there : (k : Kernel) (r sender : Pid) (number : ℕ) → held k r sender ≡ Some number →
    (current_kernel k).exchanges (name_of sender number) ≡ k.exchanges (name_of sender number)
unfolding current_kernel
held_there k r sender number is =
    let x = holding_is k r sender number is in
    still_there (k.procs sender) number (k.exchanges (name_of sender number)) x.exchange x.is (taken_open x.exchange x.taken)

pub held_exchange_now : (k : Kernel) (r sender : Pid) → held_exchange (current_kernel k) r sender ≡ held_exchange k r sender
held_exchange_now k r sender =
    ap (λ o. o >>= λ number. (current_kernel k).exchanges (name_of sender number)) (held_now k r sender)
    ∙ each (held k r sender) refl
  where
    each : (o : Option ℕ) → held k r sender ≡ o → (o >>= λ number. (current_kernel k).exchanges (name_of sender number))
        ≡ (o >>= λ number. k.exchanges (name_of sender number))
    each None is = refl
    each (Some number) is = held_there k r sender number is

-- Kernels after a change, in which no process has begun fewer Sends.
abbrev pub NoLess : (Pid → Option Process) → (Pid → Option Process) → Type 0
NoLess procs later = (q : Pid) (number : ℕ) → is_past number (procs q) ≡ true → is_past number (later q) ≡ true

pub as_many : (procs : Pid → Option Process) → NoLess procs procs
as_many procs q number t = t

pub put_no_less : (procs : Pid → Option Process) (pid : Pid) (p q : Process) → procs pid ≡ Some p → p.sends ≤ q.sends →
    NoLess procs (put_process procs pid q)
put_no_less procs pid p q at more r number t = elim (cases_Bool (same_pid r pid)) [
  | inl same ↦
      let past : nat_lt number p.sends ≡ true = sym (ap (is_past number) (ap procs (same_pid_is r pid same) ∙ at)) ∙ t in
      let low = ltb-true number p.sends past in
      ap (is_past number) (put_process_at procs pid q r same) ∙ lt-ltb number q.sends (omega arith)
  | inr other ↦ ap (is_past number) (put_process_other procs pid q r other) ∙ t
]

pub again_mapped : (before later : Option Process) (number : ℕ) (o : Option Exchange) (h : Exchange → Exchange) →
    (is_past number before ≡ true → is_past number later ≡ true) →
    ((e : Exchange) → o ≡ Some e → has_ended e ≡ true → has_ended (h e) ≡ true) →
    (option_map h (o >>= unless_over before number) >>= unless_over later number) ≡ (option_map h o >>= unless_over later number)
again_mapped before later number None h more kept = refl
again_mapped before later number (Some e) h more kept = by_test (is_past number before) refl (has_ended e) refl
  where
    by_test : (p : Bool) → is_past number before ≡ p → (t : Bool) → has_ended e ≡ t →
        (option_map h (cond (p && t) None (Some e)) >>= unless_over later number) ≡ unless_over later number (h e)
    by_test false is t ended = refl
    by_test true is false ended = refl
    by_test true is true ended = sym (cond-true (is_past number later && has_ended (h e)) None (Some (h e))
        (and_from (is_past number later) (has_ended (h e)) (more is) (kept e refl ended)))

again : (before later : Option Process) (number : ℕ) (o : Option Exchange) → (is_past number before ≡ true → is_past number later ≡ true) →
    ((o >>= unless_over before number) >>= unless_over later number) ≡ (o >>= unless_over later number)
again before later number o more =
    ap (λ q. q >>= unless_over later number) (sym (mapped_self (o >>= unless_over before number)))
    ∙ again_mapped before later number o (λ e. e) more (λ e at t. t) ∙ ap (λ q. q >>= unless_over later number) (mapped_self o)
  where
    mapped_self : (q : Option Exchange) → option_map (λ e. e) q ≡ q
    mapped_self None = refl
    mapped_self (Some e) = refl

abbrev pub AreSame : (Pid → Option Process) → (Name → Option Exchange) → (Name → Option Exchange) → Type 0
AreSame procs f g = (n : Name) → (f n >>= unless_over (procs n.sender) n.number) ≡ (g n >>= unless_over (procs n.sender) n.number)

pub kernels_now : (procs : Pid → Option Process) (f g : Name → Option Exchange) (arrived : List Name) (names : ℕ → List Registration)
    (lookups : Pid → ℕ → Option Lookup) → AreSame procs f g →
    current_kernel (record { procs = procs; exchanges = f; arrived = arrived; names = names; lookups = lookups })
    ≡ current_kernel (record { procs = procs; exchanges = g; arrived = arrived; names = names; lookups = lookups })
unfolding current_kernel
kernels_now procs f g arrived names lookups same =
    λ i. record { procs = procs; exchanges = λ n. same n i; arrived = arrived; names = names; lookups = lookups }

pub others_now : (k : Kernel) (procs : Pid → Option Process) (names : ℕ → List Registration) (lookups : Pid → ℕ → Option Lookup) →
    NoLess k.procs procs →
    current_kernel (record (current_kernel k) { procs = procs; names = names; lookups = lookups })
    ≡ current_kernel (record k { procs = procs; names = names; lookups = lookups })
unfolding current_kernel
others_now k procs names lookups more =
    kernels_now procs (λ n. k.exchanges n >>= unless_over (k.procs n.sender) n.number) k.exchanges k.arrived names lookups
    (λ n. again (k.procs n.sender) (procs n.sender) n.number (k.exchanges n) (more n.sender n.number))

pub current_again : (k : Kernel) → current_kernel (current_kernel k) ≡ current_kernel k
unfolding current_kernel
current_again k = others_now k k.procs k.names k.lookups (as_many k.procs)

-- one exchange is put
pub put_now : (k : Kernel) (procs : Pid → Option Process) (name : Name) (x : Exchange) → NoLess k.procs procs →
    AreSame procs (put_exchange (current_kernel k).exchanges name x) (put_exchange k.exchanges name x)
unfolding current_kernel put_exchange
put_now k procs name x more n = by_test (same_name n name)
    (again (k.procs n.sender) (procs n.sender) n.number (k.exchanges n) (more n.sender n.number))
  where
    by_test : (b : Bool) → ((k.exchanges n >>= unless_over (k.procs n.sender) n.number) >>= unless_over (procs n.sender) n.number)
        ≡ (k.exchanges n >>= unless_over (procs n.sender) n.number) →
        (cond b (Some x) (k.exchanges n >>= unless_over (k.procs n.sender) n.number) >>= unless_over (procs n.sender) n.number)
        ≡ (cond b (Some x) (k.exchanges n) >>= unless_over (procs n.sender) n.number)
    by_test true others = refl
    by_test false others = others

-- all exchanges are changed, and none that has ended goes on
pub all_now : (k : Kernel) (procs : Pid → Option Process) (h : Name → Exchange → Exchange) → NoLess k.procs procs →
    ((n : Name) (e : Exchange) → k.exchanges n ≡ Some e → has_ended e ≡ true → has_ended (h n e) ≡ true) →
    AreSame procs (λ n. option_map (h n) ((current_kernel k).exchanges n)) (λ n. option_map (h n) (k.exchanges n))
unfolding current_kernel
all_now k procs h more kept n =
    again_mapped (k.procs n.sender) (procs n.sender) n.number (k.exchanges n) (h n) (more n.sender n.number) (kept n)
