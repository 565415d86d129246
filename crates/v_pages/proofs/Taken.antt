-- The request that a server took last is the one that it holds.
use Rattle.std.proofs.Common.{◌≡◌, ℕ, suc, ◌<◌, ◌≤◌, true, false, List, [], ◌∷◌, ◌++◌, slice_get, Some, None, option_map, refl, sym, ap, ◌∙◌, inl, inr, arith, take}
use Rattle.std.proofs.lemmas.Bool.{both_ways, cases_order, cond-true, eq-eqb, eqb-true}
use Rattle.std.proofs.lemmas.Option.{same_Some, none-some}
use Rattle.vk_types.specs.Types.{Exchange, Name, Pid, Process, ProcessSpec, Stage, Step}
use Rattle.vk_base.specs.declared.kernel.Stage.TheVariants as stages
use Rattle.vk_base.specs.declared.kernel.State.TheVariants as states
use Rattle.vk_base.specs.declared.step.Step.TheVariants as steps
use Rattle.vk_base.specs.Calls.{unseen}
use Rattle.vk_base.specs.Kernel.{◌>>=◌, Kernel, initial_kernel, held, is_taken, name_of}
use Rattle.vk_base.specs.Pids.{same_host, same_pid}
use Rattle.vk_base.specs.Ranges.{range_of, bytes_in}
use Rattle.vk_base.specs.Steps.{Run, Taking, run, taking, taken, received, with_part}
use Rattle.vk_base.proofs.OptionLemmas.{bind_is, mapped_is}
use Rattle.vk_base.proofs.PidLemmas.{same_pid_self}
use Rattle.vk_event.specs.declared.task.TheConstants.{PAGE_BYTES}
use Rattle.v_laws.specs.Places.{before, process_after, taken_at, taken_by}
use Rattle.v_laws.specs.Reached.{IsReached}
use Rattle.v_laws.proofs.Changes.{taken_is_at_target}
use Rattle.v_laws.proofs.Held.{holding_is}
use Rattle.v_laws.proofs.OnceLemmas.{IsTakenAt, one_open, taken_at_is, taken_over}
use Rattle.v_laws.proofs.PlaceLemmas.{at_place, before_sound}
use Rattle.v_laws.proofs.Queues.{taken_was_queued}
use Rattle.v_laws.proofs.StepLemmas.{only_if_is}
use Rattle.v_laws.proofs.Tables.{same_pid_is, put_process_here}
use Rattle.v_pages.specs.Requests.{Request, request_at, requests_before, taking_by}
use Rattle.v_pages.proofs.Lists.{IsLastAt, last_at}
use Rattle.v_pages.proofs.Places.{request_here}
use Rattle.v_pages.proofs.Staying.{NeverHands, queued_reach, reach, stays_with}

-- A request that was taken at a place.
pub record IsRequestAt (specs : List ProcessSpec) (ss : List Step) (r : Pid) (i : ℕ) (q : Request) : Type 0 where
  pub kernel : Kernel
  pub at : before specs ss i ≡ Some kernel
  pub is : slice_get ss i ≡ Some (steps.Take r)
  pub take : Taking
  pub takes : taking kernel r ≡ Some take
  pub name : q.name ≡ take.name
  pub message : q.message ≡ take.exchange.shown
  pub after : Process
  pub left : process_after specs ss i r ≡ Some after
  pub bytes : q.bytes ≡ bytes_in (range_of 0 PAGE_BYTES) after.memory

taking_is_by : (r : Pid) (k : Kernel) (s : Step) (t : Taking) → taking_by r k s ≡ Some t → (s ≡ steps.Take r) × (taking k r ≡ Some t)
taking_is_by r k (steps.Take q) t e =
    let test = only_if_is (same_pid q r) (taking k q) t e in
    let same = same_pid_is q r test.0 in
    (ap (λ z. steps.Take z) same, ap (taking k) (sym same) ∙ test.1)
taking_is_by r k s t e = absurd (none-some t e)

pub request_is : (specs : List ProcessSpec) (ss : List Step) (r : Pid) (i : ℕ) (q : Request) → request_at specs ss r i ≡ Some q →
    IsRequestAt specs ss r i q
request_is specs ss r i q e =
    let k = bind_is (before specs ss i) _ q e in
    let s = bind_is (slice_get ss i) _ q k.2 in
    let t = bind_is (taking_by r k.0 s.0) _ q s.2 in
    let p = bind_is (process_after specs ss i r) _ q t.2 in
    let by = taking_is_by r k.0 s.0 t.0 t.1 in
    let same = same_Some _ q p.2 in
    record {
      kernel = k.0;
      at = k.1;
      is = s.1 ∙ ap (λ (z : Step). Some z) by.0;
      take = t.0;
      takes = by.1;
      name = ap (λ (z : Request). z.name) (sym same);
      message = ap (λ (z : Request). z.message) (sym same);
      after = p.0;
      left = p.1;
      bytes = ap (λ (z : Request). z.bytes) (sym same);
    }

pub request_taken : (specs : List ProcessSpec) (ss : List Step) (r : Pid) (i : ℕ) (q : Request) → IsRequestAt specs ss r i q →
    taken_at specs ss i ≡ Some q.name
request_taken specs ss r i q a =
    at_place taken_by specs ss i a.kernel (steps.Take r) a.at a.is
    ∙ ap (option_map (λ (t : Taking). t.name)) a.takes ∙ ap (λ (z : Name). Some z) (sym a.name)

taken_leaves : (k : Kernel) (r : Pid) (t : Taking) → (y : Process) × ((taken k r t).procs r ≡ Some y)
unfolding taken
taken_leaves k r t = (
  record t.process {
    memory = with_part t.call t.exchange t.process.memory;
    state = states.Done t.call (received t.call t.name.sender t.exchange);
  },
  put_process_here k.procs r (record t.process {
    memory = with_part t.call t.exchange t.process.memory;
    state = states.Done t.call (received t.call t.name.sender t.exchange);
  }),
)

-- each Take of the server takes a request
pub request_of : (specs : List ProcessSpec) (ss : List Step) (r : Pid) (i : ℕ) (k : Kernel) (t : Taking) → before specs ss i ≡ Some k →
    slice_get ss i ≡ Some (steps.Take r) → taking k r ≡ Some t → (q : Request) × (request_at specs ss r i ≡ Some q)
request_of specs ss r i k t at is takes =
    let e = unseen (taken k r t) in
    let y = taken_leaves k r t in
    let q : Request = record { name = t.name; message = t.exchange.shown; bytes = bytes_in (range_of 0 PAGE_BYTES) y.0.memory } in (
      q,
      request_here specs ss r i k (steps.Take r) e at is (ap (λ o. o >>= λ t. Some (unseen (taken k r t))) takes)
          ∙ ap (λ o. o >>= λ (t : Taking). e.after.procs r >>= λ (p : Process).
          Some (record { name = t.name; message = t.exchange.shown; bytes = bytes_in (range_of 0 PAGE_BYTES) p.memory }))
          (cond-true (same_pid r r) (taking k r) None (same_pid_self r) ∙ takes)
          ∙ ap (λ o. o >>= λ (p : Process).
          Some (record { name = t.name; message = t.exchange.shown; bytes = bytes_in (range_of 0 PAGE_BYTES) p.memory })) y.1,
    )

-- Two that are taken at the same time are one.
pub reached_before : (specs : List ProcessSpec) (ss : List Step) (i : ℕ) (k : Kernel) → before specs ss i ≡ Some k → IsReached k
reached_before specs ss i k at =
    let r = mapped_is (λ (r : Run). r.after) (run (initial_kernel specs) (take i ss)) k at in
    record {
      specs = specs;
      steps = take i ss;
      seen = r.0.seen;
      is = r.1 ∙ (λ j. Some (record { after = r.2 j; seen = r.0.seen }));
    }

pub past_taken : (s : Stage) → 2 ≤ reach s → reach s ≤ 2 → is_taken s ≡ true
past_taken stages.Posted a b = absurd (omega arith)
past_taken stages.Queued a b = absurd (omega arith)
past_taken stages.Taken a b = refl
past_taken (stages.Replied m d bytes) a b = absurd (omega arith)
past_taken stages.Dropped a b = absurd (omega arith)

pub taken_reach : (s : Stage) → is_taken s ≡ true → reach s ≡ 2
taken_reach stages.Posted t = absurd (both_ways false refl t)
taken_reach stages.Queued t = absurd (both_ways false refl t)
taken_reach stages.Taken t = refl
taken_reach (stages.Replied m d bytes) t = absurd (both_ways false refl t)
taken_reach stages.Dropped t = absurd (both_ways false refl t)

pub take_same : (p q : Pid) → steps.Take p ≡ steps.Take q → p ≡ q
take_same p q e = cc

-- what a process takes is at that process
pub taker : (specs : List ProcessSpec) (ss : List Step) (i : ℕ) (n : Name) (r : Pid) (a : IsTakenAt specs ss i n) →
    slice_get ss i ≡ Some (steps.Take r) → a.take.exchange.at ≡ r
taker specs ss i n r a is = same_pid_is a.take.exchange.at a.receiver (taken_was_queued a.kernel a.receiver a.take a.takes).0
    ∙ take_same a.receiver r (same_Some (steps.Take a.receiver) (steps.Take r) (sym a.is ∙ is))

-- what the server took it takes no second time
pub not_again : (specs : List ProcessSpec) (ss : List Step) (i l : ℕ) (r : Pid) (n : Name) →
    NeverHands ss r → taken_at specs ss i ≡ Some n → slice_get ss i ≡ Some (steps.Take r) →
    taken_at specs ss l ≡ Some n → i < l → ⊥
not_again specs ss i l r n never first is second less =
    let a = taken_at_is specs ss i n first in
    let b = taken_at_is specs ss l n second in
    let o = taken_over specs ss i n a in
    let p = taken_over specs ss l n b in
    let x = stays_with specs ss r never (suc i) l o.after b.kernel (omega arith) o.at b.at n
    (record a.take.exchange { stage = stages.Taken }) o.there (taker specs ss i n r a is) in
    let far = x.2.far in
    let low : reach x.0.stage ≡ 1 = ap (λ (z : Exchange). reach z.stage) (same_Some x.0 b.take.exchange (sym x.1 ∙ p.queued))
    ∙ queued_reach b.take.exchange.stage (taken_was_queued b.kernel b.receiver b.take b.takes).1 in
    absurd (omega arith)

no_second : (specs : List ProcessSpec) (ss : List Step) (i j : ℕ) (r : Pid) (p q : Request) →
    NeverHands ss r → request_at specs ss r i ≡ Some p → request_at specs ss r j ≡ Some q →
    q.name ≡ p.name → i < j → ⊥
no_second specs ss i j r p q never first second name less =
    let a = request_is specs ss r i p first in
    let b = request_is specs ss r j q second in
    not_again specs ss i j r p.name never (request_taken specs ss r i p a) a.is
    (request_taken specs ss r j q b ∙ ap (λ n. Some n) name) less

pub one_take : (specs : List ProcessSpec) (ss : List Step) (i j : ℕ) (r : Pid) (p q : Request) →
    NeverHands ss r → request_at specs ss r i ≡ Some p → request_at specs ss r j ≡ Some q →
    q.name ≡ p.name → j ≡ i
one_take specs ss i j r p q never first second name = elim (cases_order j i) [
  | inl same ↦ same
  | inr apart ↦ elim apart [
    | inl below ↦ absurd (no_second specs ss j i r q p never second first (sym name) below)
    | inr above ↦ absurd (no_second specs ss i j r p q never first second name above)
  ]
]

-- what is taken there by the server is a request
pub request_at_take : (specs : List ProcessSpec) (ss : List Step) (r : Pid) (i : ℕ) (n : Name) → slice_get ss i ≡ Some (steps.Take r) →
    taken_at specs ss i ≡ Some n → (q : Request) × (request_at specs ss r i ≡ Some q) × (q.name ≡ n)
request_at_take specs ss r i n is takes =
    let a = taken_at_is specs ss i n takes in
    let same = take_same a.receiver r (same_Some (steps.Take a.receiver) (steps.Take r) (sym a.is ∙ is)) in
    let x = request_of specs ss r i a.kernel a.take a.at is (ap (taking a.kernel) (sym same) ∙ a.takes) in
    (x.0, x.1, same_Some x.0.name n (sym (request_taken specs ss r i x.0 (request_is specs ss r i x.0 x.1)) ∙ takes))

-- what it holds at a place it held from its Take on
held_since : (specs : List ProcessSpec) (ss : List Step) (i l j : ℕ) (r s : Pid) (number : ℕ) (m k : Kernel) →
    NeverHands ss r → taken_at specs ss i ≡ Some (name_of s number) →
    slice_get ss i ≡ Some (steps.Take r) → i < l → l ≤ j → before specs ss l ≡ Some m → before specs ss j ≡ Some k →
    held k r s ≡ Some number →
    (x : Exchange) × (m.exchanges (name_of s number) ≡ Some x) × (is_taken x.stage ≡ true) × (x.at ≡ r)
held_since specs ss i l j r s number m k never takes is less up at_l at_j holds =
    let n = name_of s number in
    let a = taken_at_is specs ss i n takes in
    let o = taken_over specs ss i n a in
    let h = holding_is k r s number holds in
    let x = stays_with specs ss r never (suc i) l o.after m (omega arith) o.at at_l n
    (record a.take.exchange { stage = stages.Taken }) o.there (taker specs ss i n r a is) in
    let y = stays_with specs ss r never l j m k up at_l at_j n x.0 x.1 x.2.at in
    let same : y.0 ≡ h.exchange = same_Some y.0 h.exchange (sym y.1 ∙ h.is) in
    let low = x.2.far in
    let high = y.2.far in
    let last : reach y.0.stage ≡ 2 = ap (λ (z : Exchange). reach z.stage) same ∙ taken_reach h.exchange.stage h.taken in
    (x.0, x.1, past_taken x.0.stage low (omega arith), x.2.at)

-- exchanges at one process are of one station
pub one_host : (x y : Exchange) → x.at ≡ y.at → same_host x.target x.at ≡ true → same_host y.target y.at ≡ true →
    same_host x.target y.target ≡ true
one_host x y same first second = eq-eqb x.target.host y.target.host
    (eqb-true x.target.host x.at.host first ∙ ap (λ (p : Pid). p.host) same ∙ sym (eqb-true y.target.host y.at.host second))

-- so of two Takes of one sender by a server the second is the one that it holds
pub never_both : (specs : List ProcessSpec) (ss : List Step) (i l j : ℕ) (r s : Pid) (number : ℕ) (k : Kernel)
    (q : Request) → NeverHands ss r → taken_at specs ss i ≡ Some (name_of s number) →
    slice_get ss i ≡ Some (steps.Take r) → request_at specs ss r l ≡ Some q → q.name.sender ≡ s → i < l → l < j →
    before specs ss j ≡ Some k → held k r s ≡ Some number → ⊥
never_both specs ss i l j r s number k q never takes is asked sender less up at holds =
    let a = request_is specs ss r l q asked in
    let b = taken_at_is specs ss l q.name (request_taken specs ss r l q a) in
    let o = taken_over specs ss l q.name b in
    let x = held_since specs ss i (suc l) j r s number o.after k never takes is (omega arith) (omega arith) o.at at
    holds in
    let y : Exchange = record b.take.exchange { stage = stages.Taken } in
    let name : name_of s q.name.number ≡ q.name = ap (λ z. name_of z q.name.number) (sym sender) in
    let there : o.after.exchanges (name_of s q.name.number) ≡ Some y = ap o.after.exchanges name ∙ o.there in
    let sound = before_sound specs ss (suc l) o.after o.at in
    let one = one_open o.after s number q.name.number x.0 y (reached_before specs ss (suc l) o.after o.at) x.1 there
    (taken_is_at_target x.0.stage x.2) refl
    (one_host x.0 y (x.3 ∙ sym (taker specs ss l q.name r b a.is)) (sound.near (name_of s number) x.0 x.1)
    (sound.near (name_of s q.name.number) y there)) in
    not_again specs ss i l r q.name never
    (takes ∙ ap (λ n. Some (name_of s n)) one ∙ ap (λ (z : Name). Some z) name) is (request_taken specs ss r l q a) less

-- The request that it took last is the one that it replies to.
pub record IsLastTaken (specs : List ProcessSpec) (ss : List Step) (r : Pid) (i j : ℕ) (earlier : List Request) (q : Request) (n : Name) :
    Type 0 where
  pub is : request_at specs ss r i ≡ Some q
  pub name : q.name ≡ n
  pub front : requests_before specs ss r i ≡ earlier
  pub none : (l : ℕ) → i < l → l < j → request_at specs ss r l ≡ None

pub last_taken : (specs : List ProcessSpec) (ss : List Step) (r s : Pid) (i j number : ℕ) (k : Kernel)
    (earlier : List Request) (q : Request) → NeverHands ss r →
    taken_at specs ss i ≡ Some (name_of s number) → slice_get ss i ≡ Some (steps.Take r) → i < j → before specs ss j ≡ Some k →
    held k r s ≡ Some number → requests_before specs ss r j ≡ earlier ++ q ∷ [] → q.name.sender ≡ s →
    IsLastTaken specs ss r i j earlier q (name_of s number)
last_taken specs ss r s i j number k earlier q never takes is less at holds all sender = by_place (last_at
    (request_at specs ss r) j earlier q all)
  where
    other : request_at specs ss r i ≡ None → ⊥
    other none =
        let x = request_at_take specs ss r i (name_of s number) is takes in none-some x.0 (sym none ∙ x.1)

    here : (l : ℕ) → request_at specs ss r l ≡ Some q → requests_before specs ss r l ≡ earlier → l ≡ i →
        ((a : ℕ) → l < a → a < j → request_at specs ss r a ≡ None) → IsLastTaken specs ss r i j earlier q (name_of s number)
    here l asked front same rest =
        let asked_here : request_at specs ss r i ≡ Some q = ap (request_at specs ss r) (sym same) ∙ asked in
        record {
          is = asked_here;
          name = same_Some q.name (name_of s number)
              (sym (request_taken specs ss r i q (request_is specs ss r i q asked_here)) ∙ takes);
          front = ap (requests_before specs ss r) (sym same) ∙ front;
          none = λ a low high. rest a (omega (arith, same)) high;
        }

    by_place : IsLastAt (request_at specs ss r) j earlier q → IsLastTaken specs ss r i j earlier q (name_of s number)
    by_place l = elim (cases_order l.place i) [
      | inl same ↦ here l.place l.is l.front same l.none
      | inr apart ↦ elim apart [
        | inl below ↦ absurd (other (l.none i below less))
        | inr above ↦ absurd (never_both specs ss i l.place j r s number k q never takes is l.is sender above l.earlier at
            holds)
      ]
    ]
