-- What a process holds of a sender is what it took of that sender last.
use Rattle.std.proofs.Common.{◌≡◌, ℕ, suc, ◌<◌, ◌≤◌, true, List, slice_get, Option, Some, None, take, sym, ap, ◌∙◌, inl, inr, arith}
use Rattle.std.proofs.lemmas.Bool.{cases_order}
use Rattle.std.proofs.lemmas.Option.{same_Some, none-some}
use Rattle.vk_types.specs.Types.{Exchange, Pid, Process, ProcessSpec, Step}
use Rattle.vk_base.specs.declared.kernel.Stage.TheVariants as kinds
use Rattle.vk_base.specs.declared.step.Step.TheVariants as steps
use Rattle.vk_base.specs.Kernel.{◌>>=◌, Kernel, is_taken, name_of, receiving}
use Rattle.vk_base.specs.Steps.{Taking, taking}
use Rattle.v_laws.specs.Places.{before, process_at, taken_at}
use Rattle.v_laws.proofs.Changes.{queued_is_at_target, taken_is_at_target}
use Rattle.v_laws.proofs.OnceLemmas.{one_open, taken_at_is, taken_over}
use Rattle.v_laws.proofs.PlaceLemmas.{before_sound}
use Rattle.v_laws.proofs.Queues.{taken_was_queued}
use Rattle.v_laws.proofs.StepLemmas.{taking_is}
use Rattle.v_laws.proofs.Tables.{same_pid_is}
use Rattle.v_pages.proofs.Taken.{one_host, past_taken, reached_before, take_same, taken_reach, taker}
use Rattle.v_pages.proofs.Staying.{NeverHands, queued_reach, reach, stays_with}

-- A Take of a process, of a message of this sender.
pub record IsTakeFrom (specs : List ProcessSpec) (ss : List Step) (r h : Pid) (i : ℕ) (t : Taking) : Type 0 where
  pub kernel : Kernel
  pub at : before specs ss i ≡ Some kernel
  pub takes : taking kernel r ≡ Some t
  pub sender : t.name.sender ≡ h

-- of two that it holds at the same time there is but one
held_then : (specs : List ProcessSpec) (ss : List Step) (r h : Pid) → NeverHands ss r → (x : ℕ) (k : Kernel) (number : ℕ)
    (e : Exchange) → before specs ss x ≡ Some k → k.exchanges (name_of h number) ≡ Some e → is_taken e.stage ≡ true → (i j : ℕ)
    (t : Taking) → taken_at specs ss i ≡ Some (name_of h number) → slice_get ss i ≡ Some (steps.Take r) →
    IsTakeFrom specs ss r h j t → i < j → j < x → ⊥
held_then specs ss r h never x k number e at is taken i j t takes receives f less up =
    let n = name_of h number in
    let a = taken_at_is specs ss i n takes in
    let o = taken_over specs ss i n a in
    let here : a.take.exchange.at ≡ r = taker specs ss i n r a receives in
    let y = stays_with specs ss r never (suc i) j o.after f.kernel (omega arith) o.at f.at n (record a.take.exchange { stage = kinds.Taken })
    o.there here in
    let z = stays_with specs ss r never j x f.kernel k (omega arith) f.at at n y.0 y.1 y.2.at in
    let same : z.0 ≡ e = same_Some z.0 e (sym z.1 ∙ is) in
    let low = y.2.far in
    let high = z.2.far in
    let last : reach z.0.stage ≡ 2 = ap (λ (w : Exchange). reach w.stage) same ∙ taken_reach e.stage taken in
    let two : reach y.0.stage ≡ 2 = omega arith in
    let sound = before_sound specs ss j f.kernel f.at in
    let w = t.exchange in
    let queued = taken_was_queued f.kernel r t f.takes in
    let there : f.kernel.exchanges (name_of h t.name.number) ≡ Some w =
    ap (λ p. f.kernel.exchanges (name_of p t.name.number)) (sym f.sender) ∙ (taking_is f.kernel r t f.takes).exchange in
    let one = one_open f.kernel h number t.name.number y.0 w (reached_before specs ss j f.kernel f.at) y.1 there
    (taken_is_at_target y.0.stage (past_taken y.0.stage (omega (arith, two)) (omega (arith, two)))) (queued_is_at_target w.stage queued.1)
    (one_host y.0 w (y.2.at ∙ sym (same_pid_is w.at r queued.0)) (sound.near n y.0 y.1) (sound.near (name_of h t.name.number) w there)) in
    let alike : y.0 ≡ w = same_Some y.0 w (sym y.1 ∙ ap (λ m. f.kernel.exchanges (name_of h m)) one ∙ there) in
    let first : reach y.0.stage ≡ 1 = ap (λ (v : Exchange). reach v.stage) alike ∙ queued_reach w.stage queued.1 in
    absurd (omega (arith, two, first))

-- where it waits in no receive since, what it holds of the sender is what it took there
pub last_held : (specs : List ProcessSpec) (ss : List Step) (r h : Pid) → NeverHands ss r → (x : ℕ) (k : Kernel) (number : ℕ)
    (e : Exchange) → before specs ss x ≡ Some k → k.exchanges (name_of h number) ≡ Some e → is_taken e.stage ≡ true → (i j : ℕ)
    (t : Taking) → taken_at specs ss i ≡ Some (name_of h number) → slice_get ss i ≡ Some (steps.Take r) → i < x →
    IsTakeFrom specs ss r h j t → j < x →
    ((z : ℕ) → j < z → z ≤ x → (q : Process) × (process_at specs ss z r ≡ Some q) × (receiving q.state ≡ None)) → i ≡ j
last_held specs ss r h never x k number e at is taken i j t takes receives low f up still = elim (cases_order i j) [
  | inl same ↦ same
  | inr apart ↦ elim apart [
    | inl below ↦ absurd (held_then specs ss r h never x k number e at is taken i j t takes receives f below up)
    | inr above ↦
        let a = taken_at_is specs ss i (name_of h number) takes in
        let who : a.receiver ≡ r = take_same a.receiver r (same_Some (steps.Take a.receiver) (steps.Take r) (sym a.is ∙ receives)) in
        let is_a = taking_is a.kernel a.receiver a.take a.takes in
        let q = still i above (omega arith) in
        let same : a.take.process ≡ q.0 = same_Some a.take.process q.0
        (sym is_a.process ∙ ap a.kernel.procs who ∙ sym (ap (λ (o : Option Kernel). o >>= λ k. k.procs r) a.at) ∙ q.1) in
        absurd (none-some a.take.call (sym q.2 ∙ ap (λ (p : Process). receiving p.state) (sym same) ∙ is_a.call))
  ]
]
