-- A reply is kept in its exchange from its place on: so a Send has one, and its bytes have room in the sender's memory.
use Rattle.std.proofs.Common.{◌≡◌, ℕ, suc, ◌+◌, ◌<◌, ◌≤◌, Bool, true, false, List, [], length, take, slice_get, Option, Some, None, refl, sym, ap, subst, ◌∙◌, inl, inr, arith}
use Rattle.std.proofs.lemmas.Bool.{both_ways, cases_order, leb-true}
use Rattle.std.proofs.lemmas.Option.{same_Some, none-some}
use Rattle.vk_types.specs.Types.{Answer, Call, Exchange, Message, Name, Observation, Pid, Process, ProcessSpec, Refusal, Step}
use Rattle.vk_base.specs.declared.answer.Answer.TheVariants as answers
use Rattle.vk_base.specs.declared.call.Call.TheVariants as calls
use Rattle.vk_base.specs.declared.kernel.Stage.TheVariants as stages
use Rattle.vk_base.specs.declared.step.Step.TheVariants as steps
use Rattle.vk_base.specs.Calls.{Effect, accepted, call_refusal, called, replied}
use Rattle.vk_base.specs.Kernel.{◌>>=◌, Kernel, held, initial_kernel, name_of, put_exchange}
use Rattle.vk_base.specs.Ranges.{range_of, bytes_in}
use Rattle.vk_base.specs.Steps.{Run, effect, run}
use Rattle.vk_base.proofs.OptionLemmas.{bind_is, mapped_is}
use Rattle.v_laws.specs.Places.{IsReplyAt, before, effect_at, given_by}
use Rattle.v_laws.specs.Reached.{saw}
use Rattle.v_laws.specs.Sizes.{reply_fits, size_in}
use Rattle.v_laws.proofs.Held.{holding_is}
use Rattle.v_laws.proofs.Later.{rank, taken_rank}
use Rattle.v_laws.proofs.OnceLemmas.{never_back}
use Rattle.v_laws.proofs.PlaceLemmas.{at_place, before_after}
use Rattle.v_laws.proofs.SizeLemmas.{sized_run}
use Rattle.v_laws.proofs.Tables.{put_exchange_here}

-- The exchange has this reply.
abbrev HasReply : Kernel → Name → Message → ℕ → List ℕ → Type 0
HasReply k n m dest bytes = (y : Exchange) × (k.exchanges n ≡ Some y) × (y.stage ≡ stages.Replied m dest bytes)

abbrev Given : Type 0
Given = Pid × Message × ℕ × List ℕ

replied_has : (k : Kernel) (pid : Pid) (c : Call) (s : Pid) (number : ℕ) (m : Message) (dest : ℕ) (bytes : List ℕ) (e : Effect) →
    held k pid s ≡ Some number → replied k pid c s m dest bytes ≡ Some e → HasReply e.after (name_of s number) m dest bytes
replied_has k pid c s number m dest bytes e holds g =
    let n = bind_is (held k pid s) _ e g in
    let x = bind_is (k.exchanges (name_of s n.0)) _ e n.2 in
    let same : n.0 ≡ number = same_Some n.0 number (sym n.1 ∙ holds) in
    let y : Exchange = record x.0 { stage = stages.Replied m dest bytes } in (
      y,
      ap (λ (z : Effect). z.after.exchanges (name_of s number)) (sym (same_Some _ e x.2))
          ∙ ap (λ a. put_exchange k.exchanges (name_of s n.0) y (name_of s a)) (sym same)
          ∙ put_exchange_here k.exchanges (name_of s n.0) y,
      refl,
    )

accepted_has : (k : Kernel) (pid : Pid) (p : Process) (c : Call) (s : Pid) (number : ℕ) (m : Message) (dest : ℕ) (bytes : List ℕ)
    (e : Effect) → held k pid s ≡ Some number → given_by p c ≡ Some (s, m, dest, bytes) → accepted k pid p c ≡ Some e →
    HasReply e.after (name_of s number) m dest bytes
accepted_has k pid p (calls.Reply n to) s number m dest bytes e holds gives g =
    let same : Path Given (to, n, 0, []) (s, m, dest, bytes) = same_Some _ _ gives in
    replied_has k pid (calls.Reply n to) s number m dest bytes e holds
    (subst (λ (z : Given). replied k pid (calls.Reply n to) z.0 z.1 z.2 z.3 ≡ Some e) same g)
accepted_has k pid p (calls.ReplySegment n to at src count) s number m dest bytes e holds gives g =
    let c : Call = calls.ReplySegment n to at src count in
    let same : Path Given (to, n, at, bytes_in (range_of src count) p.memory) (s, m, dest, bytes) = same_Some _ _ gives in
    replied_has k pid c s number m dest bytes e holds
    (subst (λ (z : Given). replied k pid c z.0 z.1 z.2 z.3 ≡ Some e) same g)
accepted_has k pid p c s number m dest bytes e holds gives g = absurd (none-some (s, m, dest, bytes) gives)

-- A call that is answered ok was not refused.
abbrev pub is_refused : Answer → Bool
is_refused (answers.Refused why) = true
is_refused a = false

abbrev pub shows_refusal : Option Observation → Bool
shows_refusal None = false
shows_refusal (Some o) = is_refused o.answer

called_has : (k : Kernel) (pid : Pid) (p : Process) (c : Call) (s : Pid) (number : ℕ) (m : Message) (dest : ℕ) (bytes : List ℕ)
    (why : Option Refusal) (e : Effect) → held k pid s ≡ Some number → given_by p c ≡ Some (s, m, dest, bytes) →
    called k pid p c why ≡ Some e → e.seen ≡ saw pid c answers.Ok → HasReply e.after (name_of s number) m dest bytes
called_has k pid p c s number m dest bytes None e holds gives g seen = accepted_has k pid p c s number m dest bytes e holds gives g
called_has k pid p c s number m dest bytes (Some why) e holds gives g seen =
    absurd (both_ways true (ap (λ (z : Effect). shows_refusal z.seen) (same_Some _ e g) ∙ ap shows_refusal seen) refl)

pub record IsKeptReply (specs : List ProcessSpec) (ss : List Step) (j : ℕ) (n : Name) (reply : Message) (dest : ℕ) (bytes : List ℕ) :
    Type 0 where
  pub after : Kernel
  pub at : before specs ss (suc j) ≡ Some after
  pub exchange : Exchange
  pub is : after.exchanges n ≡ Some exchange
  pub stage : exchange.stage ≡ stages.Replied reply dest bytes

pub kept_reply : (specs : List ProcessSpec) (ss : List Step) (j : ℕ) (s r : Pid) (number : ℕ) (reply : Message) (dest : ℕ)
    (bytes : List ℕ) → IsReplyAt specs ss j s r number reply dest bytes → IsKeptReply specs ss j (name_of s number) reply dest bytes
kept_reply specs ss j s r number reply dest bytes rep =
    let k = bind_is (before specs ss j) _ rep.caller rep.then in
    let seen : Observation = record { pid = r; call = rep.call; answer = answers.Ok } in
    let e = bind_is (effect_at specs ss j) _ seen rep.answered in
    let does : effect k.0 (steps.Call r rep.call) ≡ Some e.0 =
    sym (at_place effect specs ss j k.0 (steps.Call r rep.call) k.1 rep.is) ∙ e.1 in
    let y = called_has k.0 r rep.caller rep.call s number reply dest bytes (call_refusal k.0 r rep.caller rep.call) e.0
    (ap (λ o. o >>= λ k. held k r s) (sym k.1) ∙ rep.holds) rep.gives
    (ap (λ o. o >>= λ p. called k.0 r p rep.call (call_refusal k.0 r p rep.call)) (sym k.2) ∙ does) e.2 in
    record {
      after = e.0.after;
      at = before_after specs ss j k.0 (steps.Call r rep.call) e.0 k.1 rep.is does;
      exchange = y.0;
      is = y.1;
      stage = y.2;
    }

-- One reply.
no_later : (specs : List ProcessSpec) (ss : List Step) (i j : ℕ) (s q r : Pid) (number : ℕ) (a b : Message) (at to : ℕ)
    (bytes others : List ℕ) → IsReplyAt specs ss i s q number a at bytes → IsReplyAt specs ss j s r number b to others → i < j → ⊥
no_later specs ss i j s q r number a b at to bytes others first second less =
    let t = kept_reply specs ss i s q number a at bytes first in
    let k = bind_is (before specs ss j) _ number second.holds in
    let h = holding_is k.0 r s number k.2 in
    let up = never_back specs ss (suc i) j t.after k.0 (name_of s number) t.exchange h.exchange (omega arith) t.at k.1 t.is h.is in
    let high : rank t.exchange.stage ≡ 2 = ap rank t.stage in
    let low = taken_rank h.exchange.stage h.taken in
    absurd (omega arith)

call_same : (q r : Pid) (c d : Call) → steps.Call q c ≡ steps.Call r d → q ≡ r
call_same q r c d e = cc

-- two replies to one Send are of one place, and so of one process
pub one_reply : (specs : List ProcessSpec) (ss : List Step) (i j : ℕ) (s q r : Pid) (number : ℕ) (a b : Message) (at to : ℕ)
    (bytes others : List ℕ) → IsReplyAt specs ss i s q number a at bytes → IsReplyAt specs ss j s r number b to others →
    (i ≡ j) × (q ≡ r)
one_reply specs ss i j s q r number a b at to bytes others first second = elim (cases_order i j) [
  | inl same ↦ (same, call_same q r first.call second.call (same_Some _ _ (sym first.is ∙ ap (slice_get ss) same ∙ second.is)))
  | inr apart ↦ elim apart [
    | inl less ↦ absurd (no_later specs ss i j s q r number a b at to bytes others first second less)
    | inr more ↦ absurd (no_later specs ss j i s r q number b a to at others bytes second first more)
  ]
]

-- Room for its bytes.
pub reply_room : (specs : List ProcessSpec) (ss : List Step) (i j : ℕ) (s r : Pid) (number : ℕ) (reply : Message) (dest : ℕ)
    (bytes : List ℕ) (k : Kernel) (p : Process) → IsReplyAt specs ss i s r number reply dest bytes → before specs ss j ≡ Some k →
    k.procs s ≡ Some p → dest + length bytes ≤ length p.memory
reply_room specs ss i j s r number reply dest bytes k p rep at is =
    let t = kept_reply specs ss i s r number reply dest bytes rep in
    let w = mapped_is (λ (r : Run). r.after) (run (initial_kernel specs) (take (suc i) ss)) t.after t.at in
    let x = mapped_is (λ (r : Run). r.after) (run (initial_kernel specs) (take j ss)) k at in
    let fit = (sized_run specs (take (suc i) ss) w.0 w.1).exchanges (name_of s number) t.exchange
    (ap (λ (z : Kernel). z.exchanges (name_of s number)) w.2 ∙ t.is) in
    let size = (sized_run specs (take j ss) x.0 x.1).memory s p (ap (λ (z : Kernel). z.procs s) x.2 ∙ is) in
    let ends = leb-true (dest + length bytes) (size_in specs s)
    (ap (λ z. reply_fits z (size_in specs s)) (sym t.stage) ∙ fit.reply) in
    omega arith
