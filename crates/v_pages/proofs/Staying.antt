-- What came to a process that hands nothing on stays with it; and a page server hands nothing on, nor calls for a move.
use Rattle.std.proofs.Common.{◌≡◌, ℕ, zero, suc, ◌≤◌, Bool, true, false, List, slice_get, Option, Some, None, option_map, refl, sym, ap, subst, ◌∙◌, inl, inr, arith, le_of_eq}
use Rattle.std.proofs.lemmas.Bool.{both_ways, cond-true}
use Rattle.std.proofs.lemmas.Option.{same_Some, none-some}
use Rattle.vk_types.specs.Types.{Answer, Call, Exchange, Message, Name, Pid, ProcessSpec, Stage, Step}
use Rattle.vk_base.specs.declared.call.Call.TheVariants as calls
use Rattle.vk_base.specs.declared.kernel.Stage.TheVariants as kinds
use Rattle.vk_base.specs.declared.step.Step.TheVariants as steps
use Rattle.vk_base.specs.Calls.{Effect}
use Rattle.vk_base.specs.Kernel.{◌>>=◌, Kernel, initial_kernel, is_move, is_posted, is_queued}
use Rattle.vk_base.specs.Pids.{same_pid}
use Rattle.vk_base.specs.Steps.{effect}
use Rattle.vk_base.proofs.PidLemmas.{same_pid_self}
use Rattle.vk_pages.specs.Servers.{answered_all, new_server, server_call, stage_call}
use Rattle.vk_pages.specs.declared.serving.PageServing.{PageServing}
use Rattle.vk_pages.specs.declared.serving.PageServing.TheVariants as stages
use Rattle.v_laws.specs.Places.{before}
use Rattle.v_laws.specs.Sound.{IsSound}
use Rattle.v_laws.proofs.Changes.{StageOn}
use Rattle.v_laws.proofs.Later.{Becomes, exchange_before, exchange_later}
use Rattle.v_laws.proofs.PlaceLemmas.{ComesOfStep, along, before_first, before_next, before_sound}
use Rattle.v_laws.proofs.SoundLemmas.{step_is}
use Rattle.v_pages.specs.Followed.{FollowsTask, answers_before, call_at, call_by}

-- a call for a move, or a Forward
abbrev pub gives_away : Call → Bool
gives_away (calls.Forward m from to) = true
gives_away c = is_move c

stored_not : (o : Option (List ℕ)) (c : Call) → option_map (λ bytes. calls.Store 0 bytes) o ≡ Some c → gives_away c ≡ false
stored_not None c e = absurd (none-some c e)
stored_not (Some bytes) c e = ap gives_away (sym (same_Some (calls.Store 0 bytes) c e))

never_gives : (kept : List (List ℕ)) (stage : PageServing) (c : Call) → stage_call kept stage ≡ Some c → gives_away c ≡ false
never_gives kept stages.Receive c e = ap gives_away (sym (same_Some _ c e))
never_gives kept (stages.Load from page) c e = ap gives_away (sym (same_Some _ c e))
never_gives kept (stages.Store from page dest) c e = stored_not _ c e
never_gives kept (stages.ReplyPage from page dest) c e = ap gives_away (sym (same_Some _ c e))
never_gives kept (stages.Reply from page code) c e = ap gives_away (sym (same_Some _ c e))
never_gives kept stages.Exit c e = ap gives_away (sym (same_Some _ c e))
never_gives kept stages.Ended c e = absurd (none-some c e)

-- no step is such a call of r
abbrev pub KeepsAll : Pid → Step → Type 0
KeepsAll r s = (c : Call) → s ≡ steps.Call r c → gives_away c ≡ false

-- none of these steps is
abbrev pub KeepsEach : List Step → Pid → Type 0
KeepsEach ss r = (i : ℕ) (s : Step) → slice_get ss i ≡ Some s → KeepsAll r s

-- as where none of the calls of the task of r is one
pub task_keeps : (task : List Answer → Option Call) (specs : List ProcessSpec) (ss : List Step) (r : Pid) →
    ((given : List Answer) (c : Call) → task given ≡ Some c → gives_away c ≡ false) → FollowsTask task specs ss r → KeepsEach ss r
task_keeps task specs ss r keeps follows i s is c same =
    let call : call_at ss r i ≡ Some c = ap (λ o. o >>= call_by r) is ∙ ap (call_by r) same
    ∙ cond-true (same_pid r r) (Some c) None (same_pid_self r) in
    keeps (answers_before specs ss r i) c (follows i c call).told

pub keeps_each : (pages requests : ℕ) (specs : List ProcessSpec) (ss : List Step) (r : Pid) →
    FollowsTask (server_call pages requests) specs ss r → KeepsEach ss r
keeps_each pages requests specs ss r = task_keeps (server_call pages requests) specs ss r
    (λ given c told.
    let server = answered_all requests (new_server pages requests) given in
    never_gives server.pages server.stage c told)

-- no step hands on a message that r has; r may call for moves
abbrev pub HandsNone : Pid → Step → Type 0
HandsNone r s = (m : Message) (from to : Pid) → s ≡ steps.Call r (calls.Forward m from to) → ⊥

-- none of these steps does
abbrev pub NeverHands : List Step → Pid → Type 0
NeverHands ss r = (i : ℕ) (s : Step) → slice_get ss i ≡ Some s → HandsNone r s

-- so it is where they are no calls for moves either
pub never_hands : (ss : List Step) (r : Pid) → KeepsEach ss r → NeverHands ss r
never_hands ss r keeps i s is m from to step = both_ways true (keeps i s is (calls.Forward m from to) step) refl

-- What holds at first, and over each step, holds at each place.
next_place : (specs : List ProcessSpec) (ss : List Step) (Q : Kernel → Type 0) →
    ((i : ℕ) (k : Kernel) (s : Step) (e : Effect) → slice_get ss i ≡ Some s → before specs ss i ≡ Some k → IsSound k →
    effect k s ≡ Some e → Q k → Q e.after) → (i : ℕ) (l : Kernel) → ComesOfStep specs ss i l →
    ((k : Kernel) → before specs ss i ≡ Some k → Q k) → Q l
next_place specs ss Q over i l n so_far = elim n.how [
  | inl h ↦ subst Q h.4 (over i n.kernel h.0 h.1 h.2 n.at (before_sound specs ss i n.kernel n.at) h.3 (so_far n.kernel n.at))
  | inr h ↦ subst Q h.1 (so_far n.kernel n.at)
]

pub everywhere : (specs : List ProcessSpec) (ss : List Step) (Q : Kernel → Type 0) → Q (initial_kernel specs) →
    ((i : ℕ) (k : Kernel) (s : Step) (e : Effect) → slice_get ss i ≡ Some s → before specs ss i ≡ Some k → IsSound k →
    effect k s ≡ Some e → Q k → Q e.after) → (i : ℕ) (k : Kernel) → before specs ss i ≡ Some k → Q k
everywhere specs ss Q first over zero k at = subst Q (before_first specs ss k at) first
everywhere specs ss Q first over (suc i) k at =
    next_place specs ss Q over i k (before_next specs ss i k at) (λ l there. everywhere specs ss Q first over i l there)

-- A message that was sent to r is at r, which is shown what was sent.
pub record IsAsSent (r : Pid) (e : Exchange) : Type 0 where
  pub at : e.at ≡ r
  pub shown : e.shown ≡ e.message

abbrev pub AllAsSent : Kernel → Pid → Type 0
AllAsSent k r = (n : Name) (e : Exchange) → k.exchanges n ≡ Some e → e.target ≡ r → IsAsSent r e

as_before : (r : Pid) (x y : Exchange) → y.target ≡ x.target → y.message ≡ x.message → y.at ≡ x.at → y.shown ≡ x.shown →
    (x.target ≡ r → IsAsSent r x) → y.target ≡ r → IsAsSent r y
as_before r x y target message at shown first is =
    let was = first (sym target ∙ is) in record { at = at ∙ was.at; shown = shown ∙ was.shown ∙ sym message }

as_sent_on : (k : Kernel) (s : Step) (n : Name) (x y : Exchange) (r : Pid) → HandsNone r s → Becomes k s n x y →
    (x.target ≡ r → IsAsSent r x) → y.target ≡ r → IsAsSent r y
as_sent_on k s n x y r keeps (Becomes.goes on) first is = as_before r x y on.target on.message on.at on.shown first is
as_sent_on k s n x y r keeps (Becomes.arrives step away after) first is =
    subst (λ (z : Exchange). z.target ≡ r → IsAsSent r z) (sym after)
    (as_before r x (record x { stage = kinds.Queued }) refl refl refl refl first) is
as_sent_on k s n x y r keeps (Becomes.overtaken number step less live after) first is =
    subst (λ (z : Exchange). z.target ≡ r → IsAsSent r z) (sym after)
    (as_before r x (record x { stage = kinds.Dropped }) refl refl refl refl first) is
as_sent_on k s n x y r keeps (Becomes.forwards p m to step at fit f after) first is =
    let was = first (sym (ap (λ (z : Exchange). z.target) after) ∙ is) in
    absurd (keeps m n.sender to (step ∙ ap (λ q. steps.Call q (calls.Forward m n.sender to)) was.at))

as_sent_step : (k : Kernel) (s : Step) (e : Effect) (r : Pid) → IsSound k → effect k s ≡ Some e → HandsNone r s → AllAsSent k r →
    AllAsSent e.after r
as_sent_step k s e r sound does keeps first n y at target =
    elim (exchange_before s k e.after n y sound (step_is k s e sound does) at) [
      | inl x ↦ as_sent_on k s n x.0 y r keeps x.2 (first n x.0 x.1) target
      | inr new ↦ record {
        at = ap (λ (z : Exchange). z.at) new.is ∙ sym (ap (λ (z : Exchange). z.target) new.is) ∙ target;
        shown = ap (λ (z : Exchange). z.shown) new.is ∙ sym (ap (λ (z : Exchange). z.message) new.is);
      }
    ]

pub as_sent : (specs : List ProcessSpec) (ss : List Step) (r : Pid) → NeverHands ss r → (i : ℕ) (k : Kernel) → before specs ss i ≡ Some k →
    AllAsSent k r
as_sent specs ss r never = everywhere specs ss (λ k. AllAsSent k r) (λ n e is target. absurd (none-some e is))
    (λ i k s e is at sound does first. as_sent_step k s e r sound does (never i s is) first)

-- What is at r at a place stays there, and is queued, taken and settled in this order.
abbrev pub reach : Stage → ℕ
reach kinds.Posted = 0
reach kinds.Queued = 1
reach kinds.Taken = 2
reach (kinds.Replied m dest bytes) = 3
reach kinds.Dropped = 3

pub record IsWith (r : Pid) (x y : Exchange) : Type 0 where
  pub at : y.at ≡ r
  pub shown : y.shown ≡ x.shown
  pub far : reach x.stage ≤ reach y.stage

reach_most : (s : Stage) → reach s ≤ 3
reach_most kinds.Posted = omega arith
reach_most kinds.Queued = omega arith
reach_most kinds.Taken = omega arith
reach_most (kinds.Replied m d b) = omega arith
reach_most kinds.Dropped = omega arith

posted_reach : (s : Stage) → is_posted s ≡ true → reach s ≡ 0
posted_reach kinds.Posted t = refl
posted_reach kinds.Queued t = absurd (both_ways false refl t)
posted_reach kinds.Taken t = absurd (both_ways false refl t)
posted_reach (kinds.Replied m d b) t = absurd (both_ways false refl t)
posted_reach kinds.Dropped t = absurd (both_ways false refl t)

pub queued_reach : (s : Stage) → is_queued s ≡ true → reach s ≡ 1
queued_reach kinds.Posted t = absurd (both_ways false refl t)
queued_reach kinds.Queued t = refl
queued_reach kinds.Taken t = absurd (both_ways false refl t)
queued_reach (kinds.Replied m d b) t = absurd (both_ways false refl t)
queued_reach kinds.Dropped t = absurd (both_ways false refl t)

stage_reach : (k : Kernel) (s : Step) (n : Name) (x y : Exchange) → StageOn k s n x y → reach x.stage ≤ reach y.stage
stage_reach k s n x y (StageOn.same e) = le_of_eq (ap reach (sym e))
stage_reach k s n x y (StageOn.taken t is takes name queued e) =
    let low = queued_reach x.stage queued in
    let later : reach y.stage ≡ 2 = ap reach e in
    omega arith
stage_reach k s n x y (StageOn.replied m is t e) =
    let most = reach_most x.stage in
    let later : reach y.stage ≡ 3 = ap reach e in
    omega arith
stage_reach k s n x y (StageOn.replied_segment m dest src count p is at t e) =
    let most = reach_most x.stage in
    let later : reach y.stage ≡ 3 = ap reach e in
    omega arith
stage_reach k s n x y (StageOn.dropped is t e) =
    let most = reach_most x.stage in
    let later : reach y.stage ≡ 3 = ap reach e in
    omega arith

pub with_on : (k : Kernel) (s : Step) (n : Name) (x y z : Exchange) (r : Pid) → HandsNone r s → IsWith r x y → Becomes k s n y z →
    IsWith r x z
with_on k s n x y z r keeps w (Becomes.goes on) =
    let so_far = w.far in
    let next = stage_reach k s n y z on.stage in
    record { at = on.at ∙ w.at; shown = on.shown ∙ w.shown; far = omega arith }
with_on k s n x y z r keeps w (Becomes.arrives step away after) =
    let so_far = w.far in
    let low = posted_reach y.stage away in
    subst (IsWith r x) (sym after) (record { at = w.at; shown = w.shown; far = omega arith })
with_on k s n x y z r keeps w (Becomes.overtaken number step less live after) =
    subst (IsWith r x) (sym after) (record { at = w.at; shown = w.shown; far = reach_most x.stage })
with_on k s n x y z r keeps w (Becomes.forwards p m to step at fit f after) =
    absurd (keeps m n.sender to (step ∙ ap (λ q. steps.Call q (calls.Forward m n.sender to)) w.at))

pub stays_with : (specs : List ProcessSpec) (ss : List Step) (r : Pid) → NeverHands ss r → (i j : ℕ) (k l : Kernel) → i ≤ j →
    before specs ss i ≡ Some k → before specs ss j ≡ Some l → (n : Name) (x : Exchange) → k.exchanges n ≡ Some x → x.at ≡ r →
    (y : Exchange) × (l.exchanges n ≡ Some y) × IsWith r x y
stays_with specs ss r never i j k l up at_i at_j n x is here =
    along specs ss (λ a m. (y : Exchange) × (m.exchanges n ≡ Some y) × IsWith r x y) i k at_i
    (x, is, record { at = here; shown = refl; far = omega arith })
    (λ a m s e low there step sound does so_far.
    let z = exchange_later s m e.after n so_far.0 sound (step_is m s e sound does) so_far.1 in
    (z.0, z.1, with_on m s n x so_far.0 z.0 r (never a s step) so_far.2 z.2))
    (λ a m low none so_far. so_far) j up l at_j
