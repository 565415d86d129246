-- What a pipe server replies, and to whom.
use Rattle.std.proofs.Common.{◌≡◌, ℕ, suc, ◌+◌, ◌≤◌, nat_lt, true, false, not, List, [], ◌∷◌, ◌++◌, length, Some, None, is_none, refl, sym, ap, subst, ◌∙◌, arith}
use Rattle.std.proofs.lemmas.Bool.{both_ways, leb-true}
use Rattle.std.proofs.lemmas.Option.{same_Some, none-some}
use Rattle.vk_types.specs.Types.{Call, Message, Pid, Process, ProcessSpec, Step}
use Rattle.vk_base.specs.declared.answer.Answer.TheVariants as answers
use Rattle.vk_base.specs.declared.answer.Refusal.TheVariants as refusals
use Rattle.vk_base.specs.declared.call.Call.TheVariants as calls
use Rattle.vk_base.specs.declared.kernel.State.TheVariants as states
use Rattle.vk_base.specs.declared.limits.TheConstants.{SEGMENT_BYTES}
use Rattle.vk_base.specs.declared.step.Step.TheVariants as steps
use Rattle.vk_base.specs.Calls.{Effect, is_granted, is_own, may_write}
use Rattle.vk_base.specs.Kernel.{Kernel, held, held_exchange}
use Rattle.vk_base.specs.Ranges.{range_of, bytes_in}
use Rattle.vk_base.specs.Steps.{effect}
use Rattle.vk_base.proofs.OptionLemmas.{bind_is}
use Rattle.v_laws.specs.Places.{IsReplyAt, before, effect_at, given_by}
use Rattle.v_laws.specs.Reached.{saw}
use Rattle.v_laws.proofs.PlaceLemmas.{at_place}
use Rattle.v_laws.proofs.StepLemmas.{IsFit, four_tests}
use Rattle.v_pages.specs.Followed.{FollowsTask, answer_at, answers_before, calls_before}
use Rattle.v_pages.proofs.Calling.{CallOutcome, outcome_of, own_told}
use Rattle.v_pages.proofs.Lists.{up_to_some}
use Rattle.v_pages.proofs.Places.{answer_here, call_here}
use Rattle.v_pages.proofs.Replied.{shows_refusal}
use Rattle.v_pages.proofs.Staying.{NeverHands, gives_away, never_hands, task_keeps}
use Rattle.vk_pipe.specs.declared.serving.PipeServing.{PipeServing}
use Rattle.vk_pipe.specs.declared.serving.PipeServing.TheVariants as stages
use Rattle.vk_pipe.specs.declared.serving.Verdict.{Verdict}
use Rattle.vk_pipe.specs.declared.waiting.Read.{Read}
use Rattle.vk_pipe.specs.Pipes.{Pipe, at, piece_len, piece_of, pipe_call, server_after, stage_call}
use Rattle.vk_pipe.specs.Requests.{message_for, reply_of}
use Rattle.v_pipe.proofs.Standing.{Doing, Gives}
use Rattle.v_pipe.proofs.Turns.{pipe_before, ready_when}

-- It calls for no move, and hands nothing on.
never_gives : (q : Pipe) (stage : PipeServing) (c : Call) → stage_call q stage ≡ Some c → gives_away c ≡ false
never_gives q stages.Receive c e = ap gives_away (sym (same_Some _ c e))
never_gives q (stages.Load from count) c e = ap gives_away (sym (same_Some _ c e))
never_gives q (stages.Store x) c e = ap gives_away (sym (same_Some _ c e))
never_gives q (stages.ReplyBytes x) c e = ap gives_away (sym (same_Some _ c e))
never_gives q (stages.Reply to verdict) c e = ap gives_away (sym (same_Some _ c e))
never_gives q stages.Exit c e = ap gives_away (sym (same_Some _ c e))
never_gives q stages.Ended c e = absurd (none-some c e)

pub pipe_keeps : (requests : ℕ) (specs : List ProcessSpec) (ss : List Step) (r : Pid) → FollowsTask (pipe_call requests) specs ss r →
    NeverHands ss r
pipe_keeps requests specs ss r follows = never_hands ss r (task_keeps (pipe_call requests) specs ss r
    (λ given c told.
    let s = server_after requests given in
    never_gives s.pipe s.stage c told) follows)

-- A reply: the bytes of a read, or none.
pub data Reply (q : Pipe) (stage : PipeServing) (s : Pid) (reply : Message) (dest : ℕ) (bytes : List ℕ) : Type 0 where
  of_read : (x : Read) → stage ≡ stages.ReplyBytes x → x.from ≡ s → reply ≡ reply_of 0 (piece_len q x) → dest ≡ x.start →
      bytes ≡ piece_of q x → Reply q stage s reply dest bytes
  without : (verdict : Verdict) → stage ≡ stages.Reply s verdict → reply ≡ message_for verdict → bytes ≡ [] →
      Reply q stage s reply dest bytes

abbrev Given : Type 0
Given = Pid × Message × ℕ × List ℕ

none_given : (q : Pipe) (stage : PipeServing) (s : Pid) (reply : Message) (dest : ℕ) (bytes : List ℕ) (p : Process) (c d : Call) →
    c ≡ d → given_by p c ≡ None → given_by p d ≡ Some (s, reply, dest, bytes) → Reply q stage s reply dest bytes
none_given q stage s reply dest bytes p c d same none gives =
    absurd (none-some (s, reply, dest, bytes) (sym none ∙ ap (given_by p) same ∙ gives))

reply_on : (q : Pipe) (stage : PipeServing) (s : Pid) (reply : Message) (dest : ℕ) (bytes : List ℕ) (p : Process) (c : Call) →
    stage_call q stage ≡ Some c → given_by p c ≡ Some (s, reply, dest, bytes) →
    ((x : Read) → stage ≡ stages.ReplyBytes x → bytes_in (range_of 0 (piece_len q x)) p.memory ≡ piece_of q x) →
    Reply q stage s reply dest bytes
reply_on q stages.Receive s reply dest bytes p c next gives stands =
    none_given q stages.Receive s reply dest bytes p (calls.ReceiveSegment 0 SEGMENT_BYTES) c (same_Some _ c next) refl gives
reply_on q (stages.Load from count) s reply dest bytes p c next gives stands =
    none_given q (stages.Load from count) s reply dest bytes p (calls.Load 0 count) c (same_Some _ c next) refl gives
reply_on q (stages.Store x) s reply dest bytes p c next gives stands =
    none_given q (stages.Store x) s reply dest bytes p (calls.Store 0 (piece_of q x)) c (same_Some _ c next) refl gives
reply_on q (stages.ReplyBytes x) s reply dest bytes p c next gives stands =
    let n = piece_len q x in
    let d : Call = calls.ReplySegment (reply_of 0 n) x.from x.start 0 n in
    let own = bytes_in (range_of 0 n) p.memory in
    let same : Path Given (x.from, reply_of 0 n, x.start, own) (s, reply, dest, bytes) =
    same_Some _ _ (ap (given_by p) (same_Some d c next) ∙ gives) in
    Reply.of_read x refl (ap (λ (z : Given). z.0) same) (ap (λ (z : Given). z.1) (sym same)) (ap (λ (z : Given). z.2) (sym same))
    (ap (λ (z : Given). z.3) (sym same) ∙ stands x refl)
reply_on q (stages.Reply to verdict) s reply dest bytes p c next gives stands =
    let d : Call = calls.Reply (message_for verdict) to in
    let same : Path Given (to, message_for verdict, 0, []) (s, reply, dest, bytes) =
    same_Some _ _ (ap (given_by p) (same_Some d c next) ∙ gives) in
    Reply.without verdict (ap (λ (z : Given). stages.Reply z.0 verdict) same) (ap (λ (z : Given). z.1) (sym same))
    (ap (λ (z : Given). z.3) (sym same))
reply_on q stages.Exit s reply dest bytes p c next gives stands =
    none_given q stages.Exit s reply dest bytes p calls.Exit c (same_Some _ c next) refl gives
reply_on q stages.Ended s reply dest bytes p c next gives stands = absurd (none-some c next)

-- a call that is answered ok was allowed
fit_when : (k : Kernel) (r : Pid) (p : Process) (c : Call) (e : Effect) → CallOutcome k r p c e → e.seen ≡ saw r c answers.Ok →
    IsFit k r p c
fit_when k r p c e (CallOutcome.refused why bars same) seen =
    absurd (both_ways true (ap (λ (z : Effect). shows_refusal z.seen) same ∙ ap shows_refusal seen) refl)
fit_when k r p c e (CallOutcome.allowed fit g) seen = fit

-- so the bytes of the reply to a read stand in its memory
segment_room : (k : Kernel) (r : Pid) (p : Process) (m : Message) (to : Pid) (dest count : ℕ) →
    IsFit k r p (calls.ReplySegment m to dest 0 count) → count ≤ length p.memory
segment_room k r p m to dest count fit =
    let x = held_exchange k r to in
    let fits = four_tests (nat_lt 512 count) (is_none (held k r to)) (not (may_write x)) (is_granted x dest count) (is_own p 0 count)
    refusals.TooLong
    refusals.NotAwaiting refusals.NoAccess refusals.BadRange fit.rest in
    let within = leb-true (0 + count) (length p.memory) fits.2 in
    omega (arith, within)

stands_when : (q : Pipe) (stage : PipeServing) (k : Kernel) (r : Pid) (p : Process) (c : Call) → Gives (at q stage) p →
    stage_call q stage ≡ Some c → IsFit k r p c →
    (x : Read) → stage ≡ stages.ReplyBytes x → bytes_in (range_of 0 (piece_len q x)) p.memory ≡ piece_of q x
stands_when q stage k r p c gives next fit x is =
    let n = piece_len q x in
    let d : Call = calls.ReplySegment (reply_of 0 n) x.from x.start 0 n in
    let same : d ≡ c = same_Some d c (sym (ap (stage_call q) is) ∙ next) in
    gives x is fit.alive (segment_room k r p (reply_of 0 n) x.from x.start n (subst (IsFit k r p) (sym same) fit))

-- At the place of the reply.
pub record RepliesHere (requests : ℕ) (specs : List ProcessSpec) (ss : List Step) (j : ℕ) (s r : Pid) (reply : Message) (dest : ℕ)
    (bytes : List ℕ) : Type 0 where
  pub kernel : Kernel
  pub at : before specs ss j ≡ Some kernel
  pub caller : Process
  pub is : kernel.procs r ≡ Some caller
  pub ready : caller.state ≡ states.Ready
  pub answered : answers_before specs ss r (suc j) ≡ answers_before specs ss r j ++ answers.Ok ∷ []
  pub reply_is : let t = server_after requests (answers_before specs ss r j) in Reply t.pipe t.stage s reply dest bytes

pub replies_here : (requests : ℕ) (specs : List ProcessSpec) (ss : List Step) (j : ℕ) (s r : Pid) (number : ℕ) (reply : Message)
    (dest : ℕ) (bytes : List ℕ) → FollowsTask (pipe_call requests) specs ss r → IsReplyAt specs ss j s r number reply dest bytes →
    RepliesHere requests specs ss j s r reply dest bytes
replies_here requests specs ss j s r number reply dest bytes follows rep =
    let k = bind_is (before specs ss j) _ rep.caller rep.then in
    let e = bind_is (effect_at specs ss j) _ (record { pid = r; call = rep.call; answer = answers.Ok }) rep.answered in
    let does : effect k.0 (steps.Call r rep.call) ≡ Some e.0 =
    sym (at_place effect specs ss j k.0 (steps.Call r rep.call) k.1 rep.is) ∙ e.1 in
    let next = follows j rep.call (call_here ss r j rep.call rep.is) in
    let t = server_after requests (answers_before specs ss r j) in
    let doing = pipe_before requests specs ss r follows j k.0 rep.caller k.1 k.2 in
    let made = length (calls_before ss r j) in
    let given = length (answers_before specs ss r j) in
    let ready = ready_when t rep.caller made given rep.caller.state doing next.answered in
    let gives = (subst (Doing t rep.caller made given) ready doing).1 in
    let fit = fit_when k.0 r rep.caller rep.call e.0 (outcome_of k.0 r rep.caller rep.call e.0 k.2 does) e.2 in
    record {
      kernel = k.0;
      at = k.1;
      caller = rep.caller;
      is = k.2;
      ready = ready;
      answered = up_to_some (answer_at specs ss r) j answers.Ok
          (answer_here specs ss r j k.0 (steps.Call r rep.call) e.0 k.1 rep.is does ∙ own_told r rep.call answers.Ok e.0 e.2);
      reply_is = reply_on t.pipe t.stage s reply dest bytes rep.caller rep.call next.told rep.gives
          (stands_when t.pipe t.stage k.0 r rep.caller rep.call gives next.told fit);
    }
