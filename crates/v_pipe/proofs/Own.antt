-- Where nothing of its sender waited, the reply to a Send is the one to what it asked for.
use Rattle.std.proofs.Common.{◌≡◌, ◌⊎◌, ℕ, suc, ◌<◌, ◌≤◌, ◌==◌, ◌&&◌, true, false, nat_lt, nat_le, List, ◌++◌, length, take, slice_get, Some, option_to_list, refl, sym, ap, subst, ◌∙◌, inl, inr, arith}
use Rattle.std.proofs.lemmas.Bool.{and_parts, cases_Bool, eqb-true, ltb-true}
use Rattle.std.proofs.lemmas.Option.{same_Some}
use Rattle.vk_types.specs.Types.{Answer, Call, Message, Name, Pid, Process, ProcessSpec, State, Step}
use Rattle.vk_base.specs.declared.answer.Answer.TheVariants as answers
use Rattle.vk_base.specs.declared.call.Call.TheVariants as calls
use Rattle.vk_base.specs.declared.kernel.State.TheVariants as states
use Rattle.vk_base.specs.declared.limits.TheConstants.{SEGMENT_BYTES}
use Rattle.vk_base.specs.declared.step.Step.TheVariants as steps
use Rattle.vk_base.specs.Calls.{Effect, unseen}
use Rattle.vk_base.specs.Kernel.{◌>>=◌, Kernel, held}
use Rattle.vk_base.specs.Messages.{grants_read, grants_write, segment_of}
use Rattle.vk_base.specs.Pids.{same_pid}
use Rattle.vk_base.specs.Steps.{Taking, effect, taken as kernel_taken, taking}
use Rattle.vk_base.proofs.PidLemmas.{same_pid_self}
use Rattle.v_laws.specs.Places.{before}
use Rattle.v_laws.proofs.PlaceLemmas.{along, before_after}
use Rattle.v_laws.proofs.StepLemmas.{taking_is}
use Rattle.v_laws.proofs.Tables.{same_pid_is}
use Rattle.v_pages.specs.Followed.{FollowsTask, answer_at, answers_before, call_by, calls_before, up_to}
use Rattle.v_pages.specs.Requests.{Request, request_at}
use Rattle.v_pages.proofs.Calling.{told}
use Rattle.v_pages.proofs.Collected.{was_there}
use Rattle.v_pages.proofs.Lists.{up_to_none}
use Rattle.v_pages.proofs.Own.{which_step}
use Rattle.v_pages.proofs.Places.{answer_here}
use Rattle.v_pages.proofs.Seen.{answer_none}
use Rattle.v_pages.proofs.Taken.{IsRequestAt, never_both, request_is, request_of, request_taken}
use Rattle.vk_pipe.specs.declared.serving.PipeServing.{PipeServing}
use Rattle.vk_pipe.specs.declared.serving.PipeServing.TheVariants as stages
use Rattle.vk_pipe.specs.declared.serving.Verdict.{Verdict}
use Rattle.vk_pipe.specs.declared.serving.Verdict.TheVariants as verdicts
use Rattle.vk_pipe.specs.declared.waiting.Read.{Read}
use Rattle.vk_pipe.specs.declared.waiting.Write.{Write}
use Rattle.vk_pipe.specs.Kept.{pipe_after}
use Rattle.vk_pipe.specs.Pipes.{Pipe, piece_len, pipe_call, server_after}
use Rattle.vk_pipe.specs.Requests.{code_of, is_close, is_read, is_write, message_for, reply_of}
use Rattle.vk_pipe.specs.Told.{writes_put}
use Rattle.v_pipe.specs.Read.{IsOwnReply}
use Rattle.v_pipe.specs.Waits.{NoneWaits}
use Rattle.v_pipe.proofs.Entries.{Has, IsAsked, Suits, about, suits_own}
use Rattle.v_pipe.proofs.Given.{Reply, RepliesHere, pipe_keeps}
use Rattle.v_pipe.proofs.Standing.{piece_size}
use Rattle.v_pipe.proofs.Stocked.{IsPipeStocked, stocked_after}
use Rattle.v_pipe.proofs.Tracked.{Tracked, TrackedBy, take_first, tracked_next}
use Rattle.v_pipe.proofs.Turns.{pipe_before}

-- At each place between.
abbrev TrackedAt : ℕ → List ProcessSpec → List Step → Pid → Pid → Message → List ℕ → (j i : ℕ) → Kernel → Type 0
TrackedAt requests specs ss r s m b j i k =
    i ≤ j → (p : Process) → k.procs r ≡ Some p → TrackedBy requests s m b (answers_before specs ss r i) p

-- so many answers before a place, with the one that is there
answers_here : (specs : List ProcessSpec) (ss : List Step) (r : Pid) (i : ℕ) (k : Kernel) (s : Step) (e : Effect) →
    before specs ss i ≡ Some k → slice_get ss i ≡ Some s → effect k s ≡ Some e →
    answers_before specs ss r i ++ option_to_list (told r e) ≡ answers_before specs ss r (suc i)
unfolding up_to
answers_here specs ss r i k s e at is does =
    ap (λ o. answers_before specs ss r i ++ option_to_list o) (sym (answer_here specs ss r i k s e at is does))

-- no other request of s is taken until this one is replied to
other_taken : (requests : ℕ) (specs : List ProcessSpec) (ss : List Step) (r : Pid) (i j a : ℕ) (q : Request) (l k : Kernel) (x : Taking) →
    FollowsTask (pipe_call requests) specs ss r → IsRequestAt specs ss r i q → i < a → a < j → before specs ss a ≡ Some l →
    slice_get ss a ≡ Some (steps.Take r) → taking l r ≡ Some x → before specs ss j ≡ Some k →
    held k r q.name.sender ≡ Some q.name.number → same_pid x.name.sender q.name.sender ≡ false
other_taken requests specs ss r i j a q l k x follows t less more at is takes at_j holds = by_test (cases_Bool
    (same_pid x.name.sender q.name.sender))
  where
    z : (z : Request) × (request_at specs ss r a ≡ Some z)
    z = request_of specs ss r a l x at is takes

    w : IsRequestAt specs ss r a z.0
    w = request_is specs ss r a z.0 z.1

    same : w.take ≡ x
    same = same_Some w.take x
        (sym w.takes ∙ ap (λ k. taking k r) (same_Some w.kernel l (sym w.at ∙ at)) ∙ takes)

    by_test : (same_pid x.name.sender q.name.sender ≡ true) ⊎ (same_pid x.name.sender q.name.sender ≡ false) →
        same_pid x.name.sender q.name.sender ≡ false
    by_test (inr f) = f
    by_test (inl own) =
        absurd (never_both specs ss i a j r q.name.sender q.name.number k z.0 (pipe_keeps requests specs ss r follows)
        (request_taken specs ss r i q t) t.is z.1
        (ap (λ (n : Name). n.sender) (w.name ∙ ap (λ (y : Taking). y.name) same)
        ∙ same_pid_is x.name.sender q.name.sender own) less more at_j holds)

-- the request that was taken at place i is tracked to place j, where it is held
tracked_to : (requests : ℕ) (specs : List ProcessSpec) (ss : List Step) (r : Pid) (i j : ℕ) (q : Request) (k : Kernel) (p : Process) →
    FollowsTask (pipe_call requests) specs ss r → (t : IsRequestAt specs ss r i q) → i < j → before specs ss j ≡ Some k →
    k.procs r ≡ Some p → held k r q.name.sender ≡ Some q.name.number →
    NoneWaits q.name.sender (pipe_after requests (answers_before specs ss r i)) →
    TrackedBy requests q.name.sender q.message (take SEGMENT_BYTES t.take.exchange.part) (answers_before specs ss r j) p
tracked_to requests specs ss r i j q k p follows t less at is holds none =
    along specs ss (λ a l. TrackedAt requests specs ss r s m b j a l) (suc i) e.after
    (before_after specs ss i t.kernel (steps.Take r) e t.at t.is does) (λ up y later. first y later)
    (λ a l u f low at_a is_u sound does_u so_far up y later.
    let x = was_there l u f r y sound does_u later in
    let pipe = pipe_before requests specs ss r follows a l x.0 at_a x.1 in
    let call = ap (λ o. o >>= call_by r) is_u in
    subst (λ (gs : List Answer). TrackedBy requests s m b gs y) (answers_here specs ss r a l u f at_a is_u does_u)
    (tracked_next requests (length (calls_before ss r a)) s m b (answers_before specs ss r a) l r u f x.0 y (which_step r u) sound pipe
    x.1 later does_u (λ c makes. let n = follows a c (call ∙ makes) in (n.answered, n.told))
    (λ step z takes. other_taken requests specs ss r i j a q l k z follows t (omega (arith, low)) (omega (arith, up)) at_a
    (is_u ∙ ap (λ (w : Step). Some w) step) takes at holds)
    (so_far (omega (arith, up)) x.0 x.1)))
    (λ a l low nothing so_far up y later.
    subst (λ (gs : List Answer). TrackedBy requests s m b gs y)
    (sym (up_to_none (answer_at specs ss r) a (answer_none specs ss r a nothing))) (so_far (omega (arith, up)) y later))
    j (omega (arith, less)) k at (omega arith) p is
  where
    s : Pid
    s = q.name.sender

    m : Message
    m = q.message

    b : List ℕ
    b = take SEGMENT_BYTES t.take.exchange.part

    e : Effect
    e = unseen (kernel_taken t.kernel r t.take)

    does : effect t.kernel (steps.Take r) ≡ Some e
    does = ap (λ o. o >>= λ x. Some (unseen (kernel_taken t.kernel r x))) t.takes

    first : (y : Process) → e.after.procs r ≡ Some y → TrackedBy requests s m b (answers_before specs ss r (suc i)) y
    first y later =
        let there = (taking_is t.kernel r t.take t.takes).process in
        let pipe = pipe_before requests specs ss r follows i t.kernel t.take.process t.at there in
        subst (λ (gs : List Answer). TrackedBy requests s m b gs y) (answers_here specs ss r i t.kernel (steps.Take r) e t.at t.is does)
        (subst (λ n. TrackedBy requests n m b (answers_before specs ss r i ++ option_to_list (told r e)) y)
        (ap (λ (n : Name). n.sender) (sym t.name))
        (subst (λ z. TrackedBy requests t.take.name.sender z b (answers_before specs ss r i ++ option_to_list (told r e)) y) (sym t.message)
        (take_first requests (length (calls_before ss r i)) (answers_before specs ss r i) t.kernel r t.take e t.take.process y pipe there
        later t.takes refl
        (subst (λ n. NoneWaits n (pipe_after requests (answers_before specs ss r i))) (ap (λ (n : Name). n.sender) t.name) none))))

-- What it is at the reply.
not_done : (t : State) (c : Call) (a : Answer) → t ≡ states.Ready → t ≡ states.Done c a → ⊥
not_done t c a ready done = cc

pub record KeptHere (requests : ℕ) (s : Pid) (m : Message) (b : List ℕ) (given : List Answer) : Type 0 where
  pub has : let t = server_after requests given in Has s m b (writes_put requests given) t.pipe t.stage

kept_when : (requests : ℕ) (s : Pid) (m : Message) (b : List ℕ) (given : List Answer) (p : Process) → p.state ≡ states.Ready →
    TrackedBy requests s m b given p → KeptHere requests s m b given
kept_when requests s m b given p ready (Tracked.comes count state none bytes) =
    absurd (not_done p.state (calls.ReceiveSegment 0 SEGMENT_BYTES) (answers.ReceivedSegment s m count) ready state)
kept_when requests s m b given p ready (Tracked.kept has loads others) = record { has = has }

-- Codes.
pub read_code : (m : Message) → is_read m ≡ true → code_of m ≡ 8
read_code m t = eqb-true (code_of m) 8
    (and_parts (code_of m == 8) (grants_write m) (and_parts (code_of m == 8 && grants_write m) (nat_lt 0 (segment_of m).len) t).0).0

read_room : (m : Message) → is_read m ≡ true → 0 < (segment_of m).len
read_room m t =
    ltb-true 0 (segment_of m).len (and_parts (code_of m == 8 && grants_write m) (nat_lt 0 (segment_of m).len) t).1

write_code : (m : Message) → is_write m ≡ true → code_of m ≡ 7
write_code m t =
    let all = and_parts (code_of m == 7 && grants_read m && nat_lt 0 (segment_of m).len) (nat_le (segment_of m).len SEGMENT_BYTES) t in
    let three = and_parts (code_of m == 7 && grants_read m) (nat_lt 0 (segment_of m).len) all.0 in
    eqb-true (code_of m) 7 (and_parts (code_of m == 7) (grants_read m) three.0).0

pub close_code : (m : Message) → is_close m ≡ true → code_of m ≡ 9
close_code m t = eqb-true (code_of m) 9 t

-- no reply without bytes that says it is done is one to a read
not_read : (s : Pid) (m : Message) (b : List ℕ) (put : List Write) (verdict : Verdict) → Suits s m b put (stages.Reply s verdict) →
    code_of (message_for verdict) ≡ 0 → code_of m ≡ 8 → ⊥
not_read s m b put (verdicts.Written count) suits code reads =
    let other = write_code m suits.writes in absurd (omega (arith, other, reads))
not_read s m b put verdicts.Closed suits code reads = let other = close_code m suits in absurd (omega (arith, other, reads))
not_read s m b put verdicts.Bad suits code reads = let same : 2 ≡ 0 = code in absurd (omega (arith, same))
not_read s m b put verdicts.Full suits code reads = let same : 5 ≡ 0 = code in absurd (omega (arith, same))
not_read s m b put verdicts.End suits code reads = let same : 6 ≡ 0 = code in absurd (omega (arith, same))
not_read s m b put verdicts.Shut suits code reads = let same : 7 ≡ 0 = code in absurd (omega (arith, same))

pub suits_at : (s : Pid) (m : Message) (b : List ℕ) (put : List Write) (q : Pipe) (stage next : PipeServing) → Has s m b put q stage →
    stage ≡ next → about s next ≡ true → Suits s m b put next
suits_at s m b put q stage next has is mine = suits_own s m b put q next (subst (Has s m b put q) is has) mine

own_by : (s : Pid) (m : Message) (b : List ℕ) (put : List Write) (q : Pipe) (stage : PipeServing) (reply : Message) (dest : ℕ)
    (bytes : List ℕ) → Has s m b put q stage → IsPipeStocked q stage → Reply q stage s reply dest bytes → IsOwnReply m reply dest bytes
own_by s m b put q stage reply dest bytes has stocked (Reply.of_read x is from told place same) =
    let asked : IsAsked s m x =
    suits_at s m b put q stage (stages.ReplyBytes x) has is (ap (λ t. same_pid t s) from ∙ same_pid_self s) in
    let size : length bytes ≡ piece_len q x = ap length same ∙ piece_size q x in
    let len : x.len ≡ (segment_of m).len = ap (λ (y : Read). y.len) asked.is in
    let room = read_room m asked.reads in
    let there : 0 < length q.bytes = subst (IsPipeStocked q) is stocked in
    record {
      read = λ reads code. record {
        place = place ∙ ap (λ (y : Read). y.start) asked.is;
        some = omega (arith, size, len, room, there);
        most = omega (arith, size);
        within = omega (arith, size, len);
        count = told ∙ ap (reply_of 0) (sym size);
      };
      other = λ not. absurd (not (read_code m asked.reads));
    }
own_by s m b put q stage reply dest bytes has stocked (Reply.without verdict is told none) =
    record {
      read = λ reads code. absurd (not_read s m b put verdict
          (suits_at s m b put q stage (stages.Reply s verdict) has is (same_pid_self s)) (ap code_of (sym told) ∙ code) reads);
      other = λ not. none;
    }

pub kept_here : (requests : ℕ) (specs : List ProcessSpec) (ss : List Step) (r : Pid) (i j : ℕ) (q : Request) (reply : Message) (dest : ℕ)
    (bytes : List ℕ) → FollowsTask (pipe_call requests) specs ss r → (t : IsRequestAt specs ss r i q) → i < j →
    RepliesHere requests specs ss j q.name.sender r reply dest bytes →
    (before specs ss j >>= λ k. held k r q.name.sender) ≡ Some q.name.number →
    NoneWaits q.name.sender (pipe_after requests (answers_before specs ss r i)) →
    KeptHere requests q.name.sender q.message (take SEGMENT_BYTES t.take.exchange.part) (answers_before specs ss r j)
kept_here requests specs ss r i j q reply dest bytes follows t less here holds none =
    let b = take SEGMENT_BYTES t.take.exchange.part in
    kept_when requests q.name.sender q.message b (answers_before specs ss r j) here.caller here.ready
    (tracked_to requests specs ss r i j q here.kernel here.caller follows t less here.at here.is
    (ap (λ o. o >>= λ k. held k r q.name.sender) (sym here.at) ∙ holds) none)

pub own_here : (requests : ℕ) (specs : List ProcessSpec) (ss : List Step) (r : Pid) (i j : ℕ) (q : Request) (reply : Message) (dest : ℕ)
    (bytes : List ℕ) → FollowsTask (pipe_call requests) specs ss r → IsRequestAt specs ss r i q → i < j →
    RepliesHere requests specs ss j q.name.sender r reply dest bytes →
    (before specs ss j >>= λ k. held k r q.name.sender) ≡ Some q.name.number →
    NoneWaits q.name.sender (pipe_after requests (answers_before specs ss r i)) → IsOwnReply q.message reply dest bytes
own_here requests specs ss r i j q reply dest bytes follows t less here holds none =
    let given = answers_before specs ss r j in
    let server = server_after requests given in
    own_by q.name.sender q.message (take SEGMENT_BYTES t.take.exchange.part) (writes_put requests given) server.pipe server.stage reply dest
    bytes (kept_here requests specs ss r i j q reply dest bytes follows t less here holds none).has (stocked_after requests given)
    here.reply_is
