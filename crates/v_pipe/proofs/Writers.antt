-- A write that a sender collects as done was put into the pipe, once, and with the bytes that came with its Send.
use Rattle.std.proofs.Common.{◌≡◌, ℕ, suc, ◌<◌, ◌≤◌, min, List, [], ◌∷◌, ◌++◌, drop, length, map, take, slice_get, Some, refl, sym, ap, subst, ◌∙◌, append_assoc, arith}
use Rattle.std.proofs.lemmas.Bool.{cond_both}
use Rattle.std.proofs.lemmas.List.{length-append, length-take, take_all}
use Rattle.vk_types.specs.Types.{Answer, Call, Message, Name, Pid, ProcessSpec, Step}
use Rattle.vk_base.specs.declared.answer.Answer.TheVariants as answers
use Rattle.vk_base.specs.declared.call.Call.TheVariants as calls
use Rattle.vk_base.specs.declared.limits.TheConstants.{SEGMENT_BYTES}
use Rattle.vk_base.specs.declared.step.Step.TheVariants as steps
use Rattle.vk_base.specs.Calls.{first_part}
use Rattle.vk_base.specs.Kernel.{◌>>=◌, held, initial_kernel, name_of}
use Rattle.vk_base.specs.Messages.{grants_read, segment_of}
use Rattle.vk_base.specs.Pids.{same_pid}
use Rattle.vk_base.specs.Ranges.{range_of, bytes_in}
use Rattle.vk_base.specs.Settings.{Settings}
use Rattle.vk_base.specs.Steps.{Run, run}
use Rattle.vk_base.proofs.ListLemmas.{cons_not_nil}
use Rattle.vk_base.proofs.PidLemmas.{same_pid_self}
use Rattle.vk_schedule.specs.declared.event.Event.{Event}
use Rattle.v_laws.specs.Places.{before, seen_at}
use Rattle.v_laws.specs.Reached.{saw}
use Rattle.v_laws.proofs.StepLemmas.{taking_is}
use Rattle.v_laws.proofs.FilterLemmas.{same_tail}
use Rattle.v_whole.specs.HistoryLaws.{IsSchedule, steps_of}
use Rattle.v_whole.proofs.Histories.{schedules_run}
use Rattle.v_pages.specs.Followed.{FollowsTask, answer_at, answers_before, call_at, calls_before, up_to}
use Rattle.v_pages.specs.Scheduled.{FollowsIn}
use Rattle.v_pages.specs.Served.{RepliesToLast}
use Rattle.v_pages.proofs.Events.{follows_on}
use Rattle.v_pages.proofs.Lists.{front_same, up_to_some, up_to_later}
use Rattle.v_pages.proofs.Sent.{made_at}
use Rattle.v_pages.proofs.Staying.{as_sent}
use Rattle.v_pages.proofs.Taken.{request_is}
use Rattle.vk_pipe.specs.declared.serving.PipeServing.{PipeServing}
use Rattle.vk_pipe.specs.declared.serving.PipeServing.TheVariants as stages
use Rattle.vk_pipe.specs.declared.serving.Verdict.{Verdict}
use Rattle.vk_pipe.specs.declared.serving.Verdict.TheVariants as verdicts
use Rattle.vk_pipe.specs.declared.waiting.Write.{Write}
use Rattle.vk_pipe.specs.Kept.{pipe_after, reply_to_write}
use Rattle.vk_pipe.specs.Pipes.{Pipe, Server, answered, new_server, pipe_call, server_after}
use Rattle.vk_pipe.specs.Requests.{code_of, message_for, reply_of}
use Rattle.vk_pipe.specs.Told.{along, put_by, rule_at, writes_put, written_call}
use Rattle.vk_pipe.proofs.Hearing.{one_more_answer}
use Rattle.vk_pipe.proofs.Steps.{step}
use Rattle.v_pipe.specs.Read.{IsHandedOut}
use Rattle.v_pipe.specs.Waits.{NoneWaits}
use Rattle.v_pipe.specs.Written.{IsSentWriteDone, IsWriteDone, writes_before}
use Rattle.v_pipe.proofs.Entries.{Has, Suits, write_by}
use Rattle.v_pages.proofs.Places.{call_here}
use Rattle.v_pipe.proofs.Given.{Reply, RepliesHere, pipe_keeps, replies_here}
use Rattle.v_pipe.proofs.Own.{close_code, kept_here, read_code, suits_at}
use Rattle.v_pipe.proofs.Pieces.{along_append}
use Rattle.v_pipe.proofs.Readers.{reads_pieces}
use Rattle.v_pipe.proofs.Tracked.{put_more}

-- Of the server at the reply.
pub record PutBy (s : Pid) (b : List ℕ) (put : List Write) (stage : PipeServing) (reply : Message) : Type 0 where
  pub count : ℕ
  pub tells : stage ≡ stages.Reply s (verdicts.Written count)
  pub size : count ≡ length b
  pub said : reply ≡ reply_of 0 count
  pub earlier : List Write
  pub last : put ≡ earlier ++ write_by s b ∷ []

put_verdict : (s : Pid) (m : Message) (b : List ℕ) (put : List Write) (stage : PipeServing) (reply : Message) (verdict : Verdict) →
    stage ≡ stages.Reply s verdict → reply ≡ message_for verdict → Suits s m b put (stages.Reply s verdict) → code_of m ≡ 7 →
    code_of (message_for verdict) ≡ 0 → PutBy s b put stage reply
put_verdict s m b put stage reply (verdicts.Written count) is told suits writes code = record {
  count = count;
  tells = is;
  size = suits.size;
  said = told;
  earlier = suits.last.earlier;
  last = suits.last.is;
}
put_verdict s m b put stage reply verdicts.Closed is told suits writes code =
    let other = close_code m suits in absurd (omega (arith, other, writes))
put_verdict s m b put stage reply verdicts.Bad is told suits writes code = let same : 2 ≡ 0 = code in absurd (omega (arith, same))
put_verdict s m b put stage reply verdicts.Full is told suits writes code = let same : 5 ≡ 0 = code in absurd (omega (arith, same))
put_verdict s m b put stage reply verdicts.End is told suits writes code = let same : 6 ≡ 0 = code in absurd (omega (arith, same))
put_verdict s m b put stage reply verdicts.Shut is told suits writes code = let same : 7 ≡ 0 = code in absurd (omega (arith, same))

put_by_reply : (s : Pid) (m : Message) (b : List ℕ) (put : List Write) (q : Pipe) (stage : PipeServing) (reply : Message) (dest : ℕ)
    (bytes : List ℕ) → Has s m b put q stage → Reply q stage s reply dest bytes → code_of m ≡ 7 → code_of reply ≡ 0 →
    PutBy s b put stage reply
put_by_reply s m b put q stage reply dest bytes has (Reply.of_read x is from told place same) writes code =
    let asked = suits_at s m b put q stage (stages.ReplyBytes x) has is
    (ap (λ t. same_pid t s) from ∙ same_pid_self s) in
    let reads = read_code m asked.reads in
    absurd (omega (arith, reads, writes))
put_by_reply s m b put q stage reply dest bytes has (Reply.without verdict is told none) writes code =
    put_verdict s m b put stage reply verdict is told (suits_at s m b put q stage (stages.Reply s verdict) has is (same_pid_self s)) writes
    (ap code_of (sym told) ∙ code)

-- Of two replies the earlier one knows of none of the later one's writes.

-- a list that is not empty has a last element
record HasEnd {A : Type 0} (xs : List A) : Type 0 where
  front : List A
  last : A
  is : xs ≡ front ++ last ∷ []

has_end : {A : Type 0} (x : A) (xs : List A) → HasEnd (x ∷ xs)
has_end x [] = record { front = []; last = x; is = refl }
has_end {A} x (y ∷ ys) =
    let more = has_end y ys in
    record { front = x ∷ more.front; last = more.last; is = ap (λ (l : List A). x ∷ l) more.is }

some_end : {A : Type 0} (xs : List A) → 0 < length xs → HasEnd xs
some_end [] some = absurd (omega (arith, some))
some_end (x ∷ xs) some = has_end x xs

record IsOne {A : Type 0} (xs : List A) : Type 0 where
  one : A
  is : xs ≡ one ∷ []

mapped_one : {A B : Type 0} (f : A → B) (xs : List A) (y : B) → map f xs ≡ y ∷ [] → IsOne xs
mapped_one f [] y e = absurd (cons_not_nil y [] (sym e))
mapped_one f (x ∷ []) y e = record { one = x; is = refl }
mapped_one f (x ∷ z ∷ zs) y e = absurd (cons_not_nil (f z) (map f zs) (same_tail (f x) y (f z ∷ map f zs) [] e))

-- the answer before such a reply put its write in
put_one : (t : Server) (a : Answer) (s : Pid) (count : ℕ) → (answered t a).stage ≡ stages.Reply s (verdicts.Written count) →
    IsOne (put_by (rule_at t a))
put_one t a s count is =
    mapped_one reply_to_write (put_by (rule_at t a)) (calls.Reply (reply_of 0 count) s)
    ((step t.pipe t.stage a).written ∙ ap written_call is)

earlier_by : (requests : ℕ) (given rest : List Answer) (earlier : List Write) (s : Pid) (b : List ℕ) (count : ℕ) → 0 < length rest →
    (server_after requests (given ++ rest)).stage ≡ stages.Reply s (verdicts.Written count) →
    writes_put requests (given ++ rest) ≡ earlier ++ write_by s b ∷ [] →
    (more : List Write) × (earlier ≡ writes_put requests given ++ more)
earlier_by requests given rest earlier s b count some stage put =
    let l = some_end rest some in
    let front = given ++ l.front in
    let t = server_after requests front in
    let whole : given ++ rest ≡ front ++ l.last ∷ [] =
    ap (λ (xs : List Answer). given ++ xs) l.is ∙ sym (append_assoc given l.front (l.last ∷ [])) in
    let one = put_one t l.last s count
    (ap (λ (u : Server). u.stage) (sym (one_more_answer (new_server requests) front l.last))
    ∙ ap (λ (xs : List Answer). (server_after requests xs).stage) (sym whole) ∙ stage) in
    let same : writes_put requests front ≡ earlier =
    front_same (writes_put requests front) earlier one.one (write_by s b)
    (ap (λ (ws : List Write). writes_put requests front ++ ws) (sym one.is) ∙ sym (put_more requests front l.last)
    ∙ ap (writes_put requests) (sym whole) ∙ put) in (
      along (λ t a. put_by (rule_at t a)) (server_after requests given) l.front,
      sym same ∙ along_append (λ t a. put_by (rule_at t a)) (new_server requests) given l.front,
    )

-- a process that calls at both places got an answer between them
answers_between : (requests : ℕ) (specs : List ProcessSpec) (ss : List Step) (r : Pid) (l j : ℕ) (c d : Call) →
    FollowsTask (pipe_call requests) specs ss r → call_at ss r l ≡ Some c → call_at ss r j ≡ Some d → l < j →
    (rest : List Answer) × (0 < length rest) × (answers_before specs ss r j ≡ answers_before specs ss r l ++ rest)
answers_between requests specs ss r l j c d follows first second less =
    let rest = up_to_later (answer_at specs ss r) l j (omega (arith, less)) in
    let more = up_to_later (call_at ss r) (suc l) j (omega (arith, less)) in
    let a = (follows l c first).answered in
    let b = (follows j d second).answered in
    let one = length-append (calls_before ss r l) (c ∷ []) in
    let here : length (up_to (call_at ss r) (suc l)) ≡ length (calls_before ss r l ++ c ∷ []) =
    ap length (up_to_some (call_at ss r) l c first) in
    let all = ap length more.1 in
    let sum = length-append (up_to (call_at ss r) (suc l)) more.0 in
    let given = ap length rest.1 in
    let parts = length-append (answers_before specs ss r l) rest.0 in
    (rest.0, omega (arith, a, b, one, here, all, sum, given, parts), rest.1)

write_done : (requests : ℕ) (specs : List ProcessSpec) (ss : List Step) (j : ℕ) (s r : Pid) (reply : Message) (b : List ℕ) (d : Call) →
    FollowsTask (pipe_call requests) specs ss r → call_at ss r j ≡ Some d →
    PutBy s b (writes_before requests specs ss r j) (server_after requests (answers_before specs ss r j)).stage reply →
    IsWriteDone requests specs ss j s r reply b
write_done requests specs ss j s r reply b d follows here p = record {
  earlier = p.earlier;
  put = p.last;
  count = p.said ∙ ap (reply_of 0) p.size;
  order = λ l c less calls.
      let x = answers_between requests specs ss r l j c d follows calls here less in
      earlier_by requests (answers_before specs ss r l) x.0 p.earlier s b p.count x.1
      (ap (λ (xs : List Answer). (server_after requests xs).stage) (sym x.2) ∙ p.tells)
      (ap (writes_put requests) (sym x.2) ∙ p.last);
}

-- The bytes that came with a Send.
part_most : (m : Message) (memory : List ℕ) → length (first_part m memory) ≤ SEGMENT_BYTES
part_most m memory =
    cond_both (grants_read m) (bytes_in (range_of (segment_of m).start (min (segment_of m).len SEGMENT_BYTES)) memory) []
    (λ (xs : List ℕ). length xs ≤ SEGMENT_BYTES)
    (λ t. let size = length-take (min (segment_of m).len SEGMENT_BYTES) (drop (segment_of m).start memory) in
    omega (arith, size)) (λ f. omega arith)

written : (specs : List ProcessSpec) (ss : List Step) (requests i j : ℕ) (s r : Pid) (reply : Message) →
    FollowsTask (pipe_call requests) specs ss r → IsHandedOut requests specs ss i j s r reply → IsSentWriteDone requests specs ss i j s r reply
written specs ss requests i j s r reply follows h =
    let q = h.request in
    let t = request_is specs ss r h.place q h.takes in
    let x = t.take.exchange in
    let n : Name = name_of s h.sender.sends in
    let there : t.kernel.exchanges n ≡ Some x =
    ap t.kernel.exchanges (sym h.name ∙ t.name) ∙ (taking_is t.kernel r t.take t.takes).exchange in
    let made = made_at specs ss h.place n t.kernel x t.at there in
    let sender : q.name.sender ≡ s = ap (λ (y : Name). y.sender) h.name in
    let here = replies_here requests specs ss j s r h.sender.sends reply h.dest h.bytes follows h.replies in
    record {
      handed = h;
      sent = made.place;
      first = made.earlier;
      target = x.target;
      message = x.message;
      called = made.is;
      own = λ to. sym (as_sent specs ss r (pipe_keeps requests specs ss r follows) h.place t.kernel t.at n x there to).shown
          ∙ sym t.message;
      caller = made.caller;
      then = made.at;
      last = made.number;
      kept = λ writes code none.
          let part : take SEGMENT_BYTES x.part ≡ first_part x.message made.caller.memory =
          ap (take SEGMENT_BYTES) made.part ∙ take_all SEGMENT_BYTES (first_part x.message made.caller.memory)
          (part_most x.message made.caller.memory) in
          let given = answers_before specs ss r j in
          let server = server_after requests given in
          let kept = kept_here requests specs ss r h.place j q reply h.dest h.bytes follows t h.behind
          (subst (λ y. RepliesHere requests specs ss j y r reply h.dest h.bytes) (sym sender) here)
          (ap (λ (y : Name). before specs ss j >>= λ k. held k r y.sender) h.name ∙ h.replies.holds
          ∙ ap (λ (y : Name). Some y.number) (sym h.name))
          (subst (λ y. NoneWaits y (pipe_after requests (answers_before specs ss r h.place))) (sym sender) none) in
          let has : Has s q.message (first_part x.message made.caller.memory) (writes_put requests given) server.pipe server.stage =
          subst (λ b. Has s q.message b (writes_put requests given) server.pipe server.stage) part
          (subst (λ y. Has y q.message (take SEGMENT_BYTES x.part) (writes_put requests given) server.pipe server.stage) sender kept.has) in
          write_done requests specs ss j s r reply (first_part x.message made.caller.memory) h.replies.call follows
          (call_here ss r j h.replies.call h.replies.is)
          (put_by_reply s q.message (first_part x.message made.caller.memory) (writes_put requests given) server.pipe server.stage reply
          h.dest h.bytes has here.reply_is writes code);
    }

pub writes_kept : (specs : List ProcessSpec) (ss : List Step) (whole : Run) (r : Pid) (requests i j : ℕ) (s target : Pid)
    (message reply : Message) → run (initial_kernel specs) ss ≡ Some whole → FollowsTask (pipe_call requests) specs ss r →
    slice_get ss i ≡ Some (steps.Collect s) → seen_at specs ss i ≡ saw s (calls.Send target message) (answers.Replied reply) →
    RepliesToLast specs ss i j s r → IsSentWriteDone requests specs ss i j s r reply
writes_kept specs ss whole r requests i j s target message reply g follows is sees h =
    written specs ss requests i j s r reply follows (reads_pieces specs ss whole r requests i j s target message reply g follows is sees h)

pub writes_kept_in : (c : Settings) (es : List Event) (r : Pid) (requests i j : ℕ) (s target : Pid) (message reply : Message) →
    IsSchedule c es → FollowsIn (pipe_call requests) c es r → slice_get (steps_of c es) i ≡ Some (steps.Collect s) →
    seen_at c.specs (steps_of c es) i ≡ saw s (calls.Send target message) (answers.Replied reply) →
    RepliesToLast c.specs (steps_of c es) i j s r → IsSentWriteDone requests c.specs (steps_of c es) i j s r reply
writes_kept_in c es r requests i j s target message reply schedule follows =
    let whole = schedules_run c es schedule.distinct schedule.callers in
    writes_kept c.specs (steps_of c es) _ r requests i j s target message reply whole.run
    (follows_on (pipe_call requests) c es r schedule follows)
