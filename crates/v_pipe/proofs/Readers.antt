-- What a reader of a pipe collects is a piece of what the server hands out.
use Rattle.std.proofs.Common.{◌≡◌, ℕ, List, [], length, slice_get, Option, Some, sym, ap, subst, ◌∙◌, arith}
use Rattle.vk_types.specs.Types.{Message, Name, Pid, ProcessSpec, Step}
use Rattle.vk_base.specs.declared.answer.Answer.TheVariants as answers
use Rattle.vk_base.specs.declared.call.Call.TheVariants as calls
use Rattle.vk_base.specs.declared.step.Step.TheVariants as steps
use Rattle.vk_base.specs.Kernel.{◌>>=◌, Kernel, held, initial_kernel, name_of}
use Rattle.vk_base.specs.Ranges.{range_of, bytes_in}
use Rattle.vk_base.specs.Settings.{Settings}
use Rattle.vk_base.specs.Steps.{Run, run}
use Rattle.vk_schedule.specs.declared.event.Event.{Event}
use Rattle.v_laws.specs.Places.{IsReplyAt, before, seen_at}
use Rattle.v_laws.specs.Reached.{saw}
use Rattle.v_laws.proofs.ReplyLemmas.{own_reply}
use Rattle.vk_base.proofs.OptionLemmas.{bind_is}
use Rattle.v_whole.specs.HistoryLaws.{IsSchedule, steps_of}
use Rattle.v_whole.proofs.Histories.{schedules_run}
use Rattle.v_pages.specs.Followed.{FollowsTask, answers_before}
use Rattle.v_pages.specs.Scheduled.{FollowsIn}
use Rattle.v_pages.specs.Served.{RepliesToLast}
use Rattle.v_pages.proofs.Collected.{finished_before}
use Rattle.v_pages.proofs.Ended.{ended_by, waited_in, Collects, IsEnded, collects_at, ended_last}
use Rattle.v_pages.proofs.Events.{follows_on}
use Rattle.v_pages.proofs.Lists.{read_back}
use Rattle.v_pages.proofs.Replied.{reply_room}
use Rattle.v_pages.proofs.Senders.{replier}
use Rattle.v_pages.proofs.Touched.{has_reply}
use Rattle.v_pages.proofs.Taken.{one_take, request_at_take, request_is}
use Rattle.vk_pipe.specs.declared.serving.PipeServing.{PipeServing}
use Rattle.vk_pipe.specs.Kept.{pipe_after}
use Rattle.vk_pipe.specs.Pipes.{Pipe, pipe_call}
use Rattle.vk_pipe.specs.Requests.{reply_of}
use Rattle.v_pipe.specs.Read.{IsHandedOut}
use Rattle.v_pipe.specs.Waits.{NoneWaits}
use Rattle.v_pipe.proofs.Given.{Reply, RepliesHere, pipe_keeps, replies_here}
use Rattle.v_pipe.proofs.Own.{own_here}
use Rattle.v_pipe.proofs.Pieces.{piece_here}
use Rattle.v_pipe.proofs.Standing.{piece_size}

-- a reply with bytes says how many
counted : (q : Pipe) (stage : PipeServing) (s : Pid) (reply : Message) (dest : ℕ) (bytes : List ℕ) → Reply q stage s reply dest bytes →
    (bytes ≡ [] → ⊥) → reply ≡ reply_of 0 (length bytes)
counted q stage s reply dest bytes (Reply.of_read x is from told place same) some =
    told ∙ ap (reply_of 0) (sym (ap length same ∙ piece_size q x))
counted q stage s reply dest bytes (Reply.without verdict is told none) some = absurd (some none)

handed_out : (specs : List ProcessSpec) (ss : List Step) (requests i j : ℕ) (s target r : Pid) (message reply : Message) →
    FollowsTask (pipe_call requests) specs ss r → (c : Collects specs ss i s (calls.Send target message) (answers.Replied reply)) →
    IsEnded specs ss i j s target r message reply c.sender → IsHandedOut requests specs ss i j s r reply
handed_out specs ss requests i j s target r message reply follows c e =
    let n : Name = name_of s e.waiter.sends in
    let q = request_at_take specs ss r e.take_place n e.receives e.takes in
    let t = request_is specs ss r e.take_place q.0 q.1 in
    let sender = ap (λ (x : Name). x.sender) q.2 in
    let here = replies_here requests specs ss j s r e.waiter.sends reply e.dest e.bytes follows e.replies in
    let room = reply_room specs ss j e.place s r e.waiter.sends reply e.dest e.bytes e.kernel e.waiter e.replies e.at e.is in
    record {
      sender = c.sender;
      now = ap (λ (o : Option Kernel). o >>= λ k. k.procs s) c.at ∙ c.is;
      place = e.take_place;
      request = q.0;
      takes = q.1;
      name = q.2 ∙ ap (name_of s) (sym e.sends);
      once = λ l x. one_take specs ss e.take_place l r q.0 x (pipe_keeps requests specs ss r follows) q.1;
      behind = e.before_reply;
      dest = e.dest;
      bytes = e.bytes;
      replies = subst (λ n. IsReplyAt specs ss j s r n reply e.dest e.bytes) (sym e.sends) e.replies;
      piece = piece_here requests specs ss j s r reply e.dest e.bytes here;
      count = counted _ _ s reply e.dest e.bytes here.reply_is;
      own = λ none. own_here requests specs ss r e.take_place j q.0 reply e.dest e.bytes follows t e.before_reply
          (subst (λ x. RepliesHere requests specs ss j x r reply e.dest e.bytes) (sym sender) here)
          (ap (λ (x : Name). before specs ss j >>= λ k. held k r x.sender) q.2 ∙ e.replies.holds
          ∙ ap (λ (x : Name). Some x.number) (sym q.2))
          (subst (λ x. NoneWaits x (pipe_after requests (answers_before specs ss r e.take_place))) (sym sender) none);
      collected = omega (arith, e.before_finish, e.earlier);
      memory = ap (bytes_in (range_of e.dest (length e.bytes))) e.memory ∙ read_back e.waiter.memory e.dest e.bytes (omega (arith, room));
    }

pub reads_pieces : (specs : List ProcessSpec) (ss : List Step) (whole : Run) (r : Pid) (requests i j : ℕ) (s target : Pid)
    (message reply : Message) → run (initial_kernel specs) ss ≡ Some whole → FollowsTask (pipe_call requests) specs ss r →
    slice_get ss i ≡ Some (steps.Collect s) → seen_at specs ss i ≡ saw s (calls.Send target message) (answers.Replied reply) →
    RepliesToLast specs ss i j s r → IsHandedOut requests specs ss i j s r reply
reads_pieces specs ss whole r requests i j s target message reply g follows is sees h =
    let c = collects_at specs ss whole i s (calls.Send target message) (answers.Replied reply) g is sees in
    handed_out specs ss requests i j s target r message reply follows c
    (ended_last specs ss whole i j s target r message reply g c h)

pub reads_pieces_in : (c : Settings) (es : List Event) (r : Pid) (requests i j : ℕ) (s target : Pid) (message reply : Message) →
    IsSchedule c es → FollowsIn (pipe_call requests) c es r → slice_get (steps_of c es) i ≡ Some (steps.Collect s) →
    seen_at c.specs (steps_of c es) i ≡ saw s (calls.Send target message) (answers.Replied reply) →
    RepliesToLast c.specs (steps_of c es) i j s r → IsHandedOut requests c.specs (steps_of c es) i j s r reply
reads_pieces_in c es r requests i j s target message reply schedule follows =
    let whole = schedules_run c es schedule.distinct schedule.callers in
    reads_pieces c.specs (steps_of c es) _ r requests i j s target message reply whole.run
    (follows_on (pipe_call requests) c es r schedule follows)

-- Who sent to the server itself has its reply.
last_reply : (specs : List ProcessSpec) (ss : List Step) (i j : ℕ) (s target r : Pid) (message reply : Message)
    (c : Collects specs ss i s (calls.Send target message) (answers.Replied reply)) →
    IsEnded specs ss i j s target r message reply c.sender → RepliesToLast specs ss i j s r
last_reply specs ss i j s target r message reply c e = record {
  sender = c.sender;
  now = ap (λ (x : Option Kernel). x >>= λ k. k.procs s) c.at ∙ c.is;
  message = reply;
  dest = e.dest;
  bytes = e.bytes;
  replies = subst (λ n. IsReplyAt specs ss j s r n reply e.dest e.bytes) (sym e.sends) e.replies;
}

pub senders_answered : (specs : List ProcessSpec) (ss : List Step) (whole : Run) (r : Pid) (requests i : ℕ) (s : Pid)
    (message reply : Message) → run (initial_kernel specs) ss ≡ Some whole → FollowsTask (pipe_call requests) specs ss r →
    slice_get ss i ≡ Some (steps.Collect s) → seen_at specs ss i ≡ saw s (calls.Send r message) (answers.Replied reply) →
    (j : ℕ) × RepliesToLast specs ss i j s r
senders_answered specs ss whole r requests i s message reply g follows is sees =
    let c = collects_at specs ss whole i s (calls.Send r message) (answers.Replied reply) g is sees in
    let f = finished_before specs ss s i c.kernel c.sender c.at c.is (ap has_reply c.state) in
    let o = own_reply specs ss whole f.place s g f.is in
    let k = bind_is (before specs ss f.place) _ o.finish.process o.finish.before in
    let who = replier specs ss o.reply_place f.place s r o.holder o.number k.0 o.finish.process message
    (pipe_keeps requests specs ss r follows) o.before_finish o.replies.holds k.1 k.2 o.finish.last
    (waited_in specs ss i s r message reply c.sender f o c.state) in (
      o.reply_place,
      last_reply specs ss i o.reply_place s r r message reply c (ended_by specs ss i s r r message reply c.sender f o who c.state),
    )

pub senders_answered_in : (c : Settings) (es : List Event) (r : Pid) (requests i : ℕ) (s : Pid) (message reply : Message) →
    IsSchedule c es → FollowsIn (pipe_call requests) c es r → slice_get (steps_of c es) i ≡ Some (steps.Collect s) →
    seen_at c.specs (steps_of c es) i ≡ saw s (calls.Send r message) (answers.Replied reply) →
    (j : ℕ) × RepliesToLast c.specs (steps_of c es) i j s r
senders_answered_in c es r requests i s message reply schedule follows =
    let whole = schedules_run c es schedule.distinct schedule.callers in
    senders_answered c.specs (steps_of c es) _ r requests i s message reply whole.run
    (follows_on (pipe_call requests) c es r schedule follows)
