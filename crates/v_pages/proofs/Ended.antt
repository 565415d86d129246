-- Where a reply that a sender collects was given, taken and brought.
use Rattle.std.proofs.Common.{◌≡◌, ℕ, ◌<◌, List, slice_get, Option, Some, sym, ap, subst, ◌∙◌}
use Rattle.std.proofs.lemmas.Option.{same_Some}
use Rattle.v_whole.proofs.Traced.{finished_is}
use Rattle.vk_types.specs.Types.{Answer, Call, Message, Observation, Pid, Process, ProcessSpec, Step}
use Rattle.vk_base.specs.declared.answer.Answer.TheVariants as answers
use Rattle.vk_base.specs.declared.call.Call.TheVariants as calls
use Rattle.vk_base.specs.declared.kernel.State.TheVariants as states
use Rattle.vk_base.specs.declared.step.Step.TheVariants as steps
use Rattle.vk_base.specs.Calls.{Effect, answered as seen_answered}
use Rattle.vk_base.specs.Kernel.{◌>>=◌, Kernel, initial_kernel, name_of, with_state}
use Rattle.vk_base.specs.Ranges.{with_bytes}
use Rattle.vk_base.specs.Steps.{Run, effect, run, collecting}
use Rattle.vk_base.proofs.OptionLemmas.{bind_is}
use Rattle.v_laws.specs.Places.{HasOwnReply, IsReplyAt, before, seen_at, taken_at}
use Rattle.v_laws.specs.Reached.{saw}
use Rattle.v_laws.proofs.PlaceLemmas.{at_place, step_at}
use Rattle.v_laws.proofs.ReplyLemmas.{own_reply}
use Rattle.v_laws.proofs.StepLemmas.{collecting_is}
use Rattle.v_pages.specs.Served.{RepliesToLast}
use Rattle.v_pages.proofs.Collected.{IsFinished, finished_before}
use Rattle.v_pages.proofs.Replied.{one_reply}
use Rattle.v_pages.proofs.Touched.{has_reply}

-- What a sender collects.

pub record Collects (specs : List ProcessSpec) (ss : List Step) (i : ℕ) (s : Pid) (c : Call) (a : Answer) : Type 0 where
  pub kernel : Kernel
  pub at : before specs ss i ≡ Some kernel
  pub sender : Process
  pub is : kernel.procs s ≡ Some sender
  pub state : sender.state ≡ states.Done c a

pub collects_at : (specs : List ProcessSpec) (ss : List Step) (whole : Run) (i : ℕ) (s : Pid) (c : Call) (a : Answer) →
    run (initial_kernel specs) ss ≡ Some whole → slice_get ss i ≡ Some (steps.Collect s) → seen_at specs ss i ≡ saw s c a →
    Collects specs ss i s c a
collects_at specs ss whole i s c a g is sees =
    let x = step_at specs ss whole i (steps.Collect s) g is in
    let d = bind_is (collecting x.kernel s) _ x.did x.does in
    let done = collecting_is x.kernel s d.0 d.1 in
    let seen : saw s d.0.call d.0.answer ≡ saw s c a =
    ap (λ (e : Effect). e.seen) (same_Some (seen_answered (with_state x.kernel s d.0.process states.Ready) s d.0.call d.0.answer) x.did d.2)
    ∙ sym (ap (λ (o : Option Effect). o >>= λ (e : Effect). e.seen)
    (at_place effect specs ss i x.kernel (steps.Collect s) x.at is ∙ x.does)) ∙ sees in
    let same = same_Some _ _ seen in
    record {
      kernel = x.kernel;
      at = x.at;
      sender = d.0.process;
      is = done.process;
      state = finished_is d.0.process.state d.0.call d.0.answer done.done
          ∙ (λ j. states.Done (ap (λ (o : Observation). o.call) same j) (ap (λ (o : Observation). o.answer) same j));
    }

-- One reply, told twice.
pub record SameSend (s r t : Pid) (m n a b : Message) : Type 0 where
  pub target : r ≡ t
  pub message : m ≡ n
  pub reply : a ≡ b

pub same_send : (s r t : Pid) (m n a b : Message) →
    states.Done (calls.Send r m) (answers.Replied a) ≡ states.Done (calls.Send t n) (answers.Replied b) → SameSend s r t m n a b
same_send s r t m n a b e = record { target = target e; message = message e; reply = reply e }
  where
    target : states.Done (calls.Send r m) (answers.Replied a) ≡ states.Done (calls.Send t n) (answers.Replied b) → r ≡ t
    target e = cc

    message : states.Done (calls.Send r m) (answers.Replied a) ≡ states.Done (calls.Send t n) (answers.Replied b) → m ≡ n
    message e = cc

    reply : states.Done (calls.Send r m) (answers.Replied a) ≡ states.Done (calls.Send t n) (answers.Replied b) → a ≡ b
    reply e = cc

-- The Finish whose reply, of place j, is collected.
pub record IsEnded (specs : List ProcessSpec) (ss : List Step) (i j : ℕ) (s target r : Pid) (message reply : Message) (p : Process) :
    Type 0 where
  pub place : ℕ
  pub earlier : place < i
  pub kernel : Kernel
  pub at : before specs ss place ≡ Some kernel
  pub waiter : Process
  pub is : kernel.procs s ≡ Some waiter
  pub state : waiter.state ≡ states.Blocked (calls.Send target message)
  pub dest : ℕ
  pub bytes : List ℕ
  pub memory : p.memory ≡ with_bytes waiter.memory dest bytes
  pub sends : p.sends ≡ waiter.sends
  pub before_finish : j < place
  pub replies : IsReplyAt specs ss j s r waiter.sends reply dest bytes
  pub take_place : ℕ
  pub before_reply : take_place < j
  pub receives : slice_get ss take_place ≡ Some (steps.Take r)
  pub takes : taken_at specs ss take_place ≡ Some (name_of s waiter.sends)

same_finish : (specs : List ProcessSpec) (ss : List Step) (i : ℕ) (s target : Pid) (message reply : Message) (p : Process)
    (f : IsFinished specs ss i s p) (o : HasOwnReply specs ss f.place s) →
    p.state ≡ states.Done (calls.Send target message) (answers.Replied reply) →
    SameSend s target o.target message o.finish.message reply o.reply
same_finish specs ss i s target message reply p f o state =
    let same = same_Some p _ (sym f.after ∙ o.finish.after) in
    same_send s target o.target message o.finish.message reply o.reply (sym state ∙ ap (λ (z : Process). z.state) same)

pub waited_in : (specs : List ProcessSpec) (ss : List Step) (i : ℕ) (s target : Pid) (message reply : Message) (p : Process)
    (f : IsFinished specs ss i s p) (o : HasOwnReply specs ss f.place s) →
    p.state ≡ states.Done (calls.Send target message) (answers.Replied reply) →
    o.finish.process.state ≡ states.Blocked (calls.Send target message)
waited_in specs ss i s target message reply p f o state =
    let one = same_finish specs ss i s target message reply p f o state in
    o.finish.waits ∙ (λ j. states.Blocked (calls.Send (sym one.target j) (sym one.message j)))

pub ended_by : (specs : List ProcessSpec) (ss : List Step) (i : ℕ) (s target r : Pid) (message reply : Message) (p : Process)
    (f : IsFinished specs ss i s p) (o : HasOwnReply specs ss f.place s) → o.holder ≡ r →
    p.state ≡ states.Done (calls.Send target message) (answers.Replied reply) →
    IsEnded specs ss i o.reply_place s target r message reply p
ended_by specs ss i s target r message reply p f o who state =
    let k = bind_is (before specs ss f.place) _ o.finish.process o.finish.before in
    let same = same_Some p _ (sym f.after ∙ o.finish.after) in
    let one = same_finish specs ss i s target message reply p f o state in
    record {
      place = f.place;
      earlier = f.earlier;
      kernel = k.0;
      at = k.1;
      waiter = o.finish.process;
      is = k.2;
      state = waited_in specs ss i s target message reply p f o state;
      dest = o.dest;
      bytes = o.bytes;
      memory = ap (λ (z : Process). z.memory) same;
      sends = ap (λ (z : Process). z.sends) same;
      before_finish = o.before_finish;
      replies = subst (λ n. IsReplyAt specs ss o.reply_place s r n reply o.dest o.bytes) (sym o.finish.last)
          (subst (λ t. IsReplyAt specs ss o.reply_place s t o.number reply o.dest o.bytes) who
          (subst (λ m. IsReplyAt specs ss o.reply_place s o.holder o.number m o.dest o.bytes) (sym one.reply) o.replies));
      take_place = o.take_place;
      before_reply = o.before_reply;
      receives = o.receives ∙ ap (λ t. Some (steps.Take t)) who;
      takes = o.takes ∙ ap (λ n. Some (name_of s n)) (sym o.finish.last);
    }

pub ended_last : (specs : List ProcessSpec) (ss : List Step) (whole : Run) (i j : ℕ) (s target r : Pid) (message reply : Message) →
    run (initial_kernel specs) ss ≡ Some whole → (c : Collects specs ss i s (calls.Send target message) (answers.Replied reply)) →
    RepliesToLast specs ss i j s r → IsEnded specs ss i j s target r message reply c.sender
ended_last specs ss whole i j s target r message reply g c h =
    let f = finished_before specs ss s i c.kernel c.sender c.at c.is (ap has_reply c.state) in
    let o = own_reply specs ss whole f.place s g f.is in
    let now = ap (λ (o : Option Kernel). o >>= λ k. k.procs s) c.at ∙ c.is in
    let number : h.sender.sends ≡ o.number = ap (λ (z : Process). z.sends) (same_Some h.sender c.sender (sym h.now ∙ now))
    ∙ ap (λ (z : Process). z.sends) (same_Some c.sender _ (sym f.after ∙ o.finish.after)) ∙ o.finish.last in
    let one = one_reply specs ss o.reply_place j s o.holder r o.number o.reply h.message o.dest h.dest o.bytes h.bytes o.replies
    (subst (λ n. IsReplyAt specs ss j s r n h.message h.dest h.bytes) number h.replies) in
    subst (λ l. IsEnded specs ss i l s target r message reply c.sender) one.0
    (ended_by specs ss i s target r message reply c.sender f o one.1 c.state)

-- what a sender collects was replied at the place at which r replied to its Send
pub record WasEnded (specs : List ProcessSpec) (ss : List Step) (i j : ℕ) (s target r : Pid) (message reply : Message) : Type 0 where
  pub collects : Collects specs ss i s (calls.Send target message) (answers.Replied reply)
  pub ended : IsEnded specs ss i j s target r message reply collects.sender

pub was_ended : (specs : List ProcessSpec) (ss : List Step) (whole : Run) (r : Pid) (i j : ℕ) (s target : Pid) (message reply : Message) →
    run (initial_kernel specs) ss ≡ Some whole → slice_get ss i ≡ Some (steps.Collect s) →
    seen_at specs ss i ≡ saw s (calls.Send target message) (answers.Replied reply) → RepliesToLast specs ss i j s r →
    WasEnded specs ss i j s target r message reply
was_ended specs ss whole r i j s target message reply g is sees h =
    let c = collects_at specs ss whole i s (calls.Send target message) (answers.Replied reply) g is sees in
    record { collects = c; ended = ended_last specs ss whole i j s target r message reply g c h }
