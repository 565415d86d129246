-- A helper in a run: what it reports is what its last Send to its member was replied, and its job is what its last Send to the
-- coordinator was replied.
use Rattle.std.proofs.Common.{◌≡◌, ℕ, ◌+◌, ◌<◌, ◌≤◌, Bool, true, false, List, length, slice_get, slice_index, Option, Some, refl, sym, ap, ◌∙◌, inl, inr, arith}
use Rattle.std.proofs.lemmas.Bool.{cases_lt, le-leb}
use Rattle.std.proofs.lemmas.Option.{same_Some, none-some}
use Rattle.vk_types.specs.Types.{Answer, Message, Pid, Process, ProcessSpec, Refusal, Step}
use Rattle.vk_base.specs.declared.answer.Answer.TheVariants as answers
use Rattle.vk_base.specs.declared.call.Call.TheVariants as calls
use Rattle.vk_base.specs.declared.kernel.State.TheVariants as states
use Rattle.vk_base.specs.declared.limits.TheConstants.{MESSAGE_BYTES}
use Rattle.vk_base.specs.declared.step.Step.TheVariants as steps
use Rattle.vk_base.specs.Calls.{Effect, answered as seen_answered, sent, unseen}
use Rattle.vk_base.specs.Kernel.{◌>>=◌, Kernel, initial_kernel, is_ready, name_of, with_memory}
use Rattle.vk_base.specs.Ranges.{range_of, bytes_in, with_bytes}
use Rattle.vk_base.specs.Steps.{Run, effect, run}
use Rattle.v_laws.specs.Places.{HasOwnReply, before, taken_at}
use Rattle.v_laws.proofs.OnceLemmas.{go_on, taken_at_is, taken_between, taken_over}
use Rattle.v_laws.proofs.PlaceLemmas.{before_sound}
use Rattle.v_laws.proofs.ReplyLemmas.{own_reply}
use Rattle.v_laws.proofs.Tables.{put_process_here}
use Rattle.v_pages.specs.Followed.{FollowsTask, answers_before}
use Rattle.v_pages.proofs.Calling.{CallOutcome, never_refused, outcome_of, own_told, told}
use Rattle.v_pages.proofs.Collected.{finished_before}
use Rattle.v_pages.proofs.Lists.{read_back}
use Rattle.v_pages.proofs.Ended.{same_send}
use Rattle.v_pages.proofs.Own.{OwnStep, other_told, which_step}
use Rattle.v_pages.proofs.Touched.{has_reply}
use Rattle.vk_group.specs.declared.helping.Helping.TheVariants as helpings
use Rattle.vk_group.specs.Helpers.{helped_all, helper_call, helping_call}
use Rattle.vk_group.specs.Messages.{ready_message}
use Rattle.v_group.proofs.Came.{replier_come}
use Rattle.v_group.proofs.Helped.{failed_after, helper_plain, job_is, loading_after, message_is, reported_after, sending_after, stored_after}
use Rattle.v_group.proofs.Rounds.{rounds, rounds_after, rounds_at, rounds_up}
use Rattle.v_group.proofs.Stepping.{in_call, is_quick, own_call, own_collect, own_take}
use Rattle.v_group.proofs.Taking.{called_since}
use Rattle.v_group.proofs.Timeline.{IsSince, busy_at, collected_at, made_at, may_call, since}
use Rattle.v_group.specs.Grouped.{IsRepliedBy}

-- A reply that is there to be collected.
pub record IsHelperAnswered (specs : List ProcessSpec) (ss : List Step) (s : Pid) (i : ℕ) (x : Process) (to : Pid) (sent_was got : Message) :
    Type 0 where
  pub finish : ℕ
  pub ended : finish < i
  pub own : HasOwnReply specs ss finish s
  pub target : own.target ≡ to
  pub message : own.finish.message ≡ sent_was
  pub reply : own.reply ≡ got
  pub number : own.number ≡ x.sends
  pub memory : x.memory ≡ with_bytes own.finish.process.memory own.dest own.bytes

pub answered_by : (specs : List ProcessSpec) (ss : List Step) (whole : Run) (s : Pid) (i : ℕ) (k : Kernel) (x : Process) (target : Pid)
    (message reply : Message) → run (initial_kernel specs) ss ≡ Some whole → before specs ss i ≡ Some k → k.procs s ≡ Some x →
    x.state ≡ states.Done (calls.Send target message) (answers.Replied reply) → IsHelperAnswered specs ss s i x target message reply
answered_by specs ss whole s i k x target message reply g at there state =
    let f = finished_before specs ss s i k x at there (ap has_reply state) in
    let o = own_reply specs ss whole f.place s g f.is in
    let same = same_Some x _ (sym f.after ∙ o.finish.after) in
    let one = same_send s target o.target message o.finish.message reply o.reply (sym state ∙ ap (λ (z : Process). z.state) same) in
    record {
      finish = f.place;
      ended = f.earlier;
      own = o;
      target = sym one.target;
      message = sym one.message;
      reply = sym one.reply;
      number = sym o.finish.last ∙ ap (λ (z : Process). z.sends) (sym same);
      memory = ap (λ (z : Process). z.memory) same;
    }

-- What comes of a Send, a Store and a Load.
sent_count : (k : Kernel) (r : Pid) (p : Process) (target : Pid) (m : Message) (e : Effect) (y : Process) → k.procs r ≡ Some p →
    e.after.procs r ≡ Some y → p.state ≡ states.Ready → y.state ≡ states.Blocked (calls.Send target m) →
    CallOutcome k r p (calls.Send target m) e → y.sends ≡ p.sends + 1
unfolding sent
sent_count k r p target m e y at later ready blocked (CallOutcome.refused why bars same) =
    let stays : p ≡ y = same_Some p y (sym at ∙ ap (λ (x : Effect). x.after.procs r) same ∙ later) in
    absurd (none-some (calls.Send target m) (ap in_call (sym ready ∙ ap (λ (z : Process). z.state) stays ∙ blocked)))
sent_count k r p target m e y at later ready blocked (CallOutcome.allowed fit g) =
    let now = record p { state = states.Blocked (calls.Send target m); sends = p.sends + 1 } in
    ap (λ (z : Process). z.sends)
    (same_Some y now (sym later ∙ ap (λ (x : Effect). x.after.procs r) (sym (same_Some (unseen (sent k r p target m)) e g))
    ∙ put_process_here k.procs r now))

pub stored_bytes : (k : Kernel) (r : Pid) (p : Process) (bytes : List ℕ) (e : Effect) (y : Process) → k.procs r ≡ Some p →
    e.after.procs r ≡ Some y → p.state ≡ states.Ready → y.alive ≡ true → length bytes ≤ length y.memory →
    CallOutcome k r p (calls.Store 0 bytes) e → bytes_in (range_of 0 (length bytes)) y.memory ≡ bytes
stored_bytes k r p bytes e y at later ready alive room (CallOutcome.refused why bars same) =
    let stays : p ≡ y = same_Some p y (sym at ∙ ap (λ (x : Effect). x.after.procs r) same ∙ later) in
    let size : length p.memory ≡ length y.memory = ap (λ (z : Process). length z.memory) stays in
    absurd (never_refused k r p 0 bytes why (ap (λ (z : Process). z.alive) stays ∙ alive) (ap is_ready ready)
    (le-leb (0 + length bytes) (length p.memory) (omega arith)) bars)
stored_bytes k r p bytes e y at later ready alive room (CallOutcome.allowed fit g) =
    let now = record p { memory = with_bytes p.memory 0 bytes } in
    let same = same_Some (seen_answered (with_memory k r p (with_bytes p.memory 0 bytes)) r (calls.Store 0 bytes) answers.Ok) e g in
    ap (λ (z : Process). bytes_in (range_of 0 (length bytes)) z.memory)
    (same_Some y now (sym later ∙ ap (λ (x : Effect). x.after.procs r) (sym same) ∙ put_process_here k.procs r now))
    ∙ read_back p.memory 0 bytes (omega arith)

stored_sends : (k : Kernel) (r : Pid) (p : Process) (bytes : List ℕ) (e : Effect) (y : Process) → k.procs r ≡ Some p →
    e.after.procs r ≡ Some y → CallOutcome k r p (calls.Store 0 bytes) e → y.sends ≡ p.sends
stored_sends k r p bytes e y at later (CallOutcome.refused why bars same) =
    ap (λ (z : Process). z.sends) (same_Some y p (sym later ∙ ap (λ (x : Effect). x.after.procs r) (sym same) ∙ at))
stored_sends k r p bytes e y at later (CallOutcome.allowed fit g) =
    let now = record p { memory = with_bytes p.memory 0 bytes } in
    let same = same_Some (seen_answered (with_memory k r p (with_bytes p.memory 0 bytes)) r (calls.Store 0 bytes) answers.Ok) e g in
    ap (λ (z : Process). z.sends)
    (same_Some y now (sym later ∙ ap (λ (x : Effect). x.after.procs r) (sym same) ∙ put_process_here k.procs r now))

loaded_same : (b c : List ℕ) → answers.Loaded b ≡ answers.Loaded c → b ≡ c
loaded_same b c e = cc

loaded_other : (why : Refusal) (b : List ℕ) → answers.Refused why ≡ answers.Loaded b → ⊥
loaded_other why b e = cc

pub loaded_bytes : (k : Kernel) (r : Pid) (p : Process) (count : ℕ) (bytes : List ℕ) (e : Effect) → told r e ≡ Some (answers.Loaded bytes) →
    CallOutcome k r p (calls.Load 0 count) e → bytes ≡ bytes_in (range_of 0 count) p.memory
loaded_bytes k r p count bytes e got (CallOutcome.refused why bars same) =
    absurd (loaded_other why bytes (same_Some (answers.Refused why) (answers.Loaded bytes)
    (sym (own_told r (calls.Load 0 count) (answers.Refused why) e (ap (λ (x : Effect). x.seen) (sym same))) ∙ got)))
loaded_bytes k r p count bytes e got (CallOutcome.allowed fit g) =
    let own = bytes_in (range_of 0 count) p.memory in
    let same = same_Some (seen_answered k r (calls.Load 0 count) (answers.Loaded own)) e g in
    sym (loaded_same own bytes (same_Some (answers.Loaded own) (answers.Loaded bytes)
    (sym (own_told r (calls.Load 0 count) (answers.Loaded own) e (ap (λ (x : Effect). x.seen) (sym same))) ∙ got)))

-- The Send is called for before it is taken.
called_first : (specs : List ProcessSpec) (ss : List Step) (s : Pid) (number i j : ℕ) (k : Kernel) (caller : Process) →
    taken_at specs ss i ≡ Some (name_of s number) → before specs ss j ≡ Some k → k.procs s ≡ Some caller → number ≡ caller.sends + 1 →
    j < i
called_first specs ss s number i j k caller takes at there next = elim (cases_lt j i) [
  | inl less ↦ less
  | inr more ↦
      let n = name_of s number in
      let a = taken_at_is specs ss i n takes in
      let x = go_on specs ss i j a.kernel k (omega arith) a.at at n a.take.exchange (taken_over specs ss i n a).queued in
      let b = (before_sound specs ss j k at).begun n x.0 x.1 in
      let high = b.last in
      let same : b.process.sends ≡ caller.sends = ap (λ (z : Process). z.sends) (same_Some b.process caller (sym b.is ∙ there)) in
      absurd (omega arith)
]

between : (a b c d : ℕ) → a ≤ b → b ≤ c → a ≡ c → c ≡ d → b ≡ d
between a b c d low high same on = omega (arith, low, high, same, on)

-- A reply that is reported, in the round of its job.
pub record IsReplyReported (specs : List ProcessSpec) (ss : List Step) (h member : Pid) (i : ℕ) (p : Process) : Type 0 where
  pub by : IsRepliedBy specs ss h member i p
  pub earlier : by.send < i
  pub round : rounds_at specs ss h by.send ≡ rounds_at specs ss h i

-- The job of a report.
pub record IsJobSent (specs : List ProcessSpec) (ss : List Step) (h member : Pid) (i : ℕ) : Type 0 where
  pub job : Message
  pub send : ℕ
  pub earlier : send < i
  pub called : slice_get ss send ≡ Some (steps.Call h (calls.Send member job))
  pub sending : helped_all helpings.Ready (answers_before specs ss h send) ≡ helpings.Send job
  pub round : rounds_at specs ss h send ≡ rounds_at specs ss h i

module _ (specs : List ProcessSpec) (ss : List Step) (whole : Run) (h coordinator member : Pid)
    (g : run (initial_kernel specs) ss ≡ Some whole) (follows : FollowsTask (helper_call coordinator member) specs ss h) where
  -- where it tells that its member replied
  pub reply_reported : (i : ℕ) (k : Kernel) (p : Process) → before specs ss i ≡ Some k → k.procs h ≡ Some p → p.state ≡ states.Ready →
      p.alive ≡ true → MESSAGE_BYTES ≤ length p.memory →
      helped_all helpings.Ready (answers_before specs ss h i) ≡ helpings.Report true → IsReplyReported specs ss h member i p
  reply_reported i k p at there ready alive room stage =
      let task = helper_call coordinator member in
      let plain = helper_plain coordinator member in
      let a = reported_after (answers_before specs ss h i) stage in
      let m = a.before.0 in
      let s = since task specs ss h plain follows a.front a.answer i k p at there (ap in_call ready) a.split in
      let next : task a.front ≡ Some (calls.Store 0 m.0) = ap (helping_call coordinator member) a.before.1 in
      let made = made_at task specs ss h plain follows i p a.front a.answer (calls.Store 0 m.0) next refl s in
      let out = outcome_of s.step.kernel h s.was (calls.Store 0 m.0) s.step.did s.step.there
      (ap (effect s.step.kernel) (sym made.step) ∙ s.step.does) in
      let b = stored_after a.front m a.before.1 in
      let t = since task specs ss h plain follows b.front b.answer s.place s.step.kernel s.was s.step.at s.step.there
      (ap in_call made.ready) (s.front ∙ b.split) in
      let c = collected_at task specs ss h plain follows s.place s.was b.front b.answer (ap is_quick b.before.2) t in
      let call : c.call ≡ calls.Send member b.before.0 =
      same_Some c.call (calls.Send member b.before.0) (sym c.told ∙ ap (helping_call coordinator member) b.before.1) in
      let state : t.was.state ≡ states.Done (calls.Send member b.before.0) (answers.Replied m) =
      c.state ∙ (λ j. states.Done (call j) (b.before.2 j)) in
      let r = answered_by specs ss whole h t.place t.step.kernel t.was member b.before.0 m g t.step.at t.step.there state in
      let d = called_since task specs ss h plain follows (calls.Send member b.before.0) t.place t.step.kernel t.was t.step.at t.step.there
      (ap in_call state) in
      let count : d.now.sends ≡ d.was.sends + 1 =
      sent_count d.step.kernel h d.was member b.before.0 d.step.did d.now d.step.there d.step.left d.ready d.blocked
      (outcome_of d.step.kernel h d.was (calls.Send member b.before.0) d.step.did d.step.there
      (ap (effect d.step.kernel) (sym d.is) ∙ d.step.does)) in
      let number : r.own.number ≡ d.was.sends + 1 = r.number ∙ d.sends ∙ count in
      let behind : d.place < r.own.take_place =
      called_first specs ss h r.own.number r.own.take_place d.place d.step.kernel d.was r.own.takes d.step.at d.step.there number in
      let first = s.earlier in
      let second = t.earlier in
      let third = r.ended in
      record {
        by = record {
          job = b.before.0;
          send = d.place;
          caller = d.was;
          at = ap (λ (o : Option Kernel). o >>= λ k. k.procs h) d.step.at ∙ d.step.there;
          called = d.step.is ∙ ap (λ (z : Step). Some z) d.is;
          sending = ap (helped_all helpings.Ready) (d.front ∙ t.front) ∙ b.before.1;
          finish = r.finish;
          ended = omega arith;
          own = r.own;
          target = r.target;
          message = r.message;
          number = number;
          last = stored_sends s.step.kernel h s.was m.0 s.step.did p s.step.there s.step.left out ∙ c.sends ∙ sym r.number;
          behind = behind;
          by = replier_come specs ss r.finish h member r.own d.place d.step.kernel d.was r.target d.step.at d.step.there number behind;
          once = λ j l a b less. taken_between specs ss j l (name_of h r.own.number) a b less;
          bytes = λ size.
              let whole_size : length m.0 ≡ MESSAGE_BYTES = ap (λ (x : Message). length x.0) (sym r.reply) ∙ size in
              ap (λ n. bytes_in (range_of 0 n) p.memory) (sym whole_size)
              ∙ stored_bytes s.step.kernel h s.was m.0 s.step.did p s.step.there s.step.left made.ready alive (omega arith) out
              ∙ ap (λ (x : Message). x.0) (sym r.reply);
        };
        earlier = let fourth = d.earlier in omega arith;
        round = ap (rounds helpings.Ready) (d.front ∙ t.front)
            ∙ rounds_after a.front b.front b.answer (helpings.Send b.before.0) b.split b.before.1 refl
            ∙ rounds_after (answers_before specs ss h i) a.front a.answer (helpings.Store m) a.split a.before.1 refl;
      }

  -- where it called for what it was answered with when it sent a job
  send_place : (i : ℕ) (p : Process) (given : List Answer) (a : Answer) (job : Message) (s : IsSince specs ss h i p given a) →
      helped_all helpings.Ready given ≡ helpings.Send job → OwnStep h s.step.step →
      (z : ℕ) × (z < i) × (slice_get ss z ≡ Some (steps.Call h (calls.Send member job))) × (answers_before specs ss h z ≡ given)
  send_place i p given a job s stage (OwnStep.makes c step) =
      let task = helper_call coordinator member in
      let may = may_call task specs ss h s.place s.was p follows s.step c (own_call h s.step.step c step) in
      let call : c ≡ calls.Send member job =
      same_Some c (calls.Send member job) (sym may.1 ∙ ap task s.front ∙ ap (helping_call coordinator member) stage) in
      (s.place, s.earlier, s.step.is ∙ ap (λ (z : Step). Some z) (step ∙ ap (λ z. steps.Call h z) call), s.front)
  send_place i p given a job s stage (OwnStep.takes step) =
      let t = own_take s.step.kernel h s.step.did s.was p s.step.there s.step.left
      (ap (effect s.step.kernel) (sym step) ∙ s.step.does) in
      absurd (none-some a (sym t.unseen ∙ s.got))
  send_place i p given a job s stage (OwnStep.collects step) =
      let task = helper_call coordinator member in
      let plain = helper_plain coordinator member in
      let c = own_collect s.step.kernel h s.step.did s.was p s.step.there s.step.left
      (ap (effect s.step.kernel) (sym step) ∙ s.step.does) in
      let busy = busy_at task specs ss h plain follows s.place s.step.kernel s.was c.call s.step.at s.step.there (ap in_call c.state) in
      let call : c.call ≡ calls.Send member job =
      same_Some c.call (calls.Send member job) (sym busy.0 ∙ ap task s.front ∙ ap (helping_call coordinator member) stage) in
      let d = called_since task specs ss h plain follows c.call s.place s.step.kernel s.was s.step.at s.step.there (ap in_call c.state) in
      let first = d.earlier in
      let second = s.earlier in
      let low : d.place < i = omega arith in
      (d.place, low, d.step.is ∙ ap (λ (z : Step). Some z) (d.is ∙ ap (λ z. steps.Call h z) call), d.front ∙ s.front)
  send_place i p given a job s stage (OwnStep.others other) =
      absurd (none-some a (sym (other_told h s.step.kernel s.step.step s.step.did other s.step.does) ∙ s.got))

  -- where it reports, it sent a job in the same round
  pub job_sent : (i : ℕ) (k : Kernel) (p : Process) (b : Bool) → before specs ss i ≡ Some k → k.procs h ≡ Some p →
      p.state ≡ states.Ready → helped_all helpings.Ready (answers_before specs ss h i) ≡ helpings.Report b → IsJobSent specs ss h member i
  job_sent i k p false at there ready stage =
      let task = helper_call coordinator member in
      let plain = helper_plain coordinator member in
      let a = failed_after (answers_before specs ss h i) stage in
      let s = since task specs ss h plain follows a.front a.answer i k p at there (ap in_call ready) a.split in
      let x = send_place i p a.front a.answer a.before.0 s a.before.1 (which_step h s.step.step) in
      record {
        job = a.before.0;
        send = x.0;
        earlier = x.1;
        called = x.2;
        sending = ap (helped_all helpings.Ready) x.3 ∙ a.before.1;
        round = ap (rounds helpings.Ready) x.3
            ∙ rounds_after (answers_before specs ss h i) a.front a.answer (helpings.Send a.before.0) a.split a.before.1 refl;
      }
  job_sent i k p true at there ready stage =
      let task = helper_call coordinator member in
      let plain = helper_plain coordinator member in
      let a = reported_after (answers_before specs ss h i) stage in
      let m = a.before.0 in
      let s = since task specs ss h plain follows a.front a.answer i k p at there (ap in_call ready) a.split in
      let next : task a.front ≡ Some (calls.Store 0 m.0) = ap (helping_call coordinator member) a.before.1 in
      let made = made_at task specs ss h plain follows i p a.front a.answer (calls.Store 0 m.0) next refl s in
      let b = stored_after a.front m a.before.1 in
      let t = since task specs ss h plain follows b.front b.answer s.place s.step.kernel s.was s.step.at s.step.there
      (ap in_call made.ready) (s.front ∙ b.split) in
      let x = send_place s.place s.was b.front b.answer b.before.0 t b.before.1 (which_step h t.step.step) in
      let first = x.1 in
      let second = s.earlier in
      record {
        job = b.before.0;
        send = x.0;
        earlier = omega arith;
        called = x.2;
        sending = ap (helped_all helpings.Ready) x.3 ∙ b.before.1;
        round = ap (rounds helpings.Ready) x.3
            ∙ rounds_after a.front b.front b.answer (helpings.Send b.before.0) b.split b.before.1 refl
            ∙ rounds_after (answers_before specs ss h i) a.front a.answer (helpings.Store m) a.split a.before.1 refl;
      }

  -- where it sends a job
  pub record IsJobLoaded (i : ℕ) (job : Message) : Type 0 where
    pub finish : ℕ
    pub ended : finish < i
    pub own : HasOwnReply specs ss finish h
    pub target : own.target ≡ coordinator
    pub message : own.finish.message ≡ ready_message
    pub done : slice_index own.reply.0 1 ≡ 0
    pub round : rounds_at specs ss h own.reply_place ≡ rounds_at specs ss h i
    pub size : length job.0 ≡ MESSAGE_BYTES
    pub bytes : job.0 ≡ bytes_in (range_of 0 MESSAGE_BYTES) (with_bytes own.finish.process.memory own.dest own.bytes)

  pub job_loaded : (i : ℕ) (k : Kernel) (p : Process) (job : Message) → before specs ss i ≡ Some k → k.procs h ≡ Some p →
      p.state ≡ states.Ready → helped_all helpings.Ready (answers_before specs ss h i) ≡ helpings.Send job → IsJobLoaded i job
  job_loaded i k p job at there ready stage =
      let task = helper_call coordinator member in
      let plain = helper_plain coordinator member in
      let a = sending_after (answers_before specs ss h i) job stage in
      let loaded = message_is a.answer job a.before.1 in
      let s = since task specs ss h plain follows a.front a.answer i k p at there (ap in_call ready) a.split in
      let next : task a.front ≡ Some (calls.Load 0 MESSAGE_BYTES) = ap (helping_call coordinator member) a.before.0 in
      let made = made_at task specs ss h plain follows i p a.front a.answer (calls.Load 0 MESSAGE_BYTES) next refl s in
      let out = outcome_of s.step.kernel h s.was (calls.Load 0 MESSAGE_BYTES) s.step.did s.step.there
      (ap (effect s.step.kernel) (sym made.step) ∙ s.step.does) in
      let b = loading_after a.front a.before.0 in
      let m = job_is b.answer b.before.1 in
      let t = since task specs ss h plain follows b.front b.answer s.place s.step.kernel s.was s.step.at s.step.there
      (ap in_call made.ready) (s.front ∙ b.split) in
      let c = collected_at task specs ss h plain follows s.place s.was b.front b.answer (ap is_quick m.1) t in
      let call : c.call ≡ calls.Send coordinator ready_message =
      same_Some c.call (calls.Send coordinator ready_message) (sym c.told ∙ ap (helping_call coordinator member) b.before.0) in
      let r = answered_by specs ss whole h t.place t.step.kernel t.was coordinator ready_message m.0 g t.step.at t.step.there
      (c.state ∙ (λ j. states.Done (call j) (m.1 j))) in
      let first = s.earlier in
      let second = t.earlier in
      let third = r.ended in
      let d = called_since task specs ss h plain follows (calls.Send coordinator ready_message) t.place t.step.kernel t.was t.step.at
      t.step.there (ap in_call (c.state ∙ (λ j. states.Done (call j) (m.1 j)))) in
      let count : d.now.sends ≡ d.was.sends + 1 =
      sent_count d.step.kernel h d.was coordinator ready_message d.step.did d.now d.step.there d.step.left d.ready d.blocked
      (outcome_of d.step.kernel h d.was (calls.Send coordinator ready_message) d.step.did d.step.there
      (ap (effect d.step.kernel) (sym d.is) ∙ d.step.does)) in
      let number : r.own.number ≡ d.was.sends + 1 = r.number ∙ d.sends ∙ count in
      let fourth =
      called_first specs ss h r.own.number r.own.take_place d.place d.step.kernel d.was r.own.takes d.step.at d.step.there number in
      let fifth = r.own.before_reply in
      let sixth = r.own.before_finish in
      let low = rounds_up specs ss h d.place r.own.reply_place (omega arith) in
      let high = rounds_up specs ss h r.own.reply_place t.place (omega arith) in
      let still : rounds_at specs ss h d.place ≡ rounds_at specs ss h t.place = ap (rounds helpings.Ready) d.front in
      let on : rounds_at specs ss h t.place ≡ rounds_at specs ss h i =
      ap (rounds helpings.Ready) t.front ∙ rounds_after a.front b.front b.answer helpings.Ready b.split b.before.0 refl
      ∙ rounds_after (answers_before specs ss h i) a.front a.answer helpings.Load a.split a.before.0 refl in
      record {
        finish = r.finish;
        ended = omega arith;
        own = r.own;
        target = r.target;
        message = r.message;
        done = ap (λ (x : Message). slice_index x.0 1) r.reply ∙ m.2;
        round = between (rounds_at specs ss h d.place) (rounds_at specs ss h r.own.reply_place) (rounds_at specs ss h t.place)
            (rounds_at specs ss h i) low high still on;
        size = loaded.1;
        bytes = loaded_bytes s.step.kernel h s.was MESSAGE_BYTES job.0 s.step.did (s.got ∙ ap (λ x. Some x) loaded.0) out
            ∙ ap (bytes_in (range_of 0 MESSAGE_BYTES)) (c.memory ∙ r.memory);
      }
