-- A helper's job was given by the coordinator, whatever the other processes do.
use Rattle.std.proofs.Common.{◌≡◌, ℕ, ◌+◌, ◌<◌, ◌≤◌, Bool, true, false, not, nat_le, nat_lt, is_none, List, [], ◌∷◌, ◌++◌, length, slice_get, Option, Some, None, refl, sym, ap, subst, ◌∙◌, inl, inr, arith}
use Rattle.std.specs.Prelude.{IfSome}
use Rattle.std.proofs.lemmas.Bool.{and_parts, both_ways, cases_lt, leb-true}
use Rattle.std.proofs.lemmas.Option.{same_Some}
use Rattle.vk_types.specs.Types.{Answer, Call, Exchange, Message, Name, Observation, Pid, Process, ProcessSpec, Step}
use Rattle.vk_base.specs.declared.answer.Answer.TheVariants as answers
use Rattle.vk_base.specs.declared.answer.Refusal.TheVariants as refusals
use Rattle.vk_base.specs.declared.call.Call.TheVariants as calls
use Rattle.vk_base.specs.declared.kernel.State.TheVariants as states
use Rattle.vk_base.specs.declared.limits.TheConstants.{MESSAGE_BYTES, SEGMENT_BYTES}
use Rattle.vk_base.specs.declared.step.Step.TheVariants as steps
use Rattle.vk_base.specs.Calls.{Effect, is_granted, is_own, may_write}
use Rattle.vk_base.specs.Kernel.{◌>>=◌, Kernel, held, held_exchange, initial_kernel, name_of, receiving}
use Rattle.vk_base.specs.Messages.{segment_of}
use Rattle.vk_base.specs.Pids.{same_pid}
use Rattle.vk_base.specs.Ranges.{range_of, lies_within, bytes_in, with_bytes}
use Rattle.vk_base.specs.Steps.{Run, effect, run}
use Rattle.vk_base.proofs.OptionLemmas.{bind_is}
use Rattle.v_laws.specs.Places.{HasOwnReply, IsReplyAt, before, process_at, taken_at}
use Rattle.v_laws.specs.Reached.{saw}
use Rattle.v_laws.proofs.Later.{IsLater}
use Rattle.v_laws.proofs.Held.{IsHolding, holding_is}
use Rattle.v_laws.proofs.OnceLemmas.{go_on}
use Rattle.v_laws.proofs.PlaceLemmas.{IsStepAt, at_place, step_at}
use Rattle.v_laws.proofs.StepLemmas.{IsFit, four_tests}
use Rattle.v_laws.proofs.Tables.{same_pid_is}
use Rattle.vk_group.specs.declared.code.Code.TheVariants as codes
use Rattle.vk_group.specs.declared.notes.Note.{Note}
use Rattle.vk_event.specs.declared.pair.HelperPair.{HelperPair}
use Rattle.vk_group.specs.declared.stage.OpenSend.{OpenSend}
use Rattle.vk_group.specs.declared.stage.HelperJob.{HelperJob}
use Rattle.vk_group.specs.declared.stage.Stage.{Stage}
use Rattle.vk_group.specs.declared.stage.Stage.TheVariants as stages
use Rattle.vk_group.specs.declared.stage.Wait.{Wait}
use Rattle.vk_group.specs.Accounts.{account_after, deed_at}
use Rattle.vk_group.specs.Deeds.{IsGroupSendBegun, IsDeedDone, IsGiven}
use Rattle.vk_group.specs.Groups.{coordinator_call, group_after, is_client, stage_call}
use Rattle.vk_group.specs.Helpers.{helper_call}
use Rattle.vk_group.specs.Messages.{ready_message, reply_of, request_in}
use Rattle.vk_group.proofs.Done.{deeds_done}
use Rattle.vk_group.proofs.Tracked.{IsDueTo, IsReportOf, tracked}
use Rattle.v_pages.specs.Followed.{answer_in, answers_before}
use Rattle.v_pages.proofs.Calling.{CallOutcome, outcome_of}
use Rattle.v_pages.proofs.Lists.{read_back}
use Rattle.v_pages.proofs.Senders.{sent_to}
use Rattle.v_pages.proofs.Staying.{IsAsSent, as_sent}
use Rattle.v_group.specs.Grouped.{IsGroup}
use Rattle.v_group.proofs.Answered.{saw_own}
use Rattle.v_group.proofs.Coordinating.{IsStageDue, coordinator_plain, due, has_begun}
use Rattle.v_group.proofs.Current.{IsBegunAt, begun_at, current_at}
use Rattle.v_group.proofs.Hearing.{IsHeard, heard_from, name_taken, taken_there}
use Rattle.v_group.proofs.Helped.{helper_plain, message_is}
use Rattle.v_group.proofs.Helping.{IsJobLoaded, job_loaded, stored_bytes}
use Rattle.v_group.proofs.Jobs.{IsJobReply, IsResult, JobAt, by_all_below, job_reply, never, result_of}
use Rattle.v_group.proofs.LastHeld.{last_held}
use Rattle.v_group.proofs.Requests.{ready_is, ready_no_result, ready_segment, result_is, result_no_send, send_count}
use Rattle.v_group.proofs.Stepping.{in_call}
use Rattle.v_group.proofs.Timeline.{IsMadeAt, IsSince, made_at, ready_at, since}

-- Replies to helpers.
receive_same : (m n : Message) (p q : Pid) (a b : ℕ) →
    calls.ReplySegment m p a 0 MESSAGE_BYTES ≡ calls.ReplySegment n q b 0 MESSAGE_BYTES → p ≡ q
receive_same m n p q a b e = cc

-- a call that is answered ok was not refused
abbrev is_refusal : Answer → Bool
is_refusal (answers.Refused why) = true
is_refusal a = false

abbrev tells_refusal : Option Observation → Bool
tells_refusal None = false
tells_refusal (Some o) = is_refusal o.answer

ok_fit : (k : Kernel) (r : Pid) (p : Process) (c : Call) (e : Effect) → e.seen ≡ saw r c answers.Ok → CallOutcome k r p c e → IsFit k r p c
ok_fit k r p c e seen (CallOutcome.refused why bars same) =
    absurd (both_ways true (ap (λ (z : Effect). tells_refusal z.seen) same ∙ ap tells_refusal seen) refl)
ok_fit k r p c e seen (CallOutcome.allowed fit g) = fit

message_same : (m n : Message) → m.0 ≡ n.0 → m ≡ n
message_same m n e = λ i. record { 0 = e i }

-- who is the client of a group Send
client_is : (o : Option OpenSend) (c : Pid) → is_client o c ≡ true → (a : OpenSend) × (o ≡ Some a) × (same_pid a.client c ≡ true)
client_is None c t = absurd (both_ways false refl t)
client_is (Some a) c t = (a, refl, t)

-- a report that is due
report_due : (pairs : List HelperPair) (replies : ℕ) (given : List Answer) (stage : Stage) (number : ℕ) (h : Pid) (replied : Bool) →
    stage ≡ stages.LoadResult number h replied → IsDueTo pairs replies given (group_after pairs replies given).asked stage →
    IsReportOf pairs replies given number h replied
report_due pairs replies given stage number h replied is d =
    subst (IsDueTo pairs replies given (group_after pairs replies given).asked) is d

thanked : (pairs : List HelperPair) (replies : ℕ) (given : List Answer) (h : Pid) → IsStageDue pairs replies given (stages.Thank h) →
    (front : List Answer) × (a : Answer) × (number : ℕ) × (replied : Bool) × (given ≡ front ++ a ∷ [])
    × ((group_after pairs replies front).stage ≡ stages.LoadResult number h replied)
thanked pairs replies given h (IsStageDue.first empty is) = absurd (other (is stages.Receive).0 (is stages.Receive).1 (is stages.Receive).2)
  where
    other : (n : ℕ) (b : Bool) → stages.Receive ≡ stages.LoadResult n h b → ⊥
    other n b e = cc
thanked pairs replies given h (IsStageDue.after front a split is) = (front, a, is.0, is.1, split, is.2)

module _ (specs : List ProcessSpec) (ss : List Step) (whole : Run) (r : Pid) (pairs : List HelperPair) (replies : ℕ)
    (g : run (initial_kernel specs) ss ≡ Some whole) (all : IsGroup specs ss r pairs replies) where
  abbrev task : List Answer → Option Call
  task = coordinator_call pairs replies

  -- What the coordinator replies to, where it replies to a helper that asks for a job.
  record IsAsking (h : Pid) (x : ℕ) (p : Process) : Type 0 where
    kernel : Kernel
    at : before specs ss x ≡ Some kernel
    there : kernel.procs r ≡ Some p
    ready : p.state ≡ states.Ready
    number : ℕ
    holds : held kernel r h ≡ Some number
    held_as : IsHolding kernel r h number
    target : held_as.exchange.target ≡ r
    message : held_as.exchange.message ≡ ready_message
    take_place : ℕ
    earlier : take_place < x
    receives : slice_get ss take_place ≡ Some (steps.Take r)
    takes : taken_at specs ss take_place ≡ Some (name_of h number)

  -- it does not thank for a report
  not_thanked : (h : Pid) (x : ℕ) (p : Process) → IsAsking h x p →
      (group_after pairs replies (answers_before specs ss r x)).stage ≡ stages.Thank h → ⊥
  not_thanked h x p q is = ready_no_result 0 d.3
      (sym (ready_is report.asked.count) ∙ ap (λ m. request_in m report.asked.count) (sym asks) ∙ report.asked.is)
    where
      given : List Answer
      given = answers_before specs ss r x

      d : (front : List Answer) × (a : Answer) × (number : ℕ) × (replied : Bool) × (given ≡ front ++ a ∷ [])
          × ((group_after pairs replies front).stage ≡ stages.LoadResult number h replied)
      d = thanked pairs replies given h (subst (IsStageDue pairs replies given) is (due pairs replies given))

      report : IsReportOf pairs replies d.0 d.2 h d.3
      report = report_due pairs replies d.0 (group_after pairs replies d.0).stage d.2 h d.3 d.5 (tracked pairs replies d.0).due

      s : IsSince specs ss r x p d.0 d.1
      s = since task specs ss r (coordinator_plain pairs replies) all.coordinator d.0 d.1 x q.kernel p q.at q.there (ap in_call q.ready) d.4

      made : IsMadeAt specs ss r x p d.0 d.1 (calls.Load 0 MESSAGE_BYTES) s
      made = made_at task specs ss r (coordinator_plain pairs replies) all.coordinator x p d.0 d.1 (calls.Load 0 MESSAGE_BYTES)
          (ap stage_call d.5) refl s

      heard : IsHeard specs ss r s.place s.was h report.asked.asks report.asked.count 0 SEGMENT_BYTES
      heard = heard_from task specs ss r (coordinator_plain pairs replies) all.coordinator s.place s.step.kernel s.was
          report.asked.received.before h report.asked.asks report.asked.count 0 SEGMENT_BYTES s.step.at s.step.there made.ready
          (s.front ∙ report.asked.received.split) report.asked.received.called

      low : heard.place < x
      low = let first = heard.earlier in let second = s.earlier in omega arith

      still : (z : ℕ) → heard.place < z → z ≤ x → (y : Process) × (process_at specs ss z r ≡ Some y) × (receiving y.state ≡ None)
      still z more less = elim (cases_lt s.place z) [
        | inl above ↦ (p, s.still z above less, ap receiving q.ready)
        | inr under ↦ heard.still z more under
      ]

      n : Name
      n = name_of h q.number

      one : q.take_place ≡ heard.place
      one = last_held specs ss r h (never specs ss whole r pairs replies g all) x q.kernel q.number q.held_as.exchange q.at q.held_as.is
          q.held_as.taken q.take_place heard.place heard.taken.take q.takes q.receives q.earlier
          (record { kernel = heard.step.kernel; at = heard.step.at; takes = heard.taken.takes; sender = heard.sender }) low still

      name : heard.taken.take.name ≡ n
      name = same_Some heard.taken.take.name n
          (sym (name_taken specs ss r s.place s.was h report.asked.asks report.asked.count 0 SEGMENT_BYTES heard)
          ∙ ap (taken_at specs ss) (sym one) ∙ q.takes)

      e : Exchange
      e = heard.taken.take.exchange

      there : heard.step.kernel.exchanges n ≡ Some e
      there = ap heard.step.kernel.exchanges (sym name)
          ∙ taken_there specs ss r s.place s.was h report.asked.asks report.asked.count 0 SEGMENT_BYTES heard

      later : (y : Exchange) × (q.kernel.exchanges n ≡ Some y) × IsLater e y
      later = go_on specs ss heard.place x heard.step.kernel q.kernel (omega (arith, low)) heard.step.at q.at n e there

      same : later.0 ≡ q.held_as.exchange
      same = same_Some later.0 q.held_as.exchange (sym later.1 ∙ q.held_as.is)

      own : IsAsSent r e
      own = as_sent specs ss r (never specs ss whole r pairs replies g all) heard.place heard.step.kernel heard.step.at n e there
          (sym later.2.target ∙ ap (λ (y : Exchange). y.target) same ∙ q.target)

      asks : report.asked.asks ≡ ready_message
      asks = sym heard.shown ∙ own.shown ∙ sym later.2.message ∙ ap (λ (y : Exchange). y.message) same ∙ q.message

  -- nor does it hand over a reply
  not_handed : (number : ℕ) (pair : HelperPair) (x : ℕ) (p : Process) → slice_get pairs number ≡ Some pair →
      IsAsking pair.helper x p → ((v : ℕ) → v < x → JobAt specs ss whole r pairs replies g all v) → (w : Wait) (n : Note) →
      (group_after pairs replies (answers_before specs ss r x)).stage ≡ stages.HandOver w n → w.client ≡ pair.helper → ⊥
  not_handed number pair x p its q earlier w n is who =
      result_no_send result.replied b.begun.dest
      (sym (result_is result.replied)
      ∙ (λ i. request_in (sym result.shown i) (sym (send_count b.begun.asks b.begun.count b.begun.dest b.begun.is) i)) ∙ b.begun.is)
    where
      given : List Answer
      given = answers_before specs ss r x

      waits : is_client (group_after pairs replies given).asked w.client ≡ true
      waits = (subst (IsDueTo pairs replies given (group_after pairs replies given).asked) is (tracked pairs replies given).due).0

      client : (a : OpenSend) × ((group_after pairs replies given).asked ≡ Some a) × (same_pid a.client w.client ≡ true)
      client = client_is (group_after pairs replies given).asked w.client waits

      b : IsBegunAt specs ss r pairs replies x client.0
      b = begun_at specs ss whole r pairs replies g all.coordinator x client.0 ((tracked pairs replies given).asked ∙ client.1)

      heard : IsHeard specs ss r b.since.place b.loaded.process client.0.client b.begun.asks MESSAGE_BYTES 0 SEGMENT_BYTES
      heard = b.loaded.heard

      result : IsResult specs ss whole r pairs replies g all pair b.since.place b.loaded.process client.0.client b.begun.asks heard
      result = result_of specs ss whole r pairs replies g all number pair b.since.place b.loaded.process client.0.client b.begun.asks heard its
          (same_pid_is client.0.client w.client client.2 ∙ who)
          (λ v low. let first = heard.earlier in let second = b.since.earlier in earlier v (omega arith))

  -- a message that it gives, as the call that gives it finds it in the coordinator's memory
  record IsGivenAt (h : Pid) (x : ℕ) (p : Process) (dest : ℕ) (bytes : List ℕ) : Type 0 where
    number : ℕ
    given : IsGiven pairs replies (answers_before specs ss r x) number
    helper : given.pair.helper ≡ h
    called : slice_get ss x ≡ Some (steps.Call r (calls.ReplySegment (reply_of codes.Done 0) h dest 0 MESSAGE_BYTES))
    job : HelperJob
    stage : (group_after pairs replies (answers_before specs ss r x)).stage ≡ stages.GiveJob job
    member : number ≡ job.member
    own : job.helper ≡ h
    start : dest ≡ 0
    bytes_are : bytes ≡ given.asked.message.0

  asked_size : (given : List Answer) (asked : OpenSend) → (account_after pairs replies given).asked ≡ Some asked →
      length asked.message.0 ≡ MESSAGE_BYTES
  asked_size given asked is =
      let b = has_begun pairs replies given asked is in
      let begun : IsGroupSendBegun pairs replies b.front b.answer asked =
      subst (λ o. IfSome o (IsDeedDone pairs replies b.front b.answer)) b.deed (deeds_done pairs replies b.front b.answer) in
      (message_is b.answer asked.message begun.from_client.loaded).1

  given_at : (h : Pid) (x : ℕ) (p : Process) (q : IsAsking h x p) (c : Call) (e : Effect) (dest : ℕ) (bytes : List ℕ) (j : HelperJob) →
      slice_get ss x ≡ Some (steps.Call r c) → task (answers_before specs ss r x) ≡ Some c → IsFit q.kernel r p c →
      (group_after pairs replies (answers_before specs ss r x)).stage ≡ stages.GiveJob j → j.helper ≡ h → j.dest ≡ dest →
      bytes ≡ bytes_in (range_of 0 MESSAGE_BYTES) p.memory → IsGivenAt h x p dest bytes
  given_at h x p q c e dest bytes j is told fit stage helper at got = record {
    number = j.member;
    given = gave;
    helper = receive_same (reply_of codes.Done 0) (reply_of codes.Done 0) gave.pair.helper j.helper gave.to_helper.dest j.dest
        (same_Some _ _ (sym gave.to_helper.brings ∙ ap stage_call stage)) ∙ helper;
    called = is ∙ ap (λ z. Some (steps.Call r z)) (sym call);
    job = j;
    stage = stage;
    member = refl;
    own = helper;
    start = omega (arith, low, leb-true 0 dest parts.0);
    bytes_are = got ∙ ap (λ n. bytes_in (range_of 0 n) p.memory) (sym size) ∙ stored;
  }
    where
      given : List Answer
      given = answers_before specs ss r x

      call : calls.ReplySegment (reply_of codes.Done 0) h dest 0 MESSAGE_BYTES ≡ c
      call = (λ i. calls.ReplySegment (reply_of codes.Done 0) (sym helper i) (sym at i) 0 MESSAGE_BYTES)
          ∙ same_Some _ c (sym (ap stage_call stage) ∙ told)

      gave : IsGiven pairs replies given j.member
      gave = subst (λ s. IfSome (deed_at s (group_after pairs replies given) answers.Ok) (IsDeedDone pairs replies given answers.Ok)) stage
          (deeds_done pairs replies given answers.Ok)

      fits : IsFit q.kernel r p (calls.ReplySegment (reply_of codes.Done 0) h dest 0 MESSAGE_BYTES)
      fits = subst (IsFit q.kernel r p) (sym call) fit

      tests : (is_none (held q.kernel r h) ≡ false) × (is_granted (held_exchange q.kernel r h) dest MESSAGE_BYTES ≡ true)
          × (is_own p 0 MESSAGE_BYTES ≡ true)
      tests = four_tests (nat_lt SEGMENT_BYTES MESSAGE_BYTES) (is_none (held q.kernel r h)) (not (may_write (held_exchange q.kernel r h)))
          (is_granted (held_exchange q.kernel r h) dest MESSAGE_BYTES) (is_own p 0 MESSAGE_BYTES) refusals.TooLong refusals.NotAwaiting
          refusals.NoAccess refusals.BadRange fits.rest

      exchange : held_exchange q.kernel r h ≡ Some q.held_as.exchange
      exchange = ap (λ o. o >>= λ number. q.kernel.exchanges (name_of h number)) q.holds ∙ q.held_as.is

      within : lies_within (range_of dest MESSAGE_BYTES) (range_of 0 MESSAGE_BYTES) ≡ true
      within = ap (lies_within (range_of dest MESSAGE_BYTES)) (sym ready_segment ∙ ap segment_of (sym q.message))
          ∙ sym (ap (λ o. is_granted o dest MESSAGE_BYTES) exchange) ∙ tests.1

      parts : (nat_le 0 dest ≡ true) × (nat_le (dest + MESSAGE_BYTES) (0 + MESSAGE_BYTES) ≡ true)
      parts = and_parts (nat_le 0 dest) (nat_le (dest + MESSAGE_BYTES) (0 + MESSAGE_BYTES)) within

      low : dest + MESSAGE_BYTES ≤ 0 + MESSAGE_BYTES
      low = leb-true (dest + MESSAGE_BYTES) (0 + MESSAGE_BYTES) parts.1

      room : 0 + MESSAGE_BYTES ≤ length p.memory
      room = leb-true (0 + MESSAGE_BYTES) (length p.memory) tests.2

      size : length gave.asked.message.0 ≡ MESSAGE_BYTES
      size = asked_size given gave.asked gave.current

      last : Answer
      last = gave.to_helper.last

      front : List Answer
      front = gave.to_helper.stored.before

      s : IsSince specs ss r x p front last
      s = since task specs ss r (coordinator_plain pairs replies) all.coordinator front last x q.kernel p q.at q.there (ap in_call q.ready)
          gave.to_helper.stored.split

      made : IsMadeAt specs ss r x p front last (calls.Store 0 gave.asked.message.0) s
      made = made_at task specs ss r (coordinator_plain pairs replies) all.coordinator x p front last (calls.Store 0 gave.asked.message.0)
          gave.to_helper.stored.called refl s

      stored : bytes_in (range_of 0 (length gave.asked.message.0)) p.memory ≡ gave.asked.message.0
      stored = stored_bytes s.step.kernel r s.was gave.asked.message.0 s.step.did p s.step.there s.step.left made.ready fits.alive
          (omega (arith, size, room))
          (outcome_of s.step.kernel r s.was (calls.Store 0 gave.asked.message.0) s.step.did s.step.there
          (ap (effect s.step.kernel) (sym made.step) ∙ s.step.does))

  job_given : (v : ℕ) → ((u : ℕ) → u < v → JobAt specs ss whole r pairs replies g all u) → JobAt specs ss whole r pairs replies g all v
  job_given v earlier number pair job its called stage = record {
    given = record {
      place = x;
      earlier = low;
      number = gave.number;
      given = gave.given;
      helper = gave.helper;
      message = sym (message_same job gave.given.asked.message (l.bytes
          ∙ (λ i. bytes_in (range_of 0 (sym count i)) (with_bytes o.finish.process.memory (gave.start i) o.bytes))
          ∙ read_back o.finish.process.memory 0 o.bytes (omega arith) ∙ gave.bytes_are));
      current = current_at specs ss whole r pairs replies g all.coordinator x gave.given.asked gave.given.current;
      dest = o.dest;
      called = gave.called;
    };
    round = l.round;
    job = gave.job;
    stage = gave.stage;
    member = gave.member;
    helper = gave.own;
    answered = ap (λ o. o >>= answer_in r) rep.answered ∙ saw_own r rep.call answers.Ok;
  }
    where
      h : Pid
      h = pair.helper

      st : IsStepAt specs ss v (steps.Call h (calls.Send pair.member job))
      st = step_at specs ss whole v (steps.Call h (calls.Send pair.member job)) g called

      caller : (p : Process) × (st.kernel.procs h ≡ Some p)
      caller = let b = bind_is (st.kernel.procs h) _ st.did st.does in (b.0, b.1)

      ready : caller.0.state ≡ states.Ready
      ready = (ready_at (helper_call r pair.member) specs ss h (helper_plain r pair.member) (all.helpers number pair its) v st.kernel
          caller.0 (calls.Send pair.member job) st.at caller.1 called).0

      l : IsJobLoaded specs ss whole h r pair.member g (all.helpers number pair its) v job
      l = job_loaded specs ss whole h r pair.member g (all.helpers number pair its) v st.kernel caller.0 job st.at caller.1 ready stage

      o : HasOwnReply specs ss l.finish h
      o = l.own

      x : ℕ
      x = o.reply_place

      low : x < v
      low = let first = o.before_finish in let second = l.ended in omega arith

      kx : (k : Kernel) × (before specs ss x ≡ Some k) × (held k o.holder h ≡ Some o.number)
      kx = bind_is (before specs ss x) (λ k. held k o.holder h) o.number o.replies.holds

      e : IsHolding kx.0 o.holder h o.number
      e = holding_is kx.0 o.holder h o.number kx.2

      kf : (k : Kernel) × (before specs ss l.finish ≡ Some k) × (k.procs h ≡ Some o.finish.process)
      kf = bind_is (before specs ss l.finish) (λ k. k.procs h) o.finish.process o.finish.before

      state : o.finish.process.state ≡ states.Blocked (calls.Send r ready_message)
      state = o.finish.waits ∙ (λ i. states.Blocked (calls.Send (l.target i) (l.message i)))

      to : (e.exchange.target ≡ r) × (e.exchange.message ≡ ready_message)
      to = sent_to specs ss x l.finish h r kx.0 kf.0 o.finish.process ready_message e.exchange
          (let first = o.before_finish in omega arith) kx.1 kf.1 kf.2 state
          (ap (λ n. kx.0.exchanges (name_of h n)) o.finish.last ∙ e.is)

      own : IsAsSent r e.exchange
      own = as_sent specs ss r (never specs ss whole r pairs replies g all) x kx.0 kx.1 (name_of h o.number) e.exchange e.is to.0

      who : o.holder ≡ r
      who = sym (same_pid_is e.exchange.at o.holder e.at) ∙ own.at

      rep : IsReplyAt specs ss x h r o.number o.reply o.dest o.bytes
      rep = subst (λ q. IsReplyAt specs ss x h q o.number o.reply o.dest o.bytes) who o.replies

      sx : IsStepAt specs ss x (steps.Call r rep.call)
      sx = step_at specs ss whole x (steps.Call r rep.call) g rep.is

      there : sx.kernel.procs r ≡ Some rep.caller
      there = ap (λ (z : Option Kernel). z >>= λ k. k.procs r) (sym sx.at) ∙ rep.then

      rc : (rep.caller.state ≡ states.Ready) × (task (answers_before specs ss r x) ≡ Some rep.call)
      rc = ready_at task specs ss r (coordinator_plain pairs replies) all.coordinator x sx.kernel rep.caller rep.call sx.at there rep.is

      holds : held sx.kernel r h ≡ Some o.number
      holds = ap (λ (z : Option Kernel). z >>= λ k. held k r h) (sym sx.at) ∙ rep.holds

      now : IsHolding sx.kernel r h o.number
      now = holding_is sx.kernel r h o.number holds

      same : e.exchange ≡ now.exchange
      same = same_Some e.exchange now.exchange
          (sym e.is ∙ ap (λ (k : Kernel). k.exchanges (name_of h o.number)) (same_Some kx.0 sx.kernel (sym kx.1 ∙ sx.at)) ∙ now.is)

      asking : IsAsking h x rep.caller
      asking = record {
        kernel = sx.kernel;
        at = sx.at;
        there = there;
        ready = rc.0;
        number = o.number;
        holds = holds;
        held_as = now;
        target = ap (λ (z : Exchange). z.target) (sym same) ∙ to.0;
        message = ap (λ (z : Exchange). z.message) (sym same) ∙ to.1;
        take_place = o.take_place;
        earlier = o.before_reply;
        receives = o.receives ∙ ap (λ q. Some (steps.Take q)) who;
        takes = o.takes;
      }

      fit : IsFit sx.kernel r rep.caller rep.call
      fit = ok_fit sx.kernel r rep.caller rep.call sx.did
          (sym (ap (λ z. z >>= λ (y : Effect). y.seen) (at_place effect specs ss x sx.kernel (steps.Call r rep.call) sx.at rep.is ∙ sx.does))
          ∙ rep.answered)
          (outcome_of sx.kernel r rep.caller rep.call sx.did there sx.does)

      by_reply : IsJobReply (group_after pairs replies (answers_before specs ss r x)).stage h o.dest o.bytes rep.caller →
          IsGivenAt h x rep.caller o.dest o.bytes
      by_reply (IsJobReply.brings j is helper at got) =
          given_at h x rep.caller asking rep.call sx.did o.dest o.bytes j rep.is rc.1 fit is helper at got
      by_reply (IsJobReply.thanks is) = absurd (not_thanked h x rep.caller asking is)
      by_reply (IsJobReply.hands w n is client) =
          absurd (not_handed number pair x rep.caller its asking (λ u less. earlier u (omega (arith, less, low))) w n is client)

      gave : IsGivenAt h x rep.caller o.dest o.bytes
      gave = by_reply (job_reply pairs replies (answers_before specs ss r x)
          (group_after pairs replies (answers_before specs ss r x)).stage rep.caller rep.call h o.reply o.dest o.bytes
          (due pairs replies (answers_before specs ss r x)) rc.1 rep.gives l.done)

      count : length o.bytes ≡ MESSAGE_BYTES
      count = ap length gave.bytes_are ∙ asked_size (answers_before specs ss r x) gave.given.asked gave.given.current

  -- each job that a helper sends was given to it
  pub jobs_given : (v : ℕ) → JobAt specs ss whole r pairs replies g all v
  jobs_given = by_all_below (JobAt specs ss whole r pairs replies g all) job_given
