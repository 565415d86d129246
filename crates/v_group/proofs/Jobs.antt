-- Each job that a helper sends to its member is the message of a group Send, which the coordinator gave it.
use Rattle.std.proofs.Common.{◌≡◌, ℕ, zero, suc, ◌<◌, Bool, List, [], slice_get, slice_index, Some, None, refl, sym, ap, subst, ◌∙◌, arith}
use Rattle.std.proofs.lemmas.Bool.{both_ways}
use Rattle.std.proofs.lemmas.Option.{same_Some, none-some}
use Rattle.vk_types.specs.Types.{Answer, Call, Exchange, Message, Pid, Process, ProcessSpec, Step}
use Rattle.vk_base.specs.declared.answer.Answer.TheVariants as answers
use Rattle.vk_base.specs.declared.call.Call.TheVariants as calls
use Rattle.vk_base.specs.declared.kernel.State.TheVariants as states
use Rattle.vk_base.specs.declared.limits.TheConstants.{MESSAGE_BYTES, SEGMENT_BYTES}
use Rattle.vk_base.specs.declared.step.Step.TheVariants as steps
use Rattle.vk_base.specs.Kernel.{Kernel, initial_kernel}
use Rattle.vk_base.specs.Messages.{grants_read}
use Rattle.vk_base.specs.Ranges.{range_of, bytes_in}
use Rattle.vk_base.specs.Steps.{Run, run}
use Rattle.vk_base.proofs.OptionLemmas.{bind_is}
use Rattle.v_laws.specs.Places.{before, given_by}
use Rattle.vk_group.specs.declared.code.Code.{Code}
use Rattle.vk_group.specs.declared.code.Code.TheVariants as codes
use Rattle.vk_group.specs.declared.helping.Helping.TheVariants as helpings
use Rattle.vk_group.specs.declared.notes.Note.{Note}
use Rattle.vk_event.specs.declared.pair.HelperPair.{HelperPair}
use Rattle.vk_group.specs.declared.stage.HelperJob.{HelperJob}
use Rattle.vk_group.specs.declared.stage.Stage.{Stage}
use Rattle.vk_group.specs.declared.stage.Stage.TheVariants as stages
use Rattle.vk_group.specs.declared.stage.Wait.{Wait}
use Rattle.vk_group.specs.Codes.{number_of}
use Rattle.vk_group.specs.Groups.{coordinator_call, group_after, stage_call}
use Rattle.vk_group.specs.Helpers.{helped_all, helper_call}
use Rattle.vk_group.specs.Messages.{reply_of, result_message}
use Rattle.v_pages.specs.Followed.{answer_at, answers_before}
use Rattle.v_pages.proofs.Staying.{NeverHands, as_sent, never_hands, task_keeps}
use Rattle.v_group.specs.Grouped.{IsGroup, IsJobGiven}
use Rattle.v_group.proofs.Coordinating.{IsStageDue, IsPlainMessage, begun_plain, coordinator_keeps, due, has_begun}
use Rattle.v_group.proofs.Hearing.{IsHeard, IsSentBy, sent_by, taken_there}
use Rattle.v_group.proofs.Helped.{HelperSend, helper_plain, helper_send}
use Rattle.v_group.proofs.Rounds.{rounds_at}
use Rattle.v_group.proofs.Timeline.{ready_at}

-- What its coordinator replies to a helper with code 0.
abbrev Given : Type 0
Given = Pid × Message × ℕ × List ℕ

pub data IsJobReply (stage : Stage) (h : Pid) (dest : ℕ) (bytes : List ℕ) (caller : Process) : Type 0 where
  brings : (j : HelperJob) → stage ≡ stages.GiveJob j → j.helper ≡ h → j.dest ≡ dest → bytes ≡ bytes_in (range_of 0 MESSAGE_BYTES) caller.memory →
      IsJobReply stage h dest bytes caller
  thanks : stage ≡ stages.Thank h → IsJobReply stage h dest bytes caller
  hands : (w : Wait) (n : Note) → stage ≡ stages.HandOver w n → w.client ≡ h → IsJobReply stage h dest bytes caller

refuse_open : (pairs : List HelperPair) (replies : ℕ) (given : List Answer) (to : Pid) (code : Code) (counts : Bool) →
    IsStageDue pairs replies given (stages.Refuse to code counts) → number_of code ≡ 0 → ⊥
refuse_open pairs replies given to code counts (IsStageDue.first empty is) = is stages.Receive
refuse_open pairs replies given to code counts (IsStageDue.after front a split is) = is

end_open : (pairs : List HelperPair) (replies : ℕ) (given : List Answer) (client : Pid) (code : Code) →
    IsStageDue pairs replies given (stages.EndWait client code) → number_of code ≡ 0 → ⊥
end_open pairs replies given client code (IsStageDue.first empty is) = is stages.Receive
end_open pairs replies given client code (IsStageDue.after front a split is) = is

no_reply : (p : Process) (c d : Call) (x : Given) → c ≡ d → given_by p c ≡ None → given_by p d ≡ Some x → ⊥
no_reply p c d x same none gives = none-some x (sym none ∙ ap (given_by p) same ∙ gives)

code_of_reply : (p : Process) (to : Pid) (code : Code) (member : ℕ) (d : Call) (h : Pid) (reply : Message) (dest : ℕ) (bytes : List ℕ) →
    calls.Reply (reply_of code member) to ≡ d → given_by p d ≡ Some (h, reply, dest, bytes) → slice_index reply.0 1 ≡ 0 →
    (number_of code ≡ 0) × (to ≡ h)
code_of_reply p to code member d h reply dest bytes same gives naught =
    let one : Path Given (to, reply_of code member, 0, []) (h, reply, dest, bytes) = same_Some _ _ (ap (given_by p) same ∙ gives) in
    (ap (λ (z : Given). slice_index z.1.0 1) one ∙ naught, ap (λ (z : Given). z.0) one)

pub job_reply : (pairs : List HelperPair) (replies : ℕ) (given : List Answer) (stage : Stage) (p : Process) (c : Call) (h : Pid)
    (reply : Message) (dest : ℕ) (bytes : List ℕ) → IsStageDue pairs replies given stage → stage_call stage ≡ Some c →
    given_by p c ≡ Some (h, reply, dest, bytes) → slice_index reply.0 1 ≡ 0 → IsJobReply stage h dest bytes p
job_reply pairs replies given (stages.Refuse to code counts) p c h reply dest bytes due e gives naught =
    absurd (refuse_open pairs replies given to code counts due
    (code_of_reply p to code 0 c h reply dest bytes (same_Some _ c e) gives naught).0)
job_reply pairs replies given (stages.EndWait client code) p c h reply dest bytes due e gives naught =
    absurd (end_open pairs replies given client code due
    (code_of_reply p client code 0 c h reply dest bytes (same_Some _ c e) gives naught).0)
job_reply pairs replies given (stages.Tell number helper) p c h reply dest bytes due e gives naught =
    let none : 1 ≡ 0 = (code_of_reply p helper codes.End 0 c h reply dest bytes (same_Some _ c e) gives naught).0 in
    absurd (omega (arith, none))
job_reply pairs replies given (stages.Thank helper) p c h reply dest bytes due e gives naught =
    IsJobReply.thanks (ap stages.Thank (code_of_reply p helper codes.Done 0 c h reply dest bytes (same_Some _ c e) gives naught).1)
job_reply pairs replies given (stages.GiveJob j) p c h reply dest bytes due e gives naught =
    let one : Path Given (j.helper, reply_of codes.Done 0, j.dest, bytes_in (range_of 0 MESSAGE_BYTES) p.memory) (h, reply, dest, bytes) =
    same_Some _ _ (ap (given_by p) (same_Some _ c e) ∙ gives) in
    IsJobReply.brings j refl (ap (λ (z : Given). z.0) one) (ap (λ (z : Given). z.2) one) (sym (ap (λ (z : Given). z.3) one))
job_reply pairs replies given (stages.HandOver w n) p c h reply dest bytes due e gives naught =
    let one : Path Given (w.client, reply_of codes.Done n.member, w.dest, bytes_in (range_of 0 MESSAGE_BYTES) p.memory)
    (h, reply, dest, bytes) = same_Some _ _ (ap (given_by p) (same_Some _ c e) ∙ gives) in
    IsJobReply.hands w n refl (ap (λ (z : Given). z.0) one)
job_reply pairs replies given stages.Receive p c h reply dest bytes due e gives naught =
    absurd (no_reply p (calls.ReceiveSegment 0 SEGMENT_BYTES) c (h, reply, dest, bytes) (same_Some _ c e) refl gives)
job_reply pairs replies given (stages.LoadSend client at) p c h reply dest bytes due e gives naught =
    absurd (no_reply p (calls.Load 0 MESSAGE_BYTES) c (h, reply, dest, bytes) (same_Some _ c e) refl gives)
job_reply pairs replies given (stages.LoadResult number helper replied) p c h reply dest bytes due e gives naught =
    absurd (no_reply p (calls.Load 0 MESSAGE_BYTES) c (h, reply, dest, bytes) (same_Some _ c e) refl gives)
job_reply pairs replies given (stages.StoreJob j) p c h reply dest bytes due e gives naught =
    absurd (no_reply p (calls.Store 0 j.message.0) c (h, reply, dest, bytes) (same_Some _ c e) refl gives)
job_reply pairs replies given (stages.StoreReply w n) p c h reply dest bytes due e gives naught =
    absurd (no_reply p (calls.Store 0 n.message.0) c (h, reply, dest, bytes) (same_Some _ c e) refl gives)
job_reply pairs replies given stages.Exit p c h reply dest bytes due e gives naught =
    absurd (no_reply p calls.Exit c (h, reply, dest, bytes) (same_Some _ c e) refl gives)
job_reply pairs replies given stages.Ended p c h reply dest bytes due e gives naught = absurd (none-some c e)

-- Strong induction.
below : (P : ℕ → Type 0) → ((i : ℕ) → ((j : ℕ) → j < i → P j) → P i) → (i j : ℕ) → j < i → P j
below P step zero j less = absurd (omega arith)
below P step (suc i) j less = step j (λ l low. below P step i l (omega arith))

pub by_all_below : (P : ℕ → Type 0) → ((i : ℕ) → ((j : ℕ) → j < i → P j) → P i) → (i : ℕ) → P i
by_all_below P step i = step i (below P step i)

-- A job that was given, in the round in which it is sent.
pub record IsOwnJob (specs : List ProcessSpec) (ss : List Step) (r : Pid) (pairs : List HelperPair) (replies : ℕ) (h : Pid) (i : ℕ)
    (message : Message) : Type 0 where
  pub given : IsJobGiven specs ss r pairs replies h i message
  pub round : rounds_at specs ss h given.place ≡ rounds_at specs ss h i
  pub job : HelperJob
  pub stage : (group_after pairs replies (answers_before specs ss r given.place)).stage ≡ stages.GiveJob job
  pub member : given.number ≡ job.member
  pub helper : job.helper ≡ h
  pub answered : answer_at specs ss r given.place ≡ Some answers.Ok

module _ (specs : List ProcessSpec) (ss : List Step) (whole : Run) (r : Pid) (pairs : List HelperPair) (replies : ℕ)
    (g : run (initial_kernel specs) ss ≡ Some whole) (all : IsGroup specs ss r pairs replies) where
  abbrev pub JobAt : ℕ → Type 0
  JobAt v = (number : ℕ) (pair : HelperPair) (job : Message) → slice_get pairs number ≡ Some pair →
      slice_get ss v ≡ Some (steps.Call pair.helper (calls.Send pair.member job)) →
      helped_all helpings.Ready (answers_before specs ss pair.helper v) ≡ helpings.Send job →
      IsOwnJob specs ss r pairs replies pair.helper v job

  pub never : NeverHands ss r
  never = never_hands ss r (task_keeps (coordinator_call pairs replies) specs ss r (coordinator_keeps pairs replies) all.coordinator)

  -- a job grants nothing
  pub job_plain : (h : Pid) (i : ℕ) (job : Message) → IsJobGiven specs ss r pairs replies h i job → IsPlainMessage job
  job_plain h i job j =
      let b = has_begun pairs replies (answers_before specs ss r j.place) j.given.asked j.given.current in
      let front = group_after pairs replies b.front in
      subst IsPlainMessage j.message (begun_plain front.stage front b.answer j.given.asked b.deed)

  -- What a helper brings with a segment is a result.
  pub record IsResult (pair : HelperPair) (i : ℕ) (p : Process) (from : Pid) (asks : Message)
      (heard : IsHeard specs ss r i p from asks MESSAGE_BYTES 0 SEGMENT_BYTES) : Type 0 where
    pub sent : IsSentBy specs ss r heard.place from (bytes_in (range_of 0 MESSAGE_BYTES) p.memory) heard.taken.take.name
        heard.taken.take.exchange
    pub kernel : Kernel
    pub at : before specs ss sent.made.place ≡ Some kernel
    pub there : kernel.procs pair.helper ≡ Some sent.made.caller
    pub ready : sent.made.caller.state ≡ states.Ready
    pub replied : Bool
    pub target : heard.taken.take.exchange.target ≡ r
    pub message : heard.taken.take.exchange.message ≡ result_message replied
    pub shown : asks ≡ result_message replied
    pub stage : helped_all helpings.Ready (answers_before specs ss pair.helper sent.made.place) ≡ helpings.Report replied

  pub result_of : (number : ℕ) (pair : HelperPair) (i : ℕ) (p : Process) (from : Pid) (asks : Message)
      (heard : IsHeard specs ss r i p from asks MESSAGE_BYTES 0 SEGMENT_BYTES) → slice_get pairs number ≡ Some pair →
      from ≡ pair.helper → ((v : ℕ) → v < heard.place → JobAt v) → IsResult pair i p from asks heard
  result_of number pair i p from asks heard its who earlier =
      by_send (helper_send r pair.member (answers_before specs ss pair.helper place) x.target x.message next.1)
    where
      x : Exchange
      x = heard.taken.take.exchange

      s : IsSentBy specs ss r heard.place from (bytes_in (range_of 0 MESSAGE_BYTES) p.memory) heard.taken.take.name x
      s = sent_by specs ss r i p from asks heard

      place : ℕ
      place = s.made.place

      sender : heard.taken.take.name.sender ≡ pair.helper
      sender = s.sender ∙ who

      found : (k : Kernel) × (before specs ss place ≡ Some k) × (k.procs heard.taken.take.name.sender ≡ Some s.made.caller)
      found = bind_is (before specs ss place) (λ k. k.procs heard.taken.take.name.sender) s.made.caller s.made.at

      there : found.0.procs pair.helper ≡ Some s.made.caller
      there = ap found.0.procs (sym sender) ∙ found.2

      called : slice_get ss place ≡ Some (steps.Call pair.helper (calls.Send x.target x.message))
      called = s.made.is ∙ ap (λ q. Some (steps.Call q (calls.Send x.target x.message))) sender

      next : (s.made.caller.state ≡ states.Ready)
          × (helper_call r pair.member (answers_before specs ss pair.helper place) ≡ Some (calls.Send x.target x.message))
      next = ready_at (helper_call r pair.member) specs ss pair.helper (helper_plain r pair.member) (all.helpers number pair its) place
          found.0 s.made.caller (calls.Send x.target x.message) found.1 there called

      by_send : HelperSend r pair.member (answers_before specs ss pair.helper place) x.target x.message → IsResult pair i p from asks heard
      by_send (HelperSend.asks to is) = absurd (both_ways (grants_read x.message) (ap grants_read is) s.reads)
      by_send (HelperSend.works to stage) =
          let job = earlier place s.made.earlier number pair x.message its
          (called ∙ ap (λ q. Some (steps.Call pair.helper (calls.Send q x.message))) to) stage in
          absurd (both_ways (grants_read x.message) (job_plain pair.helper place x.message job.given).read s.reads)
      by_send (HelperSend.tells b to is stage) =
          let there_x = taken_there specs ss r i p from asks MESSAGE_BYTES 0 SEGMENT_BYTES heard in
          let own = as_sent specs ss r never heard.place heard.step.kernel heard.step.at heard.taken.take.name x there_x to in
          record {
            sent = s;
            kernel = found.0;
            at = found.1;
            there = there;
            ready = next.0;
            replied = b;
            target = to;
            message = is;
            shown = sym heard.shown ∙ own.shown ∙ is;
            stage = stage;
          }
