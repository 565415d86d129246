-- What a coordinator hears of is heard for the group Send for which it gave the job.
use Rattle.std.proofs.Common.{◌≡◌, ℕ, true, false, zero, suc, ◌+◌, ◌<◌, ◌≤◌, List, ◌∷◌, length, slice_get, Option, Some, None, refl, sym, ap, subst, ◌∙◌, inl, inr, arith}
use Rattle.std.specs.Prelude.{IfSome}
use Rattle.std.specs.Option.{is_some}
use Rattle.std.proofs.lemmas.Bool.{both_ways, cases_lt, cases_order}
use Rattle.std.proofs.lemmas.List.{length-append}
use Rattle.std.proofs.lemmas.Option.{same_Some}
use Rattle.vk_types.specs.Types.{Answer, Call, Exchange, Message, Name, Pid, Process, ProcessSpec, Step}
use Rattle.vk_base.specs.declared.answer.Answer.TheVariants as answers
use Rattle.vk_base.specs.declared.call.Call.TheVariants as calls
use Rattle.vk_base.specs.declared.kernel.Stage.TheVariants as kinds
use Rattle.vk_base.specs.declared.limits.TheConstants.{MESSAGE_BYTES}
use Rattle.vk_base.specs.declared.step.Step.TheVariants as steps
use Rattle.vk_base.specs.Kernel.{initial_kernel, name_of}
use Rattle.vk_base.specs.Steps.{Run, run}
use Rattle.v_laws.specs.Places.{process_at, taken_at}
use Rattle.v_laws.proofs.OnceLemmas.{taken_at_is, taken_over}
use Rattle.v_laws.proofs.Queues.{taken_was_queued}
use Rattle.v_laws.proofs.Tables.{same_pid_is}
use Rattle.vk_group.specs.declared.group.Group.{Group}
use Rattle.vk_group.specs.declared.member.Progress.{Progress}
use Rattle.vk_group.specs.declared.member.Progress.TheVariants as works
use Rattle.vk_event.specs.declared.pair.HelperPair.{HelperPair}
use Rattle.vk_group.specs.declared.stage.OpenSend.{OpenSend}
use Rattle.vk_group.specs.Accounts.{Began, Gave, Heard, Report, deed_at, deed_of}
use Rattle.vk_group.specs.Deeds.{IsDeedDone, IsReported}
use Rattle.vk_group.specs.Groups.{answered, answered_at, coordinator_call, group_after, new_group}
use Rattle.vk_group.specs.Helpers.{helper_call}
use Rattle.vk_group.specs.Members.{is_given}
use Rattle.vk_group.proofs.Answering.{one_answer_more}
use Rattle.vk_group.proofs.Books.{kept}
use Rattle.vk_group.proofs.Done.{deeds_done}
use Rattle.vk_group.proofs.Staged.{IsStaged}
use Rattle.vk_group.proofs.Tracked.{tracked}
use Rattle.vk_group.proofs.Works.{work_at, work_given}
use Rattle.v_pages.specs.Followed.{FollowsTask, answer_at, answers_before}
use Rattle.v_pages.proofs.Lists.{up_to_none, up_to_some}
use Rattle.v_pages.proofs.Staying.{NeverHands, queued_reach, reach, stays_with}
use Rattle.v_group.specs.Grouped.{IsDoneAt, IsGroup, IsSameSend}
use Rattle.v_group.proofs.FirstReady.{IsFirstDue, are_first, first_of}
use Rattle.v_group.proofs.Jobs.{IsOwnJob, by_all_below, never}
use Rattle.v_pages.proofs.Taken.{take_same}
use Rattle.v_group.proofs.Reported.{IsToldBy, report_on}
use Rattle.v_group.proofs.Rounds.{answered_on, one_report, rounds_at}
use Rattle.v_group.proofs.Since.{deed_done}
use Rattle.v_group.proofs.Working.{GroupGoesOn, IsGroupAtWork, gave_not, goes_on, heard_not}

-- who hands nothing on takes a message once
taken_again : (specs : List ProcessSpec) (ss : List Step) (r : Pid) → NeverHands ss r → (i j : ℕ) (n : Name) →
    taken_at specs ss i ≡ Some n → taken_at specs ss j ≡ Some n → slice_get ss i ≡ Some (steps.Take r) → i < j → ⊥
taken_again specs ss r never i j n first second receives less =
    let a = taken_at_is specs ss i n first in
    let o = taken_over specs ss i n a in
    let here : a.take.exchange.at ≡ r = same_pid_is a.take.exchange.at a.receiver (taken_was_queued a.kernel a.receiver a.take a.takes).0
    ∙ take_same a.receiver r (same_Some (steps.Take a.receiver) (steps.Take r) (sym a.is ∙ receives)) in
    let b = taken_at_is specs ss j n second in
    let p = taken_over specs ss j n b in
    let y = stays_with specs ss r never (suc i) j o.after b.kernel (omega arith) o.at b.at n
    (record a.take.exchange { stage = kinds.Taken }) o.there here in
    let same : y.0 ≡ b.take.exchange = same_Some y.0 b.take.exchange (sym y.1 ∙ p.queued) in
    let far = y.2.far in
    let near = queued_reach b.take.exchange.stage (taken_was_queued b.kernel b.receiver b.take b.takes).1 in
    let stage = ap (λ (x : Exchange). x.stage) same in
    low_reach y.0 b.take.exchange same far near
  where
    low_reach : (x z : Exchange) → x ≡ z → 2 ≤ reach x.stage → reach z.stage ≡ 1 → ⊥
    low_reach x z same far near = let one = ap (λ (w : Exchange). reach w.stage) same in omega arith

open_given : Path (Option Progress) (Some works.Open) (Some works.Given) → ⊥
open_given e = open_not works.Open works.Given (same_Some works.Open works.Given e) refl refl
  where
    open_not : (a b : Progress) → a ≡ b → is_given a ≡ false → is_given b ≡ true → ⊥
    open_not a b same f t = both_ways (is_given a) f (ap is_given same ∙ t)

module _ (specs : List ProcessSpec) (ss : List Step) (whole : Run) (r : Pid) (pairs : List HelperPair) (replies : ℕ)
    (g : run (initial_kernel specs) ss ≡ Some whole) (all : IsGroup specs ss r pairs replies) where
  abbrev Before : ℕ → List Answer
  Before i = answers_before specs ss r i

  abbrev GroupAt : ℕ → Group
  GroupAt i = group_after pairs replies (Before i)

  -- after one answer more
  group_next : (i : ℕ) (a : Answer) → answer_at specs ss r i ≡ Some a → GroupAt (suc i) ≡ answered (GroupAt i) a
  group_next i a is =
      ap (group_after pairs replies) (up_to_some (answer_at specs ss r) i a is) ∙ one_answer_more (new_group pairs replies) (Before i) a

  -- where a report is answered, it is done
  pub report_done : (i : ℕ) (a : Answer) (heard : Report) → answer_at specs ss r i ≡ Some a → deed_of (GroupAt i) a ≡ Some (Heard heard) →
      IsDoneAt specs ss r pairs replies i (Heard heard)
  report_done i a heard is deed =
      let reported : IsReported pairs replies (Before i) a heard =
      subst (λ o. IfSome o (IsDeedDone pairs replies (Before i) a)) deed (deeds_done pairs replies (Before i) a) in
      deed_done specs ss r pairs replies all.coordinator i a (Heard heard) (calls.Load 0 MESSAGE_BYTES) is deed
      reported.from_helper.loads refl

  -- between these two places nothing is heard of this member
  abbrev NotHeard : ℕ → ℕ → ℕ → Type 0
  NotHeard n x z = (l : ℕ) (heard : Report) → x < l → l < z → IsDoneAt specs ss r pairs replies l (Heard heard) → heard.member ≡ n → ⊥

  module _ (h : Pid) (v : ℕ) (message : Message) (own : IsOwnJob specs ss r pairs replies h v message) where
    abbrev x : ℕ
    x = own.given.place

    abbrev n : ℕ
    n = own.job.member

    -- before the job is given its member has none
    pub was_open : work_at (GroupAt x).members n ≡ Some works.Open
    was_open = subst (IsStaged (GroupAt x).members (GroupAt x).notes) own.stage (kept pairs replies (Before x)).staged

    pub is_first : first_of pairs h ≡ Some n
    is_first = ap (first_of pairs) (sym own.helper) ∙ subst (IsFirstDue pairs) own.stage (are_first pairs replies (Before x)).due

    begins : IsGroupAtWork n (GroupAt (suc x))
    begins = subst (IsGroupAtWork n) (sym (group_next x answers.Ok own.answered))
        (subst (λ s. IsGroupAtWork n (answered_at s (GroupAt x) answers.Ok)) (sym own.stage) (
          work_given (GroupAt x).members n was_open,
          ap is_some (sym (tracked pairs replies (Before x)).asked ∙ own.given.given.current),
        ))

    -- its helper has the job as long as nothing is heard of it
    goes_by : (z : ℕ) (o : Option Answer) → answer_at specs ss r z ≡ o → IsGroupAtWork n (GroupAt z) →
        ((heard : Report) → IsDoneAt specs ss r pairs replies z (Heard heard) → heard.member ≡ n → ⊥) → IsGroupAtWork n (GroupAt (suc z))
    goes_by z None is w not = subst (λ l. IsGroupAtWork n (group_after pairs replies l)) (sym (up_to_none (answer_at specs ss r) z is)) w
    goes_by z (Some a) is w not = subst (IsGroupAtWork n) (sym (group_next z a is)) (by_deed (goes_on n (GroupAt z).stage (GroupAt z) a w))
      where
        by_deed : GroupGoesOn n (deed_of (GroupAt z) a) (answered (GroupAt z) a) → IsGroupAtWork n (answered (GroupAt z) a)
        by_deed (GroupGoesOn.tells heard e same) = absurd (not heard (report_done z a heard is e) same)
        by_deed (GroupGoesOn.stays none now) = now

    pub at_work : (z : ℕ) → x < z → NotHeard n x z → IsGroupAtWork n (GroupAt z)
    at_work zero more none = absurd (omega arith)
    at_work (suc z) more none = elim (cases_lt x z) [
      | inl less ↦
          goes_by z (answer_at specs ss r z) refl (at_work z less (λ l heard a b. none l heard a (omega arith)))
          (λ heard. none z heard less (omega arith))
      | inr there ↦ let same : x ≡ z = omega arith in subst (λ l. IsGroupAtWork n (GroupAt (suc l))) same begins
    ]

    -- so no group Send begins
    pub none_begins : (i : ℕ) → NotHeard n x i → (l : ℕ) (asked : OpenSend) → x < l → l < i →
        IsDoneAt specs ss r pairs replies l (Began asked) → ⊥
    none_begins i none l asked more less d =
        by_deed (goes_on n (GroupAt l).stage (GroupAt l) d.answer (at_work l more (λ k heard a b. none k heard a (omega arith))))
      where
        by_deed : GroupGoesOn n (deed_of (GroupAt l) d.answer) (answered (GroupAt l) d.answer) → ⊥
        by_deed (GroupGoesOn.tells heard e same) = heard_not heard asked (same_Some (Heard heard) (Began asked) (sym e ∙ d.deed))
        by_deed (GroupGoesOn.stays not now) = not asked d.deed

  -- a report, with the job of its round
  pub record IsReportBy (h : Pid) (i : ℕ) : Type 0 where
    pub by : IsToldBy specs ss r h i
    pub send : ℕ
    pub message : Message
    pub own : IsOwnJob specs ss r pairs replies h send message
    pub low : send < by.tell
    pub round : rounds_at specs ss h send ≡ rounds_at specs ss h by.tell

  -- there are no two reports of one job
  one_round : (h : Pid) (task : List Answer → Option Call) → FollowsTask task specs ss h → (l i : ℕ) (a : IsReportBy h l)
      (b : IsReportBy h i) → l < i → a.own.given.place ≡ b.own.given.place → ⊥
  one_round h task follows l i a b less same = elim (cases_order a.by.take b.by.take) [
    | inl one ↦
        let on = answered_on (coordinator_call pairs replies) specs ss r all.coordinator l i a.by.call b.by.call a.by.is b.by.is less in
        let more = ap length on.is in
        let sum = length-append (Before l) (on.answer ∷ on.later) in
        let first = a.by.count in
        let second = b.by.count in
        let there = ap (λ z. length (Before z)) one in
        absurd (omega arith)
    | inr apart ↦ elim apart [
      | inl below ↦ taken_again specs ss r hands a.by.take b.by.take b.by.name takes b.by.takes a.by.receives below
      | inr above ↦ taken_again specs ss r hands b.by.take a.by.take b.by.name b.by.takes takes b.by.receives above
    ]
  ]
    where
      hands : NeverHands ss r
      hands = never specs ss whole r pairs replies g all

      tell : a.by.tell ≡ b.by.tell
      tell = one_report task specs ss h follows a.by.tell b.by.tell a.by.made b.by.made a.by.replied b.by.replied a.by.called b.by.called
          a.by.stage b.by.stage
          (sym (a.own.round ∙ a.round) ∙ ap (rounds_at specs ss h) same ∙ b.own.round ∙ b.round)

      caller : a.by.caller ≡ b.by.caller
      caller = same_Some a.by.caller b.by.caller (sym a.by.at ∙ ap (λ z. process_at specs ss z h) tell ∙ b.by.at)

      name : a.by.name ≡ b.by.name
      name = λ j. name_of ((a.by.sender ∙ sym b.by.sender) j)
          ((a.by.number ∙ ap (λ (p : Process). p.sends + 1) caller ∙ sym b.by.number) j)

      takes : taken_at specs ss a.by.take ≡ Some b.by.name
      takes = a.by.takes ∙ ap (λ z. Some z) name

  -- from where the job is given nothing is heard of its member, until its helper reports
  abbrev NoneBetween : ℕ → Type 0
  NoneBetween i = (number : ℕ) (pair : HelperPair) → slice_get pairs number ≡ Some pair → (t : IsReportBy pair.helper i) →
      NotHeard t.own.job.member t.own.given.place i

  none_next : (i : ℕ) → ((j : ℕ) → j < i → NoneBetween j) → NoneBetween i
  none_next i earlier number pair its t l = by_all_below Unheard step l
    where
      h : Pid
      h = pair.helper

      x : ℕ
      x = t.own.given.place

      Unheard : ℕ → Type 0
      Unheard l = (heard : Report) → x < l → l < i → IsDoneAt specs ss r pairs replies l (Heard heard) →
          heard.member ≡ t.own.job.member → ⊥

      there : (l : ℕ) (heard : Report) → IsDoneAt specs ss r pairs replies l (Heard heard) → heard.member ≡ t.own.job.member →
          IsReportBy h l
      there l heard d same =
          let f = report_on specs ss whole r pairs replies l heard g all d in
          let own = t.own.given.given in
          let one : f.pair ≡ own.pair =
          same_Some f.pair own.pair (sym f.its ∙ ap (slice_get pairs) (same ∙ sym t.own.member) ∙ own.its) in
          let by : IsReportBy f.pair.helper l = record {
            by = f.by;
            send = f.sent.send;
            message = f.sent.job;
            own = f.own;
            low = f.sent.earlier;
            round = f.sent.round;
          } in
          subst (λ q. IsReportBy q l) (ap (λ (p : HelperPair). p.helper) one ∙ t.own.given.helper) by

      step : (l : ℕ) → ((k : ℕ) → k < l → Unheard k) → Unheard l
      step l before heard more less d same = elim (cases_order x s.own.given.place) [
        | inl one ↦ one_round h (helper_call r pair.member) (all.helpers number pair its) l i s t less (sym one)
        | inr apart ↦ elim apart [
          | inl below ↦ open_given
              (sym (was_open h s.send s.message s.own) ∙ ap (work_at (GroupAt s.own.given.place).members) member
              ∙ (at_work h t.send t.message t.own s.own.given.place below
              (λ k rep a b. before k (let up = low in omega arith) rep a (let up = low in omega arith))).0)
          | inr above ↦ open_given
              (sym (was_open h t.send t.message t.own) ∙ ap (work_at (GroupAt x).members) (sym member)
              ∙ (at_work h s.send s.message s.own x above
              (λ k rep a b. earlier l less number pair its s k rep a (omega arith))).0)
        ]
      ]
        where
          s : IsReportBy h l
          s = there l heard d same

          member : s.own.job.member ≡ t.own.job.member
          member = same_Some s.own.job.member t.own.job.member
              (sym (is_first h s.send s.message s.own) ∙ is_first h t.send t.message t.own)

          low : s.own.given.place < l
          low =
              let first = s.own.given.earlier in
              let second = s.low in
              let third = s.by.first in
              let fourth = s.by.earlier in
              omega arith

  -- no group Send begins between a job and the report of it
  no_other_send : (i number : ℕ) (pair : HelperPair) → slice_get pairs number ≡ Some pair → (t : IsReportBy pair.helper i) →
      (l : ℕ) (asked : OpenSend) → t.own.given.place < l → l < i → IsDoneAt specs ss r pairs replies l (Began asked) → ⊥
  no_other_send i number pair its t =
      none_begins pair.helper t.send t.message t.own i (by_all_below NoneBetween none_next i number pair its t)

  -- nor from where the group Send began for which that job was given
  pub none_since : (i number : ℕ) (pair : HelperPair) → slice_get pairs number ≡ Some pair → (t : IsReportBy pair.helper i) →
      IsSameSend specs ss r pairs replies t.own.given.current.begun i
  none_since i number pair its t l asked more less d = elim (cases_order l t.own.given.place) [
    | inl same ↦ gave_not t.own.job.member asked
        (same_Some (Gave t.own.job.member) (Began asked)
        (ap (λ s. deed_at s (GroupAt t.own.given.place) d.answer) (sym t.own.stage)
        ∙ ap (λ z. deed_of (GroupAt z) d.answer) (sym same) ∙ d.deed))
    | inr apart ↦ elim apart [
      | inl below ↦ t.own.given.current.same l asked more below d
      | inr above ↦ no_other_send i number pair its t l asked above less d
    ]
  ]
