-- Whatever a coordinator hears of came with a Send of the member's helper.
use Rattle.std.proofs.Common.{◌≡◌, ℕ, ◌+◌, ◌<◌, Bool, List, ◌∷◌, length, slice_get, Some, [], sym, ap, subst, ◌∙◌}
use Rattle.std.specs.Prelude.{IfSome}
use Rattle.std.proofs.lemmas.List.{length-append}
use Rattle.vk_types.specs.Types.{Answer, Call, Message, Name, Pid, Process, ProcessSpec, Step}
use Rattle.vk_base.specs.declared.answer.Answer.TheVariants as answers
use Rattle.vk_base.specs.declared.call.Call.TheVariants as calls
use Rattle.vk_base.specs.declared.limits.TheConstants.{MESSAGE_BYTES, SEGMENT_BYTES}
use Rattle.vk_base.specs.declared.step.Step.TheVariants as steps
use Rattle.vk_base.specs.Kernel.{initial_kernel}
use Rattle.vk_base.specs.Steps.{Run, run}
use Rattle.v_laws.specs.Places.{process_at, taken_at}
use Rattle.v_laws.proofs.Tables.{same_pid_is}
use Rattle.vk_group.specs.declared.helping.Helping.TheVariants as helpings
use Rattle.vk_event.specs.declared.pair.HelperPair.{HelperPair}
use Rattle.vk_group.specs.Accounts.{Heard, Report}
use Rattle.vk_group.specs.Deeds.{IsDeedDone, IsReported}
use Rattle.vk_group.specs.Helpers.{helped_all}
use Rattle.vk_group.proofs.Done.{deeds_done}
use Rattle.v_pages.specs.Followed.{answers_before}
use Rattle.v_group.specs.Grouped.{IsDoneAt, IsGroup}
use Rattle.v_group.proofs.Hearing.{IsHeard, name_taken}
use Rattle.v_group.proofs.Helping.{IsJobSent, job_sent}
use Rattle.v_group.proofs.Jobs.{IsOwnJob, IsResult, result_of}
use Rattle.v_group.proofs.JobsGiven.{jobs_given}
use Rattle.v_group.proofs.Loaded.{IsLoadedAt, loaded_at}
use Rattle.v_group.proofs.Requests.{result_count}

-- What the coordinator r hears of at place i came with a Send that the helper h made to report.
pub record IsToldBy (specs : List ProcessSpec) (ss : List Step) (r : Pid) (h : Pid) (i : ℕ) : Type 0 where
  pub call : Call
  pub is : slice_get ss i ≡ Some (steps.Call r call)
  pub take : ℕ
  pub earlier : take < i
  pub count : length (answers_before specs ss r i) ≡ length (answers_before specs ss r take) + 1
  pub name : Name
  pub sender : name.sender ≡ h
  pub receives : slice_get ss take ≡ Some (steps.Take r)
  pub takes : taken_at specs ss take ≡ Some name
  pub tell : ℕ
  pub first : tell < take
  pub made : Call
  pub called : slice_get ss tell ≡ Some (steps.Call h made)
  pub caller : Process
  pub at : process_at specs ss tell h ≡ Some caller
  pub number : name.number ≡ caller.sends + 1
  pub replied : Bool
  pub stage : helped_all helpings.Ready (answers_before specs ss h tell) ≡ helpings.Report replied

-- and a job of that helper in the round of this report
pub record IsReportOn (specs : List ProcessSpec) (ss : List Step) (r : Pid) (pairs : List HelperPair) (replies : ℕ) (i : ℕ)
    (heard : Report) : Type 0 where
  pub pair : HelperPair
  pub its : slice_get pairs heard.member ≡ Some pair
  pub by : IsToldBy specs ss r pair.helper i
  pub sent : IsJobSent specs ss pair.helper pair.member by.tell
  pub own : IsOwnJob specs ss r pairs replies pair.helper sent.send sent.job

abbrev pub told_by_result : (specs : List ProcessSpec) (ss : List Step) (whole : Run) (r : Pid) (pairs : List HelperPair) (replies : ℕ)
    (g : run (initial_kernel specs) ss ≡ Some whole) (all : IsGroup specs ss r pairs replies) (i : ℕ) (pair : HelperPair) (p : Process)
    (call : Call) (from : Pid) (asks : Message) → from ≡ pair.helper → slice_get ss i ≡ Some (steps.Call r call) →
    (h : IsHeard specs ss r i p from asks MESSAGE_BYTES 0 SEGMENT_BYTES) →
    IsResult specs ss whole r pairs replies g all pair i p from asks h → IsToldBy specs ss r pair.helper i
told_by_result specs ss whole r pairs replies g all i pair p call from asks who is h result = record {
  call = call;
  is = is;
  take = h.place;
  earlier = h.earlier;
  count = ap length h.front ∙ length-append (answers_before specs ss r h.place)
      (answers.ReceivedSegment from asks MESSAGE_BYTES ∷ []);
  name = h.taken.take.name;
  sender = result.sent.sender ∙ who;
  receives = h.step.is ∙ ap (λ (z : Step). Some z) h.is;
  takes = name_taken specs ss r i p from asks MESSAGE_BYTES 0 SEGMENT_BYTES h;
  tell = result.sent.made.place;
  first = result.sent.made.earlier;
  made = calls.Send h.taken.take.exchange.target h.taken.take.exchange.message;
  called = result.sent.made.is
      ∙ ap (λ q. Some (steps.Call q (calls.Send h.taken.take.exchange.target h.taken.take.exchange.message)))
      (result.sent.sender ∙ who);
  caller = result.sent.made.caller;
  at = ap (process_at specs ss result.sent.made.place) (sym (result.sent.sender ∙ who)) ∙ result.sent.made.at;
  number = result.sent.made.number;
  replied = result.replied;
  stage = result.stage;
}

pub report_on : (specs : List ProcessSpec) (ss : List Step) (whole : Run) (r : Pid) (pairs : List HelperPair) (replies i : ℕ)
    (heard : Report) → run (initial_kernel specs) ss ≡ Some whole → IsGroup specs ss r pairs replies →
    IsDoneAt specs ss r pairs replies i (Heard heard) → IsReportOn specs ss r pairs replies i heard
report_on specs ss whole r pairs replies i heard g all d = record {
  pair = pair;
  its = reported.its;
  by = told_by_result specs ss whole r pairs replies g all i pair p d.call reported.helper reported.asks who d.is h result;
  sent = sent;
  own = jobs_given specs ss whole r pairs replies g all sent.send heard.member pair sent.job reported.its sent.called sent.sending;
}
  where
    given : List Answer
    given = answers_before specs ss r i

    reported : IsReported pairs replies given d.answer heard
    reported = subst (λ o. IfSome o (IsDeedDone pairs replies given d.answer)) d.deed (deeds_done pairs replies given d.answer)

    pair : HelperPair
    pair = reported.pair

    who : reported.helper ≡ pair.helper
    who = sym (same_pid_is pair.helper reported.helper reported.same)

    loaded : IsLoadedAt specs ss r i reported.helper reported.asks MESSAGE_BYTES reported.message
    loaded = subst (λ c. IsLoadedAt specs ss r i reported.helper reported.asks c reported.message)
        (result_count reported.asks reported.count reported.replied reported.is)
        (loaded_at specs ss whole r pairs replies g all.coordinator i (Heard heard) d reported.helper reported.asks reported.count
        reported.message reported.from_helper)

    p : Process
    p = loaded.process

    h : IsHeard specs ss r i p reported.helper reported.asks MESSAGE_BYTES 0 SEGMENT_BYTES
    h = loaded.heard

    result : IsResult specs ss whole r pairs replies g all pair i p reported.helper reported.asks h
    result = result_of specs ss whole r pairs replies g all heard.member pair i p reported.helper reported.asks h reported.its who
        (λ v less. jobs_given specs ss whole r pairs replies g all v)

    sent : IsJobSent specs ss pair.helper pair.member result.sent.made.place
    sent = job_sent specs ss whole pair.helper r pair.member g (all.helpers heard.member pair reported.its) result.sent.made.place
        result.kernel result.sent.made.caller result.replied result.at result.there result.ready result.stage
