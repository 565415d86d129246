-- What a coordinator hears of is a member's reply.
use Rattle.std.proofs.Common.{◌≡◌, ◌≤◌, ◌+◌, Bool, true, false, List, length, Some, refl, sym, ap, subst, ◌∙◌, arith}
use Rattle.std.specs.Prelude.{IfSome}
use Rattle.std.proofs.lemmas.Bool.{leb-true}
use Rattle.std.proofs.lemmas.Option.{same_Some, none-some}
use Rattle.vk_types.specs.Types.{Answer, Message, Process, Step}
use Rattle.vk_base.specs.declared.call.Call.TheVariants as calls
use Rattle.vk_base.specs.declared.limits.TheConstants.{MESSAGE_BYTES, SEGMENT_BYTES}
use Rattle.vk_base.specs.declared.step.Step.TheVariants as steps
use Rattle.vk_base.specs.Messages.{segment_of}
use Rattle.vk_base.specs.Ranges.{range_of, bytes_in, lies_in}
use Rattle.v_laws.specs.Places.{process_at}
use Rattle.v_laws.proofs.Tables.{same_pid_is}
use Rattle.vk_group.specs.declared.helping.Helping.TheVariants as helpings
use Rattle.vk_event.specs.declared.pair.HelperPair.{HelperPair}
use Rattle.vk_group.specs.declared.request.Request.TheVariants as requests
use Rattle.vk_group.specs.Accounts.{Heard, reply_if}
use Rattle.vk_group.specs.Deeds.{IsDeedDone, IsReported}
use Rattle.vk_group.specs.Messages.{request_in, result_message}
use Rattle.vk_group.proofs.Done.{deeds_done}
use Rattle.v_pages.specs.Followed.{answers_before}
use Rattle.v_group.specs.Grouped.{RepliesAreMembers}
use Rattle.v_group.proofs.Hearing.{IsHeard, name_taken}
use Rattle.v_group.proofs.Helping.{IsReplyReported, reply_reported}
use Rattle.v_group.proofs.Jobs.{IsOwnJob, IsResult, result_of}
use Rattle.v_group.proofs.JobsGiven.{jobs_given}
use Rattle.v_group.proofs.Loaded.{IsLoadedAt, loaded_at}
use Rattle.v_group.proofs.Reported.{IsToldBy, told_by_result}
use Rattle.v_group.proofs.Requests.{result_count, result_is}
use Rattle.v_group.proofs.SameSend.{IsReportBy, none_since}

result_same : (b c : Bool) → requests.Result b ≡ requests.Result c → b ≡ c
result_same b c e = cc

reply_is : (b : Bool) (message m : Message) → reply_if b message ≡ Some m → (b ≡ true) × (message ≡ m)
reply_is true message m e = (refl, same_Some message m e)
reply_is false message m e = absurd (none-some m e)

result_segment : segment_of (result_message true) ≡ range_of 0 MESSAGE_BYTES
result_segment = refl

pub replies_members : RepliesAreMembers
replies_members specs ss whole r pairs replies i heard m g all d replied = record {
  pair = pair;
  its = reported.its;
  take = h.place;
  earlier = h.earlier;
  name = h.taken.take.name;
  sender = result.sent.sender ∙ who;
  receives = h.step.is ∙ ap (λ (z : Step). Some z) h.is;
  takes = name_taken specs ss r i p reported.helper reported.asks MESSAGE_BYTES 0 SEGMENT_BYTES h;
  tell = result.sent.made.place;
  first = result.sent.made.earlier;
  called = result.sent.made.is
      ∙ (λ j. Some (steps.Call ((result.sent.sender ∙ who) j) (calls.Send (result.target j) (message j))));
  caller = result.sent.made.caller;
  at = ap (process_at specs ss result.sent.made.place) (sym (result.sent.sender ∙ who)) ∙ result.sent.made.at;
  number = result.sent.made.number;
  bytes = ap (λ (z : Message). z.0) (sym same.1) ∙ loaded.bytes ∙ result.sent.bytes
      ∙ ap (λ z. bytes_in z result.sent.made.caller.memory) (ap segment_of message ∙ result_segment);
  replied = by_member.by;
  given = job.given;
  same = none_since specs ss whole r pairs replies g all i heard.member pair reported.its report;
}
  where
    given : List Answer
    given = answers_before specs ss r i

    reported : IsReported pairs replies given d.answer heard
    reported = subst (λ o. IfSome o (IsDeedDone pairs replies given d.answer)) d.deed (deeds_done pairs replies given d.answer)

    pair : HelperPair
    pair = reported.pair

    who : reported.helper ≡ pair.helper
    who = sym (same_pid_is pair.helper reported.helper reported.same)

    same : (reported.replied ≡ true) × (reported.message ≡ m)
    same = reply_is reported.replied reported.message m (sym reported.reply ∙ replied)

    loaded : IsLoadedAt specs ss r i reported.helper reported.asks MESSAGE_BYTES reported.message
    loaded = subst (λ c. IsLoadedAt specs ss r i reported.helper reported.asks c reported.message)
        (result_count reported.asks reported.count reported.replied reported.is)
        (loaded_at specs ss whole r pairs replies g all.coordinator i (Heard heard) d reported.helper reported.asks reported.count
        reported.message reported.from_helper)

    p : Process
    p = loaded.process

    h : IsHeard specs ss r i p reported.helper reported.asks MESSAGE_BYTES 0 SEGMENT_BYTES
    h = loaded.heard

    result : IsResult specs ss whole r pairs replies g all pair i p reported.helper reported.asks h
    result = result_of specs ss whole r pairs replies g all heard.member pair i p reported.helper reported.asks h reported.its who
        (λ v less. jobs_given specs ss whole r pairs replies g all v)

    is_reply : result.replied ≡ true
    is_reply = result_same result.replied reported.replied
        (sym (result_is result.replied)
        ∙ (λ j. request_in (sym result.shown j) (sym (result_count reported.asks reported.count reported.replied reported.is) j))
        ∙ reported.is) ∙ same.0

    message : h.taken.take.exchange.message ≡ result_message true
    message = result.message ∙ ap result_message is_reply

    room : MESSAGE_BYTES ≤ length result.sent.made.caller.memory
    room =
        let ends = leb-true (0 + MESSAGE_BYTES) (length result.sent.made.caller.memory)
        (ap (λ z. lies_in z (length result.sent.made.caller.memory)) (sym (ap segment_of message ∙ result_segment))
        ∙ result.sent.made.room) in
        omega arith

    by_member : IsReplyReported specs ss pair.helper pair.member result.sent.made.place result.sent.made.caller
    by_member = reply_reported specs ss whole pair.helper r pair.member g (all.helpers heard.member pair reported.its)
        result.sent.made.place result.kernel result.sent.made.caller result.at result.there result.ready result.sent.made.alive room
        (result.stage ∙ ap helpings.Report is_reply)

    job : IsOwnJob specs ss r pairs replies pair.helper by_member.by.send by_member.by.job
    job = jobs_given specs ss whole r pairs replies g all by_member.by.send heard.member pair by_member.by.job reported.its
        by_member.by.called by_member.by.sending

    told_by : IsToldBy specs ss r pair.helper i
    told_by = told_by_result specs ss whole r pairs replies g all i pair p d.call reported.helper reported.asks who d.is h result

    report : IsReportBy specs ss whole r pairs replies g all pair.helper i
    report = record {
      by = told_by;
      send = by_member.by.send;
      message = by_member.by.job;
      own = job;
      low = by_member.earlier;
      round = by_member.round;
    }
