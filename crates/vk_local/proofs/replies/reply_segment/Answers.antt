use Rattle.std.proofs.Common.{◌∙◌, ap, sym}
use Rattle.vk_base.specs.declared.call.Call.TheVariants as calls
use Rattle.vk_base.specs.declared.step.Step.TheVariants as steps
use Rattle.vk_procs.specs.Seats.{pids}
use Rattle.vk_local.specs.Access.{access_refusal}
use Rattle.vk_local.specs.Calls.{bytes_passed, done_by, replied_seats, reply_access}
use Rattle.vk_local.proofs.Leaves.{left_seats, refused_seats}
use Rattle.vk_local.proofs.PidsStay.{pids_replied_segment}
use Rattle.vk_local.proofs.Segments.{segment_rule}
use Rattle.vk_local.proofs.replies.reply_segment.Goals as goal

pub returns-in-Some-clause-done : goal.returns-in-Some-clause-done
returns-in-Some-clause-done c =
    let s = c.args.segment in
    refused_seats done_by (access_refusal c.args.procs.now c.args.pid c.args.to (reply_access s))
    (steps.Call c.args.pid (calls.ReplySegment c.args.message.now c.args.to s.dest s.src s.count)) c.args.steps.now c.push.new.self
    (replied_seats (bytes_passed c.args.procs.now c.args.pid c.args.to s) c.args.to c.args.message.now) c.args.procs.now c.args.to
    c.in-Some.why
    (sym (c.access_refusal.ensures ∙ ap (access_refusal c.args.procs.now c.args.pid c.args.to) c.reply_access.ensures) ∙ c.in-Some.is)
    c.push.ensures

pub returns-in-Some-clause-rule : goal.returns-in-Some-clause-rule
returns-in-Some-clause-rule c =
    segment_rule c.args.pid c.args.to c.args.message.now c.args.segment c.args.procs.now c.args.procs.now c.args.steps.now
    c.push.new.self _ c.requires.ready c.requires.near (returns-in-Some-clause-done c)

pub returns-clause-done : goal.returns-clause-done
returns-clause-done c =
    let s = c.args.segment in
    left_seats done_by (access_refusal c.args.procs.now c.args.pid c.args.to (reply_access s))
    (steps.Call c.args.pid (calls.ReplySegment c.args.message.now c.args.to s.dest s.src s.count)) c.args.steps.now c.push-2.new.self
    (replied_seats (bytes_passed c.args.procs.now c.args.pid c.args.to s) c.args.to c.args.message.now) c.args.procs.now
    c.finish.new.self c.args.to c.push.new.self
    (sym (c.access_refusal.ensures ∙ ap (access_refusal c.args.procs.now c.args.pid c.args.to) c.reply_access.ensures)
    ∙ c.in_default.is)
    (c.finish.ensures ∙ ap (λ seats. replied_seats seats c.args.to c.args.message.now) c.pass.ensures) c.push.ensures c.push-2.ensures

pub returns-clause-rule : goal.returns-clause-rule
returns-clause-rule c =
    segment_rule c.args.pid c.args.to c.args.message.now c.args.segment c.args.procs.now c.finish.new.self c.args.steps.now
    c.push-2.new.self _ c.requires.ready c.requires.near (returns-clause-done c)

pub returns-clause-pids : goal.returns-clause-pids
returns-clause-pids c =
    ap pids (returns-clause-done c).seats
    ∙ pids_replied_segment c.args.procs.now c.args.pid c.args.to c.args.message.now c.args.segment
