use Rattle.std.proofs.Common.{◌∙◌, ap, sym}
use Rattle.vk_base.specs.declared.call.Call.TheVariants as calls
use Rattle.vk_base.specs.declared.step.Step.TheVariants as steps
use Rattle.vk_procs.specs.Seats.{pids}
use Rattle.vk_local.specs.Access.{not_awaiting}
use Rattle.vk_local.specs.Calls.{done_by, replied_seats}
use Rattle.vk_local.proofs.Leaves.{left_seats, refused_seats}
use Rattle.vk_local.proofs.PidsStay.{pids_replied}
use Rattle.vk_local.proofs.Replied.{reply_rule}
use Rattle.vk_local.proofs.replies.reply.Goals as goal

pub returns-in-Some-clause-done : goal.returns-in-Some-clause-done
returns-in-Some-clause-done c =
    refused_seats done_by (not_awaiting c.args.procs.now c.args.pid c.args.to)
    (steps.Call c.args.pid (calls.Reply c.args.message.now c.args.to)) c.args.steps.now c.push.new.self
    (replied_seats c.args.procs.now c.args.to c.args.message.now) c.args.procs.now c.args.to c.in-Some.why
    (sym c.not_awaiting.ensures ∙ c.in-Some.is) c.push.ensures

pub returns-in-Some-clause-rule : goal.returns-in-Some-clause-rule
returns-in-Some-clause-rule c =
    reply_rule c.args.pid c.args.to c.args.message.now c.args.procs.now c.args.procs.now c.args.steps.now c.push.new.self _
    c.requires.ready c.requires.near (returns-in-Some-clause-done c)

pub returns-clause-done : goal.returns-clause-done
returns-clause-done c =
    left_seats done_by (not_awaiting c.args.procs.now c.args.pid c.args.to)
    (steps.Call c.args.pid (calls.Reply c.args.message.now c.args.to)) c.args.steps.now c.push-2.new.self
    (replied_seats c.args.procs.now c.args.to c.args.message.now) c.args.procs.now c.finish.new.self c.args.to c.push.new.self
    (sym c.not_awaiting.ensures ∙ c.in_default.is) c.finish.ensures c.push.ensures c.push-2.ensures

pub returns-clause-rule : goal.returns-clause-rule
returns-clause-rule c =
    reply_rule c.args.pid c.args.to c.args.message.now c.args.procs.now c.finish.new.self c.args.steps.now c.push-2.new.self _
    c.requires.ready c.requires.near (returns-clause-done c)

pub returns-clause-pids : goal.returns-clause-pids
returns-clause-pids c =
    ap pids (returns-clause-done c).seats ∙ pids_replied c.args.procs.now c.args.pid c.args.to c.args.message.now
