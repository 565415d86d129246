use Rattle.std.proofs.Common.{◌∙◌, ap, refl, sym}
use Rattle.vk_base.specs.declared.call.Call.TheVariants as calls
use Rattle.vk_base.specs.declared.step.Step.TheVariants as steps
use Rattle.vk_procs.specs.Seats.{pids}
use Rattle.vk_local.specs.Calls.{begun, begun_by, queued, send_refusal, sent, steps_of, tables_of}
use Rattle.vk_local.proofs.Leaves.{left_served, refused_tables}
use Rattle.vk_local.proofs.PidsStay.{pids_sent}
use Rattle.vk_local.proofs.SendRules.{send_rule}
use Rattle.vk_local.proofs.sends.send.Goals as goal

pub returns-in-Some-clause-done : goal.returns-in-Some-clause-done
returns-in-Some-clause-done c =
    let t = tables_of c.args.procs.now c.args.queues.now.lists c.args.aliens.now in
    let m = c.args.message.now in
    refused_tables begun_by (send_refusal c.args.procs.now c.args.pid c.args.target m)
    (steps.Call c.args.pid (calls.Send c.args.target m)) c.args.steps.now c.push.new.self (begun t c.args.pid c.args.target m) t
    (steps_of (sent t c.args.pid c.args.target m) c.args.target) c.in-Some.why
    (sym c.send_refusal.ensures ∙ c.in-Some.is) c.push.ensures

pub returns-in-Some-clause-rule : goal.returns-in-Some-clause-rule
returns-in-Some-clause-rule c =
    send_rule c.args.pid c.args.target c.args.message.now (tables_of c.args.procs.now c.args.queues.now.lists c.args.aliens.now)
    c.args.procs.now c.args.queues.now.lists c.args.aliens.now c.args.steps.now c.push.new.self _ c.requires.ready c.requires.near
    c.requires.few (returns-in-Some-clause-done c)

pub returns-clause-done : goal.returns-clause-done
returns-clause-done c =
    let t = tables_of c.args.procs.now c.args.queues.now.lists c.args.aliens.now in
    let m = c.args.message.now in
    left_served begun_by (send_refusal c.args.procs.now c.args.pid c.args.target m)
    (steps.Call c.args.pid (calls.Send c.args.target m)) c.args.steps.now c.serve.new.steps (sent t c.args.pid c.args.target m) t
    (tables_of c.serve.new.procs c.serve.new.queues.lists c.serve.new.aliens) c.args.target
    c.begin_send.new.self c.enqueue.new.queues.lists c.args.aliens.now c.push.new.self
    (sym c.send_refusal.ensures ∙ c.in_default.is) c.begin_send.ensures
    (c.enqueue.ensures.lists ∙ ap (λ s. queued s t.lists c.args.pid c.args.target) c.begin_send.ensures) refl
    c.serve.ensures.seats c.serve.ensures.lists c.serve.ensures.slots c.push.ensures c.serve.ensures.steps

pub returns-clause-rule : goal.returns-clause-rule
returns-clause-rule c =
    send_rule c.args.pid c.args.target c.args.message.now (tables_of c.args.procs.now c.args.queues.now.lists c.args.aliens.now)
    c.serve.new.procs c.serve.new.queues.lists c.serve.new.aliens c.args.steps.now c.serve.new.steps _ c.requires.ready
    c.requires.near c.requires.few (returns-clause-done c)

pub returns-clause-pids : goal.returns-clause-pids
returns-clause-pids c =
    ap pids (returns-clause-done c).seats
    ∙ pids_sent (tables_of c.args.procs.now c.args.queues.now.lists c.args.aliens.now) c.args.pid c.args.target c.args.message.now
