use Rattle.std.proofs.Common.{◌∙◌, ap, refl, sym}
use Rattle.vk_base.specs.declared.call.Call.TheVariants as calls
use Rattle.vk_base.specs.declared.step.Step.TheVariants as steps
use Rattle.vk_procs.specs.Seats.{pids}
use Rattle.vk_local.specs.Calls.{done_by, forward_refusal, forwarded, handed_over, queued, steps_of, tables_of}
use Rattle.vk_local.proofs.ForwardRules.{forward_rule}
use Rattle.vk_local.proofs.Leaves.{left_served, refused_tables}
use Rattle.vk_local.proofs.PidsStay.{pids_forwarded}
use Rattle.vk_local.proofs.forwards.forward.Goals as goal

pub returns-in-Some-clause-done : goal.returns-in-Some-clause-done
returns-in-Some-clause-done c =
    let t = tables_of c.args.procs.now c.args.queues.now.lists c.args.aliens.now in
    let m = c.args.message.now in
    refused_tables done_by (forward_refusal c.args.procs.now c.args.pid c.args.from c.args.to)
    (steps.Call c.args.pid (calls.Forward m c.args.from c.args.to)) c.args.steps.now c.push.new.self
    (handed_over t c.args.from m c.args.to) t (steps_of (forwarded t c.args.from m c.args.to) c.args.to) c.in-Some.why
    (sym c.forward_refusal.ensures ∙ c.in-Some.is) c.push.ensures

pub returns-in-Some-clause-rule : goal.returns-in-Some-clause-rule
returns-in-Some-clause-rule c =
    forward_rule c.args.pid c.args.from c.args.message.now c.args.to
    (tables_of c.args.procs.now c.args.queues.now.lists c.args.aliens.now)
    c.args.procs.now c.args.queues.now.lists c.args.aliens.now c.args.steps.now c.push.new.self _ c.requires.ready c.requires.near
    (returns-in-Some-clause-done c)

pub returns-clause-done : goal.returns-clause-done
returns-clause-done c =
    let t = tables_of c.args.procs.now c.args.queues.now.lists c.args.aliens.now in
    let m = c.args.message.now in
    left_served done_by (forward_refusal c.args.procs.now c.args.pid c.args.from c.args.to)
    (steps.Call c.args.pid (calls.Forward m c.args.from c.args.to)) c.args.steps.now c.serve.new.steps
    (forwarded t c.args.from m c.args.to) t (tables_of c.serve.new.procs c.serve.new.queues.lists c.serve.new.aliens) c.args.to
    c.forward.new.self c.enqueue.new.queues.lists c.args.aliens.now c.push.new.self
    (sym c.forward_refusal.ensures ∙ c.in_default.is) c.forward.ensures
    (c.enqueue.ensures.lists ∙ ap (λ s. queued s t.lists c.args.from c.args.to) c.forward.ensures) refl
    c.serve.ensures.seats c.serve.ensures.lists c.serve.ensures.slots c.push.ensures c.serve.ensures.steps

pub returns-clause-rule : goal.returns-clause-rule
returns-clause-rule c =
    forward_rule c.args.pid c.args.from c.args.message.now c.args.to
    (tables_of c.args.procs.now c.args.queues.now.lists c.args.aliens.now)
    c.serve.new.procs c.serve.new.queues.lists c.serve.new.aliens c.args.steps.now c.serve.new.steps _ c.requires.ready
    c.requires.near (returns-clause-done c)

pub returns-clause-pids : goal.returns-clause-pids
returns-clause-pids c =
    ap pids (returns-clause-done c).seats
    ∙ pids_forwarded (tables_of c.args.procs.now c.args.queues.now.lists c.args.aliens.now) c.args.pid c.args.from c.args.message.now
    c.args.to
