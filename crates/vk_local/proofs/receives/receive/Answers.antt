use Rattle.std.proofs.Common.{◌∙◌, ap, refl, sym}
use Rattle.vk_base.specs.declared.step.Step.TheVariants as steps
use Rattle.vk_base.specs.Activities.{call_of}
use Rattle.vk_procs.specs.Seats.{pids}
use Rattle.vk_local.specs.Calls.{awaited, begun_by, receive_refusal, received, steps_of, tables_of}
use Rattle.vk_local.proofs.Leaves.{left_served, refused_tables}
use Rattle.vk_local.proofs.PidsStay.{pids_received}
use Rattle.vk_local.proofs.ReceiveRules.{receive_rule}
use Rattle.vk_local.proofs.receives.receive.Goals as goal

pub returns-in-Some-clause-done : goal.returns-in-Some-clause-done
returns-in-Some-clause-done c =
    let t = tables_of c.args.procs.now c.args.queues.now.lists c.args.aliens.now in
    refused_tables begun_by (receive_refusal c.args.procs.now c.args.pid c.args.waiting)
    (steps.Call c.args.pid (call_of c.args.waiting)) c.args.steps.now c.push_receive.new.steps (awaited t c.args.pid c.args.waiting) t
    (steps_of (received t c.args.pid c.args.waiting) c.args.pid) c.in-Some.why
    (sym c.receive_refusal.ensures ∙ c.in-Some.is) c.push_receive.ensures

pub returns-in-Some-clause-rule : goal.returns-in-Some-clause-rule
returns-in-Some-clause-rule c =
    receive_rule c.args.pid c.args.waiting (tables_of c.args.procs.now c.args.queues.now.lists c.args.aliens.now)
    c.args.procs.now c.args.queues.now.lists c.args.aliens.now c.args.steps.now c.push_receive.new.steps _ c.requires.ready
    c.requires.receive (returns-in-Some-clause-done c)

pub returns-clause-done : goal.returns-clause-done
returns-clause-done c =
    let t = tables_of c.args.procs.now c.args.queues.now.lists c.args.aliens.now in
    left_served begun_by (receive_refusal c.args.procs.now c.args.pid c.args.waiting)
    (steps.Call c.args.pid (call_of c.args.waiting)) c.args.steps.now c.serve.new.steps (received t c.args.pid c.args.waiting) t
    (tables_of c.serve.new.procs c.serve.new.queues.lists c.serve.new.aliens) c.args.pid
    c.wait.new.self c.args.queues.now.lists c.args.aliens.now c.push_receive.new.steps
    (sym c.receive_refusal.ensures ∙ c.in_default.is) c.wait.ensures refl refl
    c.serve.ensures.seats c.serve.ensures.lists c.serve.ensures.slots c.push_receive.ensures c.serve.ensures.steps

pub returns-clause-rule : goal.returns-clause-rule
returns-clause-rule c =
    receive_rule c.args.pid c.args.waiting (tables_of c.args.procs.now c.args.queues.now.lists c.args.aliens.now)
    c.serve.new.procs c.serve.new.queues.lists c.serve.new.aliens c.args.steps.now c.serve.new.steps _ c.requires.ready
    c.requires.receive (returns-clause-done c)

pub returns-clause-pids : goal.returns-clause-pids
returns-clause-pids c =
    ap pids (returns-clause-done c).seats
    ∙ pids_received (tables_of c.args.procs.now c.args.queues.now.lists c.args.aliens.now) c.args.pid c.args.waiting
