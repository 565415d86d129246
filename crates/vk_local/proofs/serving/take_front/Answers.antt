use Rattle.std.proofs.Common.{◌∙◌, sym}
use Rattle.vk_local.proofs.Fronts.{first_taken, none_taken}
use Rattle.vk_local.proofs.serving.take_front.Goals as goal

pub returns-then-not-waits_at-clause-front : goal.returns-then-not-waits_at-clause-front
returns-then-not-waits_at-clause-front c =
    sym (none_taken c.args.procs.now c.args.queues.now.lists c.args.pid c.in_ok-list.list (sym c.in_ok-list.ensures.place)
    (sym c.waits_at.ensures ∙ c.if-not-waits_at.true))

pub returns-clause-front : goal.returns-clause-front
returns-clause-front c =
    c.pop_front.ensures.first
    ∙ sym (first_taken c.args.procs.now c.args.queues.now.lists c.args.pid c.in_ok-list.list (sym c.in_ok-list.ensures.place)
    (sym c.waits_at.ensures ∙ c.if-not-waits_at.false))
