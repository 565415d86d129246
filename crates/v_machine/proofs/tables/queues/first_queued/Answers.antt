use Rattle.std.proofs.Common.{sym, ap, ◌∙◌}
use Rattle.vk_base.specs.Steps.{first_of}
use Rattle.v_machine.proofs.Indexes.{first_if, first_none}
use Rattle.v_machine.proofs.tables.queues.first_queued.Goals as goal

pub returns-then-is_queued-clause-first : goal.returns-then-is_queued-clause-first
returns-then-is_queued-clause-first c =
    sym (ap first_of (sym c.loop-name.invariant.same)
    ∙ first_if _ c.loop-name.queue c.in-Some.name (sym c.in-Some.is ∙ c.front.ensures) (sym c.is_queued.ensures ∙ c.if-is_queued.true))

pub returns-clause-first : goal.returns-clause-first
returns-clause-first c =
    sym (ap first_of (sym c.loop-name.invariant.same) ∙ first_none _ c.loop-name.queue (sym c.in_default.is ∙ c.front.ensures))
