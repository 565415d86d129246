use Rattle.std.proofs.Common.{sym, ◌∙◌}
use Rattle.vk_schedule.proofs.Leading.{called, collects, delivers, no_event, ticks}
use Rattle.vk_schedule.proofs.line.read_words.Goals as goal

pub returns-then-leads : goal.returns-then-leads
returns-then-leads c = c.read_call_event.ensures ∙ sym (called c.args.line.now (sym c.if-leads.ensures))

pub returns-then-leads-2 : goal.returns-then-leads-2
returns-then-leads-2 c = c.read_collect.ensures ∙ sym (collects c.args.line.now (sym c.if-leads-2.ensures))

pub returns-then-leads-3 : goal.returns-then-leads-3
returns-then-leads-3 c = c.read_tick.ensures ∙ sym (ticks c.args.line.now (sym c.if-leads-3.ensures))

pub returns-then-leads-4 : goal.returns-then-leads-4
returns-then-leads-4 c = c.read_delivery.ensures ∙ sym (delivers c.args.line.now (sym c.if-leads-4.ensures))

pub returns-else-leads-4 : goal.returns-else-leads-4
returns-else-leads-4 c =
    sym (no_event c.args.line.now (sym c.if-leads.ensures) (sym c.if-leads-2.ensures)
    (sym c.if-leads-3.ensures) (sym c.if-leads-4.ensures))
