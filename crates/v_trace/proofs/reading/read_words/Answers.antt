use Rattle.std.proofs.Common.{sym, ◌∙◌}
use Rattle.v_trace.proofs.Leading.{arrives, called, collects, copies, ends, fails, finds, finishes, hears, loses, no_step, opens, takes}
use Rattle.v_trace.proofs.reading.read_words.Goals as goal

pub returns-then-leads : goal.returns-then-leads
returns-then-leads c = c.read_call_step.ensures ∙ sym (called c.args.line.now (sym c.if-leads.ensures))

pub returns-then-leads-2 : goal.returns-then-leads-2
returns-then-leads-2 c = c.read_collect.ensures ∙ sym (collects c.args.line.now (sym c.if-leads-2.ensures))

pub returns-then-leads-3 : goal.returns-then-leads-3
returns-then-leads-3 c = c.read_take.ensures ∙ sym (takes c.args.line.now (sym c.if-leads-3.ensures))

pub returns-then-leads-4 : goal.returns-then-leads-4
returns-then-leads-4 c = c.read_finish.ensures ∙ sym (finishes c.args.line.now (sym c.if-leads-4.ensures))

pub returns-then-leads-5 : goal.returns-then-leads-5
returns-then-leads-5 c = c.read_copy.ensures ∙ sym (copies c.args.line.now (sym c.if-leads-5.ensures))

pub returns-then-leads-6 : goal.returns-then-leads-6
returns-then-leads-6 c = c.read_open.ensures ∙ sym (opens c.args.line.now (sym c.if-leads-6.ensures))

pub returns-then-leads-7 : goal.returns-then-leads-7
returns-then-leads-7 c = c.read_end.ensures ∙ sym (ends c.args.line.now (sym c.if-leads-7.ensures))

pub returns-then-leads-8 : goal.returns-then-leads-8
returns-then-leads-8 c = c.read_arrive.ensures ∙ sym (arrives c.args.line.now (sym c.if-leads-8.ensures))

pub returns-then-leads-9 : goal.returns-then-leads-9
returns-then-leads-9 c = c.read_fail.ensures ∙ sym (fails c.args.line.now (sym c.if-leads-9.ensures))

pub returns-then-leads-10 : goal.returns-then-leads-10
returns-then-leads-10 c = c.read_hear.ensures ∙ sym (hears c.args.line.now (sym c.if-leads-10.ensures))

pub returns-then-leads-11 : goal.returns-then-leads-11
returns-then-leads-11 c = c.read_found.ensures ∙ sym (finds c.args.line.now (sym c.if-leads-11.ensures))

pub returns-then-leads-12 : goal.returns-then-leads-12
returns-then-leads-12 c = c.read_lost.ensures ∙ sym (loses c.args.line.now (sym c.if-leads-12.ensures))

pub returns-else-leads-12 : goal.returns-else-leads-12
returns-else-leads-12 c =
    sym (no_step c.args.line.now
    (sym c.if-leads.ensures)
    (sym c.if-leads-2.ensures)
    (sym c.if-leads-3.ensures)
    (sym c.if-leads-4.ensures)
    (sym c.if-leads-5.ensures)
    (sym c.if-leads-8.ensures)
    (sym c.if-leads-7.ensures)
    (sym c.if-leads-6.ensures)
    (sym c.if-leads-9.ensures)
    (sym c.if-leads-10.ensures)
    (sym c.if-leads-11.ensures)
    (sym c.if-leads-12.ensures))
