use Rattle.std.proofs.Common.{sym, ap}
use Rattle.vk_text.specs.Lines.{lines_of}
use Rattle.vk_forms.specs.Forms.{opening_rows}
use Rattle.vk_forms.proofs.table.opening_rows.Goals as goal

pub returns-in-Schedule : goal.returns-in-Schedule
unfolding lines_of
returns-in-Schedule c = sym (ap opening_rows c.in-Schedule.is)

pub returns-in-Scenario : goal.returns-in-Scenario
unfolding lines_of
returns-in-Scenario c = sym (ap opening_rows c.in-Scenario.is)

pub returns-in-Trace : goal.returns-in-Trace
unfolding lines_of
returns-in-Trace c = sym (ap opening_rows c.in-Trace.is)

pub returns-in-Observed : goal.returns-in-Observed
unfolding lines_of
returns-in-Observed c = sym (ap opening_rows c.in-Observed.is)

pub returns-in-Nodes : goal.returns-in-Nodes
unfolding lines_of
returns-in-Nodes c = sym (ap opening_rows c.in-Nodes.is)
