use Rattle.std.proofs.Common.{ℕ, ◌+◌, ap}
use Rattle.vk_event.proofs.ScenarioLines.{as_err, as_ok, ports_read}
use Rattle.vk_event.proofs.scenario.end.Goals as goal

pub returns-in-Ok-clause-scenario : goal.returns-in-Ok-clause-scenario
returns-in-Ok-clause-scenario c =
    as_ok c.close.result _
    (ports_read c.close.result c.args.config c.args.tasks.items c.args.line _ _ _ c.in-Ok.field-0.ports c.in-Ok.ensures.read
    (ap (λ (m : ℕ). c.args.line + m) c.len.ensures) c.close.ensures)

pub returns-in-Ok-clause-refused : goal.returns-in-Ok-clause-refused
returns-in-Ok-clause-refused c =
    as_err c.close.result _
    (ports_read c.close.result c.args.config c.args.tasks.items c.args.line _ _ _ c.in-Ok.field-0.ports c.in-Ok.ensures.read
    (ap (λ (m : ℕ). c.args.line + m) c.len.ensures) c.close.ensures)
