use Rattle.std.proofs.Common.{◌≡◌, sym, subst, Result, Ok}
use Rattle.std.specs.Prelude.{IfOk}
use Rattle.v_trace.specs.declared.trace.Trace.{Trace}
use Rattle.v_trace.specs.declared.trace.TraceRefusal.{TraceRefusal}
use Rattle.v_trace.proofs.RemainingSteps.{refused_whole}
use Rattle.v_trace.proofs.trace.read_trace.Goals as goal

pub returns-in-Ok-clause-trace : goal.returns-in-Ok-clause-trace
returns-in-Ok-clause-trace c =
    subst (λ (x : Result Trace TraceRefusal). IfOk c.collect.result (λ t. x ≡ Ok t)) (sym c.in-Ok.ensures.trace) c.collect.ensures.trace

pub returns-in-Ok-clause-refused : goal.returns-in-Ok-clause-refused
returns-in-Ok-clause-refused c =
    refused_whole c.args.text.now c.in-Ok.reader c.collect.result c.in-Ok.ensures.trace c.in-Ok.ensures.bad c.collect.ensures.refused
