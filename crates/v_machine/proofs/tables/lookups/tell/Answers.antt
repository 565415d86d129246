use Rattle.std.proofs.Common.{ap}
use Rattle.std.proofs.lemmas.Result.{on_err_weaker}
use Rattle.v_machine.proofs.Changes.{set_numbered-same}
use Rattle.v_machine.proofs.tables.lookups.tell.Goals as goal

pub returns-in-Some-clause-err : goal.returns-in-Some-clause-err
returns-in-Some-clause-err c = on_err_weaker c.push.result
    (λ same. set_numbered-same c.args.number c.args.lookups.now c.in-Some.lookup.now _ c.in-Some.ensures.value
    (ap (λ xs. record c.in-Some.lookup.now { candidates = xs }) same))
    c.push.ensures.err
