use Rattle.std.proofs.lemmas.Result.{on_err_weaker}
use Rattle.v_machine.proofs.Changes.{set_numbered-same}
use Rattle.v_machine.proofs.tables.sends.hand_on.Goals as goal

pub returns-in-Some-clause-err : goal.returns-in-Some-clause-err
returns-in-Some-clause-err c = on_err_weaker c.hand_on.result
    (λ same. set_numbered-same c.args.number c.args.sends.now c.in-Some.sent.now _ c.in-Some.ensures.value same)
    c.hand_on.ensures.err
