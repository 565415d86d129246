use Rattle.v_machine.proofs.MoveSteps.{written_to, written_from}
use Rattle.v_machine.proofs.steps.transfers.written_at.Goals as goal

pub returns-in-To-clause-there : goal.returns-in-To-clause-there
returns-in-To-clause-there c = written_to c.args.store.now c.args.name c.args.moving c.args.opened.now c.waiting_at.result c.in-To.is
    c.waiting_at.ensures.here c.waiting_at.ensures.there

pub returns-in-From-clause-there : goal.returns-in-From-clause-there
returns-in-From-clause-there c = written_from c.args.store.now c.args.name c.args.moving c.args.opened.now c.moving_at.result c.in-From.is
    c.moving_at.ensures.here c.moving_at.ensures.there
