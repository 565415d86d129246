use Rattle.std.proofs.Common.{arith}
use Rattle.v_machine.proofs.StepLemmas.{collect_allowed}
use Rattle.v_machine.proofs.steps.messages.collect.Goals as goal

pub returns : goal.returns
returns c = λ room.
    let place = c.in-Some.ensures.here.place in
    let there = c.proc.ensures c.args.pid place in (
      record {
        effect = collect_allowed _ _ c.args.pid _ c.call.result c.answer.result there
            (grind (arith, c.finished.ensures, c.in-Some-finished.is, c.call.ensures, c.answer.ensures))
            (c.put_activity.ensures.kernel c.args.pid _ place there);
        indexed = c.put_activity.ensures.indexed c.requires.indexed;
      },
      omega arith,
    )
