use Rattle.std.proofs.Common.{arith}
use Rattle.vk_edge.proofs.LineEnds.{none_at_end, none_further, none_more}
use Rattle.vk_edge.proofs.buffer.line_end.Goals as goal

pub loop-at-init : goal.loop-at-init
loop-at-init c = (omega arith, none_at_end c.args.bytes.now)

pub loop-at-preserved : goal.loop-at-preserved
loop-at-preserved c =
    let some = c.loop-at-test.true in (
      omega (arith, c.loop-at.invariant.0),
      none_more c.args.bytes.now c.loop-at.at (omega (arith, some)) c.loop-at.invariant.0
          c.if-bytes-at-eq10.false c.loop-at.invariant.1,
    )

pub returns-clause-none : goal.returns-clause-none
returns-clause-none c none = none_further c.args.bytes.now c.loop-at.at c.args.from (omega (arith, c.loop-at-test.false)) c.loop-at.invariant.1
