use Rattle.std.proofs.Common.{◌∙◌, arith}
use Rattle.std.proofs.lemmas.Grind.{common_steps}
use Rattle.vk_event.proofs.NodeReading.{ends, line_more, stops}
use Rattle.vk_event.proofs.node.read_logs.Goals as goal

pub returns-in_err-due : goal.returns-in_err-due
returns-in_err-due c =
    let why = stops _ _ _ _ _ _ _ _ _ _ _ c.loop-words.invariant.same c.in-Some.ensures.line c.in_err-due.ensures in
    grind (arith, common_steps)

pub loop-words-preserved : goal.loop-words-preserved
loop-words-preserved c = record {
  within = c.in-Some.ensures.next.1;
  small = omega (arith, c.in-Some.ensures.next.0, c.loop-words.invariant.small);
  on = c.in_ok-due.ensures.1;
  same = c.loop-words.invariant.same ∙ line_more _ _ _ _ _ _ _ _ c.in-Some.ensures.line c.in_ok-due.ensures.0;
}

pub returns : goal.returns
returns c =
    ends _ _ _ _ _ _ _ _ _ _ c.loop-words.invariant.same c.in_default.ensures.line c.loop-words.invariant.on c.end.ensures
