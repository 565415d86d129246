use Rattle.vk_text.specs.Texts.{shown}
use Rattle.vk_report.proofs.Drafts.{front_on}
use Rattle.vk_report.proofs.StepLines.{behind_line}
use Rattle.vk_report.proofs.entry.write_steps.Goals as goal

pub returns-in_err-write_step_line-clause-front : goal.returns-in_err-write_step_line-clause-front
returns-in_err-write_step_line-clause-front c = front_on _ _ _ c.loop-at.invariant.front c.in_err-write_step_line.ensures.front

pub returns-in_err-write_step_line-clause-whole : goal.returns-in_err-write_step_line-clause-whole
returns-in_err-write_step_line-clause-whole c =
    front_on (shown c.args.text.now) _ _ c.loop-at.invariant.whole c.in_err-write_step_line.ensures.whole

pub loop-at-preserved : goal.loop-at-preserved
loop-at-preserved c = record {
  text = behind_line _ _ _ _ _ c.args.steps.now c.loop-at.at c.loop-at.invariant.text c.get.ensures c.in_ok-write_step_line.ensures.ok;
  front = front_on _ _ _ c.loop-at.invariant.front c.in_ok-write_step_line.ensures.front;
  whole = front_on (shown c.args.text.now) _ _ c.loop-at.invariant.whole c.in_ok-write_step_line.ensures.whole;
}
