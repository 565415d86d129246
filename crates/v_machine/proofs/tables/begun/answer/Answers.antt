use Rattle.std.proofs.Common.{[]}
use Rattle.vk_base.specs.declared.kernel.Stage.TheVariants as stages
use Rattle.v_machine.specs.Sends.{at_stage}
use Rattle.v_machine.proofs.Behind.{changed, changed_ended, live_fixes}
use Rattle.v_machine.proofs.tables.begun.answer.Goals as goal

pub invariant_of-sends : goal.invariant_of-sends
invariant_of-sends c = (
  changed_ended (at_stage (stages.Replied c.args.message 0 [])) c.sends.inside.forgotten c.args.number c.saturating_sub-number.result
      c.sends.inside.rest c.answer.new.sends
      c.args.sends.now c.sends.invariant.0 c.saturating_sub-number.ensures c.sends.view_is (live_fixes (at_stage (stages.Replied
      c.args.message 0 [])) c.args.sends.now c.args.number c.requires) c.answer.ensures,
  c.sends.invariant.1,
)

pub returns : goal.returns
returns c = changed (at_stage (stages.Replied c.args.message 0 [])) c.sends.inside.forgotten c.args.number c.saturating_sub-number.result
    c.sends.inside.rest c.answer.new.sends
    c.args.sends.now c.sends.invariant.0 c.saturating_sub-number.ensures c.sends.view_is (live_fixes (at_stage (stages.Replied
    c.args.message 0 [])) c.args.sends.now c.args.number c.requires) c.answer.ensures
