use Rattle.vk_base.specs.declared.kernel.Stage.TheVariants as stages
use Rattle.v_machine.specs.Sends.{at_stage}
use Rattle.v_machine.proofs.Behind.{changed, changed_ended, live_fixes}
use Rattle.v_machine.proofs.tables.begun.queue.Goals as goal

pub invariant_of-sends : goal.invariant_of-sends
invariant_of-sends c = (
  changed_ended (at_stage stages.Queued) c.sends.inside.forgotten c.args.number c.saturating_sub-number.result c.sends.inside.rest
      c.queue.new.sends
      c.args.sends.now c.sends.invariant.0 c.saturating_sub-number.ensures c.sends.view_is (live_fixes (at_stage stages.Queued)
      c.args.sends.now c.args.number c.requires) c.queue.ensures,
  c.sends.invariant.1,
)

pub returns : goal.returns
returns c = changed (at_stage stages.Queued) c.sends.inside.forgotten c.args.number c.saturating_sub-number.result c.sends.inside.rest
    c.queue.new.sends
    c.args.sends.now c.sends.invariant.0 c.saturating_sub-number.ensures c.sends.view_is (live_fixes (at_stage stages.Queued)
    c.args.sends.now c.args.number c.requires) c.queue.ensures
