use Rattle.vk_base.specs.Calls.{dropped_at}
use Rattle.v_machine.proofs.Behind.{changed, changed_ended, dropped_at_fixes}
use Rattle.v_machine.proofs.tables.begun.drop_at.Goals as goal

pub invariant_of-sends : goal.invariant_of-sends
invariant_of-sends c = (
  changed_ended (dropped_at c.args.gone) c.sends.inside.forgotten c.args.number c.saturating_sub-number.result c.sends.inside.rest
      c.drop_at.new.sends
      c.args.sends.now c.sends.invariant.0 c.saturating_sub-number.ensures c.sends.view_is (dropped_at_fixes c.args.gone c.args.sends.now
      c.args.number) c.drop_at.ensures,
  c.sends.invariant.1,
)

pub returns : goal.returns
returns c = changed (dropped_at c.args.gone) c.sends.inside.forgotten c.args.number c.saturating_sub-number.result c.sends.inside.rest
    c.drop_at.new.sends
    c.args.sends.now c.sends.invariant.0 c.saturating_sub-number.ensures c.sends.view_is (dropped_at_fixes c.args.gone c.args.sends.now
    c.args.number) c.drop_at.ensures
