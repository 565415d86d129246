use Rattle.v_machine.specs.Sends.{dropped_to}
use Rattle.v_machine.proofs.Behind.{changed, changed_ended, dropped_to_fixes}
use Rattle.v_machine.proofs.tables.begun.drop_to.Goals as goal

pub invariant_of-sends : goal.invariant_of-sends
invariant_of-sends c = (
  changed_ended (dropped_to c.args.host) c.sends.inside.forgotten c.args.number c.saturating_sub-number.result c.sends.inside.rest
      c.drop_to.new.sends
      c.args.sends.now c.sends.invariant.0 c.saturating_sub-number.ensures c.sends.view_is (dropped_to_fixes c.args.host c.args.sends.now
      c.args.number) c.drop_to.ensures,
  c.sends.invariant.1,
)

pub returns : goal.returns
returns c = changed (dropped_to c.args.host) c.sends.inside.forgotten c.args.number c.saturating_sub-number.result c.sends.inside.rest
    c.drop_to.new.sends
    c.args.sends.now c.sends.invariant.0 c.saturating_sub-number.ensures c.sends.view_is (dropped_to_fixes c.args.host c.args.sends.now
    c.args.number) c.drop_to.ensures
