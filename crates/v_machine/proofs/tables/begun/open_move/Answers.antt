use Rattle.v_machine.specs.Sends.{with_opened}
use Rattle.v_machine.proofs.Behind.{changed, changed_ended, opened_fixes}
use Rattle.v_machine.proofs.tables.begun.open_move.Goals as goal

pub invariant_of-sends : goal.invariant_of-sends
invariant_of-sends c = (
  changed_ended (with_opened c.args.moving c.args.noted) c.sends.inside.forgotten c.args.number c.saturating_sub-number.result
      c.sends.inside.rest c.open_move.new.sends
      c.args.sends.now c.sends.invariant.0 c.saturating_sub-number.ensures c.sends.view_is (opened_fixes c.args.moving c.args.noted
      c.args.sends.now c.args.number) c.open_move.ensures,
  c.sends.invariant.1,
)

pub returns : goal.returns
returns c = changed (with_opened c.args.moving c.args.noted) c.sends.inside.forgotten c.args.number c.saturating_sub-number.result
    c.sends.inside.rest c.open_move.new.sends
    c.args.sends.now c.sends.invariant.0 c.saturating_sub-number.ensures c.sends.view_is (opened_fixes c.args.moving c.args.noted
    c.args.sends.now c.args.number) c.open_move.ensures
