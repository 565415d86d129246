use Rattle.v_machine.specs.Sends.{with_written}
use Rattle.v_machine.proofs.Behind.{changed, changed_ended, written_fixes}
use Rattle.v_machine.proofs.tables.begun.put_done.Goals as goal

pub invariant_of-sends : goal.invariant_of-sends
invariant_of-sends c = (
  changed_ended (with_written c.args.done) c.sends.inside.forgotten c.args.number c.saturating_sub-number.result c.sends.inside.rest
      c.put_done.new.sends
      c.args.sends.now c.sends.invariant.0 c.saturating_sub-number.ensures c.sends.view_is (written_fixes c.args.done c.args.sends.now
      c.args.number) c.put_done.ensures,
  c.sends.invariant.1,
)

pub returns : goal.returns
returns c = changed (with_written c.args.done) c.sends.inside.forgotten c.args.number c.saturating_sub-number.result c.sends.inside.rest
    c.put_done.new.sends
    c.args.sends.now c.sends.invariant.0 c.saturating_sub-number.ensures c.sends.view_is (written_fixes c.args.done c.args.sends.now
    c.args.number) c.put_done.ensures
