use Rattle.v_machine.specs.Sends.{given_back}
use Rattle.v_machine.proofs.Behind.{changed, changed_ended, given_fixes}
use Rattle.v_machine.proofs.tables.begun.give_back.Goals as goal

pub invariant_of-sends : goal.invariant_of-sends
invariant_of-sends c = (
  changed_ended (given_back c.args.from c.args.to) c.sends.inside.forgotten c.args.number c.saturating_sub-number.result
      c.sends.inside.rest c.give_back.new.sends
      c.args.sends.now c.sends.invariant.0 c.saturating_sub-number.ensures c.sends.view_is (given_fixes c.args.from c.args.to
      c.args.sends.now c.args.number) c.give_back.ensures,
  c.sends.invariant.1,
)

pub returns : goal.returns
returns c = changed (given_back c.args.from c.args.to) c.sends.inside.forgotten c.args.number c.saturating_sub-number.result
    c.sends.inside.rest c.give_back.new.sends
    c.args.sends.now c.sends.invariant.0 c.saturating_sub-number.ensures c.sends.view_is (given_fixes c.args.from c.args.to
    c.args.sends.now c.args.number) c.give_back.ensures
