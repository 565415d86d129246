use Rattle.v_machine.specs.Sends.{handed_on}
use Rattle.std.proofs.Common.{ap, ◌∙◌}
use Rattle.std.proofs.lemmas.Result.{on_ok_weaker, on_err_weaker}
use Rattle.v_machine.specs.Begun.{behind}
use Rattle.v_machine.proofs.Behind.{changed, ended_either, live_fixes}
use Rattle.v_machine.proofs.tables.begun.hand_on.Goals as goal

pub invariant_of-sends : goal.invariant_of-sends
invariant_of-sends c = (
  ended_either (handed_on c.args.shown c.args.to) c.sends.inside.forgotten c.args.number c.saturating_sub-number.result
      c.sends.inside.rest c.hand_on.new.sends
      c.args.sends.now c.sends.invariant.0 c.saturating_sub-number.ensures c.sends.view_is (live_fixes (handed_on c.args.shown c.args.to)
      c.args.sends.now c.args.number c.requires) c.hand_on.result c.hand_on.ensures.ok c.hand_on.ensures.err,
  c.sends.invariant.1,
)

pub returns-clause-ok : goal.returns-clause-ok
returns-clause-ok c = on_ok_weaker c.hand_on.result (changed (handed_on c.args.shown c.args.to) c.sends.inside.forgotten c.args.number
    c.saturating_sub-number.result c.sends.inside.rest c.hand_on.new.sends
    c.args.sends.now c.sends.invariant.0 c.saturating_sub-number.ensures c.sends.view_is (live_fixes (handed_on c.args.shown c.args.to)
    c.args.sends.now c.args.number c.requires)) c.hand_on.ensures.ok

pub returns-clause-err : goal.returns-clause-err
returns-clause-err c = on_err_weaker c.hand_on.result (λ same. ap (behind c.sends.inside.forgotten) same ∙ c.sends.view_is)
    c.hand_on.ensures.err
