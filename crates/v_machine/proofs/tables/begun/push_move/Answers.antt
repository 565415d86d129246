use Rattle.v_machine.specs.Sends.{with_begun}
use Rattle.std.proofs.Common.{ap, ◌∙◌}
use Rattle.std.proofs.lemmas.Result.{on_ok_weaker, on_err_weaker}
use Rattle.v_machine.specs.Begun.{behind}
use Rattle.v_machine.proofs.Behind.{changed, ended_either, live_fixes}
use Rattle.v_machine.proofs.tables.begun.push_move.Goals as goal

pub invariant_of-sends : goal.invariant_of-sends
invariant_of-sends c = (
  ended_either (with_begun c.args.begun) c.sends.inside.forgotten c.args.number c.saturating_sub-number.result c.sends.inside.rest
      c.push_move.new.sends
      c.args.sends.now c.sends.invariant.0 c.saturating_sub-number.ensures c.sends.view_is (live_fixes (with_begun c.args.begun)
      c.args.sends.now c.args.number c.requires) c.push_move.result c.push_move.ensures.ok c.push_move.ensures.err,
  c.sends.invariant.1,
)

pub returns-clause-ok : goal.returns-clause-ok
returns-clause-ok c = on_ok_weaker c.push_move.result (changed (with_begun c.args.begun) c.sends.inside.forgotten c.args.number
    c.saturating_sub-number.result c.sends.inside.rest c.push_move.new.sends
    c.args.sends.now c.sends.invariant.0 c.saturating_sub-number.ensures c.sends.view_is (live_fixes (with_begun c.args.begun)
    c.args.sends.now c.args.number c.requires)) c.push_move.ensures.ok

pub returns-clause-err : goal.returns-clause-err
returns-clause-err c = on_err_weaker c.push_move.result (λ same. ap (behind c.sends.inside.forgotten) same ∙ c.sends.view_is)
    c.push_move.ensures.err
