use Rattle.vk_base.specs.declared.kernel.Stage.TheVariants as stages
use Rattle.v_machine.specs.Sends.{at_stage}
use Rattle.std.proofs.Common.{ap, ◌∙◌}
use Rattle.std.proofs.lemmas.Result.{on_ok_weaker, on_err_weaker}
use Rattle.v_machine.specs.Begun.{behind}
use Rattle.v_machine.proofs.Behind.{changed, ended_either, live_fixes}
use Rattle.v_machine.proofs.tables.begun.answer_with.Goals as goal

pub invariant_of-sends : goal.invariant_of-sends
invariant_of-sends c = (
  ended_either (at_stage (stages.Replied c.args.reply.message c.args.reply.dest c.args.reply.bytes)) c.sends.inside.forgotten
      c.args.number c.saturating_sub-number.result c.sends.inside.rest c.answer_with.new.sends
      c.args.sends.now c.sends.invariant.0 c.saturating_sub-number.ensures c.sends.view_is (live_fixes (at_stage (stages.Replied
      c.args.reply.message c.args.reply.dest c.args.reply.bytes)) c.args.sends.now c.args.number c.requires) c.answer_with.result
      c.answer_with.ensures.ok c.answer_with.ensures.err,
  c.sends.invariant.1,
)

pub returns-clause-ok : goal.returns-clause-ok
returns-clause-ok c = on_ok_weaker c.answer_with.result (changed (at_stage (stages.Replied c.args.reply.message c.args.reply.dest
    c.args.reply.bytes)) c.sends.inside.forgotten c.args.number c.saturating_sub-number.result c.sends.inside.rest c.answer_with.new.sends
    c.args.sends.now c.sends.invariant.0 c.saturating_sub-number.ensures c.sends.view_is (live_fixes (at_stage (stages.Replied
    c.args.reply.message c.args.reply.dest c.args.reply.bytes)) c.args.sends.now c.args.number c.requires)) c.answer_with.ensures.ok

pub returns-clause-err : goal.returns-clause-err
returns-clause-err c = on_err_weaker c.answer_with.result (λ same. ap (behind c.sends.inside.forgotten) same ∙ c.sends.view_is)
    c.answer_with.ensures.err
