use Rattle.std.proofs.Common.{◌≤◌, length, List, Option, inl, sym, ap, ◌∙◌, arith, slice_get}
use Rattle.std.proofs.lemmas.Option.{slice_get_past}
use Rattle.vk_types.specs.Types.{Step}
use Rattle.vk_c.specs.Border.{text_status}
use Rattle.vk_c.proofs.texts.put_text.Goals as goal

pub returns-then-at-len-clause-step : goal.returns-then-at-len-clause-step
returns-then-at-len-clause-step c = λ e. record {
  step = c.get.result;
  found = ap (λ (steps : List Step). slice_get steps c.args.at) (sym c.steps-steps.ensures) ∙ c.get.ensures;
  text = c.put_step_text.ensures.step e;
}

-- there is no step in a place behind the last
pub returns-else-at-len-clause-status : goal.returns-else-at-len-clause-status
returns-else-at-len-clause-status c =
    let past : length c.args.host.now.doing.steps ≤ c.args.at = omega (arith, c.if-at-len.false, c.len.ensures.len, ap length c.steps-steps.ensures) in
    inl (ap (λ (o : Option Step). text_status o (length c.args.room.now)) (sym (slice_get_past _ _ past)))
