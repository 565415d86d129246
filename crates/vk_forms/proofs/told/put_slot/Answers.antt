use Rattle.std.proofs.Common.{ap, sym, ◌++◌, ◌∙◌}
use Rattle.vk_forms.specs.Faults.{kind_text}
use Rattle.vk_forms.proofs.Telling.{end_text, named_text}
use Rattle.vk_forms.proofs.told.put_slot.Goals as goal

pub returns-then-is_empty : goal.returns-then-is_empty
returns-then-is_empty c =
    c.in_ok-put.ensures.ok ∙ ap (λ x. c.args.into.now.items ++ x) (sym (end_text c.args.config.now.specs c.args.slot.now (sym c.if-is_empty.ensures)))

pub returns : goal.returns
returns c =
    c.in_ok-put_kind.ensures ∙ ap (λ x. c.args.into.now.items ++ x)
    (ap (λ k. kind_text c.args.config.now.specs k c.args.slot.now) c.kind_of-kind.ensures
    ∙ sym (named_text c.args.config.now.specs c.args.slot.now (sym c.if-is_empty.ensures)))
