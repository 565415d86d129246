use Rattle.std.proofs.Common.{ap, ◌++◌, ◌∙◌}
use Rattle.vk_forms.proofs.fault.put_fault.Goals as goal

pub returns-clause-ok : goal.returns-clause-ok
returns-clause-ok c = (
  c.in_ok-told.told.items,
  c.in_ok-told.ensures,
  c.in_ok-put.ensures.ok ∙ ap (λ x. c.args.into.now.items ++ x) c.as_slice.ensures.value,
)
