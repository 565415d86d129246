use Rattle.std.proofs.Common.{Bool, ap, if◌then◌else◌, ◌∷◌, ◌++◌, ◌∙◌}
use Rattle.vk_forms.specs.Faults.{told_text}
use Rattle.vk_forms.proofs.told.put_reach.Goals as goal

pub returns-then-is_as_far : goal.returns-then-is_as_far
returns-then-is_as_far c more =
    c.in_ok-next.ensures more
    ∙ ap (λ (b : Bool). c.args.into.now.items
    ++ told_text c.args.config.now.specs c.args.told.some c.args.told.last.now (if b then c.args.reach.slot.now ∷ more else more))
    c.if-is_as_far.ensures

pub returns : goal.returns
returns c more =
    ap (λ (b : Bool). c.args.into.now.items
    ++ told_text c.args.config.now.specs c.args.told.some c.args.told.last.now (if b then c.args.reach.slot.now ∷ more else more))
    c.if-is_as_far.ensures
