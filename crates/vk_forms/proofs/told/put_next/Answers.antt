use Rattle.std.proofs.Common.{sym, ◌∙◌}
use Rattle.vk_forms.proofs.Telling.{again_told, first_told, next_told}
use Rattle.vk_forms.proofs.told.put_next.Goals as goal

pub returns-then-not-is_begun : goal.returns-then-not-is_begun
returns-then-not-is_begun c more =
    first_told c.args.config.now.specs c.args.told.some c.args.told.last.now c.args.slot.now more _ _
    (sym c.is_begun.ensures ∙ c.if-not-is_begun.true) c.in_ok-put_slot.ensures

pub returns-then-is_last : goal.returns-then-is_last
returns-then-is_last c more =
    again_told c.args.config.now.specs c.args.told.some c.args.told.last.now c.args.slot.now more _
    (sym c.is_begun.ensures ∙ c.if-not-is_begun.false) (sym c.if-is_last.ensures)

pub returns : goal.returns
returns c more =
    next_told c.args.config.now.specs c.args.told.some c.args.told.last.now c.args.slot.now more _ _
    (sym c.is_begun.ensures ∙ c.if-not-is_begun.false) (sym c.if-is_last.ensures) c.in_ok-put_separated.ensures
