use Rattle.std.proofs.Common.{sym, ap, ◌∙◌}
use Rattle.vk_forms.specs.Slots.{fits_kind}
use Rattle.vk_forms.proofs.Following.{fits_is, no_fit}
use Rattle.vk_forms.proofs.slot.fits.Goals as goal

pub returns-then-is_empty : goal.returns-then-is_empty
returns-then-is_empty c = sym (no_fit c.args.config.now.specs c.args.slot.now c.args.word.now (sym c.if-is_empty.ensures))

pub returns : goal.returns
returns c =
    c.fits_kind.ensures ∙ (ap (λ k. fits_kind c.args.config.now.specs k c.args.slot.now c.args.word.now) c.kind_of-kind.ensures
    ∙ sym (fits_is c.args.config.now.specs c.args.slot.now c.args.word.now (sym c.if-is_empty.ensures)))
