use Rattle.std.proofs.Common.{ap, length, sym, ◌+◌, ◌∙◌}
use Rattle.vk_forms.proofs.Telling.{whole_told, word_told}
use Rattle.vk_forms.proofs.fault.fault_text.Goals as goal

pub returns-then-is_whole : goal.returns-then-is_whole
returns-then-is_whole c =
    whole_told c.args.config.now.specs c.args.text c.args.line.now c.new-told.result.items _ (sym c.if-is_whole.ensures)
    c.new-told.ensures.items c.in_ok-write_whole.ensures

pub write_fault-requires : goal.write_fault-requires
write_fault-requires c =
    sym (ap (λ l. c.mark_of-mark.result.words + length l) c.mark_of-mark.ensures.left) ∙ c.mark_of-mark.ensures.words

pub returns : goal.returns
returns c =
    word_told c.args.config.now.specs c.args.text c.args.line.now c.new-told.result.items _ c.mark_of-mark.result.at (sym c.if-is_whole.ensures)
    c.mark_of-mark.ensures.within c.mark_of-mark.ensures.left c.new-told.ensures.items c.in_ok-write_fault.ensures
