use Rattle.std.proofs.Common.{map, ap, ◌∙◌}
use Rattle.std.specs.Prelude.{string_bytes}
use Rattle.vk_draw.proofs.Reported.{report_is}
use Rattle.vk_draw.proofs.report.report_of.Goals as goal

pub returns-in-Some-Done : goal.returns-in-Some-Done
returns-in-Some-Done c = λ s spells.
    report_is _ c.args.text.now _ _ c.vkernel_alone.new.output.written s (ap (map string_bytes) c.deref.ensures.value ∙ c.in_ok-words.ensures)
    (c.new-input.ensures ∙ c.in_ok-from_slice.ensures.items) c.new-output.ensures.written spells
    (c.in-Some-Done.ensures.answer.done c.in-Some-Done.field-0-is)
