use Rattle.std.proofs.Common.{◌++◌, ap, sym, ◌∙◌}
use Rattle.std.proofs.lemmas.List.{take-append-drop}
use Rattle.vk_base.specs.declared.limits.TheConstants.{HEADER_BYTES}
use Rattle.vk_packet.specs.Slots.{SlotValue}
use Rattle.vk_packet.proofs.slot.Slot.framed.Goals as goal

pub returns : goal.returns
returns c =
    c.as_slice.ensures.value ∙ sym (take-append-drop HEADER_BYTES c.self.inside.bytes)
    ∙ ap (λ (s : SlotValue). s.front ++ s.packet) c.self.view_is
