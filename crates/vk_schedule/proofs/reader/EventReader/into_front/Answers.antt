use Rattle.std.proofs.Common.{Some, None, sym, ap, ◌∙◌}
use Rattle.vk_schedule.specs.declared.event.Event.{Event}
use Rattle.vk_schedule.specs.declared.schedule.Front.{Front}
use Rattle.vk_schedule.specs.declared.schedule.TextRefusal.TheVariants as refusals
use Rattle.vk_schedule.specs.Remaining.{end_of}
use Rattle.vk_schedule.proofs.RemainingEvents.{nothing_left, line_left, one_too_many}
use Rattle.vk_schedule.proofs.reader.EventReader.into_front.Goals as goal

pub returns-in_default : goal.returns-in_default
returns-in_default c = c.ended.ensures ∙ sym (nothing_left _ _ _ _ c.in_default.ensures.line) ∙ c.self.view_is

pub returns-in-Some-read_event : goal.returns-in-Some-read_event
returns-in-Some-read_event c =
    let none = ap (λ (f : Front). f.schedule.events) c.self.view_is ∙ c.requires in
    c.ended-in-Some-read_event.ensures
    ∙ ap (λ (e : Event). end_of c.self.inside.config (Some refusals.Limit) (Some e)) (c.whole.ensures ∙ c.view.ensures)
    ∙ sym (one_too_many _ _ _ _ _ _ c.read_event.new.into c.in-Some.ensures.line c.in-Some-read_event.ensures none) ∙ c.self.view_is

pub returns : goal.returns
returns c = c.ended-2.ensures ∙ sym (line_left _ _ _ _ _ _ None c.in-Some.ensures.line c.in_default-read_event.ensures) ∙ c.self.view_is
