use Rattle.std.proofs.Common.{sym, ap, refl, ◌∙◌, None, arith}
use Rattle.vk_schedule.specs.declared.schedule.Front.{Front}
use Rattle.vk_schedule.proofs.RemainingEvents.{nothing_left, line_left, none_at_limit, event_next, given_fits, line_spelled}
use Rattle.vk_schedule.proofs.reader.EventReader.next_with_line.Goals as goal

pub returns-in_default-clause-next : goal.returns-in_default-clause-next
returns-in_default-clause-next c =
    (ap (λ (f : Front). f.schedule.events) (sym c.self.view_is ∙ nothing_left _ _ _ _ c.in_default.ensures.line), refl)

pub returns-then-self-ge-EVENTS-clause-next : goal.returns-then-self-ge-EVENTS-clause-next
returns-then-self-ge-EVENTS-clause-next c = (
  ap (λ (f : Front). f.schedule.events) (sym c.self.view_is)
      ∙ none_at_limit _ _ _ _ _ _ c.in-Some.ensures.line (omega (arith, c.if-self-ge-EVENTS.true)),
  refl,
)

pub returns-in_default-read_event-clause-next : goal.returns-in_default-read_event-clause-next
returns-in_default-read_event-clause-next c = (
  ap (λ (f : Front). f.schedule.events)
      (sym c.self.view_is ∙ line_left _ _ _ _ _ _ None c.in-Some.ensures.line c.in_default-read_event.ensures),
  refl,
)

pub returns-clause-next : goal.returns-clause-next
returns-clause-next c =
    sym c.self.view_is
    ∙ event_next _ _ _ _ _ _ c.read_event.new.into c.in-Some.ensures.line c.in-Some-read_event.ensures
    (omega (arith, c.if-self-ge-EVENTS.false))

pub returns-clause-lawful : goal.returns-clause-lawful
returns-clause-lawful c = given_fits _ _ _ _ _ _ _ c.self.view_is c.in-Some-read_event.ensures

pub returns-clause-text : goal.returns-clause-text
returns-clause-text c = line_spelled _ _ _ c.in-Some-read_event.ensures
