use Rattle.std.proofs.Common.{List, [], ◌∷◌, ◌++◌, sym, ap, ◌∙◌}
use Rattle.vk_text.proofs.Fronts.{at_refusal}
use Rattle.vk_schedule.specs.declared.event.Event.{Event}
use Rattle.vk_schedule.specs.declared.schedule.Front.{Front}
use Rattle.vk_schedule.specs.Remaining.{behind}
use Rattle.vk_schedule.proofs.RemainingEvents.{is_next, is_end, fewer, one_more, all_given, wanted}
use Rattle.vk_schedule.proofs.schedule.collect.Goals as goal

pub loop-event-preserved : goal.loop-event-preserved
loop-event-preserved c =
    one_more _ _ _ _ _ c.loop-event.invariant (is_next _ _ _ _ c.loop-event-test.true c.next.ensures.next)
    ∙ ap (λ (es : List Event). behind es c.next.new.self)
    (ap (λ (e : Event). c.loop-event.events ++ e ∷ []) (sym (c.whole.ensures ∙ c.view.ensures)) ∙ sym c.in_ok-push.ensures.ok)

pub loop-event-smaller : goal.loop-event-smaller
loop-event-smaller c = fewer _ _ _ (is_next _ _ _ _ c.loop-event-test.true c.next.ensures.next)

pub returns-in_err-push-clause-memory : goal.returns-in_err-push-clause-memory
returns-in_err-push-clause-memory c =
    at_refusal c.from_residual.result
    (wanted _ c.loop-event.reader c.loop-event.events _ c.loop-event.invariant (c.next.ensures.lawful c.loop-event-test.true).1)

pub into_front-front-requires : goal.into_front-front-requires
into_front-front-requires c =
    let end = is_end _ _ _ _ c.loop-event-test.false c.next.ensures.next in
    ap (λ (f : Front). f.schedule.events) end.1 ∙ end.0

pub returns-clause-front : goal.returns-clause-front
returns-clause-front c =
    let end = is_end _ _ _ _ c.loop-event-test.false c.next.ensures.next in
    ap (λ (f : Front). let g : Front = record f { schedule = record f.schedule { events = c.loop-event.events } } in g)
    (c.into_front-front.ensures ∙ end.1)
    ∙ sym (all_given _ _ _ c.loop-event.invariant end.0)
