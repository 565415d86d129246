use Rattle.std.proofs.Common.{Err, ◌<◌, List, get_or, length, subst, take, ap, ◌∙◌, arith}
use Rattle.std.proofs.lemmas.Result.{err_from_is_err_and}
use Rattle.vk_schedule.specs.declared.event.Event.{Event}
use Rattle.vk_text.specs.Texts.{shown}
use Rattle.vk_draw.proofs.Answered.{event_refused}
use Rattle.vk_draw.proofs.Played.{acts, all_fit, somewhere, told_all, told_more, told_none, too_large}
use Rattle.vk_draw.proofs.lines.put_events.Goals as goal

pub loop-event-init : goal.loop-event-init
loop-event-init c =
    let s = c.args.schedule.now in
    told_none s.config s.events (shown c.args.text.now) c.args.cluster.now c.requires.title c.requires.stands

pub put_event-requires-clause-somewhere : goal.put_event-requires-clause-somewhere
put_event-requires-clause-somewhere c =
    somewhere c.args.schedule.now c.loop-event.event-index c.loop-event.cluster c.loop-event.invariant.had

pub put_event-requires-clause-actors : goal.put_event-requires-clause-actors
put_event-requires-clause-actors c =
    acts c.args.schedule.now c.loop-event.event-index c.loop-event.cluster c.loop-event.invariant.had
    c.event-item.result (subst (λ (es : List Event). c.loop-event.event-index < length es) c.requires.events c.loop-event-test.true)
    (c.event-item.is ∙ ap (λ (es : List Event). get_or es c.loop-event.event-index c.event-item.result) c.requires.events)
    c.requires.lawful.events

pub loop-event-preserved : goal.loop-event-preserved
loop-event-preserved c =
    let s = c.args.schedule.now in
    told_more s c.loop-event.event-index (shown c.loop-event.text) c.loop-event.cluster c.loop-event.invariant
    c.event-item.result (subst (λ (es : List Event). c.loop-event.event-index < length es) c.requires.events c.loop-event-test.true)
    (c.event-item.is ∙ ap (λ (es : List Event). get_or es c.loop-event.event-index c.event-item.result) c.requires.events)
    (shown c.put_event.new.text) c.put_event.new.cluster c.in_ok-put_event.ensures.room
    (c.in_ok-put_event.ensures.told s.config (take c.loop-event.event-index s.events) c.loop-event.invariant.had.stands)

pub returns-in_err-put_event-clause-refused : goal.returns-in_err-put_event-clause-refused
returns-in_err-put_event-clause-refused c =
    let left = err_from_is_err_and c.from_residual.result c.from_residual.ensures.1 in
    rw (left.1, left.2)
    (event_refused _ _
    (λ limit. too_large c.args.schedule.now c.loop-event.event-index c.loop-event.cluster c.loop-event.invariant.had
    c.event-item.result (subst (λ (es : List Event). c.loop-event.event-index < length es) c.requires.events c.loop-event-test.true)
    (c.event-item.is ∙ ap (λ (es : List Event). get_or es c.loop-event.event-index c.event-item.result) c.requires.events)
    c.requires.lawful.few (c.in_err-put_event.ensures.refused (ap Err limit))))

pub returns-clause-lines : goal.returns-clause-lines
returns-clause-lines c =
    let over = c.loop-event-test.false in
    let same = ap (λ (es : List Event). length es) c.requires.events in
    told_all c.args.schedule.now c.loop-event.event-index (shown c.loop-event.text) c.loop-event.cluster c.loop-event.invariant
    (omega (arith, over, same))

pub returns-clause-fits : goal.returns-clause-fits
returns-clause-fits c =
    let over = c.loop-event-test.false in
    let same = ap (λ (es : List Event). length es) c.requires.events in
    all_fit c.args.schedule.now c.loop-event.event-index c.loop-event.cluster c.loop-event.invariant.had
    (omega (arith, over, same))
