use Rattle.std.proofs.Common.{Err, ◌<◌, List, get_or, length, subst, sym, take, ap, ◌∙◌, arith}
use Rattle.std.proofs.lemmas.Result.{err_from_is_err_and}
use Rattle.vk_schedule.specs.declared.event.Event.{Event}
use Rattle.vk_picture.specs.declared.picture.EventRow.{EventRow}
use Rattle.vk_draw.specs.Playing.{ArePlayed}
use Rattle.vk_draw.proofs.Answered.{event_refused}
use Rattle.vk_draw.proofs.Played.{acts, all_fit, played_all, played_more, played_none, somewhere, too_large}
use Rattle.vk_draw.proofs.playing.rows_of.Goals as goal

pub loop-event-init : goal.loop-event-init
loop-event-init c =
    let s = c.args.schedule.now in
    let now = c.args.cluster.now in
    subst (λ (rows : List EventRow). ArePlayed s.config s.events 0 rows now) (sym c.empty-rows.ensures)
    (played_none s.config s.events now c.requires.stands)

pub put_event-requires-clause-few : goal.put_event-requires-clause-few
put_event-requires-clause-few c =
    let many = c.loop-event.invariant.many in
    let low = c.loop-event-test.true in
    let few = c.requires.few in
    omega (arith, many, low, few)

pub put_event-requires-clause-somewhere : goal.put_event-requires-clause-somewhere
put_event-requires-clause-somewhere c =
    somewhere c.args.schedule.now c.loop-event.event-index c.loop-event.cluster c.loop-event.invariant.had

pub put_event-requires-clause-actors : goal.put_event-requires-clause-actors
put_event-requires-clause-actors c =
    acts c.args.schedule.now c.loop-event.event-index c.loop-event.cluster c.loop-event.invariant.had
    c.event-item.result (subst (λ (es : List Event). c.loop-event.event-index < length es) c.requires.events c.loop-event-test.true)
    (c.event-item.is ∙ ap (λ (es : List Event). get_or es c.loop-event.event-index c.event-item.result) c.requires.events)
    c.requires.lawful.events

pub loop-event-preserved : goal.loop-event-preserved
loop-event-preserved c =
    let s = c.args.schedule.now in
    played_more s c.loop-event.event-index c.loop-event.rows c.loop-event.cluster c.loop-event.invariant
    c.event-item.result (subst (λ (es : List Event). c.loop-event.event-index < length es) c.requires.events c.loop-event-test.true)
    (c.event-item.is ∙ ap (λ (es : List Event). get_or es c.loop-event.event-index c.event-item.result) c.requires.events)
    c.put_event.new.rows c.put_event.new.cluster c.in_ok-put_event.ensures.room
    (c.in_ok-put_event.ensures.had s.config (take c.loop-event.event-index s.events) c.loop-event.invariant.had.stands)

pub returns-in_err-put_event-clause-refused : goal.returns-in_err-put_event-clause-refused
returns-in_err-put_event-clause-refused c =
    let few = c.requires.few in
    let same = ap (λ (es : List Event). length es) c.requires.events in
    let left = err_from_is_err_and c.from_residual.result c.from_residual.ensures.1 in
    rw (left.1, left.2)
    (event_refused _ _
    (λ limit. too_large c.args.schedule.now c.loop-event.event-index c.loop-event.cluster c.loop-event.invariant.had
    c.event-item.result (subst (λ (es : List Event). c.loop-event.event-index < length es) c.requires.events c.loop-event-test.true)
    (c.event-item.is ∙ ap (λ (es : List Event). get_or es c.loop-event.event-index c.event-item.result) c.requires.events)
    (omega (arith, few, same)) (c.in_err-put_event.ensures.refused (ap Err limit))))

pub returns-clause-rows : goal.returns-clause-rows
returns-clause-rows c =
    let over = c.loop-event-test.false in
    let same = ap (λ (es : List Event). length es) c.requires.events in
    played_all c.args.schedule.now c.loop-event.event-index c.loop-event.rows c.loop-event.cluster c.loop-event.invariant
    (omega (arith, over, same))

pub returns-clause-fits : goal.returns-clause-fits
returns-clause-fits c =
    let over = c.loop-event-test.false in
    let same = ap (λ (es : List Event). length es) c.requires.events in
    all_fit c.args.schedule.now c.loop-event.event-index c.loop-event.cluster c.loop-event.invariant.had
    (omega (arith, over, same))
