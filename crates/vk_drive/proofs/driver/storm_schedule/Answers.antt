use Rattle.std.proofs.Common.{◌≡◌, ap, subst, ◌∙◌, arith}
use Rattle.std.proofs.lemmas.Grind.{common_steps}
unfoldable use Rattle.vk_drive.specs.Storms.{storm_after}
use Rattle.vk_drive.proofs.Fronts.{FitsFront, fits_all, too_much}
use Rattle.vk_drive.proofs.SoFar.{begun, events_more, few_events, goes_on, may_go_on, no_events}
use Rattle.vk_drive.proofs.driver.storm_schedule.Goals as goal

pub loop-event-init : goal.loop-event-init
loop-event-init c = record {
  so_far = begun c.args.n c.in_ok-driver.driver c.in_ok-driver.ensures.driver c.in_ok-driver.ensures.state;
  events_are = c.empty-events.ensures ∙ no_events c.args.n;
}

pub advance-requires : goal.advance-requires
advance-requires c =
    may_go_on c.args.n c.loop-event._event c.loop-event.driver c.loop-event.invariant.so_far c.loop-event-test.true c.requires

pub loop-event-preserved : goal.loop-event-preserved
loop-event-preserved c =
    let so_far = c.loop-event.invariant.so_far in
    let low = few_events c.args.n c.loop-event._event c.loop-event-test.true c.requires in
    let played = c.in_ok-advance.ensures.played _ so_far.driver low in
    record {
      so_far = goes_on c.args.n c.loop-event._event c.loop-event.driver _ so_far played;
      events_are =
          events_more c.args.n c.loop-event._event c.loop-event.driver _ so_far played c.loop-event.events _ _
          c.loop-event.invariant.events_are (c.whole.ensures ∙ c.view.ensures) c.in_ok-push.ensures.ok;
    }

pub returns-in_err-advance-clause-limit : goal.returns-in_err-advance-clause-limit
returns-in_err-advance-clause-limit c is =
    let h = c.from_residual-in_err-advance.ensures in
    too_much c.args.n c.loop-event._event c.loop-event-test.true
    (c.in_err-advance.ensures.limit _ c.loop-event.invariant.so_far.driver (grind (arith, common_steps)))

pub returns-clause-schedule : goal.returns-clause-schedule
returns-clause-schedule c =
    let n = c.args.n in
    let all : c.loop-event._event ≡ n = omega arith in
    let events = c.loop-event.invariant.events_are ∙ ap (λ k. (storm_after n k).events) all in
    (λ i. record { config = c.loop-event.invariant.so_far.driver.config i; events = events i })

pub returns-clause-fits : goal.returns-clause-fits
returns-clause-fits c =
    let all : c.loop-event._event ≡ c.args.n = omega arith in
    fits_all c.args.n (subst (FitsFront c.args.n) all c.loop-event.invariant.so_far.fits)
