use Rattle.std.proofs.Common.{◌≡◌, ap, subst, ◌∙◌, arith}
use Rattle.std.proofs.lemmas.Grind.{common_steps}
use Rattle.vk_rules.specs.Histories.{history_of}
use Rattle.vk_drive.specs.Storms.{summary_by}
unfoldable use Rattle.vk_drive.specs.Storms.{storm_after}
use Rattle.vk_drive.specs.Tasks.{settings}
use Rattle.vk_drive.proofs.Fronts.{FitsFront, fits_all, too_much}
use Rattle.vk_drive.proofs.SoFar.{begun, few_events, goes_on, may_go_on}
use Rattle.vk_drive.proofs.driver.storm.Goals as goal

pub loop-event-init : goal.loop-event-init
loop-event-init c = begun c.args.n c.in_ok-driver.driver c.in_ok-driver.ensures.driver c.in_ok-driver.ensures.state

pub advance-requires : goal.advance-requires
advance-requires c =
    may_go_on c.args.n c.loop-event._event c.loop-event.driver c.loop-event.invariant c.loop-event-test.true c.requires

pub loop-event-preserved : goal.loop-event-preserved
loop-event-preserved c =
    let so_far = c.loop-event.invariant in
    let low = few_events c.args.n c.loop-event._event c.loop-event-test.true c.requires in
    goes_on c.args.n c.loop-event._event c.loop-event.driver _ so_far (c.in_ok-advance.ensures.played _ so_far.driver low)

pub returns-in_err-advance-clause-limit : goal.returns-in_err-advance-clause-limit
returns-in_err-advance-clause-limit c is =
    let h = c.from_residual-in_err-advance.ensures in
    too_much c.args.n c.loop-event._event c.loop-event-test.true
    (c.in_err-advance.ensures.limit _ c.loop-event.invariant.driver (grind (arith, common_steps)))

pub returns-clause-summary : goal.returns-clause-summary
returns-clause-summary c =
    let n = c.args.n in
    let all : c.loop-event._event ≡ n = omega arith in
    c.summary_by.ensures (history_of settings (storm_after n c.loop-event._event).events)
    c.loop-event.invariant.driver.course.counts_are
    ∙ ap (λ k. summary_by n (history_of settings (storm_after n k).events)) all

pub returns-clause-fits : goal.returns-clause-fits
returns-clause-fits c =
    let all : c.loop-event._event ≡ c.args.n = omega arith in
    fits_all c.args.n (subst (FitsFront c.args.n) all c.loop-event.invariant.fits)
