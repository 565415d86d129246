use Rattle.std.proofs.Common.{refl, sym, ap, subst}
use Rattle.vk_rules.specs.Histories.{history_of}
use Rattle.vk_drive.specs.Driving.{IsCourse}
use Rattle.vk_drive.specs.Storms.{Choice, choice}
use Rattle.vk_drive.specs.Tasks.{settings}
use Rattle.vk_drive.proofs.Playing.{may_happen, played}
use Rattle.vk_drive.proofs.driver.Driver.advance.Goals as goal

pub happen-requires : goal.happen-requires
happen-requires c =
    let es = c.requires.0 in
    let is = c.requires.1 in
    let its = c.choose-place.ensures es is in (
      es,
      subst (IsCourse es) (sym its.course) is.course,
      may_happen es c.args.self.now c.choose-place.new.self c.choose-place.result is its c.requires.2,
    )

pub hear-requires : goal.hear-requires
hear-requires c =
    let es = c.requires.0 in
    let is = c.requires.1 in
    let mid = c.choose-place.new.self in
    let its = c.choose-place.ensures es is in (
      es,
      mid.next,
      its.next,
      c.in_ok-at.ensures.happened es (subst (IsCourse es) (sym its.course) is.course)
          (may_happen es c.args.self.now mid c.choose-place.result is its c.requires.2),
    )

pub returns-clause-played : goal.returns-clause-played
returns-clause-played c es is few =
    let old = c.args.self.now in
    let mid = c.choose-place.new.self in
    let its = c.choose-place.ensures es is in
    let happens =
    c.in_ok-at.ensures.happened es (subst (IsCourse es) (sym its.course) is.course)
    (may_happen es old mid c.choose-place.result is its few) in
    played es old _ (choice old.generator (history_of settings es)) mid.next c.in_ok-at.at is its.config happens
    (ap (λ (x : Choice). x.state) its.choice_is) refl (ap (λ (x : Choice). x.event) its.choice_is)
    (c.hear.ensures es mid.next its.next happens)

pub returns-in_err-at-clause-limit : goal.returns-in_err-at-clause-limit
returns-in_err-at-clause-limit c es is limit =
    let its = c.choose-place.ensures es is in
    c.in_err-at.ensures.limit es (subst (IsCourse es) (sym its.course) is.course)
