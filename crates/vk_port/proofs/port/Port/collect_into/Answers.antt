use Rattle.std.proofs.Common.{subst, ◌∙◌}
use Rattle.vk_base.specs.declared.event.EventAnswer.TheVariants as answers
use Rattle.vk_base.specs.declared.event.StationEvent.TheVariants as events
use Rattle.vk_port.specs.Ports.{HasPumped, pumped_as}
use Rattle.vk_port.proofs.Turning.{heard_after, made_after, pumped_more, refused_event, refused_pump, rested_more}
use Rattle.vk_port.proofs.port.Port.collect_into.Goals as goal

pub returns-in-Ok-true-clause-ok : goal.returns-in-Ok-true-clause-ok
returns-in-Ok-true-clause-ok g c =
    let pumped = c.loop.invariant.pumped in (
      pumped.0,
      pumped.1,
      made_after c.args.self.now c.loop.self c.try_collect.new.self pumped.0 pumped.2 (events.Collect c.args.pid)
          (answers.Answered c.try_collect.new.answer) (c.in-Ok-true.ensures.ok c.in-Ok-true.field-0-test),
    )

pub returns-in-Err-clause-err : goal.returns-in-Err-clause-err
returns-in-Err-clause-err g c =
    let pumped = c.loop.invariant.pumped in (
      pumped.0,
      pumped.1,
      refused_event c.args.self.now c.loop.self c.try_collect.new.self pumped.0 pumped.2 c.in-Err.why (events.Collect c.args.pid)
          c.in-Err.ensures.err.0,
    )

pub loop-preserved-in-Ok-Frame : goal.loop-preserved-in-Ok-Frame
loop-preserved-in-Ok-Frame g c =
    let p = c.args.self.now in
    let q = c.try_collect.new.self in
    let r = c.pump_once.new.self in
    let pumped = c.loop.invariant.pumped in
    let none = rested_more p c.loop.self q pumped.0 pumped.2 (c.in-Ok-false.ensures.not_yet c.in-Ok-false.field-0-test).0 in
    let told = c.in-Ok-Frame.ensures.ok in
    record {
      next = tt;
      finite = tt;
      pumped =
          pumped_more p q r pumped.0 told.0 pumped.1 none
          (subst (λ a. HasPumped q r (pumped_as a told.0)) c.in-Ok-Frame.field-0-is told.1);
      kept = (c.in-Ok-false.ensures.not_yet c.in-Ok-false.field-0-test).1 ∙ c.loop.invariant.kept;
    }

pub loop-preserved : goal.loop-preserved
loop-preserved g c =
    let p = c.args.self.now in
    let q = c.try_collect.new.self in
    let r = c.pump_once.new.self in
    let pumped = c.loop.invariant.pumped in
    let none = rested_more p c.loop.self q pumped.0 pumped.2 (c.in-Ok-false.ensures.not_yet c.in-Ok-false.field-0-test).0 in
    let told = c.in-Ok-Nothing.ensures.ok in
    let rested = subst (λ a. HasPumped q r (pumped_as a told.0)) c.in-Ok-Nothing.field-0-is told.1 in
    record {
      next = tt;
      finite = tt;
      pumped = (pumped.0, pumped.1, rested_more p q r pumped.0 none rested.0);
      kept = (c.in-Ok-false.ensures.not_yet c.in-Ok-false.field-0-test).1 ∙ c.loop.invariant.kept;
    }

pub returns-in-Ok-Stopped-clause-ok : goal.returns-in-Ok-Stopped-clause-ok
returns-in-Ok-Stopped-clause-ok g c =
    let p = c.args.self.now in
    let q = c.try_collect.new.self in
    let r = c.pump_once.new.self in
    let pumped = c.loop.invariant.pumped in
    let none = rested_more p c.loop.self q pumped.0 pumped.2 (c.in-Ok-false.ensures.not_yet c.in-Ok-false.field-0-test).0 in
    let told = c.in-Ok-Stopped.ensures.ok in (
      pumped.0,
      pumped.1,
      heard_after p q r pumped.0 none (subst (λ a. HasPumped q r (pumped_as a told.0)) c.in-Ok-Stopped.field-0-is told.1),
    )

pub returns-in-Err-pump_once-clause-err : goal.returns-in-Err-pump_once-clause-err
returns-in-Err-pump_once-clause-err g c =
    let p = c.args.self.now in
    let q = c.try_collect.new.self in
    let pumped = c.loop.invariant.pumped in
    let none = rested_more p c.loop.self q pumped.0 pumped.2 (c.in-Ok-false.ensures.not_yet c.in-Ok-false.field-0-test).0 in (
      pumped.0,
      pumped.1,
      refused_pump p q c.pump_once.new.self pumped.0 none c.in-Err-pump_once.why (events.Collect c.args.pid) c.in-Err-pump_once.ensures.err,
    )
