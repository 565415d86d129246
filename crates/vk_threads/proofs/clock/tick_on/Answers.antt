use Rattle.std.proofs.Common.{arith, subst}
use Rattle.vk_threads.specs.Clocks.{HaveLooked, HaveTicked}
use Rattle.vk_threads.proofs.Clocks.{rounds_cut, rounds_cut_late, rounds_end, rounds_more, still, ticked_none}
use Rattle.vk_threads.proofs.clock.tick_on.Goals as goal

pub loop-init : goal.loop-init
loop-init g c = record { so_far = ticked_none c.args.ports.now; may = c.requires }

pub returns-in-Err-clause-cut : goal.returns-in-Err-clause-cut
returns-in-Err-clause-cut g c =
    rounds_cut c.loop.counter c.args.rounds c.args.ports.now c.loop.ports c.tick_each.new.ports c.in-Err.why (omega arith) c.loop.invariant.so_far
    c.in-Err.ensures.cut

pub returns-in-Ok-true-clause-ticked : goal.returns-in-Ok-true-clause-ticked
returns-in-Ok-true-clause-ticked g c =
    let last = subst (HaveLooked c.tick_each.new.ports c.has_ended.new.ports) c.in-Ok-true.field-0-test c.in-Ok-true.ensures.ended in
    rounds_end c.loop.counter c.args.rounds c.args.ports.now c.loop.ports c.tick_each.new.ports c.has_ended.new.ports (omega arith)
    c.loop.invariant.so_far c.in-Ok.ensures.ticked last

pub returns-in-Err-has_ended-clause-cut : goal.returns-in-Err-has_ended-clause-cut
returns-in-Err-has_ended-clause-cut g c =
    rounds_cut_late c.loop.counter c.args.rounds c.args.ports.now c.loop.ports c.tick_each.new.ports c.has_ended.new.ports c.in-Err-has_ended.why
    (omega arith) c.loop.invariant.so_far c.in-Ok.ensures.ticked c.in-Err-has_ended.ensures.cut

pub loop-preserved : goal.loop-preserved
loop-preserved g c =
    let last = subst (HaveLooked c.tick_each.new.ports c.has_ended.new.ports) c.in-Ok-false.field-0-test c.in-Ok-false.ensures.ended in
    record {
      so_far = rounds_more c.loop.counter c.args.ports.now c.loop.ports c.tick_each.new.ports c.has_ended.new.ports c.loop.invariant.so_far
          c.in-Ok.ensures.ticked last.0;
      may = still 0 0 0 c.tick_each.new.ports c.has_ended.new.ports last.0
          (still 1 1 0 c.loop.ports c.tick_each.new.ports c.in-Ok.ensures.ticked c.loop.invariant.may);
    }

pub returns-clause-ticked : goal.returns-clause-ticked
returns-clause-ticked g c =
    subst (λ m. HaveTicked m m 0 c.args.ports.now c.loop.ports) (omega arith) c.loop.invariant.so_far
