use Rattle.std.proofs.Common.{length, sym, ap, ◌∙◌, arith}
use Rattle.vk_schedule.specs.declared.schedule.Front.{Front}
use Rattle.vk_top.proofs.Nexts.{fewer_events, next_event}
use Rattle.vk_top.specs.Playing.{without_events}
use Rattle.vk_top.proofs.playing.count_left.Goals as goal

pub loop-event-preserved : goal.loop-event-preserved
loop-event-preserved c =
    let next = next_event _ _ _ _ c.loop-event-test.true c.next.ensures.next in
    record {
      left = ap without_events (sym next) ∙ c.loop-event.invariant.left;
      count = omega (arith, c.loop-event.invariant.count, ap (λ (f : Front). length f.schedule.events) next);
    }

pub loop-event-smaller : goal.loop-event-smaller
loop-event-smaller c = fewer_events _ _ _ (next_event _ _ _ _ c.loop-event-test.true c.next.ensures.next)
