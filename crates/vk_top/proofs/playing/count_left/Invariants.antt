use Rattle.std.proofs.Common.{◌≡◌, ◌+◌, length}
use Rattle.vk_top.specs.Playing.{without_events}
use Rattle.vk_top.proofs.playing.count_left.Given as goal

abbrev pub invariant-loop-event : goal.invariant-loop-event
invariant-loop-event l = record {
  left : without_events l.reader ≡ without_events l.fn.reader;
  count : l.count + length l.reader.schedule.events ≡ length l.fn.reader.schedule.events;
}

abbrev pub decreases-loop-event : goal.decreases-loop-event
decreases-loop-event l = length l.reader.schedule.events
