use Rattle.std.proofs.Common.{◌≡◌, length}
use Rattle.vk_schedule.specs.Remaining.{behind}
use Rattle.vk_schedule.proofs.schedule.collect.Given as goal

-- the events that were given, and what is left
abbrev pub invariant-loop-event : goal.invariant-loop-event
invariant-loop-event l = l.fn.reader ≡ behind l.events l.reader

abbrev pub decreases-loop-event : goal.decreases-loop-event
decreases-loop-event l = length l.reader.schedule.events
