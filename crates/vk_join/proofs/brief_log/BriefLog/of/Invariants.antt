use Rattle.std.proofs.Common.{◌≡◌, take}
use Rattle.vk_join.proofs.brief_log.BriefLog.of.Given as goal

abbrev pub invariant-loop-event : goal.invariant-loop-event
invariant-loop-event l = l.events.items ≡ take l.event-index l.log.events
