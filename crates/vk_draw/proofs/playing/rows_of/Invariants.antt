use Rattle.vk_draw.specs.Playing.{ArePlayed}
use Rattle.vk_draw.proofs.playing.rows_of.Given as goal

abbrev pub invariant-loop-event : goal.invariant-loop-event
invariant-loop-event l = ArePlayed l.schedule.config l.schedule.events l.event-index l.rows l.cluster
