use Rattle.vk_text.specs.Texts.{shown}
use Rattle.vk_draw.specs.Playing.{AreTold}
use Rattle.vk_draw.proofs.lines.put_events.Given as goal

abbrev pub invariant-loop-event : goal.invariant-loop-event
invariant-loop-event l = AreTold l.schedule.config l.schedule.events l.event-index (shown l.text) l.cluster
