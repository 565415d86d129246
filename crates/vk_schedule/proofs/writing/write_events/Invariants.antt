use Rattle.std.proofs.Common.{◌≡◌, ◌++◌, take}
use Rattle.std.specs.List.{flat_map}
use Rattle.vk_text.specs.Heads.{line_text}
use Rattle.vk_schedule.specs.Spelling.{event_text}
use Rattle.vk_schedule.proofs.writing.write_events.Given as goal

abbrev pub invariant-loop-event : goal.invariant-loop-event
invariant-loop-event l = l.writer ≡ l.fn.writer ++ flat_map (λ e. line_text (event_text e)) (take l.event-index l.events)
