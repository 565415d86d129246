use Rattle.std.proofs.Common.{◌≡◌, ◌++◌, take}
use Rattle.std.specs.List.{flat_map}
use Rattle.vk_text.specs.Heads.{line_text}
use Rattle.vk_event.specs.NodeLaws.{own_text}
use Rattle.vk_event.proofs.node_writing.write_events.Given as goal

abbrev pub invariant-loop-event : goal.invariant-loop-event
invariant-loop-event l = l.into.items ≡ l.fn.into.items ++ flat_map (λ e. line_text (own_text e)) (take l.event-index l.events)
