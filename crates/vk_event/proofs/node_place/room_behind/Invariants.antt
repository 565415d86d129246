use Rattle.std.proofs.Common.{◌≡◌, ◌-◌, take}
use Rattle.vk_event.specs.Nodes.{event_count}
use Rattle.vk_event.proofs.node_place.room_behind.Given as goal

abbrev pub invariant-loop-log : goal.invariant-loop-log
invariant-loop-log l = l.room ≡ 100000 - event_count (take l.log-index l.logs)
