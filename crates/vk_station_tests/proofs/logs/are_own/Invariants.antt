use Rattle.std.proofs.Common.{take}
use Rattle.vk_join.specs.Logs.{IsOfStation}
use Rattle.vk_rules.specs.Each.{Each}
use Rattle.vk_station_tests.proofs.logs.are_own.Given as goal

abbrev pub invariant-loop-event : goal.invariant-loop-event
invariant-loop-event l = Each (IsOfStation l.config.specs l.host) (take l.event-index l.events)
