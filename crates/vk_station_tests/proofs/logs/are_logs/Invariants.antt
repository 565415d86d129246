use Rattle.std.proofs.Common.{take}
use Rattle.vk_station_tests.proofs.Joining.{AreLogsTo}
use Rattle.vk_station_tests.proofs.logs.are_logs.Given as goal

abbrev pub invariant-loop-log : goal.invariant-loop-log
invariant-loop-log l = AreLogsTo l.config.specs (take l.log-index l.logs) l.last
