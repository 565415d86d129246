use denote.Param.Send.{sendable}
use Rattle.std.proofs.Crossing.{crosses}
use Rattle.vk_port.proofs.Crossing.{station_send}
use Rattle.vk_thread_tests.proofs.ports.count_of.Goals as goal

pub close-requires-send-S : goal.close-requires-send-S
close-requires-send-S c κs = search (sendable, crosses, station_send) depth 20
