use denote.Param.Send.{sendable}
use Rattle.std.proofs.Crossing.{crosses}
use Rattle.vk_port.proofs.Crossing.{station_send}
use Rattle.vk_thread_tests.proofs.ports.ticks.Goals as goal

pub step-requires-send-S : goal.step-requires-send-S
step-requires-send-S g c κs = search (sendable, crosses, station_send) depth 20
