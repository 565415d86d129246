use denote.Param.Send.{sendable}
use Rattle.std.proofs.Crossing.{crosses}
use Rattle.vk_port.proofs.Crossing.{station_send}
use Rattle.vk_thread_tests.proofs.ports.open_site.Goals as goal

pub new-requires-2-send-S : goal.new-requires-2-send-S
new-requires-2-send-S c κs = search (sendable, crosses, station_send) depth 20
