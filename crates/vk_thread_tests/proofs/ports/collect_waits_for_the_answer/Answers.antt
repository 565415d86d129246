use denote.Param.Send.{sendable}
use Rattle.std.proofs.Crossing.{crosses}
use Rattle.vk_port.proofs.Crossing.{station_send}
use Rattle.vk_thread_tests.proofs.ports.collect_waits_for_the_answer.Goals as goal

pub step-requires-send-S : goal.step-requires-send-S
step-requires-send-S g c κs = search (sendable, crosses, station_send) depth 20

pub step_when_ready-early-requires-send-S : goal.step_when_ready-early-requires-send-S
step_when_ready-early-requires-send-S g c κs = search (sendable, crosses, station_send) depth 20
