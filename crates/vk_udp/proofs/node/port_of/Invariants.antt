use Rattle.std.proofs.Common.{◌≡◌, ◌==◌, true, drop, find}
use Rattle.vk_event.specs.Ports.{has_port}
use Rattle.vk_event.specs.declared.port.StationPort.{StationPort}
use Rattle.vk_udp.proofs.node.port_of.Given as goal

abbrev pub invariant-loop-port : goal.invariant-loop-port
invariant-loop-port l = record {
  there : has_port (drop l.port-index l.ports) l.host ≡ true;
  first : find (λ (p : StationPort). p.host == l.host) l.ports ≡ find (λ (p : StationPort). p.host == l.host) (drop l.port-index l.ports);
}
