use Rattle.std.proofs.Common.{◌≡◌, ◌+◌, ◌-◌, ◌≤◌, drop, length}
use Rattle.vk_text.specs.Lines.{lines_of}
use Rattle.vk_event.specs.Ports.{ports_from}
use Rattle.vk_event.proofs.PortLines.{behind}
use Rattle.vk_event.proofs.port.read_ports.Given as goal

abbrev pub invariant-loop-line : goal.invariant-loop-line
invariant-loop-line l = record {
  within : l.at ≤ length l.text;
  few : l.start + length l.ports ≤ l.at;
  read : ports_from l.config.specs 0 (lines_of (drop l.start l.text)) ≡ behind l.ports (ports_from l.config.specs l.last (lines_of (drop l.at l.text)));
}

abbrev pub decreases-loop-line : goal.decreases-loop-line
decreases-loop-line l = length l.text - l.at
