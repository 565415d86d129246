use Rattle.std.proofs.Common.{◌≡◌, ◌+◌, ◌-◌, ◌≤◌, drop, length}
use Rattle.vk_text.specs.Lines.{lines_of}
use Rattle.vk_event.proofs.port.line_behind.Given as goal

abbrev pub invariant-loop-next : goal.invariant-loop-next
invariant-loop-next l = record {
  within : l.at ≤ length l.text;
  small : l.line ≤ l.at + 1;
  lines : length (lines_of l.text) + 1 ≡ length (lines_of (drop l.at l.text)) + l.line;
}

abbrev pub decreases-loop-next : goal.decreases-loop-next
decreases-loop-next l = length l.text - l.at
