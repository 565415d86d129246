use Rattle.std.proofs.Common.{◌≡◌, ◌≤◌, ◌+◌, ◌-◌, [], length, drop}
use Rattle.vk_text.specs.Lines.{lines_of}
use Rattle.vk_event.specs.NodePlaces.{IsOfStation, lines_at, reading_by}
use Rattle.vk_event.specs.Nodes.{Reading, nodes_from}
use Rattle.vk_event.proofs.node.read_logs.Given as goal

abbrev pub invariant-loop-words : goal.invariant-loop-words
invariant-loop-words l = record {
  within : l.at ≤ length l.first.text.now;
  small : l.number ≤ l.at + 531;
  on : IsOfStation l.first.config l.due;
  same : nodes_from l.first.config (lines_at l.first.text.now l.first.second l.first.count) l.fn.line (Reading.Opening [] [])
      (lines_of (drop l.fn.start l.first.text.now))
      ≡ nodes_from l.first.config (lines_at l.first.text.now l.first.second l.first.count) l.number (reading_by l.first.text.now l.logs l.due)
      (lines_of (drop l.at l.first.text.now));
}

abbrev pub decreases-loop-words : goal.decreases-loop-words
decreases-loop-words l = length l.first.text.now - l.at
