use Rattle.std.proofs.Common.{◌≡◌, ◌≤◌, ◌+◌, ◌-◌, length, drop, map}
use Rattle.vk_text.specs.Lines.{lines_of}
use Rattle.vk_event.specs.Scenario.{idle, scenario_from}
use Rattle.vk_event.proofs.scenario.read_body.Given as goal

abbrev pub invariant-loop-words : goal.invariant-loop-words
invariant-loop-words l = record {
  config : l.config ≡ l.fn.config;
  within : l.at ≤ length l.text;
  small : l.line ≤ l.at + 531;
  read : scenario_from l.fn.config (map idle l.fn.config.specs) l.first (lines_of (drop l.start l.text))
      ≡ scenario_from l.config l.tasks.items l.line (lines_of (drop l.at l.text));
}

abbrev pub decreases-loop-words : goal.decreases-loop-words
decreases-loop-words l = length l.text - l.at
