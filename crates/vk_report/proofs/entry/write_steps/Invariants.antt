use Rattle.std.proofs.Common.{◌≡◌, ◌++◌, drop}
use Rattle.vk_text.specs.Spelling.{StartsWith}
use Rattle.vk_text.specs.Texts.{shown}
use Rattle.vk_report.specs.Report.{step_lines}
use Rattle.vk_report.proofs.entry.write_steps.Given as goal

abbrev pub invariant-loop-at : goal.invariant-loop-at
invariant-loop-at l = record {
  text : shown l.text ++ step_lines l.word (drop l.at l.steps) ≡ shown l.fn.text ++ step_lines l.word (drop l.first l.steps);
  front : StartsWith l.fn.text.bytes.items l.text.bytes.items;
  whole : StartsWith (shown l.fn.text) (shown l.text);
}
