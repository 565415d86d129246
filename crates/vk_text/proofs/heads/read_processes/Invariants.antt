use Rattle.std.proofs.Common.{◌≡◌, ◌≤◌, ◌-◌, [], length, drop}
use Rattle.vk_base.specs.Settings.{uniform}
use Rattle.vk_text.specs.Heads.{processes_from, usual_pool}
use Rattle.vk_text.specs.Lines.{lines_of}
use Rattle.vk_text.proofs.heads.read_processes.Given as goal

abbrev pub invariant-loop-line : goal.invariant-loop-line
invariant-loop-line l = record {
  within : l.at ≤ length l.text;
  uniform : l.config ≡ uniform l.fn.config.times usual_pool l.config.specs;
  read : processes_from [] (lines_of (drop l.fn.start l.text)) ≡ processes_from l.config.specs (lines_of (drop l.at l.text));
}

abbrev pub decreases-loop-line : goal.decreases-loop-line
decreases-loop-line l = length l.text - l.at
