use Rattle.std.proofs.Common.{◌≤◌, ◌-◌, List, length, drop}
use Rattle.vk_types.specs.Types.{ProcessSpec}
use Rattle.vk_text.specs.Lines.{lines_of}
use Rattle.v_obstacle.specs.Sights.{Sight}
use Rattle.vk_explain.specs.Reading.{HasRead}
use Rattle.vk_explain.proofs.Sighted.{Comes}
use Rattle.vk_explain.proofs.reading.Reading.take_lines.Given as goal

-- the lines before this place were read
abbrev pub invariant-loop-line : goal.invariant-loop-line
invariant-loop-line l = record {
  within : l.at ≤ length l.text;
  come : (specs : List ProcessSpec) (ws : List Sight) → HasRead specs ws l.fn.self →
      Comes specs ws l.fn.self l.self (lines_of l.text) (lines_of (drop l.at l.text));
}

abbrev pub decreases-loop-line : goal.decreases-loop-line
decreases-loop-line l = length l.text - l.at
