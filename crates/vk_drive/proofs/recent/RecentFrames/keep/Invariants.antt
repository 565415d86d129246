use Rattle.std.proofs.Common.{◌≡◌, ◌+◌, ◌++◌, List, length, take}
use Rattle.std.specs.Prelude.{sum_by}
use Rattle.vk_rules.specs.Frames.{Frame}
use Rattle.vk_drive.specs.Driving.{KeepsRecent, ShowsHeaders}
use Rattle.vk_drive.proofs.recent.RecentFrames.keep.Given as goal

abbrev pub invariant-loop-at : goal.invariant-loop-at
invariant-loop-at l = record {
  kept : (all fs : List Frame) → ShowsHeaders l.station fs → KeepsRecent all l.initial.self → KeepsRecent (all ++ take l.at fs) l.self;
  places : length l.self.frames.items ≡ 32;
  count : l.self.count ≡ l.initial.self.count + l.at;
  size : l.self.size ≡ l.initial.self.size + sum_by length (take l.at l.station.frames);
}
