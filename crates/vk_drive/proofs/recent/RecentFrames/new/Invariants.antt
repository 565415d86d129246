use Rattle.std.proofs.Common.{◌≡◌, length}
use Rattle.vk_drive.proofs.recent.RecentFrames.new.Given as goal

abbrev pub invariant-loop-place : goal.invariant-loop-place
invariant-loop-place l = length l.frames.items ≡ l._place
