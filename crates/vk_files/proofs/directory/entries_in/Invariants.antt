use Rattle.std.proofs.Common.{◌≡◌}
use Rattle.vk_files.specs.Volumes.{entries_in}
use Rattle.vk_files.proofs.directory.entries_in.Given as goal

abbrev pub invariant-loop-place : goal.invariant-loop-place
invariant-loop-place l = l.entries ≡ entries_in l.block l.place
