use Rattle.std.proofs.Common.{◌≡◌, drop, take}
use Rattle.vk_files.specs.Volumes.{first_bad, first_bad_behind}
use Rattle.vk_files.proofs.directory.first_bad.Given as goal

abbrev pub invariant-loop-place : goal.invariant-loop-place
invariant-loop-place l = first_bad_behind l.count (take l.place l.files) (drop l.place l.files) ≡ first_bad l.count l.files
