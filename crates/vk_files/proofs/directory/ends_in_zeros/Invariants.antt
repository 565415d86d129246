use Rattle.std.proofs.Common.{◌≡◌, drop}
use Rattle.vk_files.proofs.Directories.{rest_ends}
use Rattle.vk_files.specs.Volumes.{ends_in_zeros}
use Rattle.vk_files.proofs.directory.ends_in_zeros.Given as goal

abbrev pub invariant-loop-byte : goal.invariant-loop-byte
invariant-loop-byte l = rest_ends l.ended (drop l.byte-index l.bytes) ≡ ends_in_zeros l.bytes
